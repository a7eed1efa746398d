-- What is played from equal states, and by lines with more lines after them.
use Rattle.std.specs.Prelude.{◌≡◌, ◌++◌, ℕ, List}
use Rattle.replay_edits.specs.Edit.{Game}
use Rattle.cave_replay.specs.Agreement.{AgreesAt, state_at, image}
use Rattle.cave_replay.specs.Play.{MachineRules, state_after, texts_of, ticks_of}

-- from two states any lines lead to equal states, get the same answers, and tick alike
pub record HaveEqualTails {S T : Type 0} (rules : MachineRules S T) (one other : S) : Type 0 where
  pub states : (lines : List (List ℕ)) → state_after rules one lines ≡ state_after rules other lines
  pub texts : (lines : List (List ℕ)) → texts_of rules one lines ≡ texts_of rules other lines
  pub ticks : (lines : List (List ℕ)) → ticks_of rules one lines ≡ ticks_of rules other lines

-- if two plays agree at a place, they have equal tails there, for any number of earlier turns in
-- each
abbrev pub AgreedTails : Type 0 → Type 0 → Type 0
AgreedTails S T =
    (rules : MachineRules S T) (old new : Game) (tail place : ℕ)
    → AgreesAt rules old new tail place
    → HaveEqualTails rules (state_at rules new (image old new place)) (state_at rules old place)

-- lines are played alike for any lines after them: those go on from the state that these lead to
abbrev pub PrefixesPlayAlike : Type 0 → Type 0 → Type 0
PrefixesPlayAlike S T =
    (rules : MachineRules S T) (state : S) (lines more : List (List ℕ))
    → (state_after rules state (lines ++ more)
    ≡ state_after rules (state_after rules state lines) more)
    × (texts_of rules state (lines ++ more)
    ≡ texts_of rules state lines ++ texts_of rules (state_after rules state lines) more)
    × (ticks_of rules state (lines ++ more)
    ≡ ticks_of rules state lines ++ ticks_of rules (state_after rules state lines) more)
