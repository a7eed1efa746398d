-- What a machine does, and the play of a game by it: states, texts and ticks.
use Rattle.std.specs.Prelude.{◌≡◌, ℕ, ◌+◌, Bool, if◌then◌else◌, List, [], ◌∷◌}
use Rattle.replay_edits.specs.Edit.{Game}

-- the answers of a machine: a function of the seed at the start, and then of the state and of the
-- line
pub record MachineRules (S T : Type 0) : Type 0 where
  pub begun : ℕ → S
  pub greeting : ℕ → T
  pub after : S → List ℕ → S
  pub said : S → List ℕ → T
  pub ticked : S → List ℕ → Bool

abbrev pub state_after : {S T : Type 0} → MachineRules S T → S → List (List ℕ) → S
state_after rules state [] = state
state_after rules state (line ∷ lines) = state_after rules (rules.after state line) lines

abbrev pub texts_of : {S T : Type 0} → MachineRules S T → S → List (List ℕ) → List T
texts_of rules state [] = []
texts_of rules state (line ∷ lines) =
    rules.said state line ∷ texts_of rules (rules.after state line) lines

abbrev pub ticks_of : {S T : Type 0} → MachineRules S T → S → List (List ℕ) → List Bool
ticks_of rules state [] = []
ticks_of rules state (line ∷ lines) =
    rules.ticked state line ∷ ticks_of rules (rules.after state line) lines

-- this is the play of the game from its first line to its last
pub record IsPlay {S T : Type 0} (rules : MachineRules S T) (game : Game) (opening : T)
    (pieces : List T)
    (ticks : List Bool) (state : S) : Type 0 where
  pub opening_is : opening ≡ rules.greeting game.seed
  pub pieces_are : pieces ≡ texts_of rules (rules.begun game.seed) game.log
  pub ticks_are : ticks ≡ ticks_of rules (rules.begun game.seed) game.log
  pub state_is : state ≡ state_after rules (rules.begun game.seed) game.log

-- how many lines ticked up to and including each of these lines, if this many before them did
abbrev pub counts_after : ℕ → List Bool → List ℕ
counts_after count [] = []
counts_after count (ticks ∷ ticked) =
    let next = count + (if ticks then 1 else 0) in
    next ∷ counts_after next ticked
