-- Equal states have equal tails, and lines play alike for any lines after them.
use Rattle.std.proofs.Common.{◌≡◌, ◌++◌, ◌∷◌, ℕ, List, [], ap, refl}
use Rattle.cave_replay.specs.Play.{MachineRules, state_after, texts_of, ticks_of}
use Rattle.cave_replay.specs.Tails.{HaveEqualTails, AgreedTails, PrefixesPlayAlike}

pub equal_tails : {S T : Type 0} (rules : MachineRules S T) (one other : S) → one ≡ other
    → HaveEqualTails rules one other
equal_tails rules one other same = record {
  states = λ lines. ap (λ state. state_after rules state lines) same;
  texts = λ lines. ap (λ state. texts_of rules state lines) same;
  ticks = λ lines. ap (λ state. ticks_of rules state lines) same;
}

pub agreed_tails : {S T : Type 0} → AgreedTails S T
agreed_tails rules old new tail place agrees = equal_tails rules _ _ agrees.same

states_go_on : {S T : Type 0} (rules : MachineRules S T) (state : S) (lines more : List (List ℕ))
    → state_after rules state (lines ++ more)
    ≡ state_after rules (state_after rules state lines) more
states_go_on rules state [] more = refl
states_go_on rules state (line ∷ lines) more =
    states_go_on rules (rules.after state line) lines more

texts_go_on : {S T : Type 0} (rules : MachineRules S T) (state : S) (lines more : List (List ℕ))
    → texts_of rules state (lines ++ more)
    ≡ texts_of rules state lines ++ texts_of rules (state_after rules state lines) more
texts_go_on rules state [] more = refl
texts_go_on rules state (line ∷ lines) more =
    ap (λ texts. rules.said state line ∷ texts)
    (texts_go_on rules (rules.after state line) lines more)

ticks_go_on : {S T : Type 0} (rules : MachineRules S T) (state : S) (lines more : List (List ℕ))
    → ticks_of rules state (lines ++ more)
    ≡ ticks_of rules state lines ++ ticks_of rules (state_after rules state lines) more
ticks_go_on rules state [] more = refl
ticks_go_on rules state (line ∷ lines) more =
    ap (λ ticks. rules.ticked state line ∷ ticks)
    (ticks_go_on rules (rules.after state line) lines more)

pub prefixes_play_alike : {S T : Type 0} → PrefixesPlayAlike S T
prefixes_play_alike rules state lines more = (
  states_go_on rules state lines more,
  texts_go_on rules state lines more,
  ticks_go_on rules state lines more,
)
