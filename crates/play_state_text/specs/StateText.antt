-- The text of a state, one fact a line; no other state has it.
use Rattle.std.specs.Prelude.{ℕ, List, ◌++◌, codes, ◌≡◌, ◌<◌, ◌^◌, decimal}
use Rattle.std.specs.Fmt.{signed_decimal}
use Rattle.std.specs.List.{flat_map}
use Rattle.base_lines.specs.Numbers.{LAST_HINT, LAST_OBJECT, LAST_PLACE}
use Rattle.cave_data.specs.CaveView.{CaveView}
use Rattle.world_objects.specs.Objects.{Layout}
use Rattle.cave_world.specs.Limits.{dwarf_count}
use Rattle.cave_world.specs.declared.state.State.{State}
use Rattle.play_state_text.specs.Facts.{StateFact, Number, Signed, Answer, Asked, Ended, Verb}
use Rattle.play_state_text.specs.Facts.{Thing, Thrown, AllObjects, AllDwarves, AllHints, AllVisits}
use Rattle.play_state_text.specs.Facts.{fact_in, kind_name, kinds_after_places, kinds_before_places}
use Rattle.play_state_text.specs.Things.{text_up_to, thing_line, place_line, visits_line}
use Rattle.play_state_text.specs.Things.{dwarf_line, hint_line}
use Rattle.play_state_text.specs.Words.{named_line, yes_or_no, question_text, end_words, verb_line}
use Rattle.play_state_text.specs.Words.{named_object, knife_text}
use Rattle.play_state_text.specs.declared.kind.FactKind.{FactKind}

-- the lines of a fact with a name, in a cave whose objects begin like this
abbrev pub fact_text : CaveView → Layout → List ℕ → StateFact → List ℕ
fact_text cave begun name (Number n) = named_line name (decimal n)
fact_text cave begun name (Signed z) = named_line name (signed_decimal z)
fact_text cave begun name (Answer answer) = named_line name (yes_or_no answer)
fact_text cave begun name (Asked question) = named_line name (question_text question)
fact_text cave begun name (Ended ending) = named_line name (end_words ending)
fact_text cave begun name (Verb verb) = verb_line cave verb
fact_text cave begun name (Thing x) = named_line name (named_object cave x)
fact_text cave begun name (Thrown knife) = named_line name (knife_text knife)
fact_text cave begun name (AllObjects o) = text_up_to (thing_line cave begun o) LAST_OBJECT
fact_text cave begun name (AllDwarves dwarves) = text_up_to (dwarf_line dwarves) dwarf_count
fact_text cave begun name (AllHints hints) = text_up_to (hint_line hints) LAST_HINT
fact_text cave begun name (AllVisits visits) = text_up_to (visits_line visits) LAST_PLACE

unfoldable pub text_in : CaveView → Layout → State → FactKind → List ℕ
text_in cave begun s kind = fact_text cave begun (kind_name kind) (fact_in kind s)

-- the text of a state after this many turns and with this score, in a cave whose objects begin like
-- this
unfoldable pub state_text : CaveView → Layout → ℕ → ℕ → State → List ℕ
state_text cave begun turns score s =
    named_line (codes "turns") (decimal turns) ++ (named_line (codes "score") (decimal score)
    ++ (flat_map (text_in cave begun s) kinds_before_places
    ++ (text_up_to (place_line cave begun s.objects) LAST_PLACE
    ++ flat_map (text_in cave begun s) kinds_after_places)))

-- a number of turns, or a score
abbrev pub IsCount : ℕ → Type 0
IsCount n = n < 2 ^ 32

-- if two states of one cave have the same text, they are the same state, after the same number of
-- turns
abbrev pub AreToldApart : CaveView → Layout → State → State → Type 0
AreToldApart cave begun a b =
    (turns other_turns score other_score : ℕ)
    → IsCount turns → IsCount other_turns → IsCount score → IsCount other_score
    → state_text cave begun turns score a ≡ state_text cave begun other_turns other_score b
    → (turns ≡ other_turns) × (a ≡ b)
