-- The facts of a state: one list, from which its text is made, by which two states are compared, and
-- by which no two states have the same text.
use Rattle.std.specs.Prelude.{ℕ, ℤ, ◌==◌, Bool, false, List, [], ◌∷◌, ◌++◌, codes, Option}
use Rattle.std.proofs.Math.Bool.{beq}
use Rattle.std.specs.Option.{option_eq}
use Rattle.std.specs.Ordering.{int_eq}
use Rattle.std.specs.Cmp.Lexicographic.{pointwise}
use Rattle.world_objects.specs.Objects.{Layout}
use Rattle.world_objects.specs.contracts.objects.ObjectsPartialEq.TheImpl as objects_eq
use Rattle.cave_world.specs.contracts.dwarves.DwarfPartialEq.TheImpl as dwarf_eq
use Rattle.cave_world.specs.contracts.dwarves.KnifePartialEq.TheImpl as knife_eq
use Rattle.cave_world.specs.contracts.ending.EndingPartialEq.TheImpl as ending_eq
use Rattle.cave_world.specs.contracts.ending.QuestionPartialEq.TheImpl as question_eq
use Rattle.cave_world.specs.contracts.hints.HintsPartialEq.TheImpl as hints_eq
use Rattle.cave_world.specs.declared.dwarves.Dwarf.{Dwarf}
use Rattle.cave_world.specs.declared.dwarves.Knife.{Knife}
use Rattle.cave_world.specs.declared.ending.Ending.{Ending}
use Rattle.cave_world.specs.declared.ending.Question.{Question}
use Rattle.cave_world.specs.declared.hints.Hints.{Hints}
use Rattle.cave_world.specs.declared.state.State.{State}
use Rattle.play_state_text.specs.declared.kind.FactKind.{FactKind}

-- what a fact is
pub data StateFact : Type 0 where
  Number : ℕ → StateFact
  Signed : ℤ → StateFact
  Answer : Bool → StateFact
  Asked : Option Question → StateFact
  Ended : Option Ending → StateFact
  Verb : Option ℕ → StateFact
  Thing : ℕ → StateFact
  Thrown : Knife → StateFact
  AllObjects : Layout → StateFact
  AllDwarves : List Dwarf → StateFact
  AllHints : Hints → StateFact
  AllVisits : List ℕ → StateFact

-- ---- the table, in the order of the text of a state: what a kind is called, and what a state has

abbrev pub fact : FactKind → List ℕ × (State → StateFact)
fact FactKind.Here = (codes "here", λ s. Number s.trail.here)
fact FactKind.Last = (codes "last", λ s. Number s.trail.last)
fact FactKind.Older = (codes "older", λ s. Number s.trail.older)
fact FactKind.Question = (codes "question", λ s. Asked s.question)
fact FactKind.Ended = (codes "ended", λ s. Ended s.ending)
fact FactKind.Lamp = (codes "lamp", λ s. Signed s.lamp.charge)
fact FactKind.LampWarned = (codes "lamp warned", λ s. Answer s.lamp.is_warned)
fact FactKind.FirstClock = (codes "first clock", λ s. Signed s.closing.first_clock)
fact FactKind.SecondClock = (codes "second clock", λ s. Signed s.closing.second_clock)
fact FactKind.Closing = (codes "closing", λ s. Answer s.closing.is_closing)
fact FactKind.Closed = (codes "closed", λ s. Answer s.closing.is_closed)
fact FactKind.Panic = (codes "panic", λ s. Answer s.closing.is_panicking)
fact FactKind.UnseenTreasures = (codes "unseen treasures", λ s. Number s.tallies.unseen)
fact FactKind.LostTreasures = (codes "lost treasures", λ s. Number s.tallies.lost)
fact FactKind.Deaths = (codes "deaths", λ s. Number s.tallies.deaths)
fact FactKind.Objects = (codes "objects", λ s. AllObjects s.objects)
fact FactKind.HalfCommand = (codes "half command", λ s. Verb s.talk.verb)
fact FactKind.HalfObject = (codes "half object", λ s. Thing s.talk.object)
fact FactKind.LastObject = (codes "last object", λ s. Thing s.talk.last)
fact FactKind.Brief = (codes "brief", λ s. Answer s.talk.is_brief)
fact FactKind.Details = (codes "details", λ s. Number s.talk.details)
fact FactKind.Magic = (codes "magic", λ s. Signed s.talk.magic)
fact FactKind.Anger = (codes "anger", λ s. Number s.dwarves.anger)
fact FactKind.Kills = (codes "kills", λ s. Number s.dwarves.kills)
fact FactKind.Dwarves = (codes "dwarves", λ s. AllDwarves s.dwarves.each)
fact FactKind.Knife = (codes "knife", λ s. Thrown s.dwarves.knife)
fact FactKind.Hints = (codes "hints", λ s. AllHints s.hints)
fact FactKind.Stream = (codes "stream", λ s. Number s.stream)
fact FactKind.Visits = (codes "visits", λ s. AllVisits s.visits)

abbrev pub kinds_before_places : List FactKind
kinds_before_places =
    FactKind.Here ∷ FactKind.Last ∷ FactKind.Older ∷ FactKind.Question ∷ FactKind.Ended ∷ FactKind.Lamp
    ∷ FactKind.LampWarned ∷ FactKind.FirstClock ∷ FactKind.SecondClock ∷ FactKind.Closing ∷ FactKind.Closed
    ∷ FactKind.Panic ∷ FactKind.UnseenTreasures ∷ FactKind.LostTreasures ∷ FactKind.Deaths ∷ FactKind.Objects
    ∷ FactKind.HalfCommand ∷ FactKind.HalfObject ∷ FactKind.LastObject ∷ FactKind.Brief ∷ FactKind.Details
    ∷ FactKind.Magic ∷ []

abbrev pub kinds_after_places : List FactKind
kinds_after_places =
    FactKind.Anger ∷ FactKind.Kills ∷ FactKind.Dwarves ∷ FactKind.Knife ∷ FactKind.Hints ∷ FactKind.Stream
    ∷ FactKind.Visits ∷ []

abbrev pub each_kind : List FactKind
each_kind = kinds_before_places ++ kinds_after_places

abbrev pub kind_name : FactKind → List ℕ
kind_name kind = (fact kind).0

-- the fact of a kind in a state
abbrev pub fact_in : FactKind → State → StateFact
fact_in kind s = (fact kind).1 s

-- ---- how two are compared

abbrev pub are_equal : StateFact → StateFact → Bool
are_equal (Number a) (Number b) = a == b
are_equal (Signed a) (Signed b) = int_eq a b
are_equal (Answer a) (Answer b) = beq a b
are_equal (Asked a) (Asked b) = option_eq question_eq.eq-value.it a b
are_equal (Ended a) (Ended b) = option_eq ending_eq.eq-value.it a b
are_equal (Verb a) (Verb b) = option_eq (λ (x y : ℕ). x == y) a b
are_equal (Thing a) (Thing b) = a == b
are_equal (Thrown a) (Thrown b) = knife_eq.eq-value.it a b
are_equal (AllObjects a) (AllObjects b) = objects_eq.eq-value.it a b
are_equal (AllDwarves a) (AllDwarves b) = pointwise dwarf_eq.eq-value.it a b
are_equal (AllHints a) (AllHints b) = hints_eq.eq-value.it a b
are_equal (AllVisits a) (AllVisits b) = pointwise (λ (x y : ℕ). x == y) a b
are_equal _ _ = false

abbrev pub is_same_in : FactKind → State → State → Bool
is_same_in kind s t = are_equal (fact_in kind s) (fact_in kind t)
