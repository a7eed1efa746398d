-- The facts of a state are read back from their lines, and make the state.
use Rattle.std.proofs.Common.{◌≡◌, ℕ, ℤ, pos, Bool, false, List, [], ◌∷◌, ◌++◌, Option, None, refl, ap}
use Rattle.std.specs.Prelude.{⊤}
use Rattle.std.specs.List.{AllByRecursion, flat_map}
use Rattle.cave_data.specs.CaveView.{CaveView}
use Rattle.world_objects.specs.Objects.{Layout, unplaced_objects}
use Rattle.cave_world.specs.State.{unused_hints}
use Rattle.cave_world.specs.declared.dwarves.Dwarf.{Dwarf}
use Rattle.cave_world.specs.declared.dwarves.Knife.{Knife}
use Rattle.cave_world.specs.declared.dwarves.Knife.TheVariants.{Unthrown}
use Rattle.cave_world.specs.declared.ending.Ending.{Ending}
use Rattle.cave_world.specs.declared.ending.Question.{Question}
use Rattle.cave_world.specs.declared.hints.Hints.{Hints}
use Rattle.cave_world.specs.declared.state.State.{State}
use Rattle.play_state_text.specs.Facts.{StateFact, Number, Signed, Answer, Asked, Ended, Verb, Thing}
use Rattle.play_state_text.specs.Facts.{Thrown, AllObjects, AllDwarves, AllHints, AllVisits}
use Rattle.play_state_text.specs.Facts.{each_kind, fact_in, kind_name}
use Rattle.play_state_text.specs.StateText.{text_in}
use Rattle.play_state_text.specs.Within.{AreFactsWithin}
use Rattle.play_state_text.specs.declared.kind.FactKind.{FactKind}
use Rattle.play_state_text.proofs.FactLemmas.{IsAfter, Same, fact_read, form_of}
use Rattle.play_state_text.proofs.Reading.{peel}

-- a kind has facts of one constructor
alike : (kind : FactKind) (a b : State) → form_of (fact_in kind a) ≡ form_of (fact_in kind b)
alike FactKind.Here a b = refl
alike _ a b = refl

-- the facts of a kind say the same
abbrev pub IsSameOf : State → State → FactKind → Type 0
IsSameOf a b kind = Same (fact_in kind a) (fact_in kind b)

abbrev pub AreSameOf : State → State → List FactKind → Type 0
AreSameOf a b kinds = AllByRecursion (IsSameOf a b) kinds

module _ (cave : CaveView) (begun : Layout) where
  -- no list is followed by another line of it
  abbrev pub AreParted : State → List FactKind → List ℕ → Type 0
  AreParted s [] rest = ⊤
  AreParted s (kind ∷ kinds) rest =
      IsAfter (fact_in kind s) (flat_map (text_in cave begun s) kinds ++ rest)
      × AreParted s kinds rest

  pub facts_read : (a b : State) (kinds : List FactKind) (s t : List ℕ) → AreFactsWithin a kinds
      → AreFactsWithin b kinds → AreParted a kinds s → AreParted b kinds t
      → flat_map (text_in cave begun a) kinds ++ s ≡ flat_map (text_in cave begun b) kinds ++ t
      → AreSameOf a b kinds × (s ≡ t)
  unfolding text_in
  facts_read a b [] s t ha hb past other e = (tt, e)
  facts_read a b (kind ∷ kinds) s t ha hb past other e =
      let lines = peel (text_in cave begun a kind) (text_in cave begun b kind)
      (flat_map (text_in cave begun a) kinds) (flat_map (text_in cave begun b) kinds) s t e in
      let here = fact_read cave begun (kind_name kind) (fact_in kind a) (fact_in kind b) _ _
      (alike kind a b) ha.0 hb.0 past.0 other.0 lines in
      let rest = facts_read a b kinds s t ha.1 hb.1 past.1 other.1 here.1 in
      ((here.0, rest.0), rest.1)

-- what holds of all kinds holds of each
pub each_of : (P : FactKind → Type 0) → AllByRecursion P each_kind → (kind : FactKind) → P kind
each_of P all FactKind.Here = all.0
each_of P all FactKind.Last = all.1.0
each_of P all FactKind.Older = all.1.1.0
each_of P all FactKind.Question = all.1.1.1.0
each_of P all FactKind.Ended = all.1.1.1.1.0
each_of P all FactKind.Lamp = all.1.1.1.1.1.0
each_of P all FactKind.LampWarned = all.1.1.1.1.1.1.0
each_of P all FactKind.FirstClock = all.1.1.1.1.1.1.1.0
each_of P all FactKind.SecondClock = all.1.1.1.1.1.1.1.1.0
each_of P all FactKind.Closing = all.1.1.1.1.1.1.1.1.1.0
each_of P all FactKind.Closed = all.1.1.1.1.1.1.1.1.1.1.0
each_of P all FactKind.Panic = all.1.1.1.1.1.1.1.1.1.1.1.0
each_of P all FactKind.UnseenTreasures = all.1.1.1.1.1.1.1.1.1.1.1.1.0
each_of P all FactKind.LostTreasures = all.1.1.1.1.1.1.1.1.1.1.1.1.1.0
each_of P all FactKind.Deaths = all.1.1.1.1.1.1.1.1.1.1.1.1.1.1.0
each_of P all FactKind.Objects = all.1.1.1.1.1.1.1.1.1.1.1.1.1.1.1.0
each_of P all FactKind.HalfCommand = all.1.1.1.1.1.1.1.1.1.1.1.1.1.1.1.1.0
each_of P all FactKind.HalfObject = all.1.1.1.1.1.1.1.1.1.1.1.1.1.1.1.1.1.0
each_of P all FactKind.LastObject = all.1.1.1.1.1.1.1.1.1.1.1.1.1.1.1.1.1.1.0
each_of P all FactKind.Brief = all.1.1.1.1.1.1.1.1.1.1.1.1.1.1.1.1.1.1.1.0
each_of P all FactKind.Details = all.1.1.1.1.1.1.1.1.1.1.1.1.1.1.1.1.1.1.1.1.0
each_of P all FactKind.Magic = all.1.1.1.1.1.1.1.1.1.1.1.1.1.1.1.1.1.1.1.1.1.0
each_of P all FactKind.Anger = all.1.1.1.1.1.1.1.1.1.1.1.1.1.1.1.1.1.1.1.1.1.1.0
each_of P all FactKind.Kills = all.1.1.1.1.1.1.1.1.1.1.1.1.1.1.1.1.1.1.1.1.1.1.1.0
each_of P all FactKind.Dwarves = all.1.1.1.1.1.1.1.1.1.1.1.1.1.1.1.1.1.1.1.1.1.1.1.1.0
each_of P all FactKind.Knife = all.1.1.1.1.1.1.1.1.1.1.1.1.1.1.1.1.1.1.1.1.1.1.1.1.1.0
each_of P all FactKind.Hints = all.1.1.1.1.1.1.1.1.1.1.1.1.1.1.1.1.1.1.1.1.1.1.1.1.1.1.0
each_of P all FactKind.Stream = all.1.1.1.1.1.1.1.1.1.1.1.1.1.1.1.1.1.1.1.1.1.1.1.1.1.1.1.0
each_of P all FactKind.Visits = all.1.1.1.1.1.1.1.1.1.1.1.1.1.1.1.1.1.1.1.1.1.1.1.1.1.1.1.1.0

-- what lines say of the objects isn't all: their lists are read with the places
pub facts_are : (a b : State) → AreSameOf a b each_kind → a.objects ≡ b.objects
    → (kind : FactKind) → fact_in kind a ≡ fact_in kind b
facts_are a b all same FactKind.Objects = ap AllObjects same
facts_are a b all same kind = each_of (IsSameOf a b) all kind

-- ---- what a fact is made of

abbrev number_of : StateFact → ℕ
number_of (Number n) = n
number_of (Thing x) = x
number_of _ = 0

abbrev signed_of : StateFact → ℤ
signed_of (Signed z) = z
signed_of _ = pos 0

abbrev answer_of : StateFact → Bool
answer_of (Answer is) = is
answer_of _ = false

abbrev asked_of : StateFact → Option Question
asked_of (Asked question) = question
asked_of _ = None

abbrev ended_of : StateFact → Option Ending
ended_of (Ended ending) = ending
ended_of _ = None

abbrev verb_of : StateFact → Option ℕ
verb_of (Verb verb) = verb
verb_of _ = None

abbrev knife_of : StateFact → Knife
knife_of (Thrown knife) = knife
knife_of _ = Unthrown

abbrev objects_of : StateFact → Layout
objects_of (AllObjects o) = o
objects_of _ = unplaced_objects

abbrev dwarves_of : StateFact → List Dwarf
dwarves_of (AllDwarves each) = each
dwarves_of _ = []

abbrev hints_of : StateFact → Hints
hints_of (AllHints hints) = hints
hints_of _ = unused_hints

abbrev visits_of : StateFact → List ℕ
visits_of (AllVisits visits) = visits
visits_of _ = []

-- states with the same facts are the same
pub state_of_facts : (a b : State) → ((kind : FactKind) → fact_in kind a ≡ fact_in kind b) → a ≡ b
state_of_facts a b same = λ i. record {
  trail = record {
    here = number_of (same FactKind.Here i);
    last = number_of (same FactKind.Last i);
    older = number_of (same FactKind.Older i);
  };
  objects = objects_of (same FactKind.Objects i);
  visits = visits_of (same FactKind.Visits i);
  lamp = record { charge = signed_of (same FactKind.Lamp i); is_warned = answer_of (same FactKind.LampWarned i) };
  closing = record {
    first_clock = signed_of (same FactKind.FirstClock i);
    second_clock = signed_of (same FactKind.SecondClock i);
    is_closing = answer_of (same FactKind.Closing i);
    is_closed = answer_of (same FactKind.Closed i);
    is_panicking = answer_of (same FactKind.Panic i);
  };
  tallies = record {
    unseen = number_of (same FactKind.UnseenTreasures i);
    lost = number_of (same FactKind.LostTreasures i);
    deaths = number_of (same FactKind.Deaths i);
  };
  talk = record {
    verb = verb_of (same FactKind.HalfCommand i);
    object = number_of (same FactKind.HalfObject i);
    last = number_of (same FactKind.LastObject i);
    is_brief = answer_of (same FactKind.Brief i);
    details = number_of (same FactKind.Details i);
    magic = signed_of (same FactKind.Magic i);
  };
  dwarves = record {
    anger = number_of (same FactKind.Anger i);
    kills = number_of (same FactKind.Kills i);
    knife = knife_of (same FactKind.Knife i);
    each = dwarves_of (same FactKind.Dwarves i);
  };
  hints = hints_of (same FactKind.Hints i);
  question = asked_of (same FactKind.Question i);
  ending = ended_of (same FactKind.Ended i);
  stream = number_of (same FactKind.Stream i);
}
