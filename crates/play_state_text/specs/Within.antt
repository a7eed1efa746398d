-- The numbers of a state are within the range of written numbers.
use Rattle.std.specs.Prelude.{◌≡◌, ℕ, ⊤, List, length, Option, None, Some, ℤ, ◌≤◌, ◌<◌, ◌^◌}
use Rattle.base_lines.specs.Numbers.{LAST_HINT, LAST_OBJECT, LAST_PLACE}
use Rattle.world_objects.specs.Objects.{Layout, spot_of, anchor_of, prop_of}
use Rattle.world_objects.specs.Lists.{AreLists}
use Rattle.world_objects.specs.Links.{AreEntriesWithin}
use Rattle.world_objects.specs.declared.spot.Spot.{Spot}
use Rattle.world_objects.specs.declared.spot.Anchor.{Anchor}
use Rattle.cave_world.specs.Limits.{dwarf_count}
use Rattle.cave_world.specs.State.{no_dwarf}
use Rattle.cave_world.specs.declared.dwarves.Dwarf.{Dwarf}
use Rattle.cave_world.specs.declared.dwarves.Knife.{Knife}
use Rattle.cave_world.specs.declared.dwarves.Knife.TheVariants.{At}
use Rattle.cave_world.specs.declared.ending.Question.{Question}
use Rattle.cave_world.specs.declared.hints.Hints.{Hints}
use Rattle.cave_world.specs.declared.state.State.{State}
use Rattle.play_state_text.specs.Facts.{StateFact, Number, Signed, Answer, Asked, Ended, Verb}
use Rattle.play_state_text.specs.Facts.{Thing, Thrown, AllObjects, AllDwarves, AllHints, AllVisits}
use Rattle.play_state_text.specs.Facts.{fact_in}
use Rattle.play_state_text.specs.Things.{item_at}
use Rattle.play_state_text.specs.declared.kind.FactKind.{FactKind}
use Rattle.std.specs.List.{AllByRecursion}
use Rattle.std.specs.Int.Signed.{mag}

-- the number has at most sixty-four bits
abbrev pub IsWide : ℕ → Type 0
IsWide n = n < 2 ^ 64

abbrev pub IsSigned : ℤ → Type 0
IsSigned z = mag z < 2 ^ 63

-- the number is one of those from 1 to the last
abbrev pub IsUpTo : ℕ → ℕ → Type 0
IsUpTo last n = (1 ≤ n) × (n ≤ last)

abbrev pub IsQuestionWithin : Option Question → Type 0
IsQuestionWithin (Some (Question.Hint number)) = IsWide number
IsQuestionWithin (Some (Question.Take number)) = IsWide number
IsQuestionWithin _ = ⊤

abbrev pub IsVerbWithin : Option ℕ → Type 0
IsVerbWithin None = ⊤
IsVerbWithin (Some verb) = IsWide verb

abbrev pub IsKnifeWithin : Knife → Type 0
IsKnifeWithin (At place) = IsWide place
IsKnifeWithin _ = ⊤

abbrev pub IsDwarfWithin : Dwarf → Type 0
IsDwarfWithin dwarf = IsWide dwarf.place × IsWide dwarf.last

abbrev pub IsSpotWithin : Spot → Type 0
IsSpotWithin (Spot.At place) = IsWide place
IsSpotWithin _ = ⊤

abbrev pub IsAnchorWithin : Anchor → Type 0
IsAnchorWithin (Anchor.At place) = IsWide place
IsAnchorWithin _ = ⊤

abbrev pub IsThingWithin : Layout → ℕ → Type 0
IsThingWithin o x =
    IsSpotWithin (spot_of o x) × (IsAnchorWithin (anchor_of o x) × IsSigned (prop_of o x))

-- all objects, and what is at places
pub record AreObjectsWithin (o : Layout) : Type 0 where
  pub spots : length o.first ≡ LAST_OBJECT
  pub anchors : length o.second ≡ LAST_OBJECT
  pub props : length o.props ≡ LAST_OBJECT
  pub things : (x : ℕ) → IsUpTo LAST_OBJECT x → IsThingWithin o x
  pub lists : AreLists o.lists
  pub entries : AreEntriesWithin o.lists

-- how often places were described
pub record AreVisitsWithin (visits : List ℕ) : Type 0 where
  pub all : length visits ≡ LAST_PLACE
  pub each : (place : ℕ) → IsUpTo LAST_PLACE place → IsWide (item_at 0 visits place)

pub record AreDwarvesWithin (dwarves : List Dwarf) : Type 0 where
  pub all : length dwarves ≡ dwarf_count
  pub each : (number : ℕ) → IsUpTo dwarf_count number
      → IsDwarfWithin (item_at no_dwarf dwarves number)

pub record AreHintsWithin (hints : Hints) : Type 0 where
  pub all_turns : length hints.turns ≡ LAST_HINT
  pub all_taken : length hints.is_taken ≡ LAST_HINT
  pub each : (hint : ℕ) → IsUpTo LAST_HINT hint → IsWide (item_at 0 hints.turns hint)

abbrev pub IsFactWithin : StateFact → Type 0
IsFactWithin (Number n) = IsWide n
IsFactWithin (Signed z) = IsSigned z
IsFactWithin (Answer answer) = ⊤
IsFactWithin (Asked question) = IsQuestionWithin question
IsFactWithin (Ended ending) = ⊤
IsFactWithin (Verb verb) = IsVerbWithin verb
IsFactWithin (Thing x) = IsWide x
IsFactWithin (Thrown knife) = IsKnifeWithin knife
IsFactWithin (AllObjects o) = AreObjectsWithin o
IsFactWithin (AllDwarves dwarves) = AreDwarvesWithin dwarves
IsFactWithin (AllHints hints) = AreHintsWithin hints
IsFactWithin (AllVisits visits) = AreVisitsWithin visits

abbrev pub IsWithin : State → FactKind → Type 0
IsWithin s kind = IsFactWithin (fact_in kind s)

-- the facts of these kinds
abbrev pub AreFactsWithin : State → List FactKind → Type 0
AreFactsWithin s kinds = AllByRecursion (IsWithin s) kinds
