-- The kinds of facts that a row lists as different are those in which two states differ.
use Rattle.std.specs.Prelude.{◌≡◌, ◌↔◌, ℕ, Bool, IsTrue, List, ◌++◌, codes}
use Rattle.std.specs.List.{filter, flat_map}
use Rattle.cave_world.specs.declared.state.State.{State}
use Rattle.play_state_text.specs.Facts.{each_kind, fact_in, kind_name}
use Rattle.play_state_text.specs.declared.kind.FactKind.{FactKind}
use Rattle.play_tables.specs.Differences.{differences_text, without_separator}

-- the names of kinds, with commas between them, or a dash if there are none
abbrev pub names_of_kinds : List FactKind → List ℕ
names_of_kinds kinds = without_separator (flat_map (λ kind. codes ", " ++ kind_name kind) kinds)

-- a row lists the kinds whose facts differ in the two states, and no others, in their order
pub record ListsWhatDiffers (s t : State) : Type 0 where
  pub differs : FactKind → Bool
  pub exact : (kind : FactKind) → IsTrue (differs kind) ↔ (¬ (fact_in kind s ≡ fact_in kind t))
  pub listed : differences_text s t ≡ names_of_kinds (filter differs each_kind)

abbrev pub DifferencesAreListed : Type 0
DifferencesAreListed = (s t : State) → ListsWhatDiffers s t

-- it has a dash exactly if the states are the same
abbrev pub NoDifferenceIsADash : Type 0
NoDifferenceIsADash = (s t : State) → (differences_text s t ≡ codes "-") ↔ (s ≡ t)
