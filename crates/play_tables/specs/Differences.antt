-- The kinds of facts in which two states differ, as a column.
use Rattle.std.specs.Prelude.{◌≡◌, ℕ, true, if◌then◌else◌, List, [], ◌∷◌, ◌++◌, codes}
use Rattle.std.specs.List.{flat_map, list_all}
use Rattle.cave_world.specs.declared.state.State.{State}
use Rattle.play_state_text.specs.Facts.{each_kind, is_same_in, kind_name}
use Rattle.play_state_text.specs.declared.kind.FactKind.{FactKind}

-- two states differ in no kind of facts
abbrev pub AreAlike : State → State → Type 0
AreAlike s t = list_all (λ kind. is_same_in kind s t) each_kind ≡ true

-- the name of a kind in which the states differ, after a comma
unfoldable pub difference_text : State → State → FactKind → List ℕ
difference_text s t kind = if is_same_in kind s t then [] else codes ", " ++ kind_name kind

-- the names of the kinds, without the comma before the first, or a dash if there are none
abbrev pub without_separator : List ℕ → List ℕ
without_separator (comma ∷ blank ∷ names) = names
without_separator _ = codes "-"

-- the kinds of facts in which two states differ
unfoldable pub differences_text : State → State → List ℕ
differences_text s t = without_separator (flat_map (difference_text s t) each_kind)
