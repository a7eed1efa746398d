-- A way that doubts call never taken is tried by no motion, so none applies it.
use Rattle.std.specs.Prelude.{ℕ, Bool, List, Contains, IsTrue}
use Rattle.cave_data.specs.CaveView.{CaveView}
use Rattle.cave_world.specs.Travel.{rows_tried_from}
use Rattle.cave_world.specs.declared.state.State.{State}
use Rattle.cave_world.specs.declared.tables.RuleRow.TheVariants.{OfPlace}
use Rattle.data_lines.specs.WayLines.{way_index}
use Rattle.data_lines.specs.declared.mark.MarkedRow.{MarkedRow}
use Rattle.check_doubts.specs.Ways.{is_never_taken}

-- from a state a motion tries the way at an index of a place, whether it applies or fails
abbrev pub TriesWay : CaveView → ℕ → ℕ → State → ℕ → ℕ → Type 0
TriesWay cave emerald motion s place index = (applies : Bool)
    × Contains (rows_tried_from cave emerald motion s) (OfPlace place index applies)

-- no motion tries a way that is never taken, from any state, and so with any draws
abbrev pub NeverTakenIsNeverTried : Type 0
NeverTakenIsNeverTried = (cave : CaveView) (place : ℕ) (before : List MarkedRow)
    → IsTrue (is_never_taken cave place before) → (emerald motion : ℕ) (s : State)
    → ¬ TriesWay cave emerald motion s place (way_index place before)
