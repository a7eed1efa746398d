-- The bindings of a text with their lines, and what is doubtful about one.
use Rattle.std.specs.Prelude.{ℕ, suc, length, ◌==◌, if◌then◌else◌, List, []}
use Rattle.std.specs.Prelude.{◌∷◌, Option, Some, None}
use Rattle.std.specs.Result.{result_ok}
use Rattle.std.specs.FinMap as map
use Rattle.base_lines.specs.LogLine.{is_skipped}
use Rattle.cave_data.specs.CaveView.{CaveView}
use Rattle.data_rows.specs.BindingLines.{binding_row}
use Rattle.data_rows.specs.declared.binding.Binding.{Binding}
use Rattle.data_rows.specs.declared.binding.Key.{Key}
use Rattle.data_rows.specs.declared.binding.Key.TheVariants.{RoleKey, PlaceKey, LettersKey}
use Rattle.check_doubts.specs.Messages.{place_has_text}
use Rattle.check_doubts.specs.declared.bound.BoundRow.{BoundRow}
use Rattle.check_doubts.specs.declared.flaw.CaveFlaw.{CaveFlaw}
use Rattle.check_doubts.specs.declared.flaw.Subject.TheVariants as subject

-- the binding that a line states, if it states one
abbrev pub binding_in : List ℕ → Option Binding
binding_in line = if is_skipped line then None else result_ok (binding_row line)

abbrev pub with_binding : ℕ → Option Binding → List BoundRow → List BoundRow
with_binding line None rows = rows
with_binding line (Some binding) rows = record { line = line; binding = binding } ∷ rows

-- the bindings of these lines, the first of which has this number
abbrev pub bound_rows : ℕ → List (List ℕ) → List BoundRow
bound_rows number [] = []
bound_rows number (line ∷ lines) =
    with_binding number (binding_in line) (bound_rows (suc number) lines)

-- the message that a role is bound to has no text, or one that prints nothing
abbrev pub message_flaw : ℕ → ℕ → Option (List ℕ) → Option CaveFlaw
message_flaw role message None = Some (CaveFlaw.Textless (subject.MessageRole role) message)
message_flaw role message (Some text) = if length text == 0
    then Some (CaveFlaw.RoleSilent role message) else None

module _ (cave : CaveView) where
  abbrev pub key_flaw : Key → ℕ → Option CaveFlaw
  key_flaw (RoleKey role) value = message_flaw role value (map.get cave.messages value)
  key_flaw (PlaceKey role) value = if place_has_text cave value then None
      else Some (CaveFlaw.Textless (subject.PlaceRole role) value)
  key_flaw LettersKey value = None

  abbrev pub bound_flaw : BoundRow → Option CaveFlaw
  bound_flaw row = key_flaw row.binding.key row.binding.value
