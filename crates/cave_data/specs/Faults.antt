-- The fault that is reported.
use Rattle.std.specs.Prelude.{◌≡◌, ◌⊎◌, ℕ, Option, Some, suc, if◌then◌else◌, List, [], ◌∷◌, length}
use Rattle.std.specs.Prelude.{None, is_some, ◌++◌}
use Rattle.data_rows.specs.declared.error.Cause.{Cause}
use Rattle.data_rows.specs.declared.error.Cause.TheVariants.{Memory, BadBinding, NoEnd}
use Rattle.data_rows.specs.declared.error.FaultSite.{FaultSite}
use Rattle.data_rows.specs.declared.error.CaveError.{CaveError}
use Rattle.std.specs.Option.{option_or}
use Rattle.std.specs.Result.{result_err}
use Rattle.data_rows.specs.declared.error.BindingFlaw.TheVariants.{Repeated}
use Rattle.data_rows.specs.declared.error.FaultSite.TheVariants.{Bindings}
use Rattle.data_rows.specs.declared.binding.Binding.{Binding}
use Rattle.cave_data.specs.Steps.{first_fault_by, site_of_fault, IsLowestAt}
use Rattle.base_lines.specs.LogLine.{is_skipped}
use Rattle.data_rows.specs.BindingLines.{binding_row, binding_at, bindings_of}
use Rattle.cave_data.specs.Bindings.{value_of}
use Rattle.data_rows.specs.declared.position.Position.{Position}
use Rattle.data_rows.specs.declared.position.Position.TheVariants.{Outside, After}
use Rattle.data_rows.specs.Rows.{Entry}
use Rattle.data_rows.specs.DatabaseGrammar.{HasRows}
use Rattle.cave_data.specs.Database.{AreValidTogether}

-- out of memory, for which no line is at fault
abbrev pub no_memory : CaveError
no_memory = record { cause = Memory; line = 0; site = FaultSite.Database }

-- what is reported is this fault, or out of memory
abbrev pub FaultIs : CaveError → Option CaveError → Type 0
FaultIs e fault = (e ≡ no_memory) ⊎ (fault ≡ Some e)

-- a cause at a line; out of memory names no line
abbrev pub error_at : Cause → ℕ → FaultSite → CaveError
error_at Memory line site = no_memory
error_at cause line site = record { cause = cause; line = line; site = site }

-- a key is bound once
abbrev pub repeat_cause : List Binding → List Binding → Option Cause
repeat_cause before [] = None
repeat_cause before (binding ∷ more) = if is_some (value_of binding.key before)
    then Some (BadBinding Repeated) else None

abbrev pub form_cause : List ℕ → Option Cause
form_cause line = if is_skipped line then None else result_err (binding_row line)

-- what is wrong with a line after these lines
unfoldable pub binding_cause : List (List ℕ) → List ℕ → Option Cause
binding_cause before line =
    option_or (form_cause line) (repeat_cause (bindings_of before) (binding_at line))

abbrev pub binding_fault : List (List ℕ) → Cause → CaveError
binding_fault before cause = record { cause = cause; line = suc (length before); site = Bindings }

-- the first fault of lines that come after others
abbrev pub first_binding_fault : List (List ℕ) → List (List ℕ) → Option CaveError
first_binding_fault = first_fault_by binding_cause binding_fault (λ before. None)

-- The lines begin a database and have these rows: lines that go on from this position to a database
-- make one with them.
pub record BeginDatabase (ls : List (List ℕ)) (position : Position) (rows : List Entry)
    : Type 0 where
  pub go_on : (later : List (List ℕ)) (more : List Entry) → HasRows position later more
      → HasRows Outside (ls ++ later) (rows ++ more)
  pub together : AreValidTogether rows

-- the cause is that of the next line, or the end is missing, if there is no next line
abbrev pub IsNextCause : List Entry → Position → List (List ℕ) → Cause → Type 0
IsNextCause rows After [] cause = ⊥
IsNextCause rows position [] cause = cause ≡ NoEnd
IsNextCause rows position (line ∷ later) cause = IsLowestAt rows position line cause

-- The lines before begin a database, and the line after them has the fault.
pub record IsFirstFault (ls : List (List ℕ)) (fault : CaveError) : Type 0 where
  pub before : List (List ℕ)
  pub rest : List (List ℕ)
  pub parts : ls ≡ before ++ rest
  pub position : Position
  pub rows : List Entry
  pub begin : BeginDatabase before position rows
  pub cause : IsNextCause rows position rest fault.cause
  pub line : fault.line ≡ suc (length before)
  pub site : fault.site ≡ site_of_fault position
