-- How a database and bindings relate to the cave that they describe, and to their first fault.
use Rattle.std.specs.Prelude.{◌≡◌, ◌≤◌, ℕ, nat_lt, if◌then◌else◌, List, [], ◌∷◌, ◌++◌}
use Rattle.std.specs.Prelude.{length, Option, Some, None, unwrap_or}
use Rattle.std.specs.Option.{option_or}
use Rattle.std.specs.Str.Lines.{lines}
use Rattle.std.specs.FinMap.{get}
use Rattle.base_lines.specs.Limits.{MAX_INPUT_BYTES}
use Rattle.data_rows.specs.declared.error.Cause.TheVariants.{TooLarge}
use Rattle.data_rows.specs.declared.error.FaultSite.{FaultSite}
use Rattle.data_rows.specs.declared.error.CaveError.{CaveError}
use Rattle.data_rows.specs.declared.binding.Key.TheVariants.{RoleKey, PlaceKey, LettersKey}
use Rattle.cave_data.specs.CaveView.{CaveView}
use Rattle.data_rows.specs.Rows.{Entry}
use Rattle.data_rows.specs.BindingGrammar.{HasBindings}
use Rattle.cave_data.specs.Steps.{first_fault}
use Rattle.cave_data.specs.Database.{IsDatabase, Holds}
use Rattle.data_rows.specs.declared.binding.Binding.{Binding}
use Rattle.cave_data.specs.Bindings.{value_of, DEFAULT_LETTERS, default_place}
use Rattle.cave_data.specs.Faults.{first_binding_fault}

-- after the bindings before, each of these binds a key that none before it binds
abbrev pub BindAnew : List Binding → List Binding → Type 0
BindAnew before [] = Unit {0}
BindAnew before (binding ∷ later) = (value_of binding.key before ≡ None)
    × BindAnew (before ++ binding ∷ []) later

-- The lines are those of bindings, and no key is bound twice.
pub record AreBindings (ls : List (List ℕ)) : Type 0 where
  pub bindings : List Binding
  pub has_bindings : HasBindings ls bindings
  pub anew : BindAnew [] bindings

-- Both inputs are small enough and valid.
pub record AreValidInputs (database bindings : List ℕ) : Type 0 where
  pub small : length database ≤ MAX_INPUT_BYTES
  pub bindings_small : length bindings ≤ MAX_INPUT_BYTES
  pub is_database : IsDatabase (lines database)
  pub are_bindings : AreBindings (lines bindings)

-- The cave has what these rows and these bindings say.
pub record IsDescribed (rows : List Entry) (bindings : List Binding) (c : CaveView) : Type 0 where
  pub holds : Holds rows c
  pub roles : (n : ℕ) → get c.roles n ≡ value_of (RoleKey n) bindings
  pub places : (n : ℕ)
      → get c.places n ≡ option_or (value_of (PlaceKey n) bindings) (default_place n)
  pub letters : c.letters ≡ unwrap_or (value_of LettersKey bindings) DEFAULT_LETTERS

-- The database and the bindings describe the cave.
pub record Reads (database bindings : List ℕ) (c : CaveView) : Type 0 where
  pub right : AreValidInputs database bindings
  pub described : IsDescribed right.is_database.rows right.are_bindings.bindings c

abbrev pub too_large_input : FaultSite → CaveError
too_large_input site = record { cause = TooLarge; line = 0; site = site }

-- the fault of a size, which is found before any memory is requested
abbrev pub size_fault : List ℕ → List ℕ → Option CaveError
size_fault database bindings =
    if nat_lt MAX_INPUT_BYTES (length database) then Some (too_large_input FaultSite.Database)
    else (if nat_lt MAX_INPUT_BYTES (length bindings) then Some (too_large_input FaultSite.Bindings)
    else None)

-- the first fault: that of a size, otherwise of a line of the database, otherwise of a line of the
-- bindings
unfoldable pub fault : List ℕ → List ℕ → Option CaveError
fault database bindings =
    option_or (size_fault database bindings)
    (option_or (first_fault [] (lines database)) (first_binding_fault [] (lines bindings)))
