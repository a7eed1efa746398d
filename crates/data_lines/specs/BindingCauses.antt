-- What each cause of a line of bindings says, by the grammar. If a line has several, the first is
-- reported: that of its form, of its number, of its name, or of a key that was bound before.
use Rattle.std.specs.Prelude.{◌≡◌, ◌↔◌, ℕ, suc, List, [], ◌∷◌, ◌++◌, length, codes, Some, IsTrue}
use Rattle.std.specs.Option.{IfSome}
use Rattle.data_rows.specs.declared.error.Cause.{Cause}
use Rattle.data_rows.specs.declared.error.BindingFlaw.TheVariants.{Malformed, BadValue, Repeated}
use Rattle.data_rows.specs.declared.error.Cause.TheVariants.{BadBinding, UnknownRole}
use Rattle.data_rows.specs.declared.error.CaveError.{CaveError}
use Rattle.data_rows.specs.declared.error.FaultSite.TheVariants.{Bindings}
use Rattle.data_rows.specs.declared.binding.Key.{Key}
use Rattle.data_rows.specs.declared.binding.Binding.{Binding}
use Rattle.base_lines.specs.Bytes.{is_all_blank}
use Rattle.base_lines.specs.LogLine.{is_skipped}
use Rattle.data_rows.specs.RowParts.{BeginsWithField, WritesNatural}
use Rattle.data_rows.specs.RowGrammar.{IsBetween}
use Rattle.data_rows.specs.BindingGrammar.{IsKey, IsBindingLine}
use Rattle.data_rows.specs.BindingLines.{bindings_of}
use Rattle.base_lines.specs.Numbers.{LAST_PLACE, LAST_MESSAGE}
use Rattle.cave_data.specs.Bindings.{value_of}
use Rattle.cave_data.specs.Faults.{binding_cause, first_binding_fault}
use Rattle.cave_data.specs.Reads.{AreBindings}

-- The line is two fields, the second of which is 1 to 9 digits, whether or not they bind anything.
pub record HasBindingForm (line key : List ℕ) (number : ℕ) : Type 0 where
  pub after_key : List ℕ
  pub digits : List ℕ
  pub after_digits : List ℕ
  pub begins : BeginsWithField line key after_key
  pub goes_on : BeginsWithField after_key digits after_digits
  pub ends : IsTrue (is_all_blank after_digits)
  pub is_number : WritesNatural digits number

-- the key, known or not, is of a family whose numbers go from the first to the last
pub data HasRange : List ℕ → ℕ → ℕ → Type 0 where
  of_messages : {name : List ℕ} → HasRange (codes "msg." ++ name) 1 LAST_MESSAGE
  of_places : {name : List ℕ} → HasRange (codes "place." ++ name) 1 LAST_PLACE
  of_letters : HasRange (codes "num.letters") 5 8

-- the number is out of the range of the key's family
abbrev pub IsOutside : List ℕ → ℕ → Type 0
IsOutside key number =
    (first : ℕ) × (last : ℕ) × HasRange key first last × (¬ IsBetween first last number)

-- no key is written like this
abbrev pub IsUnknown : List ℕ → Type 0
IsUnknown bytes = (key : Key) → ¬ IsKey bytes key

-- these bindings bind the key
abbrev pub IsBound : List Binding → Key → Type 0
IsBound before key = (value : ℕ) × (value_of key before ≡ Some value)

-- this is wrong with the line after these bindings, and no earlier cause applies
abbrev pub IsFirstCause : List Binding → List ℕ → Cause → Type 0
IsFirstCause before line (BadBinding Malformed) =
    (key : List ℕ) (number : ℕ) → ¬ HasBindingForm line key number
IsFirstCause before line (BadBinding BadValue) =
    (key : List ℕ) × (number : ℕ) × HasBindingForm line key number × IsOutside key number
IsFirstCause before line UnknownRole =
    (key : List ℕ) × (number : ℕ) × HasBindingForm line key number × (¬ IsOutside key number)
    × IsUnknown key
IsFirstCause before line (BadBinding Repeated) =
    (binding : Binding) × IsBindingLine line binding × IsBound before binding.key
IsFirstCause before line cause = ⊥

-- the line isn't passed over, and this is its cause
abbrev pub IsCauseAfter : List Binding → List ℕ → Cause → Type 0
IsCauseAfter before line cause = (¬ IsTrue (is_skipped line)) × IsFirstCause before line cause

-- a line of bindings has this cause exactly if the grammar gives it that cause
abbrev pub CausesAreExact : Type 0
CausesAreExact = (before : List (List ℕ)) (line : List ℕ) (cause : Cause)
    → (binding_cause before line ≡ Some cause) ↔ IsCauseAfter (bindings_of before) line cause

-- The lines before are bindings, and the line after them has the fault.
pub record IsFirstBindingFault (ls : List (List ℕ)) (fault : CaveError) : Type 0 where
  pub before : List (List ℕ)
  pub line : List ℕ
  pub rest : List (List ℕ)
  pub parts : ls ≡ before ++ line ∷ rest
  pub are_bindings : AreBindings before
  pub cause : IsCauseAfter are_bindings.bindings line fault.cause
  pub number : fault.line ≡ suc (length before)
  pub site : fault.site ≡ Bindings

-- the fault of bindings is that of their first faulty line
abbrev pub FaultsAreFirst : Type 0
FaultsAreFirst = (ls : List (List ℕ)) → IfSome (first_binding_fault [] ls) (IsFirstBindingFault ls)
