-- A cause that applies to a line of bindings by the grammar, and none before it does, is the
-- line's.
use Rattle.std.proofs.Common.{◌≡◌, inl, inr, ℕ, Bool, true, false, ◌&&◌, nat_le, List, Some, Result}
use Rattle.std.proofs.Common.{Ok, Err, refl, subst, ◌∙◌, IsTrue}
use Rattle.data_rows.specs.declared.error.Cause.{Cause}
use Rattle.data_rows.specs.declared.error.BindingFlaw.TheVariants.{Malformed, BadValue, Repeated}
use Rattle.data_rows.specs.declared.error.Cause.TheVariants.{BadBinding, UnknownRole}
use Rattle.data_rows.specs.declared.binding.Binding.{Binding}
use Rattle.base_lines.specs.LogLine.{is_skipped}
use Rattle.data_rows.specs.BindingGrammar.{IsKey, IsBindingLine}
use Rattle.data_rows.specs.BindingLines.{binding_of, binding_row, binding_at, bindings_of}
use Rattle.data_rows.proofs.BindingForms.{binding-read, read-binding}
use Rattle.data_rows.proofs.PartLemmas.{natural-written}
use Rattle.cave_data.specs.Bindings.{value_of}
use Rattle.cave_data.specs.Faults.{binding_cause}
use Rattle.data_lines.specs.BindingCauses.{HasBindingForm, IsOutside, IsUnknown, IsFirstCause}
use Rattle.data_lines.specs.BindingCauses.{CausesAreExact}
use Rattle.data_lines.proofs.CauseLemmas.{form_fields, form_read, outside_read, in_bounds, IsFlawOf}
use Rattle.data_lines.proofs.CauseLemmas.{key_flaw, cause_is_there, HasNoForm, ReadByForm}

-- ---- a line that isn't passed over

skipped_false : (b : Bool) → ¬ IsTrue b → b ≡ false
skipped_false true isnt = absurd (isnt refl)
skipped_false false isnt = refl

err_cause : (before : List (List ℕ)) (line : List ℕ) (cause : Cause) → is_skipped line ≡ false
    → binding_row line ≡ Err cause → binding_cause before line ≡ Some cause
unfolding binding_cause
err_cause before line cause plain read = rw (plain, read) refl

repeat_cause_of : (before : List (List ℕ)) (line : List ℕ) (binding : Binding) (value : ℕ)
    → is_skipped line ≡ false → binding_row line ≡ Ok binding
    → value_of binding.key (bindings_of before) ≡ Some value
    → binding_cause before line ≡ Some (BadBinding Repeated)
unfolding binding_cause binding_at
repeat_cause_of before line binding value plain read bound = rw (plain, read, bound) refl

-- ---- what is read of it

read_by : (line key : List ℕ) (n : ℕ) → HasBindingForm line key n
    → binding_row line ≡ binding_of key n
unfolding binding_row
read_by line key n form =
    let all = form_fields line key n form in
    let number = natural-written form.digits n form.is_number in
    rw (all, number) refl

no_form : (line : List ℕ) → HasNoForm line → binding_row line ≡ Err (BadBinding Malformed)
no_form line none = at (form_read line) where
  at : ReadByForm line → binding_row line ≡ Err (BadBinding Malformed)
  at (inl (key, n, form, read)) = absurd (none key n form)
  at (inr (isnt, read)) = read

outside : (key : List ℕ) (n : ℕ) → IsOutside key n
    → binding_of key n ≡ Err (BadBinding BadValue)
outside key n (first, last, has, out) = at (nat_le first n && nat_le n last) refl where
  at : (b : Bool) → (nat_le first n && nat_le n last) ≡ b
      → binding_of key n ≡ Err (BadBinding BadValue)
  at true e = absurd (out (in_bounds first last n e))
  at false e = outside_read key first last n has e

same_key : (line key other : List ℕ) (n m : ℕ) → HasBindingForm line key n
    → HasBindingForm line other m → key ≡ other
same_key line key other n m form another =
    cc (form_fields line key n form, form_fields line other m another)

form_of : (line : List ℕ) (binding : Binding) (is : IsBindingLine line binding)
    → HasBindingForm line is.key binding.value
form_of line binding is = record {
  after_key = is.after_key;
  digits = is.digits;
  after_digits = is.after_digits;
  begins = is.begins;
  goes_on = is.goes_on;
  ends = is.ends;
  is_number = is.is_number;
}

unknown_read : (line key : List ℕ) (n : ℕ) → HasBindingForm line key n → ¬ IsOutside key n
    → IsUnknown key → binding_row line ≡ Err UnknownRole
unknown_read line key n form within none = at (binding_of key n) refl where
  flaw : (cause : Cause) → binding_of key n ≡ Err cause → IsFlawOf key n cause
      → binding_row line ≡ Err UnknownRole
  flaw cause is (inl bad) = absurd (within bad.1)
  flaw cause is (inr same) = cc (read_by line key n form, is, same)

  at : (r : Result Binding Cause) → binding_of key n ≡ r → binding_row line ≡ Err UnknownRole
  at (Ok binding) is =
      let line_is = read-binding line binding (read_by line key n form ∙ is) in
      let same =
      same_key line line_is.key key binding.value n (form_of line binding line_is) form in
      absurd (none binding.key (subst (λ bytes. IsKey bytes binding.key) same line_is.is_key))
  at (Err cause) is = flaw cause is (key_flaw key n cause is)

-- ---- causes

reported : (before : List (List ℕ)) (line : List ℕ) (cause : Cause) → is_skipped line ≡ false
    → IsFirstCause (bindings_of before) line cause → binding_cause before line ≡ Some cause
reported before line (BadBinding Malformed) plain none =
    err_cause before line (BadBinding Malformed) plain (no_form line none)
reported before line (BadBinding BadValue) plain (key, n, form, out) =
    err_cause before line (BadBinding BadValue) plain (read_by line key n form ∙ outside key n out)
reported before line UnknownRole plain (key, n, form, within, none) =
    err_cause before line UnknownRole plain (unknown_read line key n form within none)
reported before line (BadBinding Repeated) plain (binding, is, bound) =
    repeat_cause_of before line binding bound.0 plain (binding-read line binding is) bound.1
reported before line cause plain is = absurd is

pub causes_are_exact : CausesAreExact
causes_are_exact before line cause = (
  cause_is_there before line cause,
  λ is. reported before line cause (skipped_false (is_skipped line) is.0) is.1,
)
