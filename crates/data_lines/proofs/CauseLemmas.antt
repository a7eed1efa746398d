-- The cause of a line of bindings applies by the grammar, and no earlier one does.
use Rattle.std.proofs.Common.{◌≡◌, ◌⊎◌, inl, inr, ℕ, Bool, true, false, cond, ◌&&◌, nat_eq, nat_le}
use Rattle.std.proofs.Common.{List, [], ◌∷◌, ◌++◌, length, drop, codes, Option, Some, None, Result}
use Rattle.std.proofs.Common.{Ok, Err, is_some, option_to_list, refl, sym, ap, subst, ◌∙◌, arith}
use Rattle.std.specs.Option.{ok_or, option_or}
use Rattle.std.specs.Result.{result_ok, result_err}
use Rattle.std.specs.List.{starts_with}
use Rattle.std.specs.Str.{bytes_eq}
use Rattle.std.proofs.lemmas.Bool.{and_parts, eqb-true, false≢true}
use Rattle.std.proofs.lemmas.Bool.Decides.{nat_tests}
use Rattle.std.proofs.lemmas.Slice.Eq.{bytes_eq-Decides}
use Rattle.data_rows.specs.declared.error.Cause.{Cause}
use Rattle.data_rows.specs.declared.error.BindingFlaw.TheVariants.{Malformed, BadValue, Repeated}
use Rattle.data_rows.specs.declared.error.Cause.TheVariants.{BadBinding, UnknownRole}
use Rattle.data_rows.specs.declared.binding.Key.{Key}
use Rattle.data_rows.specs.declared.binding.Key.TheVariants.{RoleKey, PlaceKey, LettersKey}
use Rattle.data_rows.specs.declared.binding.Binding.{Binding}
use Rattle.base_lines.specs.LogLine.{is_skipped}
use Rattle.data_rows.specs.Fields.{fields, natural}
use Rattle.data_rows.specs.Role.{ROLE_NAMES}
use Rattle.data_rows.specs.PlaceRole.{PLACE_NAMES}
use Rattle.data_rows.specs.RowGrammar.{IsBetween}
use Rattle.data_rows.specs.BindingGrammar.{position_of_name, IsKey, role_key, place_key}
use Rattle.data_rows.specs.BindingGrammar.{letters_key, IsValueOf, IsBindingLine}
use Rattle.data_rows.specs.Rows.{◌>>=◌}
use Rattle.data_rows.specs.BindingLines.{bound_within, role_binding, place_binding, letters_binding}
use Rattle.data_rows.specs.BindingLines.{binding_of, binding_row, binding_at, bindings_of}
use Rattle.data_rows.proofs.BindingForms.{binding-read, read-binding}
use Rattle.data_rows.proofs.PartLemmas.{natural-written, written-natural}
use Rattle.data_rows.proofs.ReadParts.{fields-begins, fields-all, ahead_begins, none_ahead_blank}
use Rattle.cave_data.specs.Bindings.{value_of}
use Rattle.cave_data.specs.Faults.{repeat_cause, binding_cause}
use Rattle.data_lines.specs.BindingCauses.{HasBindingForm, HasRange, of_messages, of_places}
use Rattle.data_lines.specs.BindingCauses.{of_letters, IsOutside, IsUnknown}
use Rattle.data_lines.specs.BindingCauses.{IsFirstCause, IsCauseAfter}

-- ---- the form

pub form_fields : (line key : List ℕ) (n : ℕ) (is : HasBindingForm line key n)
    → fields line ≡ key ∷ is.digits ∷ []
form_fields line key n is =
    fields-begins line key is.after_key is.begins
    ∙ ap (λ fs. key ∷ fs) (fields-begins is.after_key is.digits is.after_digits is.goes_on
    ∙ ap (λ fs. is.digits ∷ fs) (fields-all is.after_digits is.ends))

form_found : (line key digits : List ℕ) (n : ℕ) → fields line ≡ key ∷ digits ∷ []
    → natural digits ≡ Some n → HasBindingForm line key n
form_found line key digits n all number =
    let first = ahead_begins line key (digits ∷ []) all in
    let second = ahead_begins first.0 digits [] first.2 in
    record {
      after_key = first.0;
      digits = digits;
      after_digits = second.0;
      begins = first.1;
      goes_on = second.1;
      ends = none_ahead_blank second.0 second.2;
      is_number = written-natural digits n number;
    }

abbrev pub HasNoForm : List ℕ → Type 0
HasNoForm line = (key : List ℕ) (n : ℕ) → ¬ HasBindingForm line key n

-- how a line is read: by its key and number, or as one of another form
abbrev pub ReadByForm : List ℕ → Type 0
ReadByForm line =
    ((key : List ℕ) × (n : ℕ) × HasBindingForm line key n × (binding_row line ≡ binding_of key n))
    ⊎ (HasNoForm line × (binding_row line ≡ Err (BadBinding Malformed)))

pub form_read : (line : List ℕ) → ReadByForm line
unfolding binding_row
form_read line = at (fields line) refl where
  number : (key digits : List ℕ) → fields line ≡ key ∷ digits ∷ [] → (o : Option ℕ)
      → natural digits ≡ o → ReadByForm line
  number key digits e (Some n) is =
      inl (key, n, form_found line key digits n e is, rw (e, is) refl)
  number key digits e None is =
      inr (
        λ other n form.
            let same : digits ≡ form.digits = cc (form_fields line other n form, e) in
            absurd (cc (natural-written form.digits n form.is_number, same, is)),
        rw (e, is) refl,
      )

  at : (fs : List (List ℕ)) → fields line ≡ fs → ReadByForm line
  at [] e = inr (λ key n form. absurd (cc (form_fields line key n form, e)), rw e refl)
  at (one ∷ []) e = inr (λ key n form. absurd (cc (form_fields line key n form, e)), rw e refl)
  at (key ∷ digits ∷ []) e = number key digits e (natural digits) refl
  at (one ∷ two ∷ three ∷ fs) e =
      inr (λ key n form. absurd (cc (form_fields line key n form, e)), rw e refl)

-- ---- the number

out_of_bounds : (first last n : ℕ) → (nat_le first n && nat_le n last) ≡ false
    → ¬ IsBetween first last n
out_of_bounds first last n e is =
    let above : nat_le first n ≡ true = grind (arith, nat_tests, is.0) in
    let below : nat_le n last ≡ true = grind (arith, nat_tests, is.1) in
    absurd (cc (above, below, e))

pub in_bounds : (first last n : ℕ) → (nat_le first n && nat_le n last) ≡ true
    → IsBetween first last n
in_bounds first last n e =
    let both = and_parts (nat_le first n) (nat_le n last) e in
    (grind (arith, nat_tests, both.0), grind (arith, nat_tests, both.1))

-- a number that is out of the range of its family is read as one
pub outside_read : (key : List ℕ) (first last n : ℕ) → HasRange key first last
    → (nat_le first n && nat_le n last) ≡ false → binding_of key n ≡ Err (BadBinding BadValue)
outside_read key first last n of_messages e = rw e refl
outside_read key first last n of_places e = rw e refl
outside_read key first last n of_letters e = rw e refl

inside : (key : List ℕ) (first last n : ℕ) → HasRange key first last
    → ¬ (binding_of key n ≡ Err (BadBinding BadValue)) → IsBetween first last n
inside key first last n has isnt = at (nat_le first n && nat_le n last) refl where
  at : (b : Bool) → (nat_le first n && nat_le n last) ≡ b → IsBetween first last n
  at true e = in_bounds first last n e
  at false e = absurd (isnt (outside_read key first last n has e))

-- what is read of a key and a number that bind nothing
abbrev pub IsFlawOf : List ℕ → ℕ → Cause → Type 0
IsFlawOf key n cause = ((cause ≡ BadBinding BadValue) × IsOutside key n) ⊎ (cause ≡ UnknownRole)

same_front : (front key : List ℕ) → starts_with nat_eq key front ≡ true
    → front ++ drop (length front) key ≡ key
same_front [] key is = refl
same_front (b ∷ front) [] is = cc
same_front (b ∷ front) (c ∷ key) is =
    let both = and_parts (nat_eq b c) (starts_with nat_eq key front) is in
    let first : c ≡ b = sym (eqb-true b c both.0) in
    rw (sym first) (ap (λ xs. c ∷ xs) (same_front front key both.1))

abbrev pub bound : Key → ℕ → Binding
bound key value = record { key = key; value = value }

abbrev named : ℕ → ℕ → ℕ → Option ℕ → (ℕ → Key) → Result Binding Cause
named first last n found key =
    bound_within first last n >>= λ value. ok_or found UnknownRole
    >>= λ number. Ok (bound (key number) value)

named_flaw : (bytes : List ℕ) (first last n : ℕ) (found : Option ℕ) (key : ℕ → Key)
    (cause : Cause) → HasRange bytes first last → named first last n found key ≡ Err cause
    → IsFlawOf bytes n cause
named_flaw bytes first last n found key cause has is =
    at (nat_le first n && nat_le n last) refl found is where
      at : (b : Bool) → (nat_le first n && nat_le n last) ≡ b → (o : Option ℕ)
          → (cond {A = Result ℕ Cause} b (Ok n) (Err (BadBinding BadValue))
          >>= λ value. ok_or o UnknownRole
          >>= λ number. Ok (bound (key number) value)) ≡ Err cause
          → IsFlawOf bytes n cause
      at false e o h = inl (cc, (first, last, has, out_of_bounds first last n e))
      at true e None h = inr cc
      at true e (Some number) h = cc

letters_flaw : (n : ℕ) (cause : Cause) → letters_binding n ≡ Err cause
    → IsFlawOf (codes "num.letters") n cause
letters_flaw n cause is = at (nat_le 5 n && nat_le n 8) refl is where
  at : (b : Bool) → (nat_le 5 n && nat_le n 8) ≡ b
      → (cond {A = Result ℕ Cause} b (Ok n) (Err (BadBinding BadValue))
      >>= λ value. Ok (bound LettersKey value)) ≡ Err cause → IsFlawOf (codes "num.letters") n cause
  at false e h = inl (cc, (5, 8, of_letters, out_of_bounds 5 8 n e))
  at true e h = cc

pub key_flaw : (key : List ℕ) (n : ℕ) (cause : Cause) → binding_of key n ≡ Err cause
    → IsFlawOf key n cause
key_flaw key n cause is = role (starts_with nat_eq key (codes "msg.")) refl is where
  letters : (b : Bool) → bytes_eq key (codes "num.letters") ≡ b
      → cond b (letters_binding n) (Err UnknownRole) ≡ Err cause → IsFlawOf key n cause
  letters true e h =
      subst (λ k. IsFlawOf k n cause)
      (sym ((bytes_eq-Decides key (codes "num.letters")).0 e)) (letters_flaw n cause h)
  letters false e h = inr cc

  place : (b : Bool) → starts_with nat_eq key (codes "place.") ≡ b
      → cond b (place_binding (drop 6 key) n)
      (cond (bytes_eq key (codes "num.letters")) (letters_binding n) (Err UnknownRole))
      ≡ Err cause → IsFlawOf key n cause
  place true e h =
      subst (λ k. IsFlawOf k n cause) (same_front (codes "place.") key e)
      (named_flaw (codes "place." ++ drop 6 key) 1 300 n
      (position_of_name PLACE_NAMES (drop 6 key)) PlaceKey cause of_places h)
  place false e h = letters (bytes_eq key (codes "num.letters")) refl h

  role : (b : Bool) → starts_with nat_eq key (codes "msg.") ≡ b
      → cond b (role_binding (drop 4 key) n)
      (cond (starts_with nat_eq key (codes "place.")) (place_binding (drop 6 key) n)
      (cond (bytes_eq key (codes "num.letters")) (letters_binding n) (Err UnknownRole)))
      ≡ Err cause → IsFlawOf key n cause
  role true e h =
      subst (λ k. IsFlawOf k n cause) (same_front (codes "msg.") key e)
      (named_flaw (codes "msg." ++ drop 4 key) 1 499 n
      (position_of_name ROLE_NAMES (drop 4 key)) RoleKey cause of_messages h)
  role false e h = place (starts_with nat_eq key (codes "place.")) refl h

-- ---- the name

not_outside : (key : List ℕ) (n : ℕ) → binding_of key n ≡ Err UnknownRole → ¬ IsOutside key n
not_outside key n is (first, last, has, out) =
    absurd (out (inside key first last n has (λ bad. cc (bad, is))))

value_of_key : (bytes : List ℕ) (key : Key) (n : ℕ) → IsKey bytes key
    → ¬ (binding_of bytes n ≡ Err (BadBinding BadValue)) → IsValueOf key n
value_of_key bytes key n (role_key named) isnt = inside bytes 1 499 n of_messages isnt
value_of_key bytes key n (place_key named) isnt = inside bytes 1 300 n of_places isnt
value_of_key bytes key n letters_key isnt = inside bytes 5 8 n of_letters isnt

-- a line of a known key, with a number in its range, is read
unknown : (line key : List ℕ) (n : ℕ) → HasBindingForm line key n
    → binding_row line ≡ binding_of key n → binding_of key n ≡ Err UnknownRole → IsUnknown key
unknown line key n form read is known named =
    let binding = bound known n in
    let line_is : IsBindingLine line binding = record {
      key = key;
      after_key = form.after_key;
      digits = form.digits;
      after_digits = form.after_digits;
      begins = form.begins;
      goes_on = form.goes_on;
      ends = form.ends;
      is_key = named;
      is_number = form.is_number;
      in_range = value_of_key key known n named (λ bad. cc (bad, is));
    } in
    absurd (cc (binding-read line binding line_is, read, is))

-- ---- lines

flaw_is : (before : List Binding) (line key : List ℕ) (n : ℕ) (cause : Cause)
    → HasBindingForm line key n → binding_row line ≡ binding_of key n
    → binding_of key n ≡ Err cause → IsFlawOf key n cause → IsFirstCause before line cause
flaw_is before line key n cause form read is (inl bad) =
    subst (IsFirstCause before line) (sym bad.0) (key, n, form, bad.1)
flaw_is before line key n cause form read is (inr same) =
    let unread : binding_of key n ≡ Err UnknownRole = cc (is, same) in
    subst (IsFirstCause before line) (sym same)
    (key, n, form, not_outside key n unread, unknown line key n form read unread)

unread_is : (before : List Binding) (line : List ℕ) (cause : Cause)
    → binding_row line ≡ Err cause → IsFirstCause before line cause
unread_is before line cause is = at (form_read line) where
  at : ReadByForm line → IsFirstCause before line cause
  at (inl (key, n, form, read)) =
      let unread = sym read ∙ is in
      flaw_is before line key n cause form read unread (key_flaw key n cause unread)
  at (inr (none, read)) =
      let same : BadBinding Malformed ≡ cause = cc (read, is) in
      subst (IsFirstCause before line) same none

repeat_is : (before : List Binding) (line : List ℕ) (binding : Binding) (cause : Cause)
    → IsBindingLine line binding → repeat_cause before (binding ∷ []) ≡ Some cause
    → IsFirstCause before line cause
repeat_is before line binding cause is e = at (value_of binding.key before) refl e where
  at : (o : Option ℕ) → value_of binding.key before ≡ o
      → cond (is_some o) (Some (BadBinding Repeated)) None ≡ Some cause
      → IsFirstCause before line cause
  at None found h = cc
  at (Some value) found h =
      let same : BadBinding Repeated ≡ cause = cc in
      subst (IsFirstCause before line) same (binding, is, (value, found))

row_is : (before : List Binding) (line : List ℕ) (cause : Cause) (r : Result Binding Cause)
    → binding_row line ≡ r
    → option_or (result_err r) (repeat_cause before (option_to_list (result_ok r))) ≡ Some cause
    → IsFirstCause before line cause
row_is before line cause (Ok binding) is e =
    repeat_is before line binding cause (read-binding line binding is) e
row_is before line cause (Err other) is e =
    let same : other ≡ cause = cc in
    subst (IsFirstCause before line) same (unread_is before line other is)

pub cause_is_there : (before : List (List ℕ)) (line : List ℕ) (cause : Cause)
    → binding_cause before line ≡ Some cause → IsCauseAfter (bindings_of before) line cause
unfolding binding_cause binding_at
cause_is_there before line cause e = at (is_skipped line) refl e where
  at : (b : Bool) → is_skipped line ≡ b
      → option_or (cond b None (result_err (binding_row line)))
      (repeat_cause (bindings_of before)
      (cond b [] (option_to_list (result_ok (binding_row line)))))
      ≡ Some cause → IsCauseAfter (bindings_of before) line cause
  at true is h = cc
  at false is h = (
    λ skipped. absurd (false≢true (sym is ∙ skipped)),
    row_is (bindings_of before) line cause (binding_row line) refl h,
  )
