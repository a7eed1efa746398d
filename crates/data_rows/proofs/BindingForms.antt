-- A line is one of bindings exactly if it is read as one.
use Rattle.std.proofs.Common.{◌≡◌, ℕ, ◌≤◌, Bool, true, false, cond, ◌&&◌, nat_eq, nat_le, List, []}
use Rattle.std.proofs.Common.{◌∷◌, ◌++◌, length, drop, codes, Option, Some, None, Result, Ok, Err}
use Rattle.std.proofs.Common.{IsTrue, refl, sym, ap, subst, ◌∙◌, arith}
use Rattle.std.specs.Option.{ok_or}
use Rattle.std.specs.List.{starts_with}
use Rattle.std.specs.Str.{bytes_eq}
use Rattle.std.proofs.lemmas.Bool.{and_parts, eqb-true}
use Rattle.std.proofs.lemmas.Bool.Decides.{nat_tests}
use Rattle.std.proofs.lemmas.Slice.Eq.{bytes_eq-Decides}
use Rattle.base_lines.specs.Bytes.{is_blank, is_all_blank}
use Rattle.base_lines.specs.LogLine.{is_comment, is_skipped}
use Rattle.data_rows.specs.declared.error.Cause.{Cause}
use Rattle.data_rows.specs.declared.error.BindingFlaw.TheVariants.{Malformed, BadValue}
use Rattle.data_rows.specs.declared.error.Cause.TheVariants.{BadBinding, UnknownRole}
use Rattle.data_rows.specs.declared.binding.Key.{Key}
use Rattle.data_rows.specs.declared.binding.Key.TheVariants.{RoleKey, PlaceKey, LettersKey}
use Rattle.data_rows.specs.declared.binding.Binding.{Binding}
use Rattle.data_rows.specs.Fields.{fields, natural}
use Rattle.data_rows.specs.Role.{ROLE_NAMES}
use Rattle.data_rows.specs.PlaceRole.{PLACE_NAMES}
use Rattle.data_rows.specs.BindingLines.{two_fields, bound_within, role_binding}
use Rattle.data_rows.specs.BindingGrammar.{position_of_name, IsKey, role_key, place_key}
use Rattle.data_rows.specs.BindingGrammar.{letters_key, IsValueOf, IsBindingLine}
use Rattle.data_rows.specs.BindingLines.{place_binding, letters_binding, binding_of, binding_row}
use Rattle.data_rows.specs.RowParts.{WritesNatural}
use Rattle.data_rows.specs.RowGrammar.{IsBetween}
use Rattle.data_rows.proofs.PartLemmas.{natural-written, written-natural}
use Rattle.data_rows.proofs.ReadParts.{in_steps, same_ok, fields-begins, fields-all, ahead_begins}
use Rattle.data_rows.proofs.ReadParts.{none_ahead_blank, nonblank-field}

-- ---- values

bound-read : (low high n : ℕ) → IsBetween low high n → bound_within low high n ≡ Ok n
bound-read low high n is =
    let above : nat_le low n ≡ true = grind (arith, nat_tests, is.0) in
    let below : nat_le n high ≡ true = grind (arith, nat_tests, is.1) in
    rw (above, below) refl

read-bound : (low high n value : ℕ) → bound_within low high n ≡ Ok value
    → (n ≡ value) × IsBetween low high value
read-bound low high n value is = at (nat_le low n && nat_le n high) refl is where
  at : (b : Bool) → (nat_le low n && nat_le n high) ≡ b
      → cond {A = Result ℕ Cause} b (Ok n) (Err (BadBinding BadValue)) ≡ Ok value
      → (n ≡ value) × IsBetween low high value
  at false e h = cc
  at true e h =
      let same : n ≡ value = cc in
      let both = and_parts (nat_le low n) (nat_le n high) e in
      let above : low ≤ n = grind (arith, nat_tests, both.0) in
      let below : n ≤ high = grind (arith, nat_tests, both.1) in
      (same, subst (IsBetween low high) same (above, below))

read-position : (o : Option ℕ) (number : ℕ) → ok_or o UnknownRole ≡ Ok number → o ≡ Some number
read-position None number is = cc
read-position (Some other) number is = ap Some (same_ok other number is)

-- ---- keys

key-read : (key : List ℕ) (binding : Binding) → IsKey key binding.key
    → IsValueOf binding.key binding.value → binding_of key binding.value ≡ Ok binding
key-read key binding is within = at key binding.key is within where
  at : (spelled : List ℕ) (k : Key) → IsKey spelled k → IsValueOf k binding.value
      → binding_of spelled binding.value ≡ Ok (record { key = k; value = binding.value })
  at spelled k (role_key {number = number} named) range =
      let value = bound-read 1 499 binding.value range in
      rw (value, named) refl
  at spelled k (place_key {number = number} named) range =
      let value = bound-read 1 300 binding.value range in
      rw (value, named) refl
  at spelled k letters_key range =
      let value = bound-read 5 8 binding.value range in
      rw value refl

same_front : (front key : List ℕ) → starts_with nat_eq key front ≡ true
    → front ++ drop (length front) key ≡ key
same_front [] key is = refl
same_front (b ∷ front) [] is = cc
same_front (b ∷ front) (c ∷ key) is =
    let both = and_parts (nat_eq b c) (starts_with nat_eq key front) is in
    let first : c ≡ b = sym (eqb-true b c both.0) in
    rw (sym first) (ap (λ xs. c ∷ xs) (same_front front key both.1))

-- a key and its value, as read
record IsReadAs (key : List ℕ) (n : ℕ) (binding : Binding) : Type 0 where
  is_key : IsKey key binding.key
  value : n ≡ binding.value
  in_range : IsValueOf binding.key binding.value

read-role : (name : List ℕ) (n : ℕ) (binding : Binding) → role_binding name n ≡ Ok binding
    → IsReadAs (codes "msg." ++ name) n binding
read-role name n binding is =
    let value = in_steps (bound_within 1 499 n) _ binding is in
    let number =
    in_steps (ok_or (position_of_name ROLE_NAMES name) UnknownRole) _ binding value.2 in
    let range = read-bound 1 499 n value.0 value.1 in
    let found : Binding = record { key = RoleKey number.0; value = value.0 } in
    subst (IsReadAs (codes "msg." ++ name) n) (same_ok found binding number.2)
    (record {
      is_key = role_key (read-position (position_of_name ROLE_NAMES name) number.0 number.1);
      value = range.0;
      in_range = range.1;
    })

read-place : (name : List ℕ) (n : ℕ) (binding : Binding) → place_binding name n ≡ Ok binding
    → IsReadAs (codes "place." ++ name) n binding
read-place name n binding is =
    let value = in_steps (bound_within 1 300 n) _ binding is in
    let number =
    in_steps (ok_or (position_of_name PLACE_NAMES name) UnknownRole) _ binding value.2 in
    let range = read-bound 1 300 n value.0 value.1 in
    let found : Binding = record { key = PlaceKey number.0; value = value.0 } in
    subst (IsReadAs (codes "place." ++ name) n) (same_ok found binding number.2)
    (record {
      is_key = place_key (read-position (position_of_name PLACE_NAMES name) number.0 number.1);
      value = range.0;
      in_range = range.1;
    })

read-letters : (n : ℕ) (binding : Binding) → letters_binding n ≡ Ok binding
    → IsReadAs (codes "num.letters") n binding
read-letters n binding is =
    let value = in_steps (bound_within 5 8 n) _ binding is in
    let range = read-bound 5 8 n value.0 value.1 in
    let found : Binding = record { key = LettersKey; value = value.0 } in
    subst (IsReadAs (codes "num.letters") n) (same_ok found binding value.2)
    (record { is_key = letters_key; value = range.0; in_range = range.1 })

read-key : (key : List ℕ) (n : ℕ) (binding : Binding) → binding_of key n ≡ Ok binding
    → IsReadAs key n binding
read-key key n binding is = role (starts_with nat_eq key (codes "msg.")) refl is where
  letters : (b : Bool) → bytes_eq key (codes "num.letters") ≡ b
      → cond b (letters_binding n) (Err UnknownRole) ≡ Ok binding → IsReadAs key n binding
  letters true e h =
      subst (λ k. IsReadAs k n binding)
      (sym ((bytes_eq-Decides key (codes "num.letters")).0 e)) (read-letters n binding h)
  letters false e h = cc

  place : (b : Bool) → starts_with nat_eq key (codes "place.") ≡ b
      → cond b (place_binding (drop 6 key) n)
      (cond (bytes_eq key (codes "num.letters")) (letters_binding n) (Err UnknownRole))
      ≡ Ok binding → IsReadAs key n binding
  place true e h =
      subst (λ k. IsReadAs k n binding) (same_front (codes "place.") key e)
      (read-place (drop 6 key) n binding h)
  place false e h = letters (bytes_eq key (codes "num.letters")) refl h

  role : (b : Bool) → starts_with nat_eq key (codes "msg.") ≡ b
      → cond b (role_binding (drop 4 key) n)
      (cond (starts_with nat_eq key (codes "place.")) (place_binding (drop 6 key) n)
      (cond (bytes_eq key (codes "num.letters")) (letters_binding n) (Err UnknownRole)))
      ≡ Ok binding → IsReadAs key n binding
  role true e h =
      subst (λ k. IsReadAs k n binding) (same_front (codes "msg.") key e)
      (read-role (drop 4 key) n binding h)
  role false e h = place (starts_with nat_eq key (codes "place.")) refl h

-- ---- lines

pub binding-read : (line : List ℕ) (binding : Binding) → IsBindingLine line binding
    → binding_row line ≡ Ok binding
unfolding binding_row
binding-read line binding is =
    let all : fields line ≡ is.key ∷ is.digits ∷ [] =
    fields-begins line is.key is.after_key is.begins
    ∙ ap (λ fs. is.key ∷ fs) (fields-begins is.after_key is.digits is.after_digits is.goes_on
    ∙ ap (λ fs. is.digits ∷ fs) (fields-all is.after_digits is.ends)) in
    let number = natural-written is.digits binding.value is.is_number in
    rw (all, number) (key-read is.key binding is.is_key is.in_range)

pair_of : (fs : List (List ℕ)) (pair : List ℕ × List ℕ) → two_fields fs ≡ Ok pair
    → fs ≡ pair.0 ∷ pair.1 ∷ []
pair_of [] pair is = cc
pair_of (key ∷ []) pair is = cc
pair_of (key ∷ value ∷ []) pair is =
    let found : List ℕ × List ℕ = (key, value) in
    ap (λ (p : List ℕ × List ℕ). p.0 ∷ p.1 ∷ []) (same_ok found pair is)
pair_of (key ∷ value ∷ other ∷ fs) pair is = cc

read-natural : (o : Option ℕ) (n : ℕ) → ok_or o (BadBinding Malformed) ≡ Ok n → o ≡ Some n
read-natural None n is = cc
read-natural (Some other) n is = ap Some (same_ok other n is)

pub read-binding : (line : List ℕ) (binding : Binding) → binding_row line ≡ Ok binding
    → IsBindingLine line binding
unfolding binding_row
read-binding line binding is =
    let pair = in_steps (two_fields (fields line)) _ binding is in
    let n = in_steps (ok_or (natural pair.0.1) (BadBinding Malformed)) _ binding pair.2 in
    let found = read-key pair.0.0 n.0 binding n.2 in
    let first = ahead_begins line pair.0.0 (pair.0.1 ∷ []) (pair_of (fields line) pair.0 pair.1) in
    let second = ahead_begins first.0 pair.0.1 [] first.2 in
    record {
      key = pair.0.0;
      after_key = first.0;
      digits = pair.0.1;
      after_digits = second.0;
      begins = first.1;
      goes_on = second.1;
      ends = none_ahead_blank second.0 second.2;
      is_key = found.is_key;
      is_number = subst (WritesNatural pair.0.1) found.value
          (written-natural pair.0.1 n.0 (read-natural (natural pair.0.1) n.0 n.1));
      in_range = found.in_range;
    }

-- a line that binds isn't skipped
no_comment : (key rest : List ℕ) (k : Key) → IsKey key k → is_comment (key ++ rest) ≡ false
no_comment key rest k (role_key named) = refl
no_comment key rest k (place_key named) = refl
no_comment key rest k letters_key = refl

no_comment_after : (blanks key rest : List ℕ) (k : Key) → IsKey key k
    → IsTrue (is_all_blank blanks) → is_comment (blanks ++ (key ++ rest)) ≡ false
no_comment_after [] key rest k is blank = no_comment key rest k is
no_comment_after (b ∷ blanks) key rest k is blank =
    let first = (and_parts (is_blank b) (is_all_blank blanks) blank).0 in
    grind (arith, nat_tests, first)

pub binding_unskipped : (line : List ℕ) (binding : Binding) → IsBindingLine line binding
    → is_skipped line ≡ false
unfolding is_skipped
binding_unskipped line binding is =
    let plain : is_comment line ≡ false =
    ap is_comment is.begins.parts
    ∙ no_comment_after is.begins.blanks is.key is.after_key binding.key is.is_key
    is.begins.all_blank in
    let some = nonblank-field line is.key is.after_key is.begins in
    rw (plain, some) refl
