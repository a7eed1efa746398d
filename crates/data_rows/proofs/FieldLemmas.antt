-- The first field of a line and the fields of the rest.
use Rattle.std.proofs.Common.{◌≡◌, ℕ, ◌<◌, ◌≤◌, Bool, suc, true, false, cond, not, ◌==◌, List, []}
use Rattle.std.proofs.Common.{◌∷◌, length, refl, sym, ap, subst, ◌∙◌, arith}
use Rattle.std.specs.List.{onto_first}
use Rattle.std.proofs.lemmas.Bool.{false≢true, eqb-true}
use Rattle.base_lines.specs.Bytes.{is_blank, is_nonblank, prefix_while, after_prefix}
use Rattle.data_rows.specs.Fields.{after_blanks, field, after_field, fields}
use Rattle.data_rows.specs.RowParts.{ends_field}

pub blank_ahead : (b : ℕ) (bs : List ℕ) → is_blank b ≡ true
    → after_blanks (b ∷ bs) ≡ after_blanks bs
blank_ahead b bs e = ap (λ v. cond v (after_prefix is_blank bs) (b ∷ bs)) e

pub none_ahead : (b : ℕ) (bs : List ℕ) → is_blank b ≡ false → after_blanks (b ∷ bs) ≡ b ∷ bs
none_ahead b bs e = ap (λ v. cond v (after_prefix is_blank bs) (b ∷ bs)) e

pub field-cons : (b : ℕ) (bs : List ℕ) → is_blank b ≡ false → field (b ∷ bs) ≡ b ∷ field bs
field-cons b bs e = ap (λ v. cond (not v) (b ∷ prefix_while is_nonblank bs) []) e

after_field-cons : (b : ℕ) (bs : List ℕ) → is_blank b ≡ false
    → after_field (b ∷ bs) ≡ after_field bs
after_field-cons b bs e = ap (λ v. cond (not v) (after_prefix is_nonblank bs) (b ∷ bs)) e

pub field-blank : (b : ℕ) (bs : List ℕ) → is_blank b ≡ true → field (b ∷ bs) ≡ []
field-blank b bs e = ap (λ v. cond (not v) (b ∷ prefix_while is_nonblank bs) []) e

pub after_field-blank : (b : ℕ) (bs : List ℕ) → is_blank b ≡ true → after_field (b ∷ bs) ≡ b ∷ bs
after_field-blank b bs e = ap (λ v. cond (not v) (after_prefix is_nonblank bs) (b ∷ bs)) e

after_blanks-nil : after_blanks [] ≡ []
after_blanks-nil = refl

field-nil : field [] ≡ []
field-nil = refl

after_field-nil : after_field [] ≡ []
after_field-nil = refl

-- a leading nonblank begins the first field
fields_nonblank : (b : ℕ) (bs : List ℕ) → is_blank b ≡ false
    → fields (b ∷ bs) ≡ field (b ∷ bs) ∷ fields (after_field (b ∷ bs))
fields_nonblank b [] e =
    ap (λ v. cond v [] ((b ∷ []) ∷ [])) e
    ∙ sym (ap (λ f. f ∷ fields (after_field (b ∷ [])))
    (field-cons b [] e ∙ ap (λ f. b ∷ f) field-nil)
    ∙ ap (λ a. (b ∷ []) ∷ fields a) (after_field-cons b [] e ∙ after_field-nil))
fields_nonblank b (d ∷ bs) e =
    ap (λ v.
    cond v (fields (d ∷ bs))
    (cond (is_blank d) ((b ∷ []) ∷ fields (d ∷ bs)) (onto_first b (fields (d ∷ bs))))) e
    ∙ (elim (is_blank d) as (λ v. is_blank d ≡ v
    → cond v ((b ∷ []) ∷ fields (d ∷ bs)) (onto_first b (fields (d ∷ bs)))
    ≡ (b ∷ field (d ∷ bs)) ∷ fields (after_field (d ∷ bs))) [
      | true ↦ λ h. sym (ap (λ f. (b ∷ f) ∷ fields (after_field (d ∷ bs))) (field-blank d bs h)
          ∙ ap (λ a. (b ∷ []) ∷ fields a) (after_field-blank d bs h))
      | false ↦ λ h. ap (onto_first b) (fields_nonblank d bs h)
    ] refl)
    ∙ sym (ap (λ f. f ∷ fields (after_field (b ∷ d ∷ bs))) (field-cons b (d ∷ bs) e)
    ∙ ap (λ a. (b ∷ field (d ∷ bs)) ∷ fields a) (after_field-cons b (d ∷ bs) e))

-- the text before and after a line's leading blanks, in one step of an induction
abbrev Split : List ℕ → List ℕ → Type 0
Split bs after = (length after == 0) ≡ false
    → (fields bs ≡ field after ∷ fields (after_field after))
    × (length (after_field after) < length bs)

shorter_or_same : (passes : Bool) (b : ℕ) (bs rest : List ℕ) → length rest ≤ length bs
    → length (cond passes rest (b ∷ bs)) ≤ length (b ∷ bs)
shorter_or_same true b bs rest h = omega arith
shorter_or_same false b bs rest h = omega arith

after_prefix_within : (test : ℕ → Bool) (bs : List ℕ)
    → length (after_prefix test bs) ≤ length bs
after_prefix_within test [] = omega arith
after_prefix_within test (b ∷ bs) =
    shorter_or_same (test b) b bs (after_prefix test bs) (after_prefix_within test bs)

after_field_shorter : (b : ℕ) (bs : List ℕ) → is_blank b ≡ false
    → length (after_field (b ∷ bs)) < length (b ∷ bs)
after_field_shorter b bs e =
    subst (λ (rest : List ℕ). length rest < length (b ∷ bs)) (sym (after_field-cons b bs e))
    (omega (arith, after_prefix_within is_nonblank bs))

split_blanks : (bs : List ℕ) → Split bs (after_blanks bs)
split_blanks [] h =
    absurd (false≢true (sym h ∙ ap (λ (a : List ℕ). length a == 0) after_blanks-nil))
split_blanks (b ∷ bs) h =
    elim (is_blank b) as (λ v. is_blank b ≡ v
    → (fields (b ∷ bs) ≡ field (after_blanks (b ∷ bs))
    ∷ fields (after_field (after_blanks (b ∷ bs))))
    × (length (after_field (after_blanks (b ∷ bs))) < length (b ∷ bs))) [
      | true ↦ λ e.
          let rest =
          split_blanks bs (ap (λ (a : List ℕ). length a == 0) (sym (blank_ahead b bs e)) ∙ h) in (
            ap (λ v.
                cond v (fields bs)
                (cond (ends_field bs) ((b ∷ []) ∷ fields bs) (onto_first b (fields bs)))) e ∙ rest.0
                ∙ ap (λ a. field a ∷ fields (after_field a)) (sym (blank_ahead b bs e)),
            subst (λ (a : List ℕ). length (after_field a) < length (b ∷ bs))
                (sym (blank_ahead b bs e)) (omega (arith, rest.1)),
          )
      | false ↦ λ e. (
        fields_nonblank b bs e
            ∙ ap (λ a. field a ∷ fields (after_field a)) (sym (none_ahead b bs e)),
        subst (λ (a : List ℕ). length (after_field a) < length (b ∷ bs)) (sym (none_ahead b bs e))
            (after_field_shorter b bs e),
      )
    ] refl

-- leading blanks make no field
fields-after_blanks : (bs : List ℕ) → fields (after_blanks bs) ≡ fields bs
fields-after_blanks [] = ap fields after_blanks-nil
fields-after_blanks (b ∷ bs) =
    elim (is_blank b) as (λ v. is_blank b ≡ v → fields (after_blanks (b ∷ bs)) ≡ fields (b ∷ bs)) [
      | true ↦ λ e. ap fields (blank_ahead b bs e) ∙ fields-after_blanks bs
          ∙ sym (ap
          (λ v. cond v (fields bs)
          (cond (ends_field bs) ((b ∷ []) ∷ fields bs) (onto_first b (fields bs)))) e)
      | false ↦ λ e. ap fields (none_ahead b bs e)
    ] refl

empty : (xs : List ℕ) → (length xs == 0) ≡ true → xs ≡ []
empty [] e = refl
empty (x ∷ xs) e = let n : suc (length xs) ≡ 0 = eqb-true _ _ e in absurd (omega arith)

pub fields_none : (bs after : List ℕ) → after ≡ after_blanks bs → (length after == 0) ≡ true
    → fields bs ≡ []
fields_none bs after e h = sym (fields-after_blanks bs) ∙ ap fields (sym e ∙ empty after h)

pub fields_first : (bs after : List ℕ) → after ≡ after_blanks bs → (length after == 0) ≡ false
    → fields bs ≡ field after ∷ fields (after_field after)
fields_first bs after e h = (subst (Split bs) (sym e) (split_blanks bs) h).0

pub first_shorter : (bs after : List ℕ) → after ≡ after_blanks bs → (length after == 0) ≡ false
    → length (after_field after) < length bs
first_shorter bs after e h = (subst (Split bs) (sym e) (split_blanks bs) h).1

pub ruleset fields_of_first = (fields_none, fields_first, first_shorter)
