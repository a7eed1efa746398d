-- What the other tables hold is what the rows of a number say.
use Rattle.std.proofs.Common.{◌≡◌, ◌⊎◌, inl, inr, ℕ, ◌+◌, ◌^◌, Bool, true, false, cond, eqb, ◌||◌}
use Rattle.std.proofs.Common.{List, [], ◌∷◌, ◌++◌, length, map, reverse, fold, Option, Some, None}
use Rattle.std.proofs.Common.{option_map, unwrap_or, refl, sym, ap, ◌∙◌, arith}
use Rattle.std.specs.Prelude.{◌==◌, bit_or, filter}
use Rattle.std.specs.List.{find, list_any}
use Rattle.std.specs.Ordering.{nat_cmp, eq_by_cmp}
use Rattle.std.specs.Cmp.{nat_cmp_total}
use Rattle.std.specs.FinMap as fin
use Rattle.std.proofs.lemmas.Bool.{cases_eq, eq-eqb, ne_eqb}
use Rattle.std.proofs.lemmas.List.{append_assoc}
use Rattle.std.proofs.lemmas.Nat.Bits.{bit_at_or, same_from_bits}
use Rattle.data_rows.specs.Rows.{Going}
use Rattle.cave_data.specs.Texts.{nonempty}
use Rattle.cave_data.specs.Tables.{WaysSoFar, with_way, mark_bit}
use Rattle.cave_data.specs.Database.{last_of, goings_from, lists_place, with_bit_of, bits_of}
use Rattle.cave_data.proofs.FoldLemmas.{fold_back, fold-reversed}
use Rattle.cave_data.proofs.SlotChanges.{same_key, other_key}

-- Tables of one value at a number.

module _ {X : Type 0} where
  abbrev pub insert_row : fin.FinMap nat_cmp X → (ℕ × X) → fin.FinMap nat_cmp X
  insert_row m row = fin.insert m row.0 row.1

  row_here : (m : fin.FinMap nat_cmp X) (row : ℕ × X) (rows : List (ℕ × X)) (n : ℕ)
      → fin.get m n ≡ option_map (λ r. r.1) (find (λ r. r.0 == n) rows)
      → (n ≡ row.0) ⊎ (n ≡ row.0 → ⊥)
      → cond (eq_by_cmp nat_cmp n row.0) (Some row.1) (fin.get m n)
      ≡ option_map (λ r. r.1) (cond (eqb row.0 n) (Some row) (find (λ r. r.0 == n) rows))
  row_here m row rows n rest (inl e) =
      ap (λ b. cond b (Some row.1) (fin.get m n)) (same_key n row.0 e)
      ∙ ap (λ b. option_map (λ (r : ℕ × X). r.1) (cond b (Some row) (find (λ r. r.0 == n) rows)))
      (sym (eq-eqb row.0 n (sym e)))
  row_here m row rows n rest (inr ne) =
      ap (λ b. cond b (Some row.1) (fin.get m n)) (other_key n row.0 ne) ∙ rest
      ∙ ap (λ b. option_map (λ (r : ℕ × X). r.1) (cond b (Some row) (find (λ r. r.0 == n) rows)))
      (sym (ne_eqb row.0 n (λ e. ne (sym e))))

  row_more : (rows : List (ℕ × X)) (n : ℕ)
      → fin.get (fold_back insert_row fin.empty rows) n
      ≡ option_map (λ row. row.1) (find (λ row. row.0 == n) rows)
  row_more [] n = fin.get-empty nat_cmp n
  row_more (row ∷ rows) n =
      fin.get-insert nat_cmp_total (fold_back insert_row fin.empty rows) row.0 row.1 n
      ∙ row_here (fold_back insert_row fin.empty rows) row rows n (row_more rows n)
      (cases_eq n row.0)

  pub rows_after : (rows : List (ℕ × X)) (n : ℕ)
      → fin.get (fold insert_row fin.empty rows) n ≡ last_of n rows
  rows_after rows n = ap (λ m. fin.get m n) (fold-reversed insert_row fin.empty rows)
      ∙ row_more (reverse rows) n

-- Ways.

abbrev pub with_way_row : WaysSoFar → (ℕ × Going) → WaysSoFar
with_way_row t row = with_way t row.0 row.1

abbrev after_ways : Option (List Going) → List Going → Option (List Going)
after_ways o [] = o
after_ways o (going ∷ goings) = Some (unwrap_or o [] ++ going ∷ goings)

after_ways-more : (gs : List Going) (going : Going) (goings : List Going)
    → after_ways (Some (gs ++ going ∷ [])) goings ≡ Some (gs ++ going ∷ goings)
after_ways-more gs going [] = refl
after_ways-more gs going (g ∷ goings) = ap Some (append_assoc gs (going ∷ []) (g ∷ goings))

abbrev pub goings_of : ℕ → List (ℕ × Going) → List Going
goings_of place rows = map (λ row. row.1) (filter (λ row. row.0 == place) rows)

way_more : (t : WaysSoFar) (place p : ℕ) (going : Going) (goings : List Going)
    → after_ways (fin.get (with_way t p going).ways place) goings
    ≡ after_ways (fin.get t.ways place) (cond (eqb p place) (going ∷ goings) goings)
unfolding with_way
way_more t place p going goings =
    ap (λ o. after_ways o goings)
    (fin.get-insert nat_cmp_total t.ways p (unwrap_or (fin.get t.ways p) [] ++ going ∷ []) place)
    ∙ at (cases_eq place p) where
      at : (place ≡ p) ⊎ (place ≡ p → ⊥)
          → after_ways
          (cond (eq_by_cmp nat_cmp place p) (Some (unwrap_or (fin.get t.ways p) [] ++ going ∷ []))
          (fin.get t.ways place)) goings
          ≡ after_ways (fin.get t.ways place) (cond (eqb p place) (going ∷ goings) goings)
      at (inl e) =
          ap (λ b.
          after_ways
          (cond b (Some (unwrap_or (fin.get t.ways p) [] ++ going ∷ [])) (fin.get t.ways place))
          goings) (same_key place p e)
          ∙ ap (λ q. after_ways (Some (unwrap_or (fin.get t.ways q) [] ++ going ∷ [])) goings)
          (sym e)
          ∙ after_ways-more (unwrap_or (fin.get t.ways place) []) going goings
          ∙ ap (λ b. after_ways (fin.get t.ways place) (cond b (going ∷ goings) goings))
          (sym (eq-eqb p place (sym e)))
      at (inr ne) =
          ap (λ b.
          after_ways
          (cond b (Some (unwrap_or (fin.get t.ways p) [] ++ going ∷ [])) (fin.get t.ways place))
          goings) (other_key place p ne)
          ∙ ap (λ b. after_ways (fin.get t.ways place) (cond b (going ∷ goings) goings))
          (sym (ne_eqb p place (λ e. ne (sym e))))

goings-cons : (place : ℕ) (row : ℕ × Going) (rows : List (ℕ × Going))
    → goings_of place (row ∷ rows)
    ≡ cond (eqb row.0 place) (row.1 ∷ goings_of place rows) (goings_of place rows)
goings-cons place row rows =
    elim (eqb row.0 place) as
    (λ b. map (λ (r : ℕ × Going). r.1)
    (cond b (row ∷ filter (λ r. r.0 == place) rows) (filter (λ r. r.0 == place) rows))
    ≡ cond b (row.1 ∷ goings_of place rows) (goings_of place rows)) [ true ↦ refl | false ↦ refl ]

ways_from_here : (t : WaysSoFar) (rows : List (ℕ × Going)) (place : ℕ)
    → fin.get (fold with_way_row t rows).ways place
    ≡ after_ways (fin.get t.ways place) (goings_of place rows)
ways_from_here t [] place = refl
ways_from_here t (row ∷ rows) place =
    ways_from_here (with_way_row t row) rows place
    ∙ way_more t place row.0 row.1 (goings_of place rows)
    ∙ ap (after_ways (fin.get t.ways place)) (sym (goings-cons place row rows))

from_none : (goings : List Going) → after_ways None goings ≡ nonempty goings
from_none [] = refl
from_none (going ∷ goings) = refl

pub ways_after : (rows : List (ℕ × Going)) (place : ℕ)
    → fin.get (fold with_way_row (record { ways = fin.empty; count = 0 }) rows).ways place
    ≡ goings_from place rows
ways_after rows place =
    ways_from_here (record { ways = fin.empty; count = 0 }) rows place
    ∙ ap (λ o. after_ways o (goings_of place rows)) (fin.get-empty nat_cmp place)
    ∙ from_none (goings_of place rows)

count_more : (t : WaysSoFar) (row : ℕ × Going) → (with_way_row t row).count ≡ t.count + 1
unfolding with_way
count_more t row = refl

pub count_after : (t : WaysSoFar) (rows : List (ℕ × Going))
    → (fold with_way_row t rows).count ≡ t.count + length rows
count_after t [] = omega arith
count_after t (row ∷ rows) = omega (arith, count_after (with_way_row t row) rows, count_more t row)

-- Bits of places.

abbrev pub with_marks : fin.FinMap nat_cmp ℕ → (ℕ × List ℕ) → fin.FinMap nat_cmp ℕ
with_marks m row = fold (mark_bit row.0) m row.1

or_again : (a b : ℕ) → bit_or (bit_or a b) b ≡ bit_or a b
or_again a b = same_from_bits _ _ (λ i. omega (arith, bit_at_or (bit_or a b) b i, bit_at_or a b i))

abbrev marked : ℕ → Option ℕ → ℕ
marked bit o = bit_or (unwrap_or o 0) (2 ^ bit)

mark_more : (bit : ℕ) (m : fin.FinMap nat_cmp ℕ) (p place : ℕ) (any : Bool)
    → cond any (Some (marked bit (fin.get (mark_bit bit m p) place)))
    (fin.get (mark_bit bit m p) place)
    ≡ cond (eqb p place || any) (Some (marked bit (fin.get m place))) (fin.get m place)
unfolding mark_bit
mark_more bit m p place any =
    ap (λ o. cond any (Some (marked bit o)) o)
    (fin.get-insert nat_cmp_total m p (marked bit (fin.get m p)) place)
    ∙ at (cases_eq place p) where
      twice : (any : Bool)
          → cond any (Some (marked bit (Some (marked bit (fin.get m place)))))
          (Some (marked bit (fin.get m place))) ≡ Some (marked bit (fin.get m place))
      twice true = ap Some (or_again (unwrap_or (fin.get m place) 0) (2 ^ bit))
      twice false = refl

      at : (place ≡ p) ⊎ (place ≡ p → ⊥)
          → cond any
          (Some (marked bit
          (cond (eq_by_cmp nat_cmp place p) (Some (marked bit (fin.get m p))) (fin.get m place))))
          (cond (eq_by_cmp nat_cmp place p) (Some (marked bit (fin.get m p))) (fin.get m place))
          ≡ cond (eqb p place || any) (Some (marked bit (fin.get m place))) (fin.get m place)
      at (inl e) =
          ap (λ b.
          cond any (Some (marked bit (cond b (Some (marked bit (fin.get m p))) (fin.get m place))))
          (cond b (Some (marked bit (fin.get m p))) (fin.get m place))) (same_key place p e)
          ∙ ap (λ q. cond any (Some (marked bit (Some (marked bit (fin.get m q)))))
          (Some (marked bit (fin.get m q)))) (sym e) ∙ twice any
          ∙ ap (λ b. cond (b || any) (Some (marked bit (fin.get m place))) (fin.get m place))
          (sym (eq-eqb p place (sym e)))
      at (inr ne) =
          ap (λ b.
          cond any (Some (marked bit (cond b (Some (marked bit (fin.get m p))) (fin.get m place))))
          (cond b (Some (marked bit (fin.get m p))) (fin.get m place))) (other_key place p ne)
          ∙ ap (λ b. cond (b || any) (Some (marked bit (fin.get m place))) (fin.get m place))
          (sym (ne_eqb p place (λ e. ne (sym e))))

marks_of_row : (bit : ℕ) (places : List ℕ) (m : fin.FinMap nat_cmp ℕ) (place : ℕ)
    → fin.get (fold (mark_bit bit) m places) place
    ≡ cond (list_any (λ p. p == place) places) (Some (marked bit (fin.get m place)))
    (fin.get m place)
marks_of_row bit [] m place = refl
marks_of_row bit (p ∷ places) m place = marks_of_row bit places (mark_bit bit m p) place
    ∙ mark_more bit m p place (list_any (λ q. q == place) places)

abbrev bits_after : Option ℕ → List (ℕ × List ℕ) → Option ℕ
bits_after o [] = o
bits_after o (row ∷ rows) = bits_after (Some (with_bit_of (unwrap_or o 0) row)) rows

bits-cons : (o : Option ℕ) (row : ℕ × List ℕ) (rows : List (ℕ × List ℕ)) (b : Bool)
    → bits_after (cond b (Some (marked row.0 o)) o) rows ≡ bits_after o (cond b (row ∷ rows) rows)
bits-cons o row rows true = refl
bits-cons o row rows false = refl

marks_from_here : (m : fin.FinMap nat_cmp ℕ) (rows : List (ℕ × List ℕ)) (place : ℕ)
    → fin.get (fold with_marks m rows) place
    ≡ bits_after (fin.get m place) (filter (lists_place place) rows)
marks_from_here m [] place = refl
marks_from_here m (row ∷ rows) place =
    marks_from_here (with_marks m row) rows place
    ∙ ap (λ o. bits_after o (filter (lists_place place) rows))
    (marks_of_row row.0 row.1 m place)
    ∙ bits-cons (fin.get m place) row (filter (lists_place place) rows) (lists_place place row)

bits_some : (bits : ℕ) (rows : List (ℕ × List ℕ))
    → bits_after (Some bits) rows ≡ Some (fold with_bit_of bits rows)
bits_some bits [] = refl
bits_some bits (row ∷ rows) = bits_some (with_bit_of bits row) rows

bits_none : (rows : List (ℕ × List ℕ))
    → bits_after None rows ≡ option_map (fold with_bit_of 0) (nonempty rows)
bits_none [] = refl
bits_none (row ∷ rows) = bits_some (with_bit_of 0 row) rows

pub marks_after : (rows : List (ℕ × List ℕ)) (place : ℕ)
    → fin.get (fold with_marks fin.empty rows) place ≡ bits_of place rows
marks_after rows place =
    marks_from_here fin.empty rows place
    ∙ ap (λ o. bits_after o (filter (lists_place place) rows)) (fin.get-empty nat_cmp place)
    ∙ bits_none (filter (lists_place place) rows)
