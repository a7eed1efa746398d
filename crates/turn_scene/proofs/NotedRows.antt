-- The rows of a table that is noted are noted by their numbers, and no others are.
use Rattle.std.proofs.Common.{◌≡◌, ℕ, suc, ◌+◌, ◌-◌, ◌<◌, Bool, true, false, List, [], ◌∷◌, ◌++◌}
use Rattle.std.proofs.Common.{length, refl, ap, ◌∙◌, map, arith, inl, inr}
use Rattle.std.specs.Prelude.{Some, ◌⊎◌, if◌then◌else◌, slice_get}
use Rattle.std.specs.List.{enumerate_from}
use Rattle.std.proofs.lemmas.Bool.{cond-true, cond-false}
use Rattle.turn_scene.specs.RowLaws.{LastRowIsNoted, NoneFits, NotedInOrder, NotesARowOrNone}
use Rattle.turn_scene.specs.RowLaws.{NotesRow, after_trying_all}
use Rattle.turn_scene.specs.Rows.{Act, Deed, Effect, Row, after_trying, act_of_row, fits}
use Rattle.turn_scene.specs.Rows.{first_fitting_or, note_row, noted_from, noted_row, otherwise_row}
use Rattle.turn_scene.specs.Rows.{otherwise_then}
use Rattle.cave_world.specs.declared.tables.Table.{Table}

in_order_from : (C F : Type 0) (table : Table) (n : ℕ) (rows : List (Row C F))
    → noted_from table n rows
    ≡ map (λ numbered. noted_row table numbered.0 numbered.1) (enumerate_from n rows)
in_order_from C F table n [] = refl
in_order_from C F table n (r ∷ rows) =
    ap (λ (others : List (Row C F)). noted_row table n r ∷ others)
    (in_order_from C F table (n + 1) rows)

pub noted_in_order : (C F : Type 0) → NotedInOrder C F
noted_in_order C F table rows = in_order_from C F table 1 rows

-- a row is noted if this many come before it in the table
record NotesFrom {C F : Type 0} (table : Table) (n : ℕ) (rows : List (Row C F)) (act : Act F)
    : Type 0 where
  before : ℕ
  row : Row C F
  tried : Deed C
  within : before < length rows
  is_row : slice_get rows before ≡ Some row
  does : act ≡ act_of_row row (note_row table (n + before) tried)

from : (C F : Type 0) (table : Table) (n : ℕ) (rows : List (Row C F)) (otherwise : Deed C → Act F)
    (d : Deed C)
    → (NoneFits rows d
    × (first_fitting_or (noted_from table n rows) otherwise d ≡ otherwise (after_trying_all rows d)))
    ⊎ NotesFrom table n rows (first_fitting_or (noted_from table n rows) otherwise d)
from C F table n [] otherwise d = inl (tt, refl)
from C F table n (r ∷ rows) otherwise d =
    by_fit (from C F table (n + 1) rows otherwise (after_trying r d)) (fits r d) refl
  where
    others : Act F
    others = first_fitting_or (noted_from table (n + 1) rows) otherwise (after_trying r d)

    this : Act F
    this = act_of_row (noted_row table n r) (after_trying r d)

    by_fit : (NoneFits rows (after_trying r d)
        × (others ≡ otherwise (after_trying_all rows (after_trying r d))))
        ⊎ NotesFrom table (n + 1) rows others → (b : Bool) → fits r d ≡ b
        → (NoneFits (r ∷ rows) d × (first_fitting_or (noted_from table n (r ∷ rows)) otherwise d
        ≡ otherwise (after_trying_all (r ∷ rows) d)))
        ⊎ NotesFrom table n (r ∷ rows) (first_fitting_or (noted_from table n (r ∷ rows)) otherwise d)
    by_fit later true fit = inr (record {
      before = 0;
      row = r;
      tried = after_trying r d;
      within = omega arith;
      is_row = refl;
      does = cond-true (fits r d) this others fit
          ∙ ap (λ (k : ℕ). act_of_row r (note_row table k (after_trying r d)))
          (let same : n ≡ n + 0 = omega arith in same);
    })
    by_fit later false fit = elim later as (λ _.
        (NoneFits (r ∷ rows) d × (first_fitting_or (noted_from table n (r ∷ rows)) otherwise d
        ≡ otherwise (after_trying_all (r ∷ rows) d)))
        ⊎ NotesFrom table n (r ∷ rows)
        (first_fitting_or (noted_from table n (r ∷ rows)) otherwise d)) [
          | inl none ↦ inl ((fit, none.0), cond-false (fits r d) this others fit ∙ none.1)
          | inr one ↦ inr (record {
            before = suc one.before;
            row = one.row;
            tried = one.tried;
            within = (let below : one.before < length rows = one.within in omega arith);
            is_row = one.is_row;
            does = cond-false (fits r d) this others fit ∙ one.does
                ∙ ap (λ (k : ℕ). act_of_row one.row (note_row table k one.tried))
                (let same : n + 1 + one.before ≡ n + suc one.before = omega arith in same);
          })
        ]

pub a_row_or_none_is_noted : (C F : Type 0) → NotesARowOrNone C F
a_row_or_none_is_noted C F table rows otherwise d =
    elim (from C F table 1 rows otherwise d) as (λ _. (NoneFits rows d
    × (first_fitting_or (noted_from table 1 rows) otherwise d ≡ otherwise (after_trying_all rows d)))
    ⊎ NotesRow table rows (first_fitting_or (noted_from table 1 rows) otherwise d)) [
      | inl none ↦ inl none
      | inr one ↦ inr (record {
        number = suc one.before;
        row = one.row;
        tried = one.tried;
        from_1 = omega arith;
        to_count = (let below : one.before < length rows = one.within in omega arith);
        is_row = (let same : suc one.before - 1 ≡ one.before = omega arith in
            ap (λ (k : ℕ). slice_get rows k) same ∙ one.is_row);
        does = one.does
            ∙ ap (λ (k : ℕ). act_of_row one.row (note_row table k one.tried))
            (let same : 1 + one.before ≡ suc one.before = omega arith in same);
      })
    ]

last_from : (C F : Type 0) (table : Table) (n k : ℕ) (rows : List (Row C F))
    (effects : List (Effect C)) (end : Deed C → F) (or_else : Deed C → Act F) (d : Deed C)
    → k ≡ n + length rows
    → first_fitting_or (noted_from table n rows)
    (act_of_row (noted_row table k (otherwise_row effects end))) d
    ≡ first_fitting_or (noted_from table n (rows ++ otherwise_then effects end)) or_else d
last_from C F table n k [] effects end or_else d is =
    ap (λ (m : ℕ). act_of_row (noted_row table m (otherwise_row effects end)) d)
    (let same : k ≡ n = omega arith in same)
last_from C F table n k (r ∷ rows) effects end or_else d is =
    ap (λ (act : Act F).
    if fits r d then act_of_row (noted_row table n r) (after_trying r d) else act)
    (last_from C F table (n + 1) k rows effects end or_else (after_trying r d) (omega arith))

pub last_row_is_noted : (C F : Type 0) → LastRowIsNoted C F
last_row_is_noted C F table rows effects end or_else d =
    last_from C F table 1 (length rows + 1) rows effects end or_else d (omega arith)
