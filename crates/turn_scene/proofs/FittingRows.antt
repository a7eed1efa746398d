-- Rows are looked through from the first on, up to one that fits, and draws come last.
use Rattle.std.proofs.Common.{◌≡◌, ℕ, suc, ◌+◌, Bool, true, false, List, [], ◌∷◌, ◌++◌, length}
use Rattle.std.proofs.Common.{refl, ap, ◌∙◌, arith}
use Rattle.std.specs.Prelude.{◌&&◌, Option, Some, None}
use Rattle.std.proofs.lemmas.Bool.{cond-true, cond-false}
use Rattle.turn_scene.specs.RowLaws.{FirstFittingApplies, NoneFittingDoesNothing, DrawsComeLast}
use Rattle.turn_scene.specs.RowLaws.{NoneFits, NotedByNumber, after_trying_all}
use Rattle.turn_scene.specs.Rows.{Test, all_hold, fits_by, fits, after_drawing, after_trying_by}
use Rattle.turn_scene.specs.Rows.{Act, Deed, Row, after_trying, act_of_row, first_fitting_or}
use Rattle.turn_scene.specs.Rows.{note_row, noted_row, noted_from}
use Rattle.cave_world.specs.declared.tables.Table.{Table}

pub first_fitting_applies : (C F : Type 0) → FirstFittingApplies C F
first_fitting_applies C F [] after r otherwise d none fit =
    cond-true (fits r d) (act_of_row r (after_trying r d))
    (first_fitting_or after otherwise (after_trying r d)) fit
first_fitting_applies C F (other ∷ before) after r otherwise d none fit =
    cond-false (fits other d) (act_of_row other (after_trying other d))
    (first_fitting_or (before ++ r ∷ after) otherwise (after_trying other d)) none.0
    ∙ first_fitting_applies C F before after r otherwise (after_trying other d) none.1 fit

noted_from_number : (C F : Type 0) (table : Table) (n : ℕ) (before after : List (Row C F))
    (r : Row C F) (otherwise : Deed C → Act F) (d : Deed C) → NoneFits before d
    → fits r (after_trying_all before d) ≡ true
    → first_fitting_or (noted_from table n (before ++ r ∷ after)) otherwise d
    ≡ act_of_row r (note_row table (n + length before)
    (after_trying r (after_trying_all before d)))
noted_from_number C F table n [] after r otherwise d none fit =
    cond-true (fits r d) (act_of_row (noted_row table n r) (after_trying r d))
    (first_fitting_or (noted_from table (n + 1) after) otherwise (after_trying r d)) fit
    ∙ ap (λ (k : ℕ). act_of_row r (note_row table k (after_trying r d)))
    (let same : n ≡ n + 0 = omega arith in same)
noted_from_number C F table n (other ∷ before) after r otherwise d none fit =
    cond-false (fits other d) (act_of_row (noted_row table n other) (after_trying other d))
    (first_fitting_or (noted_from table (n + 1) (before ++ r ∷ after)) otherwise
    (after_trying other d)) none.0
    ∙ noted_from_number C F table (n + 1) before after r otherwise (after_trying other d) none.1
    fit
    ∙ ap (λ (k : ℕ). act_of_row r (note_row table k
    (after_trying r (after_trying_all (other ∷ before) d))))
    (let same : n + 1 + length before ≡ n + suc (length before) = omega arith in same)

pub noted_by_number : (C F : Type 0) → NotedByNumber C F
noted_by_number C F table before after r otherwise d none fit =
    noted_from_number C F table 1 before after r otherwise d none fit

pub none_fitting_does_nothing : (C F : Type 0) → NoneFittingDoesNothing C F
none_fitting_does_nothing C F [] otherwise d none = refl
none_fitting_does_nothing C F (r ∷ rows) otherwise d none =
    cond-false (fits r d) (act_of_row r (after_trying r d))
    (first_fitting_or rows otherwise (after_trying r d)) none.0
    ∙ none_fitting_does_nothing C F rows otherwise (after_trying r d) none.1

pub draws_come_last : (C F : Type 0) → DrawsComeLast C F
draws_come_last C F r d fails = by_draw r.tests r.draw fails
  where
    by_draw : (tests : List (Test C)) (draw : Option (Test C)) → all_hold tests d ≡ false
        → (fits_by tests draw d ≡ false) × (after_trying_by tests draw d ≡ d)
    by_draw tests None failed = (failed, refl)
    by_draw tests (Some draw) failed = (
      ap (λ (b : Bool). b && draw d) failed,
      cond-false (all_hold tests d) (after_drawing d) d failed,
    )
