-- The way at an index, in the code, is the way in what the rows say.
use Rattle.std.proofs.Common.{◌≡◌, ℕ, ◌<◌, ◌≤◌, false, List, length, map, take, get_or, refl, sym}
use Rattle.std.proofs.Common.{ap}
use Rattle.std.specs.Prelude.{not}
use Rattle.std.proofs.lemmas.List.{take-map}
use Rattle.std.proofs.lemmas.Option.{slice_get-map, slice_get-get_or, slice_get_past}
use Rattle.data_rows.specs.RowViews.{going}
use Rattle.data_rows.specs.declared.rows.Row.{Row}
use Rattle.check_doubts.specs.Ways.{is_never_taken_at}
use Rattle.check_tables.specs.Reach.{may_be_taken}

pub never_within : (rows : List Row) (index : ℕ) (row : Row) → index < length rows
    → row ≡ get_or rows index row
    → is_never_taken_at index (map going rows)
    ≡ not (may_be_taken (map going (take index rows)) (going row))
never_within rows index row below is =
    rw (
      take-map going index rows,
      slice_get-map going rows index,
      slice_get-get_or rows index row below,
    )
    (ap (λ r. not (may_be_taken (map going (take index rows)) (going r))) (sym is))

pub never_past : (rows : List Row) (index : ℕ) → length rows ≤ index
    → is_never_taken_at index (map going rows) ≡ false
never_past rows index past =
    rw (slice_get-map going rows index, slice_get_past rows index past) refl
