-- A way that doubts call never taken is tried by no motion.
use Rattle.std.proofs.Common.{◌≡◌, ℕ, List, Bool, true, false, refl, Option, None, Some, take}
use Rattle.std.specs.Prelude.{not}
use Rattle.std.specs.List.{slice_get}
use Rattle.std.proofs.lemmas.Bool.{false≢true}
use Rattle.cave_data.specs.CaveView.{ways_from}
use Rattle.data_lines.specs.WayLines.{way_index}
use Rattle.data_rows.specs.Rows.{Going}
use Rattle.check_tables.specs.Reach.{may_be_taken}
use Rattle.check_tables.proofs.Journeys.{tried_may_be_taken}
use Rattle.check_doubts.specs.Ways.{is_never_taken_after}
use Rattle.play_laws.specs.NeverTaken.{NeverTakenIsNeverTried}

not_both : (b : Bool) → not b ≡ true → b ≡ true → ⊥
not_both true h is = false≢true h
not_both false h is = false≢true is

pub never_tried : NeverTakenIsNeverTried
never_tried cave place before never emerald motion s (applies, tries_it) =
    found (slice_get ways index) refl never
  where
    ways : List Going
    ways = ways_from cave place

    index : ℕ
    index = way_index place before

    found : (way : Option Going) → slice_get ways index ≡ way
        → is_never_taken_after (take index ways) way ≡ true → ⊥
    found None is never = false≢true never
    found (Some way) is never =
        not_both (may_be_taken (take index ways) way) never
        (tried_may_be_taken cave emerald motion s place index applies way tries_it is)
