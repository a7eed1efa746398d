-- One step of a walk over rows.
use Rattle.std.proofs.Common.{◌≡◌, ℕ, ◌+◌, ◌<◌, List, [], ◌∷◌, ◌++◌, length, drop, get_or, take}
use Rattle.std.proofs.Common.{sym}
use Rattle.std.proofs.lemmas.List.{append_assoc, drop_more, take_more}
use Rattle.cave_data.specs.CaveView.{CaveView}
use Rattle.check_doubts.specs.Doubts.{doubts_from, doubts_of_row}
use Rattle.check_doubts.specs.declared.flaw.Doubt.{Doubt}
use Rattle.data_lines.specs.declared.mark.MarkedRow.{MarkedRow}

-- the doubts of one more row
pub doubts_more : (cave : CaveView) (so_far : List Doubt) (rows : List MarkedRow) (i : ℕ)
    (d : MarkedRow) → i < length rows
    → so_far ++ doubts_from cave (take i rows) (drop i rows)
    ≡ (so_far ++ doubts_of_row cave (take i rows) (get_or rows i d))
    ++ doubts_from cave (take (i + 1) rows) (drop (i + 1) rows)
doubts_more cave so_far rows i d below =
    rw (drop_more rows i d below, take_more rows i d below)
    (sym (append_assoc so_far (doubts_of_row cave (take i rows) (get_or rows i d))
    (doubts_from cave (take i rows ++ get_or rows i d ∷ []) (drop (i + 1) rows))))
