-- The ways of one more row.
use Rattle.std.proofs.Common.{◌≡◌, ℕ, ◌+◌, ◌<◌, List, [], ◌∷◌, ◌++◌, length, drop, get_or, take}
use Rattle.std.proofs.Common.{sym}
use Rattle.std.proofs.lemmas.List.{append_assoc, drop_more, take_more}
use Rattle.data_lines.specs.WayLines.{way_lines_at, way_lines_from}
use Rattle.data_lines.specs.declared.by_line.WayLine.{WayLine}
use Rattle.data_lines.specs.declared.mark.MarkedRow.{MarkedRow}

-- the ways of one more row
pub way_lines_more : (so_far : List WayLine) (rows : List MarkedRow) (i : ℕ) (d : MarkedRow)
    → i < length rows
    → so_far ++ way_lines_from (take i rows) (drop i rows)
    ≡ (so_far ++ way_lines_at (take i rows) (get_or rows i d))
    ++ way_lines_from (take (i + 1) rows) (drop (i + 1) rows)
way_lines_more so_far rows i d below =
    rw (drop_more rows i d below, take_more rows i d below)
    (sym (append_assoc so_far (way_lines_at (take i rows) (get_or rows i d))
    (way_lines_from (take i rows ++ get_or rows i d ∷ []) (drop (i + 1) rows))))
