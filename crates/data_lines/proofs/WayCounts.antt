-- No more ways are counted than there were rows.
use Rattle.std.proofs.Common.{◌≡◌, ℕ, ◌+◌, ◌<◌, ◌≤◌, List, length, take, subst, sym, arith}
use Rattle.std.proofs.lemmas.List.{length-take-le}
use Rattle.std.proofs.lemmas.List.Sums.{count_by-le-length, length-filter}
use Rattle.data_lines.specs.Marks.{is_way_from}
use Rattle.data_lines.specs.WayLines.{AreCounts, count_of, way_index}
use Rattle.data_lines.specs.declared.mark.MarkedRow.{MarkedRow}

way_index-le : (place : ℕ) (rows : List MarkedRow) → way_index place rows ≤ length rows
way_index-le place rows =
    subst (λ n. n ≤ length rows) (sym (length-filter (is_way_from place) rows))
    (count_by-le-length (is_way_from place) rows)

pub counts_fit : (rows : List MarkedRow) (i : ℕ) (counts : List ℕ) (bound : ℕ)
    → AreCounts (take i rows) counts → i < length rows → length rows < bound
    → (place : ℕ) → count_of counts place + 1 < bound
counts_fit rows i counts bound counted below fits place =
    let few : count_of counts place ≤ length (take i rows) =
    subst (λ n. n ≤ length (take i rows)) (sym (counted place))
    (way_index-le place (take i rows)) in
    let short : length (take i rows) ≡ i = length-take-le i rows (omega arith) in
    omega arith
