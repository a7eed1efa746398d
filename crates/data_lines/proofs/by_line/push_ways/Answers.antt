use Rattle.std.proofs.Common.{◌+◌, ◌++◌, drop, take, ap, sym, ◌∙◌, arith}
use Rattle.std.proofs.lemmas.List.{take_more}
use Rattle.data_lines.specs.WayLines.{way_index, way_lines_from}
use Rattle.data_lines.proofs.WayCounts.{counts_fit}
use Rattle.data_lines.proofs.WayLines.{way_lines_more}
use Rattle.data_lines.proofs.by_line.push_ways.Goals as goal

pub push_way-requires : goal.push_way-requires
push_way-requires c =
    counts_fit c.args.rows.now c.loop-row.row-index c.loop-row.counts.items _
    c.loop-row.invariant.1 c.loop-row-test.true (omega arith)

pub loop-row-preserved : goal.loop-row-preserved
loop-row-preserved c =
    let rows = c.args.rows.now in
    let i = c.loop-row.row-index in (
      (ap (λ ways. ways ++ way_lines_from (take (i + 1) rows) (drop (i + 1) rows))
          (c.in_ok-push_way.ensures.ways (take i rows) c.loop-row.invariant.1)
          ∙ sym (way_lines_more c.loop-row.ways.items rows i _ c.loop-row-test.true)
          ∙ c.loop-row.invariant.0),
      (λ place. c.in_ok-push_way.ensures.counts (take i rows) c.loop-row.invariant.1 place
          ∙ ap (way_index place) (sym (take_more rows i _ c.loop-row-test.true))),
    )
