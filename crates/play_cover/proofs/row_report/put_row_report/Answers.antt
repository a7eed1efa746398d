use Rattle.std.proofs.Common.{◌++◌, ap, append_assoc, length, ◌∙◌}
use Rattle.play_cover.specs.Coverage.{groups_text, unmet_entries}
use Rattle.check_tables.specs.Marks.{is_marked}
use Rattle.play_cover.specs.Reports.{none_shown, row_report, row_sums, unshown}
use Rattle.play_cover.specs.RowMarks.{rule_rows}
use Rattle.play_cover.specs.TravelRows.{travel_text}
use Rattle.play_cover.specs.declared.coverage.Detail.TheVariants.{Both}
use Rattle.play_cover.proofs.row_report.put_row_report.Goals as goal

pub returns-clause-told : goal.returns-clause-told
unfolding row_report
returns-clause-told c = λ enough.
    let noted = is_marked c.args.noted.now in
    let cave = c.args.of.now.cave.now in
    let known = c.args.known.now in
    let ways = c.args.of.now.ways.now in
    let old = c.args.text.now.bytes.items in
    let unmet = unmet_entries known (unshown cave ways none_shown noted) in
    let tables = groups_text rule_rows noted known Both in
    let travel = travel_text noted cave known ways in
    let rows = c.in_ok-rows.ensures in
    let sums = c.put_row_sums.ensures enough in
    let left = c.in_ok-left.ensures.told sums.0 in
    let told = rows.told left.0 in
    let first = c.in_ok-put_unmet_rows.ensures told.0 in
    let before = left.1 ∙ ap (λ t. t ++ travel) (told.1 ∙ ap (λ t. t ++ tables) first.1) in (
      first.0,
      sums.1
          ∙ (λ i. before i ++ row_sums (rows.covered i) (rows.present i)
          (c.count_noted_ways-taken.ensures i) (length ways) c.args.logs)
          ∙ append_assoc ((old ++ unmet) ++ tables) travel _
          ∙ append_assoc (old ++ unmet) tables _ ∙ append_assoc old unmet _,
    )
