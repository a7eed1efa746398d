use Rattle.std.proofs.Common.{◌++◌, ap, ◌∙◌}
use Rattle.play_command.specs.declared.views.CoverView.TheVariants.{Rules}
use Rattle.check_tables.specs.Marks.{is_marked}
use Rattle.play_cover.specs.Reports.{row_report, rows_left}
use Rattle.play_cover.proofs.Telling.{left_by_marks, told_by_marks}
use Rattle.play_cover.proofs.rule_notes.RuleNotesPlayNotes.push_report.Goals as goal

pub returns : goal.returns
returns c =
    let args = c.args in
    let known = args.known.now in
    let noted = args.self.now.marks in
    let cave = args.cave.now in
    let same = c.deref.ensures.value ∙ c.in_ok-ways.ensures in
    let told = c.in_ok-left.ensures.told c.in_ok-give_to.ensures.ended in
    λ games marked many. (
      c.in_ok-give_to.ensures.bytes ∙ told.1
          ∙ ap (λ bytes. bytes
          ++ row_report (is_marked noted) cave known c.deref.result.now args.logs)
          c.after-told.ensures.bytes
          ∙ ap (λ ways. args.text.now.items
          ++ row_report (is_marked noted) cave known ways args.logs) same
          ∙ ap (λ report. args.text.now.items ++ report)
          (told_by_marks Rules known args.database.now cave games noted args.logs marked many),
      c.in_ok-left.ensures.left
          ∙ ap (λ ways. rows_left (is_marked noted) cave known ways) same
          ∙ left_by_marks Rules known args.database.now cave games noted marked,
    )
