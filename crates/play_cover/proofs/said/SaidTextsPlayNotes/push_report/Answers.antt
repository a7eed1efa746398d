use Rattle.std.proofs.Common.{◌++◌, ap, ◌∙◌}
use Rattle.play_command.specs.declared.views.CoverView.TheVariants.{Said}
use Rattle.check_tables.specs.Marks.{is_marked}
use Rattle.play_cover.specs.Reports.{text_report, texts_left}
use Rattle.play_cover.proofs.Telling.{left_by_marks, told_by_marks}
use Rattle.play_cover.proofs.said.SaidTextsPlayNotes.push_report.Goals as goal

pub returns : goal.returns
returns c =
    let args = c.args in
    let asked = args.asked.now in
    let noted = args.self.now.marks in
    let cave = args.cave.now in
    let database = args.database.now in
    let same = c.deref.ensures.value ∙ c.in_ok-ways.ensures in
    let told = c.in_ok-left.ensures.told c.in_ok-give_to.ensures.ended in
    λ games marked many. (
      c.in_ok-give_to.ensures.bytes ∙ told.1
          ∙ ap (λ bytes. bytes ++ text_report c.of-texts.result (is_marked noted) asked.known
          asked.view c.deref.result.now args.logs) c.after-told.ensures.bytes
          ∙ (λ i. args.text.now.items
          ++ text_report (c.of-texts.ensures i) (is_marked noted) asked.known asked.view (same i)
          args.logs)
          ∙ ap (λ report. args.text.now.items ++ report)
          (told_by_marks (Said asked.view) asked.known database cave games noted args.logs marked
          many),
      c.in_ok-left.ensures.left
          ∙ ap (λ cave. texts_left cave (is_marked noted) asked.known) c.of-texts.ensures
          ∙ left_by_marks (Said asked.view) asked.known database cave games noted marked,
    )
