use Rattle.std.proofs.Common.{◌++◌, ap, refl, ◌∙◌}
use Rattle.play_command.specs.declared.views.CoverView.TheVariants.{Known}
use Rattle.check_tables.specs.Marks.{is_marked}
use Rattle.play_cover.specs.Reports.{unshown}
use Rattle.play_cover.proofs.Telling.{told_by_marks}
use Rattle.play_cover.proofs.unshown.ShownThingsPlayNotes.push_report.Goals as goal

pub returns : goal.returns
returns c =
    let args = c.args in
    let noted = args.self.now.marks in
    let cave = args.cave.now in
    let same = c.deref.ensures.value ∙ c.in_ok-ways.ensures in
    let told = c.in_ok-put_unshown.ensures c.in_ok-give_to.ensures.ended in
    λ games marked many. (
      c.in_ok-give_to.ensures.bytes ∙ told.1
          ∙ ap (λ bytes. bytes ++ unshown cave c.deref.result.now (is_marked noted) (is_marked noted))
          c.after-told.ensures.bytes
          ∙ ap (λ ways. args.text.now.items
          ++ unshown cave ways (is_marked noted) (is_marked noted)) same
          ∙ ap (λ report. args.text.now.items ++ report)
          (told_by_marks Known args._known.now args.database.now cave games noted args._logs marked
          many),
      refl,
    )
