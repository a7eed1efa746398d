use Rattle.std.proofs.lemmas.Result.{on_ok_weaker}
use Rattle.check_tables.proofs.Padding.{noted_at}
use Rattle.check_tables.proofs.marks.MarkSet.note.Goals as goal

pub returns : goal.returns
returns c =
    on_ok_weaker c.mark_number.result
    (noted_at c.self.inside.groups.items c.mark_number.new.group c.index_mut.result.now
    c.args.self.now _ c.args.mark c.self.view_is c.in_ok-open_group.ensures.room
    c.in_ok-open_group.ensures.kept c.index_mut.ensures.value) c.mark_number.ensures
