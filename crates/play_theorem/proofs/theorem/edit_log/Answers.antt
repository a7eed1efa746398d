use Rattle.std.proofs.Common.{refl}
use Rattle.cave_play.specs.Stages.{edit_stages}
use Rattle.play_command.specs.declared.line.Editing.{Editing}
use Rattle.play_command.specs.declared.views.EditView.{EditView}
use Rattle.play_theorem.proofs.AsPlayed.{nothing_else_written, run_as_played}
use Rattle.play_theorem.proofs.theorem.edit_log.Goals as goal

pub returns : goal.returns
returns g c =
    let (texts, are, leaves) = c.run_edit.ensures.runs in
    let (made, judged, writes) = leaves in
    let editing : Editing = record c.args.editing { view = EditView.Transcript } in
    let stages = edit_stages texts.database texts.bindings texts.log texts.script editing in record {
      edited = (
        texts,
        are,
        run_as_played texts.database texts.bindings texts.log texts.script editing stages _ _ made
            c.run_edit.result refl judged writes,
      );
      failed = nothing_else_written _ _ made c.run_edit.result writes;
    }
