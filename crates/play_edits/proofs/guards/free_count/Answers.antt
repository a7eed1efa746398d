use Rattle.std.proofs.Common.{sym}
use Rattle.std.proofs.lemmas.List.{length-map}
use Rattle.replay_edits.specs.Edit.{change_of, changes_of}
use Rattle.play_edits.proofs.GuardLemmas.{free_count-all, free_count-some}
use Rattle.play_edits.proofs.guards.free_count.Goals as goal

pub returns-in-Ok : goal.returns-in-Ok
returns-in-Ok c =
    λ log counted.
    let edits = c.args.edits.now in
    let plan = c.in-Ok.ensures log counted in
    free_count-all (changes_of edits) log _ (sym (length-map edits change_of)) plan.free

pub returns-in-Err : goal.returns-in-Err
returns-in-Err c =
    λ log counted.
    free_count-some (changes_of c.args.edits.now) log c.in-Err.fault (c.in-Err.ensures log counted)
