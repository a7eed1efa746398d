use Rattle.std.proofs.Common.{ap, refl, ◌∙◌}
use Rattle.std.proofs.lemmas.Result.{err_from_is_err_and}
use Rattle.std.specs.Result.{result_from_control_flow}
use Rattle.std.specs.Str.Lines.{lines}
use Rattle.cave_play.specs.Stages.{lines_fault, judging_stage}
use Rattle.cave_play.proofs.JudgeLemmas.{lines_fault-opened, IsFoundIn-opened}
use Rattle.cave_play.proofs.StageLemmas.{first_decided-one}
use Rattle.cave_play.proofs.two_logs.log_lines.Goals as goal

pub returns-in_err-lines : goal.returns-in_err-lines
returns-in_err-lines c =
    let exit = err_from_is_err_and c.from_residual.result c.from_residual.ensures.1 in
    let is = c.branch-lines.ensures ∙ ap result_from_control_flow c.in_err-lines.is in
    rw (exit.1, exit.2)
    (record {
      judged =
          IsFoundIn-opened 50 (lines c.args.log.now) 0 _ _ refl refl is
          c.read_lines.ensures.faults;
    })

pub returns : goal.returns
returns c =
    let log = lines c.args.log.now in
    let is = c.branch-lines.ensures ∙ ap result_from_control_flow c.in_ok-lines.is in
    let none = lines_fault-opened 50 log 0 _ _ refl is c.read_lines.ensures.faults in
    record {
      judged = (
        first_decided-one (judging_stage (lines_fault log)) none,
        c.in_ok-lines.ensures.lines,
      );
    }
