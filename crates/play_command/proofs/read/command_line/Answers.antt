use Rattle.std.proofs.Common.{inl, inr, map, subst}
use Rattle.std.proofs.lemmas.Result.{err_from_is_err_and}
use Rattle.play_command.specs.Line.{IsRunAnswer, MetCommand}
use Rattle.play_command.proofs.Cave.{IsParse, parse_is, some_names}
use Rattle.play_command.proofs.read.command_line.Goals as goal

pub returns-in_err-command : goal.returns-in_err-command
returns-in_err-command g c =
    let exit = err_from_is_err_and c.from_residual.result c.from_residual.ensures.1 in
    rw (exit.1, exit.2) (some_names, inl tt)

pub returns-in-Ok : goal.returns-in-Ok
returns-in-Ok g c =
    let words = map g.S.AsStr.text c.args.words.now in
    let answer = c.try_get_matches_from in
    let is =
    subst (IsParse words) c.in-Ok.is
    (parse_is c.in_ok-command.command words answer.result c.in_ok-command.ensures
    answer.ensures.matches answer.ensures.kinds) in (
      is.0,
      inr (
        is.1.0,
        subst (λ (met : MetCommand). IsRunAnswer met c.answer_met.result) is.1.1
            c.answer_met.ensures,
      ),
    )

pub returns-in-Err : goal.returns-in-Err
returns-in-Err g c =
    let words = map g.S.AsStr.text c.args.words.now in
    let answer = c.try_get_matches_from in
    let is =
    subst (IsParse words) c.in-Err.is
    (parse_is c.in_ok-command.command words answer.result c.in_ok-command.ensures
    answer.ensures.matches answer.ensures.kinds) in
    (is.0, inl (c.answer_to.ensures _ is.1))
