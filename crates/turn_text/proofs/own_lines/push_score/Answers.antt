use Rattle.std.proofs.lemmas.Result.{on_ok_weaker}
use Rattle.turn_text.proofs.Joining.{joined}
use Rattle.turn_text.proofs.own_lines.push_score.Goals as goal

pub returns-clause-ok : goal.returns-clause-ok
returns-clause-ok c =
    on_ok_weaker c.push_number-2.result (λ e. joined _ _ _ _ _ c.in_ok-push_number.ensures.ok e)
    c.push_number-2.ensures.ok
