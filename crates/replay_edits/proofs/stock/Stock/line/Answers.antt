use Rattle.std.proofs.Common.{sym, ap, ◌∙◌, arith}
use Rattle.replay_edits.specs.Edit.{own_line, change_of}
use Rattle.replay_edits.proofs.OutcomeLemmas.{line_of-own}
use Rattle.replay_edits.proofs.stock.Stock.line.Goals as goal

pub returns : goal.returns
returns c =
    let item = c.index-self-number in
    c.own_line.ensures ∙ sym (ap (λ x. own_line (change_of x)) item.is)
    ∙ sym (line_of-own c.args.self.now c.args.number _ item.result (omega arith) (omega arith)
    item.is)
