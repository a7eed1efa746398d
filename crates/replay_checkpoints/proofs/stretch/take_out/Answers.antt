use Rattle.std.proofs.Common.{◌≡◌, ◌-◌, length, take, ap, ◌∙◌, arith}
use Rattle.replay_checkpoints.proofs.TurnLemmas.{taken_out, lent_items}
use Rattle.replay_checkpoints.proofs.stretch.take_out.Goals as goal

pub returns-clause-items : goal.returns-clause-items
returns-clause-items g c =
    let xs = c.args.items.now.items in
    let count : c.len-len.result ≡ length xs = omega arith in
    let same_len : length c.turn.new.items ≡ c.args.items.now.len = omega arith in
    c.truncate.ensures.items
    ∙ ap (take (c.len-len.result - (c.args.to - c.args.from)))
    (lent_items c.args.items.now.len c.turn.new.items _ same_len)
    ∙ ap (λ k. take (k - (c.args.to - c.args.from)) c.turn.new.items) count
    ∙ taken_out xs c.turn.new.items c.args.from c.args.to c.requires.ordered (omega arith)
    (λ a b c' d whole p q r. c.turn.ensures.items a b c' d
    (c.as_mut_slice.ensures.value ∙ whole) p q (omega arith))
