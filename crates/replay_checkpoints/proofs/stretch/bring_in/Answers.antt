use Rattle.std.proofs.Common.{◌≡◌, ◌++◌, length, take, drop, ◌∙◌, arith, rules}
use Rattle.replay_checkpoints.proofs.TurnLemmas.{brought_in, lent_items}
use Rattle.replay_checkpoints.proofs.stretch.bring_in.Goals as goal

pub returns-clause-items : goal.returns-clause-items
returns-clause-items g c =
    let xs = c.args.items.now.items in
    let ms = c.args.middle.now.items in
    let from = c.args.from in
    let joined : c.as_mut_slice.result.now ≡ xs ++ ms = search rules in
    let same_len : length c.turn.new.items ≡ c.append.new.self.len = omega arith in
    let old = c.len-old.ensures in
    let len = c.len-len.ensures in
    let more = c.in-Ok.ensures.len in
    let result : c.turn.new.items ≡ take from xs ++ (ms ++ drop from xs) =
    brought_in xs ms c.turn.new.items from (omega arith)
    (λ a b c' d whole p q r. c.turn.ensures.items a b c' d (joined ∙ whole) p (omega arith)
    (omega arith)) in
    lent_items c.append.new.self.len _ _ same_len ∙ result
