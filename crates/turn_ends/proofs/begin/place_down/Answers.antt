use Rattle.std.proofs.Common.{sym, ap, ◌∙◌, arith}
use Rattle.turn_ends.specs.Placing.{after_placing_all}
use Rattle.turn_ends.proofs.Countdown.{due_none, due_all}
use Rattle.turn_ends.proofs.begin.place_down.Goals as goal

pub loop-i-init : goal.loop-i-init
loop-i-init c =
    ap (λ xs. after_placing_all c.args.cave.now xs c.args.objects.now)
    (sym (due_none c.args.cave.now c.args.twice 101))

pub returns : goal.returns
returns c =
    c.loop-i.invariant
    ∙ ap (λ xs. after_placing_all c.args.cave.now xs c.args.objects.now)
    (due_all c.args.cave.now c.args.twice c.loop-i.i (omega arith))
