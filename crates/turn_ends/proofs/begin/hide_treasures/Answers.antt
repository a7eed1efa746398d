use Rattle.std.proofs.Common.{length, sym, ap, ◌∙◌, arith}
use Rattle.turn_ends.specs.Placing.{after_hiding_treasures}
use Rattle.turn_ends.proofs.Countdown.{known_all, known_none}
use Rattle.turn_ends.proofs.begin.hide_treasures.Goals as goal

pub loop-number-init : goal.loop-number-init
loop-number-init c = record {
  hidden = ap (λ xs. after_hiding_treasures xs c.args.objects.now) (known_all c.args.cave.now);
  counted = omega (arith, c.new-hidden.ensures, ap length (known_all c.args.cave.now));
  few = omega (arith, c.new-hidden.ensures);
}

pub returns-clause-objects : goal.returns-clause-objects
returns-clause-objects c =
    sym (ap (λ xs. after_hiding_treasures xs c.loop-number.objects)
    (known_none c.args.cave.now c.loop-number.number c.loop-number-test.false))
    ∙ c.loop-number.invariant.hidden

pub returns-clause-count : goal.returns-clause-count
returns-clause-count c =
    let none = known_none c.args.cave.now c.loop-number.number c.loop-number-test.false in
    omega (arith, c.loop-number.invariant.counted, ap length none)
