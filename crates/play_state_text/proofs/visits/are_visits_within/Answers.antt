use Rattle.std.proofs.Common.{arith, refl, ◌+◌}
use Rattle.play_state_text.specs.Things.{item_at}
use Rattle.play_state_text.specs.Within.{IsWide}
use Rattle.play_state_text.proofs.WithinLemmas.{one_more}
use Rattle.play_state_text.proofs.visits.are_visits_within.Goals as goal

pub loop-before-init : goal.loop-before-init
loop-before-init c = λ n up. absurd (omega (arith, up.0, up.1))

pub loop-before-preserved : goal.loop-before-preserved
loop-before-preserved c = λ n up.
    one_more {P = (λ n. IsWide (item_at 0 c.args.visits.now n))} c.loop-before.before
    (c.loop-before.before + 1) n refl
    c.loop-before.invariant c.are_visits_of_within.ensures up

pub returns : goal.returns
returns c = record {
  all = c.has_all.ensures;
  each = λ n up. c.loop-before.invariant n (up.0, omega (arith, up.1));
}
