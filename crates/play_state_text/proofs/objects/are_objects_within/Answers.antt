use Rattle.std.proofs.Common.{arith}
use Rattle.play_state_text.specs.Within.{IsThingWithin}
use Rattle.play_state_text.proofs.WithinLemmas.{one_more}
use Rattle.play_state_text.proofs.objects.are_objects_within.Goals as goal

pub loop-before-init : goal.loop-before-init
loop-before-init c = λ n up. absurd (omega (arith, up.0, up.1))

pub loop-before-preserved : goal.loop-before-preserved
loop-before-preserved c = λ n up.
    one_more {P = IsThingWithin c.args.objects.now} c.loop-before.before
    c.new.result n c.new.ensures
    c.loop-before.invariant c.is_thing_within.ensures up

pub returns : goal.returns
returns c = record {
  spots = c.are_complete.ensures.spots;
  anchors = c.are_complete.ensures.anchors;
  props = c.are_complete.ensures.props;
  things = λ n up. c.loop-before.invariant n (up.0, omega (arith, up.1));
  lists = c.lists_are_in_order.ensures;
  entries = c.are_complete.ensures.places;
}
