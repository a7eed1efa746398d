use Rattle.std.proofs.Common.{ap, map, ◌∙◌}
use Rattle.replay_checkpoints.proofs.Contents.{one_more}
use Rattle.replay_checkpoints.proofs.placed_states.copy_states.Goals as goal

pub loop-state-preserved : goal.loop-state-preserved
loop-state-preserved g c =
    let loop = c.loop-state in
    let state_of = g.K.KeptState.state_of in
    ap (map state_of) c.in_ok-push.ensures.items
    ∙ one_more state_of c.args.states.now loop.copy.items loop.state-index c.state-item.result
    c.in_ok-keep_again.field-0 loop.invariant c.loop-state-test.true c.state-item.is
    c.in_ok-keep_again.ensures
