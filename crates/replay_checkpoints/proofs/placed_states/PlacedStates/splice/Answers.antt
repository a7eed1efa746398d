use Rattle.std.proofs.Common.{ap, map, ◌∙◌}
use Rattle.std.specs.List.{splice}
use Rattle.replay_checkpoints.specs.Marks.{PlacedView}
use Rattle.replay_checkpoints.proofs.Contents.{map-splice}
use Rattle.replay_checkpoints.proofs.placed_states.PlacedStates.splice.Goals as goal

pub returns-clause-states : goal.returns-clause-states
returns-clause-states g c =
    let inside = c.self.inside in
    let state_of = g.K.KeptState.state_of in
    ap (map state_of) c.splice-2.ensures.items
    ∙ map-splice state_of inside.states.items c.middle.inside.states.items c.args.from c.args.to
    ∙ ap (λ (v : PlacedView g.row.K-State.Denot).
    splice v.states c.args.from c.args.to (map state_of c.middle.inside.states.items))
    c.self.view_is
    ∙ ap (λ (v : PlacedView g.row.K-State.Denot).
    splice c.args.self.now.states c.args.from c.args.to v.states) c.middle.view_is
