use Rattle.world_objects.specs.Lists.{halves_at}
use Rattle.world_objects.specs.Objects.{Layout}
use Rattle.std.proofs.Common.{ap, ◌∙◌}
use Rattle.turn_ends.proofs.Begun.{start_lists}
use Rattle.turn_ends.proofs.begin.begun_state.Goals as goal

pub returns-clause-lists : goal.returns-clause-lists
returns-clause-lists c =
    λ q. ap (λ (o : Layout). halves_at q o.lists) c.place_all-state.ensures.objects
    ∙ start_lists c.args.cave.now q
