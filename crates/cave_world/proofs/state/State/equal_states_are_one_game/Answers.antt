use Rattle.cave_world.proofs.Equality.{same_game}
use Rattle.cave_world.proofs.state.State.equal_states_are_one_game.Goals as goal

pub returns : goal.returns
returns c =
    same_game c.args.self.now c.args.other.now c.lists_are_in_order.ensures
    c.lists_are_in_order-2.ensures
