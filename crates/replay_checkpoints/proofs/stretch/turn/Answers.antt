use Rattle.replay_checkpoints.proofs.TurnLemmas.{turned}
use Rattle.replay_checkpoints.proofs.stretch.turn.Goals as goal

pub returns : goal.returns
returns g c =
    record {
      items =
          λ a b c' d whole p q r. turned c.args.items.now c.rotate_left.new.self a b c' d
          c.args.from
          c.args.to c.args.count whole p q r c.rotate_left.ensures.after;
    }
