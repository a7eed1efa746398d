-- The remaining edits are to be made in the game that the numbers describe.
use Rattle.std.proofs.Common.{drop}
use Rattle.replay_edits.specs.Edit.{game_of, log_of, changes_of}
use Rattle.replay_edits.specs.Outcome.{log_by, game_by, AreNumbers}
use Rattle.replay_edits.specs.Leaves.{LeaveAlone}
use Rattle.replay_edits.proofs.Makings.{IsMaking}
use Rattle.replay_edits.proofs.outcome.find_outcome.Given as goal

abbrev pub invariant-loop-index : goal.invariant-loop-index
invariant-loop-index l = record {
  making : IsMaking (changes_of l.fn.edits) (changes_of (drop l.index l.fn.edits))
      (game_of l.fn.seed (log_of l.fn.log.items)) (game_by l.stock l.game)
      (changes_of l.inverse.items);
  alone : LeaveAlone (changes_of (drop l.index l.fn.edits)) (log_by l.stock l.game.numbers)
      l.fn.margins;
  numbers : AreNumbers l.stock l.game.numbers;
}
