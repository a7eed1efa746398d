use Rattle.std.proofs.Common.{◌≡◌, ◌+◌, map, length}
use Rattle.std.specs.Prelude.{slice_index}
use Rattle.replay_edits.specs.Edit.{log_of, game_of}
use Rattle.cave_replay.specs.Agreement.{state_at}
use Rattle.cave_replay.specs.Replay.{texts_at, ticks_at, IsMarking}
use Rattle.cave_replay.proofs.playthrough.play_game.Given as goal

abbrev pub invariant-loop-line : goal.invariant-loop-line
invariant-loop-line g l = record {
  texts : map g.M.Machine.text l.played.pieces.items
      ≡ texts_at (g.M.Machine.rules l.machine) (game_of l.fn.seed (log_of l.fn.log.items))
      l.line-index;
  ticks : l.played.ticked.items
      ≡ ticks_at (g.M.Machine.rules l.machine) (game_of l.fn.seed (log_of l.fn.log.items))
      l.line-index;
  marking : IsMarking g.M.Machine.meaning g.M.Machine.is_state
      (state_at (g.M.Machine.rules l.machine) (game_of l.fn.seed (log_of l.fn.log.items)))
      l.played.marks;
  next : l.played.marks.next ≡ l.line-index;
  every : l.played.marks.every ≡ l.fn.every;
  end : l.played.marks.end ≡ length l.fn.log.items;
  first : slice_index l.played.marks.places 0 ≡ 0;
  counted : g.M.Meter.Steps.count l.meter ≡ g.M.Meter.Steps.count l.fn.meter + l.line-index;
}
