use Rattle.std.specs.Str.Lines.{lines}
use Rattle.cave_replay.proofs.Openings.{IsGame-from_no_fault, IsDistance-from_no_fault}
use Rattle.cave_replay.proofs.session.Session.open.Goals as goal

pub play_game-requires-clause-game : goal.play_game-requires-clause-game
play_game-requires-clause-game g c =
    rw c.in_ok-lines.ensures.lines
    (IsGame-from_no_fault c.args.every (lines c.args.log.now) c.args.seed
    c.in_ok-lines.ensures.right)

pub play_game-requires-clause-every : goal.play_game-requires-clause-every
play_game-requires-clause-every g c =
    IsDistance-from_no_fault c.args.every (lines c.args.log.now) c.args.seed
    c.in_ok-lines.ensures.right
