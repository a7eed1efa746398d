use Rattle.std.proofs.Common.{◌≡◌, drop, fold, map}
use Rattle.clap.specs.Words.{app_of}
use Rattle.play_command.specs.Commands.{plain_app, shape_of_row, with_command}
use Rattle.play_command.proofs.app.with_commands.Given as goal

-- the program with the commands that are left is the one with all
abbrev pub invariant-loop-name : goal.invariant-loop-name
invariant-loop-name l =
    fold with_command (app_of l.made) (map shape_of_row (drop l.name-index l.rows))
    ≡ fold with_command plain_app (map shape_of_row l.rows)
