use Rattle.std.proofs.Common.{◌≡◌, drop}
use Rattle.play_command.specs.Commands.{has_files, needed_in}
use Rattle.play_command.specs.Asked.{rows_in}
use Rattle.play_command.proofs.read.has_files.Given as goal

abbrev pub invariant-loop-argument : goal.invariant-loop-argument
invariant-loop-argument l =
    has_files (needed_in (drop l.argument-index l.arguments)) (rows_in l.found)
    ≡ has_files (needed_in l.arguments) (rows_in l.found)
