-- The file is among those that are left.
use Rattle.std.proofs.Common.{◌≡◌, drop, map}
use Rattle.play_command.specs.Asked.{named_file}
use Rattle.play_program.specs.Files.{name_at}
use Rattle.play_program.proofs.files.name_at.Given as goal

abbrev pub invariant-loop-file : goal.invariant-loop-file
invariant-loop-file l =
    name_at l.input (map named_file (drop l.file-index l.files)) l.left
    ≡ name_at l.input (map named_file l.files) l.fn.place
