-- The output goes over none of the files so far.
use Rattle.std.proofs.Common.{All, take}
use Rattle.play_command.specs.Asked.{named_file}
use Rattle.play_program.specs.Files.{IsApart}
use Rattle.play_program.proofs.files.check_output.Given as goal

abbrev pub invariant-loop-file : goal.invariant-loop-file
invariant-loop-file g l =
    All (λ file. IsApart (g.S.System.one_file l.system) l.request.what l.output (named_file file))
    (take l.file-index l.request.files.items)
