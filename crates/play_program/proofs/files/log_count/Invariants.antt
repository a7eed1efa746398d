-- The logs so far are counted.
use Rattle.std.proofs.Common.{◌≡◌, ◌+◌, ◌≤◌, drop, map}
use Rattle.play_command.specs.Asked.{named_file}
use Rattle.play_program.specs.Files.{log_count}
use Rattle.play_program.proofs.files.log_count.Given as goal

abbrev pub invariant-loop-file : goal.invariant-loop-file
invariant-loop-file l = record {
  counted : l.count + log_count (map named_file (drop l.file-index l.files))
      ≡ log_count (map named_file l.files);
  within : l.count ≤ l.file-index;
}
