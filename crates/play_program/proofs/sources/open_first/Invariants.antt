-- The files so far are open, in their order.
use Rattle.std.proofs.Common.{◌≡◌, map, take}
use Rattle.play_command.specs.Asked.{named_file}
use Rattle.play_program.specs.Calls.{and_then}
use Rattle.play_program.specs.Sources.{entry_of, opening, waiting_entry}
use Rattle.play_program.proofs.sources.open_first.Given as goal

abbrev pub invariant-loop-file : goal.invariant-loop-file
invariant-loop-file g l =
    let first = l.initial.system in
    let files = map named_file (take l.file-index l.request.files.items) in
    record {
      kept : g.S.System.bytes_of l.system ≡ g.S.System.bytes_of first;
      reads : map (waiting_entry (g.S.System.bytes_of first) g.S.File.Read.remaining)
          l.waiting.items ≡ map (entry_of l.request.what (g.S.System.bytes_of first)) files;
      opened : g.S.System.calls l.system
          ≡ and_then (g.S.System.calls first) (opening l.request.what files);
    }
