use Rattle.std.proofs.Common.{◌≡◌, ◌++◌, drop, map, take}
use Rattle.std.specs.List.{flat_map}
use Rattle.play_command.specs.Asked.{files_at, named_file, rows_in, with_text}
use Rattle.play_command.proofs.found.files_in.Given as goal

-- the files so far and those of the arguments that are left are all
abbrev pub invariant-loop-id : goal.invariant-loop-id
invariant-loop-id l =
    map named_file l.files.items
    ++ flat_map (files_at (rows_in l.found)) (map with_text (drop l.id-index l.arguments))
    ≡ flat_map (files_at (rows_in l.found)) (map with_text l.arguments)

abbrev pub invariant-loop-name : goal.invariant-loop-name
invariant-loop-name l =
    map named_file l.files.items
    ≡ map named_file l.initial.files.items
    ++ map (λ name. (l.input, name)) (map (λ name. name.now) (take l.name-index l.names))
