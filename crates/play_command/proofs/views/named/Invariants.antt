use Rattle.std.proofs.Common.{◌≡◌, drop, map}
use Rattle.play_command.specs.Asked.{named, with_text}
use Rattle.play_command.proofs.views.named.Given as goal

abbrev pub invariant-loop-known : goal.invariant-loop-known
invariant-loop-known g l =
    named (map with_text (drop l.known-index l.items)) l.name
    ≡ named (map with_text l.items) l.name
