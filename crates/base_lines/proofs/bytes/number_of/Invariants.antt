use Rattle.std.proofs.Common.{◌≡◌, take}
use Rattle.base_lines.specs.Bytes.{number_of}
use Rattle.base_lines.proofs.bytes.number_of.Given as goal

abbrev pub invariant-loop-digit : goal.invariant-loop-digit
invariant-loop-digit l = l.number ≡ number_of (take l.digit-index l.digits)
