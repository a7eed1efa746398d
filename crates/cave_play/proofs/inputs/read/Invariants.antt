-- What was read so far is what the reader gave.
use Rattle.std.proofs.Common.{◌<◌, ◌≤◌, ◌-◌, length, vec_len}
use Rattle.std.specs.Io.KnownBytes.{Consumes}
use Rattle.base_lines.specs.Limits.{MAX_INPUT_BYTES}
use Rattle.cave_play.proofs.inputs.read.Given as goal

abbrev pub invariant-pieces : goal.invariant-pieces
invariant-pieces g l = record {
  taken : Consumes (g.R.Read.remaining l.initial.reader) (g.R.Read.remaining l.reader)
      l.text.items;
  within : vec_len l.text ≤ MAX_INPUT_BYTES;
  room : 0 < length l.piece;
}

abbrev pub decreases-pieces : goal.decreases-pieces
decreases-pieces g l = MAX_INPUT_BYTES - vec_len l.text
