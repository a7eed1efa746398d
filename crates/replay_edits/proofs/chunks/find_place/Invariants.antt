use Rattle.std.proofs.Common.{◌≡◌, ◌+◌, ◌-◌, ◌<◌, length, take}
use Rattle.replay_edits.specs.Chunks.{numbers_in}
use Rattle.replay_edits.proofs.chunks.find_place.Given as goal

abbrev pub invariant-loop-index : goal.invariant-loop-index
invariant-loop-index l = record {
  inside : l.index < length l.chunks;
  here : length (numbers_in (take l.index l.chunks)) + l.within ≡ l.place;
}

abbrev pub decreases-loop-index : goal.decreases-loop-index
decreases-loop-index l = length l.chunks - l.index
