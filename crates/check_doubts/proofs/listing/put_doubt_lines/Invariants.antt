use Rattle.std.proofs.Common.{take}
use Rattle.std.specs.List.{flat_map}
use Rattle.base_text.specs.Text.{Tells}
use Rattle.check_doubts.specs.Listing.{doubt_line}
use Rattle.check_doubts.proofs.listing.put_doubt_lines.Given as goal

abbrev pub invariant-loop-doubt : goal.invariant-loop-doubt
invariant-loop-doubt l =
    Tells (flat_map (doubt_line l.files) (take l.doubt-index l.doubts)) l.initial.text l.text
