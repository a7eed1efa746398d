use Rattle.std.proofs.Common.{take}
use Rattle.std.specs.List.{flat_map}
use Rattle.base_text.specs.Text.{Tells}
use Rattle.check_tables.specs.WayWords.{motion_name}
use Rattle.check_tables.proofs.travel_words.put_motions.Given as goal

abbrev pub invariant-loop-motion : goal.invariant-loop-motion
invariant-loop-motion l =
    Tells (flat_map (motion_name l.cave) (take l.motion-index l.motions)) l.initial.text l.text
