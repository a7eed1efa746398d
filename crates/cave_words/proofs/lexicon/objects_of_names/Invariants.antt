use Rattle.std.proofs.Common.{◌≡◌, length, map, take}
use Rattle.cave_data.specs.CaveView.{CaveView}
use Rattle.cave_words.specs.Lexicon.{IsIndexOf}
use Rattle.cave_words.specs.Named.{object_named}
use Rattle.cave_words.specs.Words.{NAME_LETTERS}
use Rattle.cave_words.specs.declared.named.TheConstants.{EACH_NAME}
use Rattle.cave_words.proofs.lexicon.objects_of_names.Given as goal

-- the names up to here have their objects
abbrev pub invariant-loop-i : goal.invariant-loop-i
invariant-loop-i l =
    ((cave : CaveView) → IsIndexOf NAME_LETTERS cave.words l.index.entries
    → take l.i l.objects ≡ map (object_named cave) (take l.i EACH_NAME))
    × (length l.objects ≡ 46)
