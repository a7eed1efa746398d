use Rattle.std.proofs.Common.{rules}
use Rattle.cave_words.proofs.WordBytes.{same_numbers}
use Rattle.cave_words.proofs.word.are_same.Goals as goal

pub returns : goal.returns
returns c =
    same_numbers c.args.one c.args.other _ _ (search rules) (search rules)
    (search rules) (search rules) c.from_le_bytes.ensures c.from_le_bytes-2.ensures
