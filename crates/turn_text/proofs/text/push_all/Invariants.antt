use Rattle.std.proofs.Common.{◌≡◌, ◌++◌, take, drop, vec_len}
use Rattle.turn_text.specs.Text.{text_of_all}
use Rattle.turn_text.proofs.text.push_all.Given as goal

-- what is written, followed by the text of the remaining parts, is what was there followed by the
-- text of all
abbrev pub invariant-loop-part : goal.invariant-loop-part
invariant-loop-part l =
    (l.text.items ++ text_of_all l.cave l.turns (drop l.part-index l.parts) ≡ l.initial.text.items
    ++ text_of_all l.cave l.turns l.parts)
    × (take (vec_len l.initial.text) l.text.items ≡ l.initial.text.items)
