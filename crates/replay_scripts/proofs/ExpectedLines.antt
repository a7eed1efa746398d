-- Which lines are guards.
use Rattle.std.proofs.Common.{◌≡◌, ℕ, List, Option, Some, None, option_map, codes, refl, ap}
use Rattle.std.proofs.Common.{unwrap_or}
use Rattle.replay_scripts.specs.Guards.{GuardsAreSpelled}
use Rattle.replay_scripts.specs.Line.{expected_after, expected_in, IsExpected, number_after_word}
use Rattle.replay_scripts.specs.Line.{text_of_edit}
use Rattle.replay_scripts.proofs.WordLines.{first_of_text, IsNumbered-from_number_after}
use Rattle.replay_scripts.proofs.WordLines.{IsText-from_text_in, number_after-from_line}
use Rattle.replay_scripts.proofs.WordLines.{text_of_edit-from_text}

abbrev some_expected : ℕ → List ℕ → Option (ℕ × List ℕ)
some_expected place text = Some (place, text)

same_expected : (place other : ℕ) (text others : List ℕ)
    → some_expected place text ≡ some_expected other others → (place ≡ other) × (text ≡ others)
same_expected place other text others same =
    let found : Option (ℕ × List ℕ) → ℕ × List ℕ = λ o. unwrap_or o (place, text) in
    (ap (λ o. (found o).0) same, ap (λ o. (found o).1) same)

spelled_so : (line : List ℕ) (place : ℕ) (text : List ℕ) → IsExpected line place text
    → expected_in line ≡ Some (place, text)
unfolding expected_in
spelled_so line place text (rest, numbered, is_text) =
    let found =
    number_after-from_line (codes "expect") line place rest numbered
    (first_of_text rest text is_text) in
    let after_it = text_of_edit-from_text rest text is_text in
    rw (found, after_it) refl

by_text : (line : List ℕ) (number : ℕ) (rest : List ℕ) (place : ℕ) (text : List ℕ)
    (said : Option (List ℕ))
    → number_after_word (codes "expect") line ≡ Some (number, rest) → text_of_edit rest ≡ said
    → option_map (λ found. (number, found)) said ≡ some_expected place text
    → IsExpected line place text
by_text line number rest place text None numbered e is = cc
by_text line number rest place text (Some found) numbered e is =
    let same = same_expected number place found text is in
    let here = IsNumbered-from_number_after (codes "expect") line number rest numbered in
    let told = IsText-from_text_in rest found e in
    (rest, rw same.0 at here, rw same.1 at told)

by_number : (line : List ℕ) (place : ℕ) (text : List ℕ) (found : Option (ℕ × List ℕ))
    → number_after_word (codes "expect") line ≡ found
    → expected_after found ≡ some_expected place text → IsExpected line place text
by_number line place text None e is = cc
by_number line place text (Some (number, rest)) e is =
    by_text line number rest place text (text_of_edit rest) e refl is

spells_it : (line : List ℕ) (place : ℕ) (text : List ℕ) → expected_in line ≡ Some (place, text)
    → IsExpected line place text
unfolding expected_in
spells_it line place text is =
    by_number line place text (number_after_word (codes "expect") line) refl is

pub guards_are_spelled : GuardsAreSpelled
guards_are_spelled line place text = (spells_it line place text, spelled_so line place text)
