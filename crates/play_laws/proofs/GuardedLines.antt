-- Lines of a script that are guards are nothing else.
use Rattle.std.proofs.Common.{◌≡◌, ℕ, List, [], ◌∷◌, ◌++◌, Option, Some, None, codes, refl, sym}
use Rattle.std.proofs.Common.{◌∙◌}
use Rattle.base_lines.specs.LogLine.{is_skipped}
use Rattle.replay_scripts.proofs.ExpectedLines.{guards_are_spelled}
use Rattle.replay_scripts.proofs.Lines.{kind_of_script_line-only}
use Rattle.replay_scripts.specs.EditFlaw.{edit_flaw_of}
use Rattle.replay_scripts.specs.Line.{LineKind, nothing, nonsense, IsExpected, IsKind, edit_of}
use Rattle.replay_scripts.specs.Line.{expected_in, is_word_line, kind_of_script_line}
use Rattle.replay_scripts.specs.Line.{number_after_word}

-- the grammar of scripts without guards has no line for a guard
guard_is_nonsense : (line : List ℕ) (place : ℕ) (text : List ℕ) → IsExpected line place text
    → kind_of_script_line line ≡ nonsense (edit_flaw_of line)
unfolding kind_of_script_line is_skipped is_word_line edit_of number_after_word
guard_is_nonsense line place text (rest, numbered, is_text) =
    let parts = numbered.parts in
    let said = codes "expect" ++ numbered.blank ∷ (numbered.digits ++ rest) in
    rw parts (refl {a = nonsense (edit_flaw_of said)})

-- the blank line, which stands for a guard
pub blank_kind : kind_of_script_line [] ≡ nothing
unfolding is_skipped
blank_kind = kind_of_script_line-only [] nothing refl

abbrev IsPlain : LineKind → Type 0
IsPlain (nonsense flaw) = ⊥
IsPlain other = Unit {0}

guard_or_plain : (line : List ℕ) (kind : LineKind) (place : ℕ) (text : List ℕ) → IsKind line kind
    → IsPlain kind → expected_in line ≡ Some (place, text) → ⊥
guard_or_plain line kind place text is plain expected =
    let spelled = (guards_are_spelled line place text).0 expected in
    let same : kind ≡ nonsense (edit_flaw_of line) =
    sym (kind_of_script_line-only line kind is) ∙ guard_is_nonsense line place text spelled in
    rw same at plain

-- a line that the grammar of scripts without guards has is no guard
pub no_guard : (line : List ℕ) (kind : LineKind) → IsKind line kind → IsPlain kind
    → expected_in line ≡ None
no_guard line kind is plain = by_found (expected_in line) refl
  where
    by_found : (found : Option (ℕ × List ℕ)) → expected_in line ≡ found → expected_in line ≡ None
    by_found None e = e
    by_found (Some (place, text)) e = absurd (guard_or_plain line kind place text is plain e)
