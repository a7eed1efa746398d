-- What one line of a script says.
use Rattle.std.specs.Prelude.{◌≡◌, ℕ, ◌≤◌, ◌&&◌, Bool, IsTrue, nat_lt, nat_le, bytes_eq, min, List}
use Rattle.std.specs.Prelude.{[], ◌∷◌, ◌++◌, length, take, drop, Option, Some, None, option_map}
use Rattle.std.specs.Prelude.{codes, if◌then◌else◌}
use Rattle.std.specs.List.{list_all}
use Rattle.base_lines.specs.Bytes.{is_blank, is_digit, prefix_while, after_prefix, number_of}
use Rattle.base_lines.specs.LogLine.{is_skipped}
use Rattle.replay_edits.specs.Edit.{Change, inserts, deletes, replaces, reseeds, change_of}
use Rattle.base_lines.specs.Limits.{MAX_DIGITS, max_script_number}
use Rattle.replay_scripts.specs.EditFlaw.{edit_flaw_of}
use Rattle.replay_scripts.specs.declared.edit_flaw.EditFlaw.{EditFlaw}
use Rattle.replay_scripts.specs.declared.line.ScriptLine.{ScriptLine}

-- ---- the grammar of a line

-- the word, with blanks after it or none
pub record IsWord (word line : List ℕ) : Type 0 where
  pub blanks : List ℕ
  pub parts : line ≡ word ++ blanks
  pub all_blank : IsTrue (list_all is_blank blanks)

-- the word, one blank, 1 to 10 digits and the rest; the number is what the digits write, or the
-- greatest
pub record IsNumbered (word line : List ℕ) (number : ℕ) (rest : List ℕ) : Type 0 where
  pub blank : ℕ
  pub digits : List ℕ
  pub parts : line ≡ word ++ blank ∷ (digits ++ rest)
  pub is_blank_byte : IsTrue (is_blank blank)
  pub all_digits : IsTrue (list_all is_digit digits)
  pub some_digits : 1 ≤ length digits
  pub few_digits : length digits ≤ MAX_DIGITS
  pub value : number ≡ min (number_of digits) max_script_number

-- nothing, or one blank and the text
abbrev pub IsText : List ℕ → List ℕ → Type 0
IsText [] text = text ≡ []
IsText (byte ∷ bytes) text = IsTrue (is_blank byte) × (text ≡ bytes)

-- the line spells the change
abbrev pub Spells : List ℕ → Change → Type 0
Spells line (inserts at text) = (rest : List ℕ) × IsNumbered (codes "insert") line at rest
    × IsText rest text
Spells line (deletes at) = (rest : List ℕ) × IsNumbered (codes "delete") line at rest
    × IsTrue (list_all is_blank rest)
Spells line (replaces at text) = (rest : List ℕ) × IsNumbered (codes "replace") line at rest
    × IsText rest text
Spells line (reseeds seed) = (rest : List ℕ) × IsNumbered (codes "seed") line seed rest
    × IsTrue (list_all is_blank rest)

-- the line says which text is expected at a place of a log
abbrev pub IsExpected : List ℕ → ℕ → List ℕ → Type 0
IsExpected line place text =
    (rest : List ℕ) × IsNumbered (codes "expect") line place rest × IsText rest text

-- what a line can be
pub data LineKind : Type 0 where
  nothing : LineKind
  begin : LineKind
  end : LineKind
  edit : Change → LineKind
  nonsense : EditFlaw → LineKind

abbrev pub IsKind : List ℕ → LineKind → Type 0
IsKind line nothing = IsTrue (is_skipped line)
IsKind line begin = IsWord (codes "begin") line
IsKind line end = IsWord (codes "end") line
IsKind line (edit change) = Spells line change
IsKind line (nonsense flaw) = (¬ IsTrue (is_skipped line)) × (¬ IsWord (codes "begin") line)
    × (¬ IsWord (codes "end") line) × ((change : Change) → ¬ Spells line change)
    × (flaw ≡ edit_flaw_of line)

-- ---- what a line is, by cases

unfoldable pub is_word_line : List ℕ → List ℕ → Bool
is_word_line word line = bytes_eq (take (length word) line) word
    && list_all is_blank (drop (length word) line)

abbrev pub number_and_rest : List ℕ → List ℕ → Option (ℕ × List ℕ)
number_and_rest digits rest =
    if nat_lt 0 (length digits) && nat_le (length digits) MAX_DIGITS
    then Some (min (number_of digits) max_script_number, rest) else None

-- the number after one blank, and the rest after it
abbrev pub number_after_blank : List ℕ → Option (ℕ × List ℕ)
number_after_blank [] = None
number_after_blank (byte ∷ bytes) = if is_blank byte
    then number_and_rest (prefix_while is_digit bytes) (after_prefix is_digit bytes) else None

unfoldable pub number_after_word : List ℕ → List ℕ → Option (ℕ × List ℕ)
number_after_word word line = if bytes_eq (take (length word) line) word
    then number_after_blank (drop (length word) line) else None

abbrev pub text_of_edit : List ℕ → Option (List ℕ)
text_of_edit [] = Some []
text_of_edit (byte ∷ bytes) = if is_blank byte then Some bytes else None

-- the number that was found, and the text after it
abbrev pub expected_after : Option (ℕ × List ℕ) → Option (ℕ × List ℕ)
expected_after (Some found) = option_map (λ text. (found.0, text)) (text_of_edit found.1)
expected_after None = None

-- the change with a number and the text after it, if the number was found, and otherwise what comes
-- later
abbrev pub with_text : (ℕ → List ℕ → Change) → Option (ℕ × List ℕ) → Option Change → Option Change
with_text change (Some found) later = option_map (change found.0) (text_of_edit found.1)
with_text change None later = later

-- the change with a number and blanks after it, if the number was found, and otherwise what comes
-- later
abbrev pub change_without_text : (ℕ → Change) → Option (ℕ × List ℕ) → Option Change → Option Change
change_without_text change (Some found) later = if list_all is_blank found.1
    then Some (change found.0) else None
change_without_text change None later = later

unfoldable pub edit_of : List ℕ → Option Change
edit_of line =
    with_text inserts (number_after_word (codes "insert") line)
    (change_without_text deletes (number_after_word (codes "delete") line)
    (with_text replaces (number_after_word (codes "replace") line)
    (change_without_text reseeds (number_after_word (codes "seed") line) None)))

-- the place after the word `expect`, and the text after it
unfoldable pub expected_in : List ℕ → Option (ℕ × List ℕ)
expected_in line = expected_after (number_after_word (codes "expect") line)

abbrev pub edit_or_nonsense : Option Change → EditFlaw → LineKind
edit_or_nonsense (Some change) flaw = edit change
edit_or_nonsense None flaw = nonsense flaw

unfoldable pub kind_of_script_line : List ℕ → LineKind
kind_of_script_line line =
    if is_skipped line then nothing
    else (if is_word_line (codes "begin") line then begin
    else (if is_word_line (codes "end") line then end
    else edit_or_nonsense (edit_of line) (edit_flaw_of line)))

-- the kind that is reported for a line
abbrev pub kind_said : ScriptLine → LineKind
kind_said ScriptLine.Nothing = nothing
kind_said ScriptLine.Begin = begin
kind_said ScriptLine.End = end
kind_said (ScriptLine.Edit change) = edit (change_of change)
kind_said (ScriptLine.Nonsense flaw) = nonsense flaw
