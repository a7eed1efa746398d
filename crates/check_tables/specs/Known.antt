-- Lists of what is known: what one has, what it leaves, and what is said of each of its lines that
-- nothing says any more.
use Rattle.std.specs.Prelude.{ℕ, suc, Bool, ◌&&◌, not, bytes_eq, codes, if◌then◌else◌}
use Rattle.std.specs.Prelude.{List, [], ◌∷◌, ◌++◌}
use Rattle.std.specs.Fmt.{decimal}
use Rattle.std.specs.List.{filter, flat_map, list_any}
use Rattle.std.specs.Str.Lines.{lines}
use Rattle.base_lines.specs.Bytes.{after_prefix, is_blank}
use Rattle.base_lines.specs.LogLine.{is_skipped}

-- the name of the file of a list, and its text
pub record KnownEntries : Type 0 where
  pub file : List ℕ
  pub list : List ℕ

abbrev pub known_entries : List ℕ → List ℕ → KnownEntries
known_entries file text = record { file = file; list = text }

-- what a line says: blanks that begin it don't count
abbrev pub entry_of_line : List ℕ → List ℕ
entry_of_line line = after_prefix is_blank line

abbrev pub has_entry : List ℕ → List ℕ → Bool
has_entry text entry = list_any (λ line. bytes_eq (entry_of_line line) entry) (lines text)

abbrev pub is_known : KnownEntries → List ℕ → Bool
is_known known entry = has_entry known.list entry

-- ---- things, each with its entry

module _ {Thing : Type 0} (entry : Thing → List ℕ) where
  -- those of these things that a list doesn't know
  abbrev pub unknown : KnownEntries → List Thing → List Thing
  unknown known things = filter (λ thing. not (is_known known (entry thing))) things

  -- the entries of these things, each as a line after this
  abbrev pub entry_lines : List ℕ → List Thing → List ℕ
  entry_lines indent things = flat_map (λ thing. indent ++ (entry thing ++ codes "\n")) things

-- ---- lines that nothing says any more

-- a line says something, and is none of these entries
abbrev pub is_unmet : List ℕ → List ℕ → Bool
is_unmet entries line =
    not (is_skipped (entry_of_line line)) && not (has_entry entries (entry_of_line line))

-- what is said of a line of a file
abbrev pub unmet_line : List ℕ → List ℕ → ℕ → List ℕ
unmet_line file words number =
    file ++ (codes ":" ++ (decimal number ++ (codes ": " ++ (words ++ codes "\n"))))

-- it is said of each line that is none of the entries; the first of the lines has this number
abbrev pub unmet_lines : List ℕ → List ℕ → List ℕ → ℕ → List (List ℕ) → List ℕ
unmet_lines file words entries number [] = []
unmet_lines file words entries number (line ∷ lines) =
    (if is_unmet entries line then unmet_line file words number else [])
    ++ unmet_lines file words entries (suc number) lines

abbrev pub unmet_text : KnownEntries → List ℕ → List ℕ → List ℕ
unmet_text known words entries = unmet_lines known.file words entries 1 (lines known.list)
