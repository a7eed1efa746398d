-- The head of a log, which says how the log is played, in words as on a command line.
use Rattle.std.specs.Prelude.{ℕ, ◌==◌, ◌&&◌, ◌||◌, Bool, false, bytes_eq, List, [], ◌∷◌, length}
use Rattle.std.specs.Prelude.{take, drop, Option, None, Some, codes, if◌then◌else◌, option_map}
use Rattle.std.specs.Prelude.{slice_get, unwrap_or}
use Rattle.std.specs.Option.{option_and_then, option_or}
use Rattle.std.specs.Str.Lines.{lines}
use Rattle.base_lines.specs.Line.{is_line}

-- what follows `# cave:` on the first line, if a log may have it
abbrev pub head_in : List (List ℕ) → Option (List ℕ)
head_in [] = None
head_in (line ∷ lines) =
    if is_line line && bytes_eq (take 7 line) (codes "# cave:") then Some (drop 7 line) else None

unfoldable pub head_of : List ℕ → Option (List ℕ)
head_of log = head_in (lines log)

abbrev pub is_option : List ℕ → Bool
is_option [] = false
is_option (byte ∷ bytes) = byte == 45

-- the database of a head: its first word, unless that is an option
abbrev pub first_file : List (List ℕ) → Option (List ℕ)
first_file [] = None
first_file (word ∷ words) = if is_option word then None else Some word

-- what follows the first bytes of a word, if it begins with them
abbrev pub after_start : List ℕ → List ℕ → Option (List ℕ)
after_start start word =
    if bytes_eq (take (length start) word) start then Some (drop (length start) word) else None

-- the value that an option has in its own word: after its name and `=`, or right after its letter,
-- where `=` may be, too
abbrev pub value_in_word : List ℕ → List ℕ → List ℕ → Option (List ℕ)
value_in_word name letter word =
    option_or (option_and_then (after_start (codes "=")) (after_start name word))
    (option_map (λ rest. unwrap_or (after_start (codes "=") rest) rest) (after_start letter word))

-- the value of an option: the word after its name or its letter, or what one word says of it,
-- whichever comes first
abbrev pub value_of : List ℕ → List ℕ → List (List ℕ) → Option (List ℕ)
value_of name letter [] = None
value_of name letter (word ∷ words) =
    if bytes_eq word name || bytes_eq word letter then slice_get words 0
    else option_or (value_in_word name letter word) (value_of name letter words)
