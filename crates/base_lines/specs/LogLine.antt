-- What a line of a log is: a comment, a blank line, a seed line or input.
use Rattle.std.specs.Prelude.{ℕ, Bool, false, ◌≡◌, ◌≤◌, ◌==◌, ◌&&◌, ◌++◌, ◌∷◌, nat_lt, nat_le}
use Rattle.std.specs.Prelude.{bytes_eq, List, [], Option, Some, None, length, take, drop, codes}
use Rattle.std.specs.Prelude.{if◌then◌else◌, IsTrue, ◌||◌}
use Rattle.std.specs.List.{list_all}
use Rattle.base_lines.specs.Limits.{MAX_DIGITS, MAX_SEED}
use Rattle.base_lines.specs.Bytes.{is_blank, is_all_blank, is_digit, prefix_while, after_prefix}
use Rattle.base_lines.specs.Bytes.{number_of}
use Rattle.base_lines.specs.declared.log_line.LogLine.{LogLine}
use Rattle.base_lines.specs.declared.log_line.LogLine.TheVariants.{Comment, Blank, Seed, Input}

-- the line begins with a `#`
abbrev pub is_comment : List ℕ → Bool
is_comment [] = false
is_comment (byte ∷ bytes) = byte == 35

-- a comment or only blanks: scripts and bindings pass over such a line
unfoldable pub is_skipped : List ℕ → Bool
is_skipped line = is_comment line || is_all_blank line

-- blanks, the word `seed`, one space, a few digits that write the seed, and blanks
pub record IsSeedLine (line : List ℕ) (seed : ℕ) : Type 0 where
  pub before : List ℕ
  pub digits : List ℕ
  pub after : List ℕ
  pub parts : line ≡ before ++ (codes "seed " ++ (digits ++ after))
  pub blank_before : IsTrue (is_all_blank before)
  pub all_digits : IsTrue (list_all is_digit digits)
  pub blank_after : IsTrue (is_all_blank after)
  pub some_digits : 1 ≤ length digits
  pub few_digits : length digits ≤ MAX_DIGITS
  pub value : number_of digits ≡ seed
  pub in_range : seed ≤ MAX_SEED

-- the line is of this kind
abbrev pub IsLogLine : List ℕ → LogLine → Type 0
IsLogLine line Comment = IsTrue (is_comment line)
IsLogLine line Blank = IsTrue (is_all_blank line)
IsLogLine line (Seed seed) = IsSeedLine line seed
IsLogLine line Input = (¬ IsTrue (is_comment line)) × (¬ IsTrue (is_all_blank line))
    × ((seed : ℕ) → ¬ IsSeedLine line seed)

-- the seed that digits and the blanks after them name
unfoldable pub seed_in : List ℕ → List ℕ → Option ℕ
seed_in digits after =
    if nat_lt 0 (length digits) && nat_le (length digits) MAX_DIGITS && is_all_blank after
    && nat_le (number_of digits) MAX_SEED
    then Some (number_of digits) else None

unfoldable pub seed_of : List ℕ → Option ℕ
seed_of line =
    let rest = after_prefix is_blank line in
    if bytes_eq (take 5 rest) (codes "seed ")
    then seed_in (prefix_while is_digit (drop 5 rest)) (after_prefix is_digit (drop 5 rest))
    else None

-- a line that is neither a comment nor blank names a seed or is input
abbrev pub seed_or_input : Option ℕ → LogLine
seed_or_input (Some seed) = Seed seed
seed_or_input None = Input

unfoldable pub log_line : List ℕ → LogLine
log_line line =
    if is_comment line then Comment
    else (if is_all_blank line then Blank else seed_or_input (seed_of line))
