-- A log as a file reads back.
use Rattle.std.proofs.Common.{◌≡◌, ℕ, ◌-◌, Bool, true, false, cond, ◌==◌, List, [], ◌∷◌, ◌++◌}
use Rattle.std.proofs.Common.{length, take, codes, All, IsTrue, sym, ap, ◌∙◌, refl}
use Rattle.std.proofs.Common.{arith, append_assoc}
use Rattle.std.specs.Prelude.{slice_index, if◌then◌else◌}
use Rattle.std.specs.List.{AllPass, slice_split, onto_first}
use Rattle.std.specs.Str.Lines.{lines, lines_of_parts, strip_carriage_return}
use Rattle.std.proofs.lemmas.Bool.{ne_eqb}
use Rattle.std.proofs.lemmas.List.Elements.{All-head, All-tail}
use Rattle.std.proofs.lemmas.List.Sums.{AllPass-from_list_all}
use Rattle.std.proofs.lemmas.List.Splits.{slice_split_at}
use Rattle.base_lines.specs.Line.{is_line_byte, is_line}
use Rattle.base_lines.proofs.GoodLines.{good_bytes}
use Rattle.cave_replay.specs.LogText.{log_text}

abbrev is_feed : ℕ → Bool
is_feed byte = byte == 10

-- a text has at least one part
some_parts : (text : List ℕ) → (y : List ℕ) × (ys : List (List ℕ))
    × (slice_split is_feed text ≡ y ∷ ys)
some_parts [] = ([], [], refl)
some_parts (x ∷ xs) =
    let rest = some_parts xs in
    elim (is_feed x) as (λ b. (y : List ℕ) × (ys : List (List ℕ))
    × (cond b ([] ∷ slice_split is_feed xs) (onto_first x (slice_split is_feed xs)) ≡ y ∷ ys)) [
      | true ↦ ([], slice_split is_feed xs, refl)
      | false ↦ (x ∷ rest.0, rest.1, ap (onto_first x) rest.2)
    ]

-- ---- the bytes of a line

not_that : (byte other : ℕ) → is_line_byte byte ≡ true → is_line_byte other ≡ false
    → (byte == other) ≡ false
not_that byte other stands never =
    ne_eqb byte other
    (λ same. let both : true ≡ false = sym stands ∙ ap is_line_byte same ∙ never in
    cc)

-- a line has no carriage return at its end
strip_whole : (line : List ℕ) → AllPass is_line_byte line → strip_carriage_return line ≡ line
strip_whole [] stands = refl
strip_whole (byte ∷ line) stands =
    let last = length (byte ∷ line) - 1 in
    let stays : (slice_index (byte ∷ line) last == 13) ≡ false =
    not_that (slice_index (byte ∷ line) last) 13 (stands last 0 (omega arith)) refl in
    ap (λ b. if b then take last (byte ∷ line) else byte ∷ line) stays

-- ---- the lines of a text

in_parts : (x y : List ℕ) (ys parts : List (List ℕ)) → parts ≡ y ∷ ys
    → lines_of_parts (x ∷ parts) ≡ strip_carriage_return x ∷ lines_of_parts parts
in_parts x y ys parts e = ap (λ p. lines_of_parts (x ∷ p)) e
    ∙ ap (λ p. strip_carriage_return x ∷ lines_of_parts p) (sym e)

-- a line with a line feed after it is the first line of a text
lines_more : (line text : List ℕ) → AllPass is_line_byte line
    → lines ((line ++ codes "\n") ++ text) ≡ line ∷ lines text
lines_more line text stands =
    let (first, others, parts) = some_parts text in
    let no_feed : All (λ byte. is_feed byte ≡ false) line =
    λ k d below. not_that _ 10 (stands k d below) refl in
    let split : slice_split is_feed ((line ++ codes "\n") ++ text) ≡ line
    ∷ slice_split is_feed text =
    ap (slice_split is_feed) (append_assoc line (10 ∷ []) text)
    ∙ slice_split_at is_feed line 10 text no_feed refl in
    ap lines_of_parts split ∙ in_parts line first others (slice_split is_feed text) parts
    ∙ ap (λ l. l ∷ lines text) (strip_whole line stands)

pub reads_back : (log : List (List ℕ)) → All (λ line. IsTrue (is_line line)) log
    → lines (log_text log) ≡ log
reads_back [] good = refl
reads_back (line ∷ log) good =
    let P : List ℕ → Type 0 = λ l. IsTrue (is_line l) in
    let stands =
    AllPass-from_list_all is_line_byte line (good_bytes line (All-head P line log good)) in
    lines_more line (log_text log) stands
    ∙ ap (λ l. line ∷ l) (reads_back log (All-tail P line log good))
