-- The kept lines of a log, and their bytes.
use Rattle.std.proofs.Common.{◌≡◌, ℕ, ◌+◌, ◌<◌, List, [], ◌∷◌, ◌++◌, length, get_or, take, All}
use Rattle.std.proofs.Common.{IsTrue, sym, ap, ◌∙◌, subst, arith}
use Rattle.replay_edits.specs.LineText.{LineText}
use Rattle.std.proofs.lemmas.List.{take_more, get_or-map, length-map}
use Rattle.std.proofs.lemmas.List.Elements.{All-get_or}
use Rattle.base_lines.specs.Line.{is_line}
use Rattle.replay_edits.specs.Edit.{log_of, line_at}

pub length-log_of : (log : List LineText) → length (log_of log) ≡ length log
length-log_of log = length-map log (λ line. line.items)

-- the bytes of an element are the line at its place
pub line_at-log_of : (log : List LineText) (i : ℕ) (line : LineText) → i < length log
    → line ≡ get_or log i line → line_at (log_of log) i ≡ line.items
line_at-log_of log i line below read = get_or-map (λ (x : LineText). x.items) log i line [] below
    ∙ sym (ap (λ (x : LineText). x.items) read)

-- what is read in a log of good lines is a good line
pub is_line-read : (log : List LineText) (i : ℕ) (line : LineText) → i < length log
    → line ≡ get_or log i line → All (λ l. IsTrue (is_line l)) (log_of log)
    → IsTrue (is_line line.items)
is_line-read log i line below read good =
    let n = length-log_of log in
    let P : List ℕ → Type 0 = λ l. IsTrue (is_line l) in
    subst P (line_at-log_of log i line below read)
    (All-get_or P (log_of log) i [] (omega arith) good)

-- one more line of the prefix of a log
pub take-log_of_more : (log : List LineText) (i : ℕ) (line : LineText) → i < length log
    → line ≡ get_or log i line → take (i + 1) (log_of log) ≡ take i (log_of log) ++ line.items ∷ []
take-log_of_more log i line below read =
    let n = length-log_of log in
    take_more (log_of log) i [] (omega arith)
    ∙ ap (λ x. take i (log_of log) ++ x ∷ []) (line_at-log_of log i line below read)
