-- What lines mark: rows, and none after the end.
use Rattle.std.proofs.Common.{◌≡◌, ◌∷◌, ℕ, suc, Bool, true, false, List, [], Option, refl}
use Rattle.base_lines.specs.Bytes.{is_all_blank}
use Rattle.data_rows.specs.Grammar.{position_after_line}
use Rattle.data_rows.specs.RowGrammar.{IsRow}
use Rattle.data_rows.specs.Rows.{Entry}
use Rattle.data_rows.specs.declared.error.Section.{Section}
use Rattle.data_rows.specs.declared.number.Number.TheVariants.{Natural}
use Rattle.data_rows.specs.declared.position.Position.{Position}
use Rattle.data_rows.specs.declared.position.Position.TheVariants.{Inside, After}
use Rattle.data_rows.proofs.LineLemmas.{begins-row, closes-natural, nonblank_line}
use Rattle.data_rows.proofs.RowLemmas.{entry-read}
use Rattle.data_lines.specs.Marks.{mark_at, mark_of, marked_rows, with_marked_row}
use Rattle.data_lines.specs.declared.mark.RowMark.{RowMark}

-- the marks of a line and of those after it
pub marks_then : (position next : Position) (line : List ℕ) (later : List (List ℕ)) (number : ℕ)
    (marked : Option RowMark) → mark_at position line ≡ marked
    → position_after_line position line ≡ next
    → with_marked_row number marked (marked_rows (suc number) next later)
    ≡ marked_rows number position (line ∷ later)
marks_then position next line later number marked is leads = rw (is, leads) refl

-- a row is what the reading of its line marks, and its section goes on
pub row_marked : (s : Section) (line : List ℕ) (row : Entry) → IsRow s line row
    → mark_at (Inside s) line ≡ mark_of row
row_marked s line row is =
    let begins = begins-row s line row is in
    let some = nonblank_line (Natural begins.0) line begins.1 in
    let open_still = closes-natural begins.0 line begins.1 in
    let read = entry-read s line row is in
    rw (some, open_still, read) refl

pub row_leads : (s : Section) (line : List ℕ) (row : Entry) → IsRow s line row
    → position_after_line (Inside s) line ≡ Inside s
unfolding position_after_line
row_leads s line row is =
    let begins = begins-row s line row is in
    let some = nonblank_line (Natural begins.0) line begins.1 in
    let open_still = closes-natural begins.0 line begins.1 in
    rw (some, open_still) refl

-- after the end no line has a row
none_after_line : (number : ℕ) (line : List ℕ) (ls : List (List ℕ)) (blank : Bool)
    → is_all_blank line ≡ blank → marked_rows (suc number) After ls ≡ []
    → marked_rows number After (line ∷ ls) ≡ []
unfolding position_after_line
none_after_line number line ls true blank later = rw blank later
none_after_line number line ls false some later = rw some later

pub none_after_end : (number : ℕ) (ls : List (List ℕ)) → marked_rows number After ls ≡ []
none_after_end number [] = refl
none_after_end number (line ∷ ls) =
    none_after_line number line ls (is_all_blank line) refl (none_after_end (suc number) ls)
