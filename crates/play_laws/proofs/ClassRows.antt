-- The classes among the rows of a database are those of the cave.
use Rattle.std.proofs.Common.{◌≡◌, ◌∙◌, ◌+◌, ◌++◌, ◌∷◌, ℕ, suc, Bool, true, false, List, [], Option}
use Rattle.std.proofs.Common.{Some, None, length, map, refl, sym, ap, cond, arith, ◌≤◌, ◌<◌}
use Rattle.std.specs.Prelude.{nat_le, nat_lt, ◌||◌, ◌&&◌, not, is_some}
use Rattle.std.specs.List.{filter_map, list_any}
use Rattle.std.proofs.lemmas.Bool.{false≢true}
use Rattle.std.proofs.lemmas.List.Elements.{filter_map-append}
use Rattle.base_lines.specs.Bytes.{is_all_blank}
use Rattle.cave_data.specs.CaveView.{ClassEntry, Rated, class_from}
use Rattle.cave_data.specs.Database.{printed_class_of_line}
use Rattle.cave_data.specs.Texts.{names_object}
use Rattle.data_rows.specs.DatabaseGrammar.{HasRows, blank_line, database_ends, row_line}
use Rattle.data_rows.specs.DatabaseGrammar.{section_ends, section_number, section_opens}
use Rattle.data_rows.specs.Grammar.{position_after_line}
use Rattle.data_rows.specs.Rows.{Entry, TextLine, LongLine, ShortLine, Way, Word, ObjectLine}
use Rattle.data_rows.specs.Rows.{MessageLine, PlacementRow, DefaultRow, ConditionRow, ClassLine}
use Rattle.data_rows.specs.Rows.{HintRow, MagicLine}
use Rattle.data_rows.specs.SectionRows.{class_line_of}
use Rattle.data_rows.specs.declared.number.Number.TheVariants.{Natural, Negative}
use Rattle.data_rows.specs.declared.position.Position.{Position}
use Rattle.data_rows.specs.declared.position.Position.TheVariants.{Outside, Inside, After}
use Rattle.data_rows.proofs.LineLemmas.{begins-row, closes-minus_one, closes-natural, heading-end}
use Rattle.data_rows.proofs.LineLemmas.{heading-section, nonblank_line}
use Rattle.data_rows.proofs.RowLemmas.{entry-read}
use Rattle.data_lines.specs.Marks.{is_class_from, mark_at, mark_of, marked_rows, with_marked_row}
use Rattle.data_lines.specs.declared.mark.MarkedRow.{MarkedRow}
use Rattle.data_lines.specs.declared.mark.RowMark.{RowMark}
use Rattle.turn_ends.specs.Score.{max_score_of}
use Rattle.check_doubts.specs.Classes.{has_class, is_first_class, is_taken}
use Rattle.check_doubts.specs.declared.flaw.CaveFlaw.TheVariants.{Classless, UnscoredClass}
use Rattle.play_laws.specs.Unreached.{UnreachedIsOfNoScore, bound_of, bounds}

-- ---- the rows of lines

abbrev pub row_bounds : List Entry → List ℕ
row_bounds rows = map (λ line. line.number) (filter_map class_line_of rows)

object_bound : (number : ℕ) (rest : List MarkedRow) (line : TextLine) (names : Bool)
    → bounds (with_marked_row number (cond names (Some (RowMark.Name line.number)) None) rest)
    ≡ bounds rest
object_bound number rest line true = refl
object_bound number rest line false = refl

one_row : (number : ℕ) (row : Entry) (rest : List MarkedRow) (rows : List Entry)
    → bounds rest ≡ row_bounds rows
    → bounds (with_marked_row number (mark_of row) rest) ≡ row_bounds (row ∷ rows)
one_row number (LongLine line) rest rows same = same
one_row number (ShortLine line) rest rows same = same
one_row number (Way place going) rest rows same = same
one_row number (Word word) rest rows same = same
one_row number (ObjectLine line) rest rows same =
    object_bound number rest line (names_object line) ∙ same
one_row number (MessageLine line) rest rows same = same
one_row number (PlacementRow object placement) rest rows same = same
one_row number (DefaultRow action message) rest rows same = same
one_row number (ConditionRow bit places) rest rows same = same
one_row number (ClassLine line) rest rows same = ap (λ all. line.number ∷ all) same
one_row number (HintRow hint gives) rest rows same = same
one_row number (MagicLine line) rest rows same = same

-- the marks of a line and of those after it
line_bounds : (number : ℕ) (position next : Position) (line : List ℕ) (later : List (List ℕ))
    (marked : Option RowMark) → mark_at position line ≡ marked
    → position_after_line position line ≡ next
    → bounds (marked_rows number position (line ∷ later))
    ≡ bounds (with_marked_row number marked (marked_rows (suc number) next later))
line_bounds number position next line later marked is leads = rw (is, leads) refl

none_after_line : (number : ℕ) (line : List ℕ) (ls : List (List ℕ)) (blank : Bool)
    → is_all_blank line ≡ blank → marked_rows (suc number) After ls ≡ []
    → marked_rows number After (line ∷ ls) ≡ []
unfolding position_after_line
none_after_line number line ls true blank later = rw blank later
none_after_line number line ls false some later = rw some later

none_after_end : (number : ℕ) (ls : List (List ℕ)) → marked_rows number After ls ≡ []
none_after_end number [] = refl
none_after_end number (line ∷ ls) =
    none_after_line number line ls (is_all_blank line) refl (none_after_end (suc number) ls)

bounds_of_rows : {position : Position} {ls : List (List ℕ)} {rows : List Entry}
    → HasRows position ls rows → (number : ℕ)
    → bounds (marked_rows number position ls) ≡ row_bounds rows
unfolding position_after_line
bounds_of_rows (blank_line {position = position} {line = line} {lines = later} blank has) number =
    line_bounds number position position line later None (rw blank refl) (rw blank refl)
    ∙ bounds_of_rows has (suc number)
bounds_of_rows (section_opens {s = s} {line = line} {lines = later} is has) number =
    let some = nonblank_line (Natural (section_number s)) line is in
    let opens = heading-section s line is in
    line_bounds number Outside (Inside s) line later None (rw some refl) (rw (some, opens) refl)
    ∙ bounds_of_rows has (suc number)
bounds_of_rows (section_ends {s = s} {line = line} {lines = later} is has) number =
    let some = nonblank_line (Negative 1) line is in
    let closed = closes-minus_one line is in
    line_bounds number (Inside s) Outside line later None (rw (some, closed) refl)
    (rw (some, closed) refl) ∙ bounds_of_rows has (suc number)
bounds_of_rows (database_ends {line = line} {lines = later} is) number =
    let some = nonblank_line (Natural 0) line is in
    let ends = heading-end line is in
    line_bounds number Outside After line later None (rw some refl) (rw (some, ends) refl)
    ∙ ap bounds (none_after_end (suc number) later)
bounds_of_rows (row_line {s = s} {line = line} {row = row} {lines = later} {rows = rest} is has)
    number =
    let begins = begins-row s line row is in
    let some = nonblank_line (Natural begins.0) line begins.1 in
    let open_still = closes-natural begins.0 line begins.1 in
    let read = entry-read s line row is in
    line_bounds number (Inside s) (Inside s) line later (mark_of row)
    (rw (some, open_still, read) refl) (rw (some, open_still) refl)
    ∙ one_row number row (marked_rows (suc number) (Inside s) later) rest
    (bounds_of_rows has (suc number))

-- ---- the class of a score

abbrev pub entry_bounds : List ClassEntry → List ℕ
entry_bounds classes = map (λ class. class.bound) classes

printed_bounds : (ls : List TextLine)
    → entry_bounds (map printed_class_of_line ls) ≡ map (λ line. line.number) ls
printed_bounds [] = refl
printed_bounds (line ∷ ls) = ap (λ all. line.number ∷ all) (printed_bounds ls)

bound_test : (score : ℕ) (row : MarkedRow) (rows : List MarkedRow)
    → list_any (is_class_from score) rows ≡ list_any (nat_le score) (bounds rows)
    → list_any (is_class_from score) (row ∷ rows) ≡ list_any (nat_le score) (bounds (row ∷ rows))
bound_test score row rows same = by row.mark same
  where
    by : (m : RowMark) → list_any (is_class_from score) rows ≡ list_any (nat_le score) (bounds rows)
        → list_any (is_class_from score) (record { line = row.line; mark = m } ∷ rows)
        ≡ list_any (nat_le score) (bounds (record { line = row.line; mark = m } ∷ rows))
    by (RowMark.Class bound) same = ap (λ b. nat_le score bound || b) same
    by _ same = same

bounds_tested : (score : ℕ) (rows : List MarkedRow)
    → list_any (is_class_from score) rows ≡ list_any (nat_le score) (bounds rows)
bounds_tested score [] = refl
bounds_tested score (row ∷ rows) = bound_test score row rows (bounds_tested score rows)

-- a score belongs to one of the first classes if one of these has a greater one
rated_early : (number score greater : ℕ) (classes : List ClassEntry) (early late : List ℕ)
    (rated : Rated) → entry_bounds classes ≡ early ++ late
    → list_any (nat_le greater) early ≡ true → score ≤ greater
    → class_from number score classes ≡ Some rated → rated.row < number + length early
rated_early number score greater classes [] late rated same some less is =
    absurd (false≢true some)
rated_early number score greater [] (bound ∷ early) late rated same some less is =
    absurd (false≢true (ap is_some is))
rated_early number score greater (class ∷ classes) (bound ∷ early) late rated same some less is =
    by (nat_le score class.bound) refl is
    (λ other on. rated_early (number + 1) score greater classes early late rated
    (heads same).1 other less on)
  where
    heads : {x y : ℕ} {xs ys : List ℕ} → x ∷ xs ≡ y ∷ ys → (x ≡ y) × (xs ≡ ys)
    heads same = (grind (arith, same), grind (arith, same))

    above : nat_le score class.bound ≡ false → nat_le greater bound ≡ true → ⊥
    above not_less is_less =
        let one = (heads same).0 in
        absurd (grind (arith, one, not_less, is_less, less))

    others : nat_le score class.bound ≡ false → (b : Bool) → nat_le greater bound ≡ b
        → (b || list_any (nat_le greater) early) ≡ true → list_any (nat_le greater) early ≡ true
    others not_less true is_less some = absurd (above not_less is_less)
    others not_less false is_less some = some

    by : (b : Bool) → nat_le score class.bound ≡ b
        → cond b (Some (record {
          row = number;
          bound = class.bound;
          text = class.text;
          is_followed = nat_lt 0 (length classes);
        })) (class_from (number + 1) score classes) ≡ Some rated
        → (list_any (nat_le greater) early ≡ true
        → class_from (number + 1) score classes ≡ Some rated
        → rated.row < number + 1 + length early)
        → rated.row < number + suc (length early)
    by true first is on = grind (arith, is)
    by false not_less is on =
        let far = on (others not_less (nat_le greater bound) refl some) is in
        omega (arith, far)

taken_by : (a b c : Bool) (n : ℕ)
    → cond a None (cond b (Some UnscoredClass) (cond c (Some (Classless n)) None))
    ≡ Some UnscoredClass → b ≡ true
taken_by true b c n is = absurd (false≢true (ap is_some is))
taken_by false true c n is = refl
taken_by false false true n is = absurd (grind (arith, is))
taken_by false false false n is = absurd (false≢true (ap is_some is))

pub of_no_score : UnreachedIsOfNoScore
of_no_score database bindings cave reads before later row bound between is doubted score less rated
    rates same =
    let rows = reads.right.is_database.rows in
    let most = max_score_of cave in
    let whole : bounds (before ++ row ∷ later) ≡ entry_bounds cave.classes =
    ap bounds between ∙ bounds_of_rows reads.right.is_database.has_rows 1
    ∙ sym (ap entry_bounds reads.described.holds.classes
    ∙ printed_bounds (filter_map class_line_of rows)) in
    let parts : bounds (before ++ row ∷ later) ≡ bounds before ++ bounds (row ∷ later) =
    filter_map-append (λ row. bound_of row.mark) before (row ∷ later) in
    let taken : is_taken most before ≡ true =
    taken_by (is_taken bound before) (is_taken most before)
    (is_first_class before && not (has_class cave most)) most doubted in
    let far = rated_early 1 score most cave.classes (bounds before) (bounds (row ∷ later)) rated
    (sym whole ∙ parts) (sym (bounds_tested most before) ∙ taken) less rates in
    omega (arith, far, same)
