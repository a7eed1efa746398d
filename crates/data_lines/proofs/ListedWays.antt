-- Each way of a place is listed, with a line.
use Rattle.std.proofs.Common.{◌≡◌, ◌∙◌, ◌+◌, ◌++◌, ◌∷◌, ◌<◌, ◌≤◌, ℕ, suc, Bool, true, false}
use Rattle.std.proofs.Common.{List, [], None, length, refl, sym, ap, subst, arith}
use Rattle.std.specs.Prelude.{◌==◌}
use Rattle.std.specs.List.{Contains}
use Rattle.std.proofs.lemmas.Bool.{eqb-true, false≢true}
use Rattle.std.proofs.lemmas.Bool.Decides.{nat_tests}
use Rattle.std.proofs.lemmas.List.{append-nil, append_assoc}
use Rattle.std.proofs.lemmas.List.Elements.{Contains-append_left, Contains-append_right}
use Rattle.cave_data.specs.Texts.{names_object}
use Rattle.data_rows.specs.DatabaseGrammar.{HasRows, blank_line, database_ends, row_line}
use Rattle.data_rows.specs.DatabaseGrammar.{section_ends, section_number, section_opens}
use Rattle.data_rows.specs.Grammar.{position_after_line}
use Rattle.data_rows.specs.RowGrammar.{IsRow}
use Rattle.data_rows.specs.Rows.{Entry, Way, ObjectLine}
use Rattle.data_rows.specs.declared.error.Section.{Section}
use Rattle.data_rows.specs.declared.number.Number.TheVariants.{Natural, Negative}
use Rattle.data_rows.specs.declared.position.Position.{Position}
use Rattle.data_rows.specs.declared.position.Position.TheVariants.{Outside, Inside, After}
use Rattle.data_rows.proofs.LineLemmas.{closes-minus_one, heading-end, heading-section}
use Rattle.data_rows.proofs.LineLemmas.{nonblank_line}
use Rattle.data_lines.specs.Marks.{leads_from, mark_at, mark_of, marked_rows, with_marked_row}
use Rattle.data_lines.specs.WayLaws.{HasALine}
use Rattle.data_lines.specs.WayLines.{way_index, way_line, way_lines_at, way_lines_from}
use Rattle.data_lines.specs.declared.by_line.WayLine.{WayLine}
use Rattle.data_lines.specs.declared.mark.MarkedRow.{MarkedRow}
use Rattle.data_lines.specs.declared.mark.RowMark.{RowMark}
use Rattle.data_lines.proofs.MarksOfLines.{marks_then, none_after_end, row_leads, row_marked}
use Rattle.data_lines.proofs.WaysOfRows.{goings_of, more_ways}

-- ---- a row that is a way is listed

at_way : (before : List MarkedRow) (line place : ℕ) (m : RowMark) → leads_from place m ≡ true
    → way_line before line m
    ≡ record { line = line; place = place; index = way_index place before } ∷ []
at_way before line place (RowMark.Way other) leads =
    ap (λ p. record { line = line; place = p; index = way_index p before } ∷ [])
    (eqb-true other place leads)
at_way before line place other leads = absurd (false≢true leads)

after_others : (ways later : List WayLine) (place index : ℕ) → HasALine later place index
    → HasALine (ways ++ later) place index
after_others ways later place index has =
    record { line = has.line; is_listed = Contains-append_right ways later _ has.is_listed }

listed_first : (ways later : List WayLine) (line place index : ℕ)
    → ways ≡ record { line = line; place = place; index = index } ∷ []
    → HasALine (ways ++ later) place index
listed_first ways later line place index is =
    record {
      line = line;
      is_listed = Contains-append_left ways later _
          (subst (λ all. Contains all (record { line = line; place = place; index = index }))
          (sym is) (0, omega arith, refl));
    }

-- from these rows on, each way of the place that isn't counted before them
pub listed_from : (place index : ℕ) (before rows : List MarkedRow)
    → way_index place before ≤ index → index < way_index place (before ++ rows)
    → HasALine (way_lines_from before rows) place index
listed_from place index before [] least most =
    let none : way_index place (before ++ []) ≡ way_index place before =
    ap (way_index place) (append-nil before) in
    absurd (omega (arith, least, most, none))
listed_from place index before (row ∷ rows) least most =
    by_mark
    (λ after. after_others (way_lines_at before row) (way_lines_from (before ++ row ∷ []) rows)
    place index (listed_from place index (before ++ row ∷ []) rows after
    (subst (λ all. index < way_index place all) (sym (append_assoc before (row ∷ []) rows)) most)))
    (leads_from place row.mark) refl
  where
    Later : Type 0
    Later = way_index place (before ++ row ∷ []) ≤ index
        → HasALine (way_lines_from before (row ∷ rows)) place index

    by_index : Later → (b : Bool) → (index == way_index place before) ≡ b
        → leads_from place row.mark ≡ true
        → HasALine (way_lines_from before (row ∷ rows)) place index
    by_index later true here leads =
        listed_first (way_lines_at before row) (way_lines_from (before ++ row ∷ []) rows) row.line
        place index (at_way before row.line place row.mark leads
        ∙ ap (λ i. record { line = row.line; place = place; index = i } ∷ [])
        (sym (eqb-true index (way_index place before) here)))
    by_index later false other leads =
        let more = more_ways place before row 1 (rw leads refl) in
        let past : way_index place before + 1 ≤ index = grind (arith, nat_tests, other, least) in
        later (omega (arith, more, past))

    by_mark : Later → (b : Bool) → leads_from place row.mark ≡ b
        → HasALine (way_lines_from before (row ∷ rows)) place index
    by_mark later true leads = by_index later (index == way_index place before) refl leads
    by_mark later false others =
        let same = more_ways place before row 0 (rw others refl) in
        later (omega (arith, same, least))

-- ---- as many rows are ways of a place as the place has

-- of these lines with these rows
abbrev Counted : Position → List (List ℕ) → List Entry → Type 0
Counted position ls rows = (number place : ℕ)
    → way_index place (marked_rows number position ls) ≡ length (goings_of place rows)

count_one : (place number : ℕ) (row : Entry) (marks : List MarkedRow) (rows : List Entry)
    → way_index place marks ≡ length (goings_of place rows)
    → way_index place (with_marked_row number (mark_of row) marks)
    ≡ length (goings_of place (row ∷ rows))
count_one place number (Way from going) marks rows same = by_test (from == place) refl
  where
    by_test : (b : Bool) → (from == place) ≡ b
        → way_index place (with_marked_row number (mark_of (Way from going)) marks)
        ≡ length (goings_of place (Way from going ∷ rows))
    by_test true is = rw is (ap suc same)
    by_test false is = rw is same
count_one place number (ObjectLine line) marks rows same = by_test (names_object line) refl
  where
    by_test : (b : Bool) → names_object line ≡ b
        → way_index place (with_marked_row number (mark_of (ObjectLine line)) marks)
        ≡ length (goings_of place (ObjectLine line ∷ rows))
    by_test true is = rw is same
    by_test false is = rw is same
count_one place number other marks rows same = same

no_row_counted : (position next : Position) (line : List ℕ) (later : List (List ℕ))
    (rows : List Entry) → mark_at position line ≡ None → position_after_line position line ≡ next
    → Counted next later rows → Counted position (line ∷ later) rows
no_row_counted position next line later rows none leads counted number place =
    subst (λ marks. way_index place marks ≡ length (goings_of place rows))
    (marks_then position next line later number None none leads) (counted (suc number) place)

row_counted : (s : Section) (line : List ℕ) (row : Entry) (later : List (List ℕ))
    (rows : List Entry) → IsRow s line row → Counted (Inside s) later rows
    → Counted (Inside s) (line ∷ later) (row ∷ rows)
row_counted s line row later rows is counted number place =
    subst (λ marks. way_index place marks ≡ length (goings_of place (row ∷ rows)))
    (marks_then (Inside s) (Inside s) line later number (mark_of row) (row_marked s line row is)
    (row_leads s line row is))
    (count_one place number row (marked_rows (suc number) (Inside s) later) rows
    (counted (suc number) place))

pub rows_counted : {position : Position} {ls : List (List ℕ)} {rows : List Entry}
    → HasRows position ls rows → Counted position ls rows
unfolding position_after_line
rows_counted (blank_line {position = position} {line = line} {lines = later} {rows = rows} blank has)
    =
    no_row_counted position position line later rows (rw blank refl) (rw blank refl)
    (rows_counted has)
rows_counted (section_opens {s = s} {line = line} {lines = later} {rows = rows} is has) =
    let some = nonblank_line (Natural (section_number s)) line is in
    let opens = heading-section s line is in
    no_row_counted Outside (Inside s) line later rows (rw some refl) (rw (some, opens) refl)
    (rows_counted has)
rows_counted (section_ends {s = s} {line = line} {lines = later} {rows = rows} is has) =
    let some = nonblank_line (Negative 1) line is in
    let closed = closes-minus_one line is in
    no_row_counted (Inside s) Outside line later rows (rw (some, closed) refl)
    (rw (some, closed) refl) (rows_counted has)
rows_counted (database_ends {line = line} {lines = later} is) =
    let some = nonblank_line (Natural 0) line is in
    let ends = heading-end line is in
    no_row_counted Outside After line later [] (rw some refl) (rw (some, ends) refl)
    (λ number place. rw (none_after_end number later) refl)
rows_counted (row_line {s = s} {line = line} {row = row} {lines = later} {rows = rows} is has) =
    row_counted s line row later rows is (rows_counted has)
