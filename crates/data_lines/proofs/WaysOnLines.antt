-- Each way that is listed stands on its line, and each way of a place is listed.
use Rattle.std.proofs.Common.{◌≡◌, ◌<◌, ◌∙◌, ◌++◌, ◌∷◌, ℕ, suc, true, false, List, []}
use Rattle.std.proofs.Common.{Option, Some, None, length, refl, sym, ap, subst, arith}
use Rattle.std.specs.Prelude.{◌==◌, is_some, slice_get, unwrap_or}
use Rattle.std.specs.List.{All}
use Rattle.std.specs.Str.Lines.{lines}
use Rattle.std.proofs.lemmas.List.{append_assoc, length-append}
use Rattle.std.proofs.lemmas.List.Elements.{All-nil, All-cons, All-weaker}
use Rattle.cave_data.specs.CaveView.{ways_from}
use Rattle.data_rows.specs.DatabaseGrammar.{HasRows, blank_line, database_ends, row_line}
use Rattle.data_rows.specs.DatabaseGrammar.{section_ends, section_number, section_opens}
use Rattle.data_rows.specs.Grammar.{position_after_line}
use Rattle.data_rows.specs.RowGrammar.{IsRow, in_3}
use Rattle.data_rows.specs.Rows.{Entry, Going, Way}
use Rattle.data_rows.specs.SectionRows.{way_of}
use Rattle.data_rows.specs.declared.error.Section.{Section}
use Rattle.data_rows.specs.declared.number.Number.TheVariants.{Natural, Negative}
use Rattle.data_rows.specs.declared.position.Position.{Position}
use Rattle.data_rows.specs.declared.position.Position.TheVariants.{Outside, Inside, After}
use Rattle.data_rows.proofs.LineLemmas.{closes-minus_one, heading-end, heading-section}
use Rattle.data_rows.proofs.LineLemmas.{nonblank_line}
use Rattle.data_lines.specs.Marks.{mark_at, mark_of, marked_rows}
use Rattle.data_lines.specs.WayLaws.{StandsOn, WaysStandOnTheirLines}
use Rattle.data_lines.specs.WayLines.{way_index, way_lines, way_lines_from}
use Rattle.data_lines.specs.declared.by_line.WayLine.{WayLine}
use Rattle.data_lines.specs.declared.mark.MarkedRow.{MarkedRow}
use Rattle.data_lines.specs.declared.mark.RowMark.{RowMark}
use Rattle.data_lines.proofs.ListedWays.{listed_from, rows_counted}
use Rattle.data_lines.proofs.MarksOfLines.{marks_then, none_after_end, row_leads, row_marked}
use Rattle.data_lines.proofs.WaysOfRows.{Alike, IsNoWay, at_end, goings_append, goings_of, leads_nowhere, marked_as_no_way}
use Rattle.data_lines.proofs.WaysOfRows.{more_goings, more_ways, no_goings, no_line, way_alike, ways_of_cave}

-- ---- lines

-- the way is on its line, and among the ways of its place that the rows have
abbrev StandsAmong : List (List ℕ) → List Entry → WayLine → Type 0
StandsAmong ls rows = StandsOn ls (λ place. goings_of place rows)

-- after these lines with these rows, the ways of the lines that follow stand on theirs
abbrev Stand : List (List ℕ) → List Entry → Position → List (List ℕ) → List Entry → Type 0
Stand passed earlier position ls rows = (before : List MarkedRow) → Alike before earlier
    → All (StandsAmong (passed ++ ls) (earlier ++ rows))
    (way_lines_from before (marked_rows (suc (length passed)) position ls))

-- what holds after one more line holds of the lines from there on
one_passed : (passed : List (List ℕ)) (line : List ℕ) (later : List (List ℕ)) (rows : List Entry)
    (position : Position) (before : List MarkedRow)
    → All (StandsAmong ((passed ++ line ∷ []) ++ later) rows)
    (way_lines_from before (marked_rows (suc (length (passed ++ line ∷ []))) position later))
    → All (StandsAmong (passed ++ line ∷ later) rows)
    (way_lines_from before (marked_rows (suc (suc (length passed))) position later))
one_passed passed line later rows position before stand =
    let counted : length (passed ++ line ∷ []) ≡ suc (length passed) =
    length-append passed (line ∷ []) ∙ omega arith in
    subst (λ n. All (StandsAmong (passed ++ line ∷ later) rows)
    (way_lines_from before (marked_rows (suc n) position later))) counted
    (subst (λ ls. All (StandsAmong ls rows)
    (way_lines_from before (marked_rows (suc (length (passed ++ line ∷ []))) position later)))
    (append_assoc passed (line ∷ []) later) stand)

-- a line that has no row
unmarked : (passed : List (List ℕ)) (earlier : List Entry) (position next : Position)
    (line : List ℕ) (later : List (List ℕ)) (rows : List Entry)
    → mark_at position line ≡ None → position_after_line position line ≡ next
    → Stand (passed ++ line ∷ []) earlier next later rows
    → Stand passed earlier position (line ∷ later) rows
unmarked passed earlier position next line later rows none leads stand before alike =
    subst (λ marks. All (StandsAmong (passed ++ line ∷ later) (earlier ++ rows))
    (way_lines_from before marks))
    (marks_then position next line later (suc (length passed)) None none leads)
    (one_passed passed line later (earlier ++ rows) next before (stand before alike))

-- a row that isn't a way
other_row : (passed : List (List ℕ)) (earlier : List Entry) (s : Section) (line : List ℕ)
    (row : Entry) (later : List (List ℕ)) (rest : List Entry) → IsRow s line row
    → is_some (way_of row) ≡ false
    → Stand (passed ++ line ∷ []) (earlier ++ row ∷ []) (Inside s) later rest
    → Stand passed earlier (Inside s) (line ∷ later) (row ∷ rest)
other_row passed earlier s line row later rest is none stand before alike =
    by_mark (mark_of row) refl (marked_as_no_way row none)
  where
    leads : position_after_line (Inside s) line ≡ Inside s
    leads = row_leads s line row is

    later_stand : (marks : List MarkedRow) → Alike marks (earlier ++ row ∷ [])
        → All (StandsAmong (passed ++ line ∷ later) (earlier ++ row ∷ rest))
        (way_lines_from marks (marked_rows (suc (suc (length passed))) (Inside s) later))
    later_stand marks counted =
        one_passed passed line later (earlier ++ row ∷ rest) (Inside s) marks
        (subst (λ rows. All (StandsAmong ((passed ++ line ∷ []) ++ later) rows)
        (way_lines_from marks
        (marked_rows (suc (length (passed ++ line ∷ []))) (Inside s) later)))
        (append_assoc earlier (row ∷ []) rest) (stand marks counted))

    same_goings : (place : ℕ)
        → length (goings_of place (earlier ++ row ∷ [])) ≡ length (goings_of place earlier)
    same_goings place = more_goings place earlier row 0 (no_goings row place none) ∙ omega arith

    by_mark : (m : Option RowMark) → mark_of row ≡ m → IsNoWay m
        → All (StandsAmong (passed ++ line ∷ later) (earlier ++ row ∷ rest))
        (way_lines_from before
        (marked_rows (suc (length passed)) (Inside s) (line ∷ later)))
    by_mark None has plain =
        subst (λ marks. All (StandsAmong (passed ++ line ∷ later) (earlier ++ row ∷ rest))
        (way_lines_from before marks))
        (marks_then (Inside s) (Inside s) line later (suc (length passed)) None
        (row_marked s line row is ∙ has) leads)
        (later_stand before (λ place. alike place ∙ sym (same_goings place)))
    by_mark (Some m) has plain =
        let marked : MarkedRow = record { line = suc (length passed); mark = m } in
        subst (λ marks. All (StandsAmong (passed ++ line ∷ later) (earlier ++ row ∷ rest))
        (way_lines_from before marks))
        (marks_then (Inside s) (Inside s) line later (suc (length passed)) (Some m)
        (row_marked s line row is ∙ has) leads)
        (subst (λ ways. All (StandsAmong (passed ++ line ∷ later) (earlier ++ row ∷ rest))
        (ways ++ way_lines_from (before ++ marked ∷ [])
        (marked_rows (suc (suc (length passed))) (Inside s) later)))
        (sym (no_line m before (suc (length passed)) plain))
        (later_stand (before ++ marked ∷ [])
        (λ place. more_ways place before marked 0 (rw (leads_nowhere m place plain) refl)
        ∙ omega arith ∙ alike place ∙ sym (same_goings place))))

-- a way
way_row_stands : (passed : List (List ℕ)) (earlier : List Entry) (line : List ℕ) (place : ℕ)
    (going : Going) (later : List (List ℕ)) (rest : List Entry)
    → IsRow Section.Travel line (Way place going)
    → Stand (passed ++ line ∷ []) (earlier ++ Way place going ∷ []) (Inside Section.Travel) later
    rest
    → Stand passed earlier (Inside Section.Travel) (line ∷ later) (Way place going ∷ rest)
way_row_stands passed earlier line place going later rest is stand before alike =
    subst (λ marks. All (StandsAmong (passed ++ line ∷ later) (earlier ++ row ∷ rest))
    (way_lines_from before marks))
    (marks_then (Inside Section.Travel) (Inside Section.Travel) line later (suc (length passed))
    (Some (RowMark.Way place)) (row_marked Section.Travel line row is)
    (row_leads Section.Travel line row is))
    (All-cons (StandsAmong (passed ++ line ∷ later) (earlier ++ row ∷ rest)) way
    (way_lines_from (before ++ marked ∷ [])
    (marked_rows (suc (suc (length passed))) (Inside Section.Travel) later)) stands
    (one_passed passed line later (earlier ++ row ∷ rest) (Inside Section.Travel)
    (before ++ marked ∷ [])
    (subst (λ rows. All (StandsAmong ((passed ++ line ∷ []) ++ later) rows)
    (way_lines_from (before ++ marked ∷ [])
    (marked_rows (suc (length (passed ++ line ∷ []))) (Inside Section.Travel) later)))
    (append_assoc earlier (row ∷ []) rest)
    (stand (before ++ marked ∷ [])
    (way_alike before earlier (suc (length passed)) place going alike)))))
  where
    row : Entry
    row = Way place going

    marked : MarkedRow
    marked = record { line = suc (length passed); mark = RowMark.Way place }

    way : WayLine
    way = record {
      line = suc (length passed);
      place = place;
      index = way_index place before;
    }

    own : (place == place) ≡ true
    own = grind (arith)

    among : goings_of place (earlier ++ row ∷ rest)
        ≡ goings_of place earlier ++ going ∷ goings_of place rest
    among = goings_append place earlier (row ∷ rest)
        ∙ rw own refl

    stands : StandsAmong (passed ++ line ∷ later) (earlier ++ row ∷ rest) way
    stands = record {
      before = length passed;
      counted = omega arith;
      line = line;
      there = at_end passed line later;
      going = going;
      is_row = is;
      is_way = subst (λ i. slice_get (goings_of place (earlier ++ row ∷ rest)) i ≡ Some going)
          (sym (alike place))
          (subst (λ ways. slice_get ways (length (goings_of place earlier)) ≡ Some going)
          (sym among) (at_end (goings_of place earlier) going (goings_of place rest)));
    }

-- ---- lines that have rows

ways_stand : {position : Position} {ls : List (List ℕ)} {rows : List Entry}
    → HasRows position ls rows → (passed : List (List ℕ)) (earlier : List Entry)
    → Stand passed earlier position ls rows
unfolding position_after_line
ways_stand (blank_line {position = position} {line = line} {lines = later} {rows = rows} blank has)
    passed earlier =
    unmarked passed earlier position position line later rows (rw blank refl) (rw blank refl)
    (ways_stand has (passed ++ line ∷ []) earlier)
ways_stand (section_opens {s = s} {line = line} {lines = later} {rows = rows} is has) passed
    earlier =
    let some = nonblank_line (Natural (section_number s)) line is in
    let opens = heading-section s line is in
    unmarked passed earlier Outside (Inside s) line later rows (rw some refl)
    (rw (some, opens) refl) (ways_stand has (passed ++ line ∷ []) earlier)
ways_stand (section_ends {s = s} {line = line} {lines = later} {rows = rows} is has) passed
    earlier =
    let some = nonblank_line (Negative 1) line is in
    let closed = closes-minus_one line is in
    unmarked passed earlier (Inside s) Outside line later rows (rw (some, closed) refl)
    (rw (some, closed) refl) (ways_stand has (passed ++ line ∷ []) earlier)
ways_stand (database_ends {line = line} {lines = later} is) passed earlier =
    let some = nonblank_line (Natural 0) line is in
    let ends = heading-end line is in
    unmarked passed earlier Outside After line later [] (rw some refl) (rw (some, ends) refl)
    (λ before alike.
    rw (none_after_end (suc (length (passed ++ line ∷ []))) later)
    (All-nil (StandsAmong ((passed ++ line ∷ []) ++ later) (earlier ++ []))))
ways_stand
    (row_line {line = line} {lines = later} {rows = rest}
    (in_3 {place = place} {going = going} is few) has) passed earlier =
    way_row_stands passed earlier line place going later rest (in_3 is few)
    (ways_stand has (passed ++ line ∷ []) (earlier ++ Way place going ∷ []))
ways_stand (row_line {s = s} {line = line} {row = row} {lines = later} {rows = rest} is has)
    passed earlier =
    other_row passed earlier s line row later rest is refl
    (ways_stand has (passed ++ line ∷ []) (earlier ++ row ∷ []))

pub ways_stand_on_their_lines : WaysStandOnTheirLines
unfolding way_lines
ways_stand_on_their_lines database bindings c reads =
    record {
      each_line = All-weaker (StandsAmong (lines database) rows)
          (StandsOn (lines database) (ways_from c)) in_cave (way_lines database)
          (ways_stand reads.right.is_database.has_rows [] [] [] (λ place. refl));
      each_way = λ place index less.
          listed_from place index [] (marked_rows 1 Outside (lines database)) (omega arith)
          (subst (λ n. index < n)
          (ap length (same place) ∙ sym (rows_counted reads.right.is_database.has_rows 1 place))
          less);
    }
  where
    rows : List Entry
    rows = reads.right.is_database.rows

    same : (place : ℕ) → ways_from c place ≡ goings_of place rows
    same place =
        ap (λ o. unwrap_or o []) (reads.described.holds.travel place)
        ∙ ways_of_cave (goings_of place rows)

    in_cave : (way : WayLine) → StandsAmong (lines database) rows way
        → StandsOn (lines database) (ways_from c) way
    in_cave way stands = record {
      before = stands.before;
      counted = stands.counted;
      line = stands.line;
      there = stands.there;
      going = stands.going;
      is_row = stands.is_row;
      is_way = subst (λ ways. slice_get ways way.index ≡ Some stands.going)
          (sym (same way.place)) stands.is_way;
    }
