-- The cause that a line has applies, and no lower cause does.
use Rattle.std.proofs.Common.{◌≡◌, inl, inr, ℕ, ◌≤◌, Bool, true, false, cond, leb, ltb, eqb}
use Rattle.std.proofs.Common.{List, [], ◌∷◌, length, fold, Some, None, Result, Ok, Err, refl}
use Rattle.std.proofs.Common.{zero, suc, sym, ap, subst, ◌∙◌, arith, IsTrue}
use Rattle.std.specs.Prelude.{is_some, option_to_list}
use Rattle.std.specs.Option.{option_or}
use Rattle.std.specs.Result.{result_ok, result_err}
use Rattle.std.specs.List.{All, filter_map}
use Rattle.std.proofs.lemmas.Bool.{eqb-true, false≢true}
use Rattle.std.proofs.lemmas.Bool.Decides.{nat_tests}
use Rattle.std.proofs.lemmas.List.Elements.{All-nil, All-cons}
use Rattle.data_rows.specs.declared.error.Cause.{Cause}
use Rattle.data_rows.specs.declared.error.Cause.TheVariants.{BadSection, BadNumber, OutOfRange}
use Rattle.data_rows.specs.declared.error.Cause.TheVariants.{TooManyRows}
use Rattle.data_rows.specs.declared.error.Section.{Section}
use Rattle.data_rows.specs.declared.number.Number.TheVariants.{Negative}
use Rattle.data_rows.specs.declared.position.Position.{Position}
use Rattle.data_rows.specs.declared.position.Position.TheVariants.{Outside, Inside, After}
use Rattle.base_lines.specs.Bytes.{is_all_blank}
use Rattle.data_rows.specs.Rows.{Entry, TextLine, Way, ConditionRow, entry_in}
use Rattle.data_rows.specs.Grammar.{position_after_heading, closes, position_after, entry_here}
use Rattle.data_rows.specs.Grammar.{entry_at, entries}
use Rattle.data_rows.specs.SectionRows.{way_of, word_entry_of, class_line_of, object_line_of}
use Rattle.data_rows.specs.RowGrammar.{IsRow, in_1, in_2, in_3, in_4, in_5, in_6, in_7, in_8, in_9}
use Rattle.data_rows.specs.RowGrammar.{in_10, in_11, in_12, IsTextRow}
use Rattle.data_rows.specs.RowGrammar.{IsOfObject, IsOfProp, IsObjectOrProp}
use Rattle.data_rows.specs.DatabaseGrammar.{IsLineOfNumber}
use Rattle.data_rows.proofs.RowLemmas.{entry-read, read-entry}
use Rattle.data_rows.proofs.LineLemmas.{closes-minus_one, heading-section, heading-end}
use Rattle.cave_data.specs.Texts.{names_object, object_after, object_after_lines}
use Rattle.cave_data.specs.Limits.{MAX_WAYS, MAX_WORDS, MAX_CLASSES}
use Rattle.cave_data.specs.Steps.{shape_here, shape_cause, at_most, limit_cause, first_limit}
use Rattle.cave_data.specs.Steps.{line_cause, HasParts, IsInRange, LacksObject, HasLongList, IsFull}
use Rattle.cave_data.specs.Steps.{IsLowest, OpensNothing, IsLowestAt, ReportsLowest}
use Rattle.cave_data.proofs.PartsRead.{reads_parts, reads_in_range, IsLowestRead, parts_found}
use Rattle.cave_data.proofs.PartsRead.{range_found, parts_missing, range_missed}
use Rattle.cave_data.proofs.LowestLemmas.{Judged, row_judged}
use Rattle.cave_data.proofs.RightLemmas.{stays_object, stay_object}

-- ---- rows that aren't read

abbrev made : Entry → Result Entry Cause
made row = Ok row

-- a line that is in its ranges, and isn't a row, has a list that is too long
too_long : (s : Section) (line : List ℕ) (cause : Cause) → entry_in s line ≡ Err cause
    → IsInRange s line → HasLongList s line
too_long Section.Travel line cause e (place, going, is) = at (leb (length going.motions) 40) refl
  where
    at : (b : Bool) → leb (length going.motions) 40 ≡ b → HasLongList Section.Travel line
    at true few =
        let row = in_3 is (grind (arith, nat_tests, few)) in
        let read : entry_in Section.Travel line ≡ Ok (Way place going) =
        entry-read Section.Travel line (Way place going) row in
        absurd (cc (read, e))
    at false many = (place, going, is, grind (arith, nat_tests, many))
too_long Section.Conditions line cause e (bit, places, is) = at (leb (length places) 40) refl
  where
    at : (b : Bool) → leb (length places) 40 ≡ b → HasLongList Section.Conditions line
    at true few =
        let row = in_9 is (grind (arith, nat_tests, few)) in
        let read : entry_in Section.Conditions line ≡ Ok (ConditionRow bit places) =
        entry-read Section.Conditions line (ConditionRow bit places) row in
        absurd (cc (read, e))
    at false many = (bit, places, is, grind (arith, nat_tests, many))
too_long s line cause e is = let read = entry-read s line is.0 is.1 in cc

-- the cause of a line that isn't read as a row is its lowest
unread_lowest : (before : List Entry) (s : Section) (line : List ℕ) (cause : Cause)
    → entry_in s line ≡ Err cause
    → IsLowestRead cause (reads_parts s line) (reads_in_range s line)
    → IsLowest before s line cause
unread_lowest before s line BadNumber e is = parts_missing s line is
unread_lowest before s line OutOfRange e is =
    (parts_found s line is.0, inl (range_missed s line is.1))
unread_lowest before s line TooManyRows e is =
    let range = range_found s line is.1 in
    (parts_found s line is.0, range, inl (too_long s line TooManyRows e range))
unread_lowest before s line cause e is = is

-- ---- rows beyond the limit, or with a prop of no object

names : (line : TextLine) → IsOfObject line.number → names_object line ≡ true
names line is =
    let above : ltb 0 line.number ≡ true = grind (arith, nat_tests, is.0) in
    let below : leb line.number 99 ≡ true = grind (arith, nat_tests, is.1) in
    rw (above, below) refl

first_named : (object : ℕ) (line : TextLine) → IsOfObject line.number
    → 1 ≤ object_after object line
first_named object line is = rw (names line is) is.0

-- if there is no object after lines, none of them is an object's
none_named : (object : ℕ) (lines : List TextLine) → fold object_after object lines ≡ 0
    → All (λ line. ¬ IsOfObject line.number) lines
none_named object [] e = All-nil (λ (line : TextLine). ¬ IsOfObject line.number)
none_named object (line ∷ lines) e =
    All-cons (λ (line : TextLine). ¬ IsOfObject line.number) line lines
    (λ is. let some = stay_object (object_after object line) lines (first_named object line is) in
    omega (arith, e, some))
    (none_named (object_after object line) lines e)

of_prop : (line : TextLine) → IsObjectOrProp line.number → ¬ IsOfObject line.number
    → IsOfProp line.number
of_prop line (inl is) isnt = absurd (isnt is)
of_prop line (inr is) isnt = is

none_before : (object : ℕ) (line : TextLine) → object_after object line ≡ 0 → object ≡ 0
none_before zero line e = refl
none_before (suc object) line e =
    let some = stays_object (suc object) line (omega arith) in absurd (omega (arith, e, some))

lacks_object : (before : List Entry) (line : List ℕ) (row : TextLine)
    → IsTextRow IsObjectOrProp line row
    → object_after (object_after_lines (filter_map object_line_of before)) row ≡ 0
    → LacksObject before Section.Objects line
lacks_object before line row is e =
    let object = object_after_lines (filter_map object_line_of before) in
    let isnt : ¬ IsOfObject row.number =
    λ named. let some = first_named object row named in absurd (omega (arith, e, some)) in (
      row,
      record {
        rest = is.rest;
        number = is.number;
        text = is.text;
        number_in_range = of_prop row is.number_in_range isnt;
        short = is.short;
      },
      none_named 0 (filter_map object_line_of before) (none_before object row e),
    )

full : (limit n : ℕ) (cause : Cause) → at_most limit n ≡ Some cause
    → (cause ≡ TooManyRows) × (limit ≤ n)
full limit n cause e = at (ltb n limit) refl e where
  at : (b : Bool) → ltb n limit ≡ b → cond b None (Some TooManyRows) ≡ Some cause
      → (cause ≡ TooManyRows) × (limit ≤ n)
  at true below h = cc
  at false above h = (cc, grind (arith, nat_tests, above))

no_object : (object : ℕ) (cause : Cause)
    → cond (eqb object 0) (Some OutOfRange) None ≡ Some cause
    → (cause ≡ OutOfRange) × (object ≡ 0)
no_object object cause e = at (eqb object 0) refl e where
  at : (b : Bool) → eqb object 0 ≡ b → cond b (Some OutOfRange) None ≡ Some cause
      → (cause ≡ OutOfRange) × (object ≡ 0)
  at true is h = (cc, eqb-true object 0 is)
  at false is h = cc

-- how a row that is read may still be at fault
abbrev IsLimit : List Entry → Section → List ℕ → Cause → Type 0
IsLimit before s line OutOfRange = LacksObject before s line
IsLimit before s line TooManyRows = IsFull before s
IsLimit before s line cause = ⊥

limit_is : (before : List Entry) (s : Section) (line : List ℕ) (entry : Entry) (cause : Cause)
    → IsRow s line entry → limit_cause before entry ≡ Some cause → IsLimit before s line cause
limit_is before s line entry cause (in_3 {place = place} {going = going} is few) e =
    let h = full MAX_WAYS (length (filter_map way_of before)) cause e in
    subst (IsLimit before Section.Travel line) (sym h.0) h.1
limit_is before s line entry cause (in_4 {entry = word} is) e =
    let h = full MAX_WORDS (length (filter_map word_entry_of before)) cause e in
    subst (IsLimit before Section.Words line) (sym h.0) h.1
limit_is before s line entry cause (in_5 {row = row} is) e =
    let h = no_object _ cause e in
    subst (IsLimit before Section.Objects line) (sym h.0) (lacks_object before line row is h.1)
limit_is before s line entry cause (in_10 {row = row} is) e =
    let h = full MAX_CLASSES (length (filter_map class_line_of before)) cause e in
    subst (IsLimit before Section.Classes line) (sym h.0) h.1
limit_is before s line entry cause (in_1 is) e = cc
limit_is before s line entry cause (in_2 is) e = cc
limit_is before s line entry cause (in_6 is) e = cc
limit_is before s line entry cause (in_7 is) e = cc
limit_is before s line entry cause (in_8 is) e = cc
limit_is before s line entry cause (in_9 is few) e = cc
limit_is before s line entry cause (in_11 is) e = cc
limit_is before s line entry cause (in_12 is) e = cc

limit_lowest : (before : List Entry) (s : Section) (line : List ℕ) (cause : Cause)
    → HasParts s line → IsInRange s line → IsLimit before s line cause
    → IsLowest before s line cause
limit_lowest before s line OutOfRange parts range is = (parts, inr is)
limit_lowest before s line TooManyRows parts range is = (parts, range, inr is)
limit_lowest before s line cause parts range is = absurd is

-- ---- lines

row_lowest : (before : List Entry) (s : Section) (line : List ℕ) (cause : Cause)
    (r : Result Entry Cause) → entry_in s line ≡ r
    → Judged r (reads_parts s line) (reads_in_range s line)
    → option_or (result_err r) (first_limit before (option_to_list (result_ok r))) ≡ Some cause
    → IsLowest before s line cause
row_lowest before s line cause (Ok entry) is judged e =
    limit_lowest before s line cause (parts_found s line judged.0) (range_found s line judged.1)
    (limit_is before s line entry cause (read-entry s line entry is) e)
row_lowest before s line cause (Err other) is judged e =
    let same : other ≡ cause = cc in
    subst (IsLowest before s line) same (unread_lowest before s line other is judged)

inside_lowest : (before : List Entry) (s : Section) (line : List ℕ) (cause : Cause)
    → option_or (shape_here (Inside s) line) (first_limit before (entry_here (Inside s) line))
    ≡ Some cause
    → (¬ IsLineOfNumber (Negative 1) line) × IsLowest before s line cause
inside_lowest before s line cause e = at (closes line) refl e where
  at : (b : Bool) → closes line ≡ b
      → option_or (cond b None (result_err (entry_in s line)))
      (first_limit before (cond b [] (option_to_list (result_ok (entry_in s line)))))
      ≡ Some cause
      → (¬ IsLineOfNumber (Negative 1) line) × IsLowest before s line cause
  at true is e = cc
  at false is e = (
    λ ends. absurd (false≢true (sym is ∙ closes-minus_one line ends)),
    row_lowest before s line cause (entry_in s line) refl (row_judged s line) e,
  )

opens_nothing : (line : List ℕ) → is_some (position_after_heading line) ≡ false
    → OpensNothing line
opens_nothing line none = (
  λ s is. absurd (false≢true (sym none ∙ ap is_some (heading-section s line is))),
  λ is. absurd (false≢true (sym none ∙ ap is_some (heading-end line is))),
)

here_lowest : (position : Position) (line : List ℕ) (before : List Entry) (cause : Cause)
    → ¬ IsTrue (is_all_blank line)
    → option_or (shape_here position line) (first_limit before (entry_here position line))
    ≡ Some cause → IsLowestAt before position line cause
here_lowest Outside line before cause some e = at (is_some (position_after_heading line)) refl e
  where
    at : (b : Bool) → is_some (position_after_heading line) ≡ b
        → option_or (cond b None (Some BadSection)) None ≡ Some cause
        → IsLowestAt before Outside line cause
    at true is e = cc
    at false is e =
        let same : BadSection ≡ cause = cc in
        subst (IsLowestAt before Outside line) same (some, opens_nothing line is)
here_lowest (Inside s) line before cause some e =
    let inside = inside_lowest before s line cause e in (some, inside.0, inside.1)
here_lowest After line before cause some e = cc

pub tells_lowest : ReportsLowest
unfolding line_cause shape_cause entry_at
tells_lowest before line cause e = at (is_all_blank line) refl e where
  at : (b : Bool) → is_all_blank line ≡ b
      → option_or (cond b None (shape_here (position_after before) line))
      (first_limit (entries before) (cond b [] (entry_here (position_after before) line)))
      ≡ Some cause → IsLowestAt (entries before) (position_after before) line cause
  at true is e = cc
  at false is e =
      here_lowest (position_after before) line (entries before) cause
      (λ blank. absurd (false≢true (sym is ∙ blank))) e
