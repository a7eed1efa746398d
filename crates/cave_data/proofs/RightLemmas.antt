-- Rows are valid together exactly if none of them has a cause.
use Rattle.std.proofs.Common.{◌≡◌, ℕ, ◌+◌, ◌<◌, ◌≤◌, Bool, true, false, cond, leb, ltb, eqb, List}
use Rattle.std.proofs.Common.{[], ◌∷◌, ◌++◌, length, fold, Option, Some, None, option_to_list}
use Rattle.std.proofs.Common.{Result, Ok, Err, refl, sym, ap, subst, ◌∙◌, arith}
use Rattle.std.specs.Option.{option_or}
use Rattle.std.specs.Result.{result_ok}
use Rattle.std.specs.List.{filter_map}
use Rattle.std.proofs.lemmas.Bool.{ltb-true, lt-ltb, ne_eqb, and_parts}
use Rattle.std.proofs.lemmas.List.{append_assoc, append-nil, length-append}
use Rattle.std.proofs.lemmas.List.Elements.{filter_map-append}
use Rattle.data_rows.specs.declared.error.Cause.{Cause}
use Rattle.data_rows.specs.declared.error.Cause.TheVariants.{OutOfRange, TooManyRows}
use Rattle.data_rows.specs.declared.position.Position.{Position}
use Rattle.data_rows.specs.declared.position.Position.TheVariants.{Outside, Inside, After}
use Rattle.base_lines.specs.Bytes.{is_all_blank}
use Rattle.data_rows.specs.Rows.{Entry, TextLine, Way, Word, ObjectLine, ClassLine, entry_in}
use Rattle.cave_data.specs.Texts.{names_object, object_after, object_after_lines}
use Rattle.data_rows.specs.Grammar.{closes, position_after, entry_here, entry_at, entries}
use Rattle.data_rows.specs.SectionRows.{way_of, word_entry_of, class_line_of, object_line_of}
use Rattle.cave_data.specs.Steps.{shape_cause, at_most, limit_cause, first_limit, line_cause}
use Rattle.cave_data.specs.Database.{BeginWithObject, AreValidTogether}
use Rattle.cave_data.proofs.StepLemmas.{entries_push}

-- if their choice isn't there, neither of them is
pub neither : {X : Type 0} (a b : Option X) → option_or a b ≡ None → (a ≡ None) × (b ≡ None)
neither None b e = (refl, e)
neither (Some x) b e = cc

-- One more row.

count : {R : Type 0} → (Entry → Option R) → List Entry → ℕ
count pick rows = length (filter_map pick rows)

count-append : {R : Type 0} (pick : Entry → Option R) (rows more : List Entry)
    → count pick (rows ++ more) ≡ count pick rows + count pick more
unfolding count
count-append pick rows more = ap length (filter_map-append pick rows more)
    ∙ length-append (filter_map pick rows) (filter_map pick more)

at_most_none : (limit n : ℕ) → at_most limit n ≡ None → n < limit
at_most_none limit n e = at (ltb n limit) refl e where
  at : (b : Bool) → ltb n limit ≡ b → cond b None (Some TooManyRows) ≡ None → n < limit
  at true is none = ltb-true n limit is
  at false is none = cc

at_most_below : (limit n : ℕ) → n < limit → at_most limit n ≡ None
at_most_below limit n h = ap (λ b. cond b None (Some TooManyRows)) (lt-ltb n limit h)

ways_more : (rows : List Entry) (e : Entry) → limit_cause rows e ≡ None → count way_of rows ≤ 2000
    → count way_of (rows ++ e ∷ []) ≤ 2000
unfolding count
ways_more rows (Way place going) none few =
    let below = at_most_none 2000 (count way_of rows) none in
    omega (arith, count-append way_of rows (Way place going ∷ []))
ways_more rows e none few = omega (arith, count-append way_of rows (e ∷ []), few)

words_more : (rows : List Entry) (e : Entry) → limit_cause rows e ≡ None
    → count word_entry_of rows ≤ 1000 → count word_entry_of (rows ++ e ∷ []) ≤ 1000
unfolding count
words_more rows (Word word) none few =
    let below = at_most_none 1000 (count word_entry_of rows) none in
    omega (arith, count-append word_entry_of rows (Word word ∷ []))
words_more rows e none few = omega (arith, count-append word_entry_of rows (e ∷ []), few)

classes_more : (rows : List Entry) (e : Entry) → limit_cause rows e ≡ None
    → count class_line_of rows ≤ 50 → count class_line_of (rows ++ e ∷ []) ≤ 50
unfolding count
classes_more rows (ClassLine line) none few =
    let below = at_most_none 50 (count class_line_of rows) none in
    omega (arith, count-append class_line_of rows (ClassLine line ∷ []))
classes_more rows e none few = omega (arith, count-append class_line_of rows (e ∷ []), few)

-- the first line, which comes after no object, is an object's
names_first : (line : TextLine) → cond (eqb (object_after 0 line) 0) (Some OutOfRange) None ≡ None
    → names_object line ≡ true
names_first line e = at (names_object line) refl e where
  at : (b : Bool) → names_object line ≡ b
      → cond (eqb (cond b line.number 0) 0) (Some OutOfRange) None ≡ None → names_object line ≡ true
  at true is none = is
  at false is none = cc

begin_more : (lines : List TextLine) (line : TextLine)
    → cond (eqb (object_after (object_after_lines lines) line) 0) (Some OutOfRange) None ≡ None
    → BeginWithObject lines → BeginWithObject (lines ++ line ∷ [])
begin_more [] line e begin = names_first line e
begin_more (first ∷ lines) line e begin = begin

objects_more : (rows : List Entry) (e : Entry) → limit_cause rows e ≡ None
    → BeginWithObject (filter_map object_line_of rows)
    → BeginWithObject (filter_map object_line_of (rows ++ e ∷ []))
objects_more rows e none begin =
    subst BeginWithObject (sym (filter_map-append object_line_of rows (e ∷ []))) (at e none) where
      same : BeginWithObject (filter_map object_line_of rows ++ [])
      same = subst BeginWithObject (sym (append-nil (filter_map object_line_of rows))) begin

      at : (e : Entry) → limit_cause rows e ≡ None
          → BeginWithObject (filter_map object_line_of rows ++ filter_map object_line_of (e ∷ []))
      at (ObjectLine line) none = begin_more (filter_map object_line_of rows) line none begin
      at e none = same

one_more : (rows : List Entry) (e : Entry) → limit_cause rows e ≡ None → AreValidTogether rows
    → AreValidTogether (rows ++ e ∷ [])
unfolding count
one_more rows e none may = record {
  ways = ways_more rows e none may.ways;
  words = words_more rows e none may.words;
  classes = classes_more rows e none may.classes;
  objects = objects_more rows e none may.objects;
}

fewer : {R : Type 0} (pick : Entry → Option R) (limit : ℕ) (rows more : List Entry)
    → count pick (rows ++ more) ≤ limit → count pick rows ≤ limit
fewer pick limit rows more few = omega (arith, count-append pick rows more, few)

begin_less : (lines more : List TextLine) → BeginWithObject (lines ++ more) → BeginWithObject lines
begin_less [] more begin = tt
begin_less (line ∷ lines) more begin = begin

-- a prefix of rows that are valid together is valid
pub some_less : (rows more : List Entry) → AreValidTogether (rows ++ more) → AreValidTogether rows
unfolding count
some_less rows more may = record {
  ways = fewer way_of 2000 rows more may.ways;
  words = fewer word_entry_of 1000 rows more may.words;
  classes = fewer class_line_of 50 rows more may.classes;
  objects =
      begin_less (filter_map object_line_of rows) (filter_map object_line_of more)
      (subst BeginWithObject (filter_map-append object_line_of rows more) may.objects);
}

pub is_object : (line : TextLine) → names_object line ≡ true → 1 ≤ line.number
is_object line e = ltb-true 0 line.number (and_parts (ltb 0 line.number) (leb line.number 99) e).0

-- after the row of an object there is an object
pub stays_object : (object : ℕ) (line : TextLine) → 1 ≤ object → 1 ≤ object_after object line
stays_object object line h = at (names_object line) refl where
  at : (b : Bool) → names_object line ≡ b → 1 ≤ cond b line.number object
  at true e = is_object line e
  at false e = h

pub stay_object : (object : ℕ) (lines : List TextLine) → 1 ≤ object
    → 1 ≤ fold object_after object lines
stay_object object [] h = h
stay_object object (line ∷ lines) h =
    stay_object (object_after object line) lines (stays_object object line h)

has_object : (object : ℕ) → 1 ≤ object → cond (eqb object 0) (Some OutOfRange) None ≡ None
has_object object h =
    ap (λ b. cond b (Some OutOfRange) None) (ne_eqb object 0 (λ e. omega (arith, e)))

first_object : (line : TextLine) → names_object line ≡ true → 1 ≤ object_after 0 line
first_object line e = rw e (is_object line e)

begins_fine : (lines : List TextLine) (line : TextLine) → BeginWithObject (lines ++ line ∷ [])
    → cond (eqb (object_after (object_after_lines lines) line) 0) (Some OutOfRange) None ≡ None
begins_fine [] line begin = has_object (object_after 0 line) (first_object line begin)
begins_fine (first ∷ lines) line begin =
    has_object
    _ (stays_object (object_after_lines (first ∷ lines)) line
    (stay_object (object_after 0 first) lines (first_object first begin)))

count_one : {R : Type 0} (pick : Entry → Option R) (limit : ℕ) (rows : List Entry) (e : Entry)
    → count pick (e ∷ []) ≡ 1 → count pick (rows ++ e ∷ []) ≤ limit
    → at_most limit (count pick rows) ≡ None
count_one pick limit rows e one few =
    at_most_below limit (count pick rows) (omega (arith, count-append pick rows (e ∷ []), one, few))

fine_row : (rows : List Entry) (e : Entry) → AreValidTogether (rows ++ e ∷ [])
    → limit_cause rows e ≡ None
unfolding count
fine_row rows (Way place going) may = count_one way_of 2000 rows (Way place going) refl may.ways
fine_row rows (Word word) may = count_one word_entry_of 1000 rows (Word word) refl may.words
fine_row rows (ClassLine line) may =
    count_one class_line_of 50 rows (ClassLine line) refl may.classes
fine_row rows (ObjectLine line) may =
    begins_fine (filter_map object_line_of rows) line
    (subst BeginWithObject (filter_map-append object_line_of rows (ObjectLine line ∷ []))
    may.objects)
fine_row rows e may = refl

-- A line has one row, or none.

one_or_none : (r : Result Entry Cause) (rows : List Entry)
    → first_limit rows (option_to_list (result_ok r)) ≡ None → AreValidTogether rows
    → AreValidTogether (rows ++ option_to_list (result_ok r))
one_or_none (Ok e) rows none may = one_more rows e none may
one_or_none (Err cause) rows none may = subst AreValidTogether (sym (append-nil rows)) may

no_row : (rows : List Entry) → AreValidTogether rows → AreValidTogether (rows ++ [])
no_row rows may = subst AreValidTogether (sym (append-nil rows)) may

row_here : (position : Position) (line : List ℕ) (rows : List Entry)
    → first_limit rows (entry_here position line) ≡ None → AreValidTogether rows
    → AreValidTogether (rows ++ entry_here position line)
row_here Outside line rows none may = no_row rows may
row_here (Inside s) line rows none may = at (closes line) none where
  at : (b : Bool)
      → first_limit rows (cond b [] (option_to_list (result_ok (entry_in s line)))) ≡ None
      → AreValidTogether (rows ++ cond b [] (option_to_list (result_ok (entry_in s line))))
  at true none = no_row rows may
  at false none = one_or_none (entry_in s line) rows none may
row_here After line rows none may = no_row rows may

row_at : (position : Position) (line : List ℕ) (rows : List Entry)
    → first_limit rows (entry_at position line) ≡ None → AreValidTogether rows
    → AreValidTogether (rows ++ entry_at position line)
unfolding entry_at
row_at position line rows none may = at (is_all_blank line) none where
  at : (b : Bool) → first_limit rows (cond b [] (entry_here position line)) ≡ None
      → AreValidTogether (rows ++ cond b [] (entry_here position line))
  at true none = no_row rows may
  at false none = row_here position line rows none may

-- the first of the rows has no fault if all are valid together
pub first_fine : (rows more : List Entry) → AreValidTogether (rows ++ more)
    → first_limit rows more ≡ None
first_fine rows [] may = refl
first_fine rows (e ∷ more) may =
    fine_row rows e
    (some_less (rows ++ e ∷ []) more
    (subst AreValidTogether (sym (append_assoc rows (e ∷ []) more)) may))

-- Lines.

pub line_together : (before : List (List ℕ)) (line : List ℕ) → line_cause before line ≡ None
    → AreValidTogether (entries before) → AreValidTogether (entries (before ++ line ∷ []))
unfolding line_cause
line_together before line e may =
    subst AreValidTogether (sym (entries_push before line))
    (row_at (position_after before) line (entries before)
    (neither (shape_cause (position_after before) line)
    (first_limit (entries before) (entry_at (position_after before) line)) e).1 may)

pub none_together : AreValidTogether []
none_together =
    record { ways = omega arith; words = omega arith; classes = omega arith; objects = tt }
