-- What a row of a database is about, and on which line it is. Some kinds of rows, for which no one
-- asks by line, are left out.
use Rattle.std.specs.Prelude.{ℕ, suc, Bool, true, false, ◌==◌, nat_le, if◌then◌else◌, List, []}
use Rattle.std.specs.Prelude.{◌∷◌, Option, Some, None, option_and_then}
use Rattle.std.specs.Result.{result_ok}
use Rattle.base_lines.specs.Bytes.{is_all_blank}
use Rattle.cave_data.specs.Texts.{names_object}
use Rattle.data_rows.specs.Grammar.{closes, position_after_line}
use Rattle.data_rows.specs.Rows.{entry_in, Entry, TextLine, LongLine, ShortLine, Way, Word}
use Rattle.data_rows.specs.Rows.{ObjectLine, MessageLine, PlacementRow, DefaultRow, ConditionRow}
use Rattle.data_rows.specs.Rows.{ClassLine, HintRow, MagicLine}
use Rattle.data_rows.specs.declared.error.Section.{Section}
use Rattle.data_rows.specs.declared.position.Position.TheVariants.{Inside}
use Rattle.data_rows.specs.declared.position.Position.{Position}
use Rattle.data_lines.specs.declared.mark.RowMark.{RowMark}
use Rattle.data_lines.specs.declared.mark.MarkedRow.{MarkedRow}

-- a line of section 5 belongs to an inventory text, or to what is seen of the object before
abbrev pub mark_of_object_line : TextLine → Option RowMark
mark_of_object_line line = if names_object line then Some (RowMark.Name line.number) else None

-- what a row is about, unless its kind has no mark
abbrev pub mark_of : Entry → Option RowMark
mark_of (LongLine line) = Some (RowMark.Long line.number)
mark_of (ShortLine line) = Some (RowMark.Short line.number)
mark_of (Way place going) = Some (RowMark.Way place)
mark_of (Word word) = Some RowMark.Word
mark_of (ObjectLine line) = mark_of_object_line line
mark_of (MessageLine line) = None
mark_of (PlacementRow object placement) = Some (RowMark.Placement object)
mark_of (DefaultRow action message) = Some (RowMark.Default action message)
mark_of (ConditionRow bit places) = None
mark_of (ClassLine line) = Some (RowMark.Class line.number)
mark_of (HintRow number hint) = Some (RowMark.Hint number hint.question hint.text)
mark_of (MagicLine line) = None

-- what a line of a section is about, if it is such a row
abbrev pub mark_in : Section → List ℕ → Option RowMark
mark_in section line = option_and_then mark_of (result_ok (entry_in section line))

abbrev pub mark_here : Position → List ℕ → Option RowMark
mark_here (Inside section) line = if closes line then None else mark_in section line
mark_here _ line = None

-- what a line is about at its place in the database
abbrev pub mark_at : Position → List ℕ → Option RowMark
mark_at position line = if is_all_blank line then None else mark_here position line

abbrev pub with_marked_row : ℕ → Option RowMark → List MarkedRow → List MarkedRow
with_marked_row line None rows = rows
with_marked_row line (Some mark) rows = record { line = line; mark = mark } ∷ rows

-- the rows of these lines, the first of which has this number and is at this position
abbrev pub marked_rows : ℕ → Position → List (List ℕ) → List MarkedRow
marked_rows number position [] = []
marked_rows number position (line ∷ lines) =
    with_marked_row number (mark_at position line)
    (marked_rows (suc number) (position_after_line position line) lines)

-- ---- which rows are of a kind

abbrev pub is_long : ℕ → RowMark → Bool
is_long place (RowMark.Long other) = other == place
is_long place _ = false

abbrev pub is_short : ℕ → RowMark → Bool
is_short place (RowMark.Short other) = other == place
is_short place _ = false

abbrev pub marks_name : ℕ → RowMark → Bool
marks_name object (RowMark.Name other) = other == object
marks_name object _ = false

abbrev pub leads_from : ℕ → RowMark → Bool
leads_from place (RowMark.Way other) = other == place
leads_from place _ = false

abbrev pub is_of_word : RowMark → Bool
is_of_word RowMark.Word = true
is_of_word _ = false

abbrev pub has_bound_from : ℕ → RowMark → Bool
has_bound_from score (RowMark.Class bound) = nat_le score bound
has_bound_from score _ = false

abbrev pub is_long_text : ℕ → MarkedRow → Bool
is_long_text place row = is_long place row.mark

abbrev pub is_short_text : ℕ → MarkedRow → Bool
is_short_text place row = is_short place row.mark

abbrev pub is_name : ℕ → MarkedRow → Bool
is_name object row = marks_name object row.mark

abbrev pub is_way_from : ℕ → MarkedRow → Bool
is_way_from place row = leads_from place row.mark

abbrev pub is_word_row : MarkedRow → Bool
is_word_row row = is_of_word row.mark

-- a class whose greatest score isn't below this one
abbrev pub is_class_from : ℕ → MarkedRow → Bool
is_class_from score row = has_bound_from score row.mark
