-- Those rows of a database that are in one section.
use Rattle.std.specs.Prelude.{ℕ, List, Option, Some, None}
use Rattle.data_rows.specs.declared.rows.Placement.{Placement}
use Rattle.data_rows.specs.declared.rows.Hint.{Hint}
use Rattle.data_rows.specs.Rows.{Entry, TextLine, Going, WordEntry, LongLine, ShortLine, Way, Word}
use Rattle.data_rows.specs.Rows.{ObjectLine, MessageLine, PlacementRow, DefaultRow, ConditionRow}
use Rattle.data_rows.specs.Rows.{ClassLine, HintRow}

abbrev pub way_of : Entry → Option (ℕ × Going)
way_of (Way place going) = Some (place, going)
way_of entry = None

abbrev pub word_entry_of : Entry → Option WordEntry
word_entry_of (Word word) = Some word
word_entry_of entry = None

abbrev pub class_line_of : Entry → Option TextLine
class_line_of (ClassLine line) = Some line
class_line_of entry = None

abbrev pub object_line_of : Entry → Option TextLine
object_line_of (ObjectLine line) = Some line
object_line_of entry = None

abbrev pub long_line_of : Entry → Option TextLine
long_line_of (LongLine line) = Some line
long_line_of entry = None

abbrev pub short_line_of : Entry → Option TextLine
short_line_of (ShortLine line) = Some line
short_line_of entry = None

abbrev pub message_line_of : Entry → Option TextLine
message_line_of (MessageLine line) = Some line
message_line_of entry = None

abbrev pub placement_of_row : Entry → Option (ℕ × Placement)
placement_of_row (PlacementRow object placement) = Some (object, placement)
placement_of_row entry = None

abbrev pub default_of_row : Entry → Option (ℕ × ℕ)
default_of_row (DefaultRow action message) = Some (action, message)
default_of_row entry = None

abbrev pub marks_of_row : Entry → Option (ℕ × List ℕ)
marks_of_row (ConditionRow bit places) = Some (bit, places)
marks_of_row entry = None

abbrev pub hint_of_row : Entry → Option (ℕ × Hint)
hint_of_row (HintRow number hint) = Some (number, hint)
hint_of_row entry = None
