-- How the lines of a log end, how the items of a script change that, and what is printed with such
-- ends.
use Rattle.std.specs.Prelude.{ℕ, ◌+◌, ◌-◌, ◌==◌, Bool, true, false, not, List, [], ◌∷◌, ◌++◌, drop}
use Rattle.std.specs.Prelude.{insert, remove, if◌then◌else◌, slice_get, Option, None, Some}
use Rattle.std.specs.List.{list_all}
use Rattle.std.specs.Option.{unwrap_or}
use Rattle.std.specs.Str.Lines.{lines}
use Rattle.play_command.specs.declared.views.EditView.{EditView}
use Rattle.play_edits.specs.Items.{game_after_item}
use Rattle.play_edits.specs.Refusal.{item_refusal}
use Rattle.play_edits.specs.contracts.ends.LineEndPartialEq.TheImpl as line_end_eq
use Rattle.play_edits.specs.declared.ends.LineEnd.{LineEnd}
use Rattle.play_edits.specs.declared.ends.LineEnd.TheVariants.{Feed, Return}
use Rattle.play_edits.specs.declared.ends.LogEnds.{LogEnds}
use Rattle.play_edits.specs.declared.refusal.Refusal.{Refusal}
use Rattle.replay_edits.specs.Edit.{Change, Game, inserts, deletes, replaces, reseeds}
use Rattle.replay_scripts.specs.Script.{Applied, line_of_refusal}

-- ---- the ends of a text

-- the end of a line, by the byte before its line feed
abbrev pub end_after : ℕ → LineEnd
end_after byte = if byte == 13 then Return else Feed

-- the ends of the lines of bytes that come after this one: one for each line feed
abbrev pub ends_from : ℕ → List ℕ → List LineEnd
ends_from last [] = []
ends_from last (byte ∷ bytes) =
    if byte == 10 then end_after last ∷ ends_from byte bytes else ends_from byte bytes

abbrev pub ends_in : List ℕ → List LineEnd
ends_in text = ends_from 10 text

-- the last of these bytes, or the one before them
abbrev pub last_byte : ℕ → List ℕ → ℕ
last_byte last [] = last
last_byte last (byte ∷ bytes) = last_byte byte bytes

-- no line feed ends the last line of a text
abbrev pub is_unended : List ℕ → Bool
is_unended text = not (last_byte 10 text == 10)

-- the end at a place, or the usual one if there is none
abbrev pub end_at : LineEnd → List LineEnd → ℕ → LineEnd
end_at usual ends place = unwrap_or (slice_get ends place) usual

abbrev pub first_end : LineEnd → List LineEnd → LineEnd
first_end usual ends = end_at usual ends 0

-- ---- the text of lines and their ends

-- the bytes of an end: a line feed, by itself or after a carriage return
abbrev pub bytes_of_end : LineEnd → List ℕ
bytes_of_end Feed = 10 ∷ []
bytes_of_end Return = 13 ∷ 10 ∷ []

-- how the last line ends: in an unended text it has no end, unless it is empty
abbrev pub last_end : Bool → List ℕ → LineEnd → List ℕ
last_end false line end = bytes_of_end end
last_end true [] end = bytes_of_end end
last_end true (byte ∷ line) end = []

-- lines, each with its own end, or with the usual one if there is none for it
abbrev pub with_line_ends : LineEnd → Bool → List LineEnd → List (List ℕ) → List ℕ
with_line_ends usual unended ends [] = []
with_line_ends usual unended ends (line ∷ []) = line ++ last_end unended line (first_end usual ends)
with_line_ends usual unended ends (line ∷ next ∷ more) =
    (line ++ bytes_of_end (first_end usual ends))
    ++ with_line_ends usual unended (drop 1 ends) (next ∷ more)

-- ---- a log that is edited

-- How the lines of a log end: all with the usual end, if no others are listed, or each with its
-- own; the last line of an unended log has no end. The script that edits the log has these ends of
-- its lines.
pub record EndsOfLog : Type 0 where
  pub usual : LineEnd
  pub each : List LineEnd
  pub unended : Bool
  pub script : List LineEnd

abbrev pub ends_with : LineEnd → List LineEnd → Bool → List LineEnd → EndsOfLog
ends_with usual each unended script =
    record { usual = usual; each = each; unended = unended; script = script }

abbrev pub shown_ends : LogEnds → EndsOfLog
shown_ends ends = ends_with ends.usual ends.each.items ends.unended ends.script.items

-- whether all ends are this one
abbrev pub are_alike : LineEnd → List LineEnd → Bool
are_alike end ends = list_all (line_end_eq.eq-value.it end) ends

-- no ends are listed if all are the usual one
abbrev pub unlike_ends : LineEnd → List LineEnd → List LineEnd
unlike_ends usual ends = if are_alike usual ends then [] else ends

abbrev pub ends_by : List LineEnd → Bool → List LineEnd → EndsOfLog
ends_by ends unended script =
    let usual = first_end (first_end Feed script) ends in
    ends_with usual (unlike_ends usual ends) unended script

-- How the lines of a log that a script edits end: the usual end is that of the log's first line. If
-- no line of the log has an end, it is that of the script's first line.
abbrev pub log_ends : List ℕ → List ℕ → EndsOfLog
log_ends log script = ends_by (ends_in log) (is_unended log) (ends_in script)

-- each line keeps its end, and one that is inserted has this end
abbrev pub ends_after : Change → LineEnd → List LineEnd → List LineEnd
ends_after (inserts place line) end ends = insert ends place end
ends_after (deletes place) end ends = remove ends place
ends_after (replaces place line) end ends = ends
ends_after (reseeds seed) end ends = ends

-- the ends after changes of an item, the first of which has the number `at`: an inserted line ends
-- as its line in the script does
abbrev pub ends_after_changes : LineEnd → List LineEnd → Applied → ℕ → List Change
    → List LineEnd → List LineEnd
ends_after_changes usual script item at [] ends = ends
ends_after_changes usual script item at (change ∷ changes) ends =
    ends_after_changes usual script item (at + 1) changes
    (ends_after change (end_at usual script (line_of_refusal item at - 1)) ends)

-- if all lines end alike, they go on to end like that
abbrev pub each_after : LineEnd → List LineEnd → Applied → List LineEnd → List LineEnd
each_after usual script item [] = []
each_after usual script item (end ∷ ends) =
    ends_after_changes usual script item 0 item.changes (end ∷ ends)

-- the ends after an item; they are as before one that was refused
abbrev pub ends_left : Applied → Option Refusal → EndsOfLog → EndsOfLog
ends_left item None ends = ends_with ends.usual
    (each_after ends.usual ends.script item ends.each) ends.unended ends.script
ends_left item (Some refusal) ends = ends

-- after items, each applied to the game that those before it left
abbrev pub ends_after_items : List Applied → Game → EndsOfLog → EndsOfLog
ends_after_items [] game ends = ends
ends_after_items (item ∷ items) game ends =
    ends_after_items items (game_after_item item game)
    (ends_left item (item_refusal item game.log) ends)

-- ---- what is printed

-- What is printed of the text that a view made. A line of a log has its own end. A line of the
-- script has the usual one.
abbrev pub printed_text : Option EditView → EndsOfLog → List ℕ → List ℕ
printed_text (Some EditView.Log) ends text =
    with_line_ends ends.usual ends.unended ends.each (lines text)
printed_text (Some EditView.Undo) ends text = with_line_ends ends.usual false [] (lines text)
printed_text (Some EditView.Guarded) ends text = with_line_ends ends.usual false [] (lines text)
printed_text _ ends text = text
