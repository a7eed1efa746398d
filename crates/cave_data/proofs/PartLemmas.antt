-- The tables of rows have what the rows say.
use Rattle.std.proofs.Common.{◌≡◌, ℕ, suc, cond, eqb, List, [], ◌∷◌, ◌++◌, length, map, fold, Some}
use Rattle.std.proofs.Common.{None, option_map, refl, sym, ap, ◌∙◌, arith}
use Rattle.std.specs.List.{filter_map}
use Rattle.std.specs.FinMap as fin
use Rattle.std.proofs.lemmas.List.{append_assoc, append-nil}
use Rattle.data_rows.specs.declared.error.Cause.TheVariants.{OutOfRange}
use Rattle.cave_data.specs.declared.reader.Tables.{Tables}
use Rattle.data_rows.specs.Rows.{WordEntry, Entry, TextLine, LongLine, ShortLine, Way, Word}
use Rattle.data_rows.specs.Rows.{ObjectLine, MessageLine, PlacementRow, DefaultRow, ConditionRow}
use Rattle.data_rows.specs.Rows.{ClassLine, HintRow}
use Rattle.cave_data.specs.CaveView.{ClassEntry}
use Rattle.cave_data.specs.Printing.{printed_text}
use Rattle.cave_data.specs.Texts.{text_of_number, with_key, by_object, object_after}
use Rattle.cave_data.specs.Texts.{object_after_lines}
use Rattle.cave_data.specs.Tables.{TextsSoFar, with_line}
use Rattle.cave_data.specs.Steps.{at_most, limit_cause, with_entry, no_texts, no_tables, tables_of}
use Rattle.cave_data.specs.Steps.{class_of_line, table_limit}
use Rattle.data_rows.specs.SectionRows.{way_of, word_entry_of, class_line_of, object_line_of}
use Rattle.data_rows.specs.SectionRows.{long_line_of, short_line_of, message_line_of}
use Rattle.data_rows.specs.SectionRows.{placement_of_row, default_of_row, marks_of_row, hint_of_row}
use Rattle.cave_data.specs.Database.{last_of, goings_from, bits_of}
use Rattle.cave_data.proofs.FoldLemmas.{added, fold-part}
use Rattle.cave_data.proofs.TextLemmas.{texts_after}
use Rattle.cave_data.proofs.RowLemmas.{insert_row, rows_after, with_way_row, ways_after}
use Rattle.cave_data.proofs.RowLemmas.{count_after, with_marks, marks_after}

-- What a row changes in each table.

long_each : (t : Tables) (e : Entry)
    → (with_entry t e).long ≡ added with_line t.long (long_line_of e)
long_each t (LongLine line) = refl
long_each t e = refl

short_each : (t : Tables) (e : Entry)
    → (with_entry t e).short ≡ added with_line t.short (short_line_of e)
short_each t (ShortLine line) = refl
short_each t e = refl

message_each : (t : Tables) (e : Entry)
    → (with_entry t e).messages ≡ added with_line t.messages (message_line_of e)
message_each t (MessageLine line) = refl
message_each t e = refl

way_each : (t : Tables) (e : Entry) → (with_entry t e).ways ≡ added with_way_row t.ways (way_of e)
way_each t (Way place going) = refl
way_each t e = refl

push : {X : Type 0} → List X → X → List X
push xs x = xs ++ x ∷ []

push_class : List ClassEntry → TextLine → List ClassEntry
push_class classes line = classes ++ class_of_line line ∷ []

word_each : (t : Tables) (e : Entry) → (with_entry t e).words ≡ added push t.words (word_entry_of e)
unfolding push
word_each t (Word word) = refl
word_each t e = refl

class_each : (t : Tables) (e : Entry)
    → (with_entry t e).classes ≡ added push_class t.classes (class_line_of e)
unfolding push_class
class_each t (ClassLine line) = refl
class_each t e = refl

placement_each : (t : Tables) (e : Entry)
    → (with_entry t e).placements ≡ added insert_row t.placements (placement_of_row e)
placement_each t (PlacementRow object placement) = refl
placement_each t e = refl

default_each : (t : Tables) (e : Entry)
    → (with_entry t e).defaults ≡ added insert_row t.defaults (default_of_row e)
default_each t (DefaultRow action message) = refl
default_each t e = refl

marks_each : (t : Tables) (e : Entry)
    → (with_entry t e).conditions ≡ added with_marks t.conditions (marks_of_row e)
marks_each t (ConditionRow bit places) = refl
marks_each t e = refl

hint_each : (t : Tables) (e : Entry)
    → (with_entry t e).hints ≡ added insert_row t.hints (hint_of_row e)
hint_each t (HintRow number hint) = refl
hint_each t e = refl

object_each : (t : Tables) (e : Entry)
    → (with_entry t e).object ≡ added object_after t.object (object_line_of e)
object_each t (ObjectLine line) = refl
object_each t e = refl

-- the texts of objects, and the object whose texts follow
with_object_line : (TextsSoFar × ℕ) → TextLine → TextsSoFar × ℕ
with_object_line p line = (with_line p.0 (with_key p.1 line), object_after p.1 line)

objects_each : (t : Tables) (e : Entry)
    → ◌≡◌ {A = TextsSoFar × ℕ} ((with_entry t e).objects, (with_entry t e).object)
    (added with_object_line (t.objects, t.object) (object_line_of e))
unfolding with_object_line
objects_each t (ObjectLine line) = refl
objects_each t e = refl

objects_by_key : (p : TextsSoFar × ℕ) (lines : List TextLine)
    → (fold with_object_line p lines).0 ≡ fold with_line p.0 (by_object p.1 lines)
unfolding with_object_line
objects_by_key p [] = refl
objects_by_key p (line ∷ lines) = objects_by_key (with_object_line p line) lines

pushed : {X : Type 0} (front xs : List X) → fold push front xs ≡ front ++ xs
unfolding push
pushed front [] = sym (append-nil front)
pushed front (x ∷ xs) = pushed (front ++ x ∷ []) xs ∙ append_assoc front (x ∷ []) xs

pushed_classes : (front : List ClassEntry) (lines : List TextLine)
    → fold push_class front lines ≡ front ++ map class_of_line lines
unfolding push_class
pushed_classes front [] = sym (append-nil front)
pushed_classes front (line ∷ lines) = pushed_classes (front ++ class_of_line line ∷ []) lines
    ∙ append_assoc front (class_of_line line ∷ []) (map class_of_line lines)

-- What the tables of rows have, table by table.

module _ (rows : List Entry) where
  pub long_after : (n : ℕ)
      → option_map printed_text (fin.get (tables_of rows).long.texts n)
      ≡ text_of_number n (filter_map long_line_of rows)
  long_after n =
      ap (λ t. option_map printed_text (fin.get t.texts n))
      (fold-part with_entry (λ t. t.long) long_line_of with_line long_each no_tables rows)
      ∙ texts_after (filter_map long_line_of rows) n

  pub short_after : (n : ℕ)
      → option_map printed_text (fin.get (tables_of rows).short.texts n)
      ≡ text_of_number n (filter_map short_line_of rows)
  short_after n =
      ap (λ t. option_map printed_text (fin.get t.texts n))
      (fold-part with_entry (λ t. t.short) short_line_of with_line short_each no_tables rows)
      ∙ texts_after (filter_map short_line_of rows) n

  pub messages_after : (n : ℕ)
      → option_map printed_text (fin.get (tables_of rows).messages.texts n)
      ≡ text_of_number n (filter_map message_line_of rows)
  messages_after n =
      ap (λ t. option_map printed_text (fin.get t.texts n))
      (fold-part with_entry (λ t. t.messages) message_line_of with_line message_each no_tables rows)
      ∙ texts_after (filter_map message_line_of rows) n

  pub objects_after : (n : ℕ)
      → option_map printed_text (fin.get (tables_of rows).objects.texts n)
      ≡ text_of_number n (by_object 0 (filter_map object_line_of rows))
  objects_after n =
      ap (λ p. option_map printed_text (fin.get p.0.texts n))
      (fold-part with_entry (λ t. (t.objects, t.object)) object_line_of with_object_line
      objects_each no_tables rows)
      ∙ ap (λ t. option_map printed_text (fin.get t.texts n))
      (objects_by_key (no_texts, 0) (filter_map object_line_of rows))
      ∙ texts_after (by_object 0 (filter_map object_line_of rows)) n

  ways_are : (tables_of rows).ways
      ≡ fold with_way_row (record { ways = fin.empty; count = 0 }) (filter_map way_of rows)
  ways_are = fold-part with_entry (λ t. t.ways) way_of with_way_row way_each no_tables rows

  pub travel_after : (place : ℕ)
      → fin.get (tables_of rows).ways.ways place ≡ goings_from place (filter_map way_of rows)
  travel_after place = ap (λ t. fin.get t.ways place) ways_are
      ∙ ways_after (filter_map way_of rows) place

  pub way_count : (tables_of rows).ways.count ≡ length (filter_map way_of rows)
  way_count = ap (λ t. t.count) ways_are
      ∙ count_after (record { ways = fin.empty; count = 0 }) (filter_map way_of rows) ∙ omega arith

  pub words_after : (tables_of rows).words ≡ filter_map word_entry_of rows
  words_after = fold-part with_entry (λ t. t.words) word_entry_of push word_each no_tables rows
      ∙ pushed [] (filter_map word_entry_of rows)

  pub classes_after : (tables_of rows).classes ≡ map class_of_line (filter_map class_line_of rows)
  classes_after =
      fold-part with_entry (λ t. t.classes) class_line_of push_class class_each no_tables rows
      ∙ pushed_classes [] (filter_map class_line_of rows)

  pub placements_after : (n : ℕ)
      → fin.get (tables_of rows).placements n ≡ last_of n (filter_map placement_of_row rows)
  placements_after n =
      ap (λ m. fin.get m n)
      (fold-part with_entry (λ t. t.placements) placement_of_row insert_row placement_each no_tables
      rows) ∙ rows_after (filter_map placement_of_row rows) n

  pub defaults_after : (n : ℕ)
      → fin.get (tables_of rows).defaults n ≡ last_of n (filter_map default_of_row rows)
  defaults_after n =
      ap (λ m. fin.get m n)
      (fold-part with_entry (λ t. t.defaults) default_of_row insert_row default_each no_tables rows)
      ∙ rows_after (filter_map default_of_row rows) n

  pub conditions_after : (place : ℕ)
      → fin.get (tables_of rows).conditions place ≡ bits_of place (filter_map marks_of_row rows)
  conditions_after place =
      ap (λ m. fin.get m place)
      (fold-part with_entry (λ t. t.conditions) marks_of_row with_marks marks_each no_tables rows)
      ∙ marks_after (filter_map marks_of_row rows) place

  pub hints_after : (n : ℕ)
      → fin.get (tables_of rows).hints n ≡ last_of n (filter_map hint_of_row rows)
  hints_after n =
      ap (λ m. fin.get m n)
      (fold-part with_entry (λ t. t.hints) hint_of_row insert_row hint_each no_tables rows)
      ∙ rows_after (filter_map hint_of_row rows) n

  pub object_now : (tables_of rows).object ≡ object_after_lines (filter_map object_line_of rows)
  object_now =
      fold-part with_entry (λ t. t.object) object_line_of object_after object_each no_tables rows

-- the tables refuse exactly what the rows before make wrong
length-map_classes : (lines : List TextLine) → length (map class_of_line lines) ≡ length lines
length-map_classes [] = refl
length-map_classes (line ∷ lines) = ap suc (length-map_classes lines)

pub limit_after : (rows : List Entry) (e : Entry)
    → table_limit (tables_of rows) e ≡ limit_cause rows e
limit_after rows (Way place going) = ap (at_most 2000) (way_count rows)
limit_after rows (Word word) =
    ap (λ (ws : List WordEntry). at_most 1000 (length ws)) (words_after rows)
limit_after rows (ClassLine line) =
    ap (λ (cs : List ClassEntry). at_most 50 (length cs)) (classes_after rows)
    ∙ ap (at_most 50) (length-map_classes (filter_map class_line_of rows))
limit_after rows (ObjectLine line) =
    ap (λ object. cond (eqb (object_after object line) 0) (Some OutOfRange) None) (object_now rows)
limit_after rows e = refl
