-- Reading a database line by line: what each line does to the tables.
use Rattle.std.specs.Prelude.{ℕ, ◌==◌, if◌then◌else◌, List, [], ◌∷◌, ◌++◌, length, fold, Option}
use Rattle.std.specs.Prelude.{Some, None, Result, Ok, Err, ◌≡◌, ◌⊎◌, ◌<◌, ◌≤◌, IsTrue, is_some, suc}
use Rattle.std.specs.Prelude.{Bool, true, false, nat_lt, option_map}
use Rattle.std.specs.FinMap as map
use Rattle.data_rows.specs.declared.error.Cause.{Cause}
use Rattle.data_rows.specs.declared.error.Cause.TheVariants.{BadSection, OutOfRange, BadNumber}
use Rattle.data_rows.specs.declared.error.Cause.TheVariants.{TooManyRows, BadBinding, NoEnd}
use Rattle.data_rows.specs.declared.error.Section.{Section}
use Rattle.data_rows.specs.declared.position.Position.{Position}
use Rattle.data_rows.specs.declared.position.Position.TheVariants.{Outside, Inside, After}
use Rattle.cave_data.specs.declared.reader.Tables.{Tables}
use Rattle.cave_data.specs.declared.reader.DatabaseReader.{DatabaseReader}
use Rattle.cave_data.specs.CaveView.{ClassEntry}
use Rattle.base_lines.specs.Bytes.{is_all_blank}
use Rattle.data_rows.specs.Rows.{◌>>=◌, Entry, TextLine, LongLine, ShortLine, Way, Word, ObjectLine}
use Rattle.data_rows.specs.Rows.{MessageLine, PlacementRow, DefaultRow, ConditionRow, ClassLine}
use Rattle.data_rows.specs.Rows.{HintRow, MagicLine, entry_in, Going}
use Rattle.data_rows.specs.Grammar.{position_after_heading, closes, position_after, entries}
use Rattle.data_rows.specs.Grammar.{entry_at}
use Rattle.cave_data.specs.Texts.{line_text, with_key, object_after, object_after_lines}
use Rattle.cave_data.specs.Tables.{TextsSoFar, with_line, with_way, mark_bit}
use Rattle.cave_data.specs.Limits.{MAX_WAYS, MAX_WORDS, MAX_CLASSES}
use Rattle.std.specs.List.{All, filter_map}
use Rattle.data_rows.specs.declared.number.Number.{Number}
use Rattle.data_rows.specs.declared.number.Number.TheVariants.{Natural, Negative}
use Rattle.data_rows.specs.RowParts.{BeginsWithField, BeginsWithNumber, BeginsWithNumbers}
use Rattle.data_rows.specs.RowParts.{MayBeginWithNumber, IsNumberList}
use Rattle.data_rows.specs.RowGrammar.{IsTextRow, IsWayRow, IsConditionRow, IsRow, IsOfObject}
use Rattle.data_rows.specs.RowGrammar.{IsOfProp}
use Rattle.data_rows.specs.DatabaseGrammar.{section_number, IsLineOfNumber}
use Rattle.data_rows.specs.SectionRows.{way_of, word_entry_of, class_line_of, object_line_of}
use Rattle.data_rows.specs.declared.error.BindingFlaw.TheVariants.{Repeated}
use Rattle.data_rows.specs.declared.binding.Key.{Key}
use Rattle.data_rows.specs.declared.binding.Key.TheVariants.{RoleKey, PlaceKey, LettersKey}
use Rattle.data_rows.specs.declared.binding.Binding.{Binding}
use Rattle.cave_data.specs.declared.bindings.Bindings.{Bindings}
use Rattle.base_lines.specs.LogLine.{is_skipped}
use Rattle.data_rows.specs.BindingLines.{binding_row}
use Rattle.std.specs.Option.{option_or}
use Rattle.std.specs.Result.{result_err}
use Rattle.data_rows.specs.declared.error.FaultSite.{FaultSite}
use Rattle.data_rows.specs.declared.error.CaveError.{CaveError}

abbrev pub shape_here : Position → List ℕ → Option Cause
shape_here Outside line = if is_some (position_after_heading line) then None else Some BadSection
shape_here (Inside s) line = if closes line then None else result_err (entry_in s line)
shape_here After line = None

-- what is wrong with a line at its place in the database
unfoldable pub shape_cause : Position → List ℕ → Option Cause
shape_cause position line = if is_all_blank line then None else shape_here position line

abbrev pub at_most : ℕ → ℕ → Option Cause
at_most limit before = if nat_lt before limit then None else Some TooManyRows

-- what is wrong with a row after these rows: there are too many, or it has a prop of no object
abbrev pub limit_cause : List Entry → Entry → Option Cause
limit_cause before (Way place going) = at_most MAX_WAYS (length (filter_map way_of before))
limit_cause before (Word word) = at_most MAX_WORDS (length (filter_map word_entry_of before))
limit_cause before (ClassLine line) = at_most MAX_CLASSES (length (filter_map class_line_of before))
limit_cause before (ObjectLine line) =
    if object_after (object_after_lines (filter_map object_line_of before)) line == 0
    then Some OutOfRange else None
limit_cause before entry = None

abbrev pub first_limit : List Entry → List Entry → Option Cause
first_limit before [] = None
first_limit before (entry ∷ more) = limit_cause before entry

-- what is wrong with a line after these lines
unfoldable pub line_cause : List (List ℕ) → List ℕ → Option Cause
line_cause before line =
    option_or (shape_cause (position_after before) line)
    (first_limit (entries before) (entry_at (position_after before) line))

abbrev pub site_of_fault : Position → FaultSite
site_of_fault Outside = FaultSite.Database
site_of_fault (Inside s) = FaultSite.Section s
site_of_fault After = FaultSite.Database

-- a fault of the line after these lines
abbrev pub fault_after : List (List ℕ) → Cause → CaveError
fault_after before cause =
    record {
      cause = cause;
      line = suc (length before);
      site = site_of_fault (position_after before);
    }

abbrev pub is_after : Position → Bool
is_after Outside = false
is_after (Inside s) = false
is_after After = true

abbrev pub end_fault : List (List ℕ) → Option CaveError
end_fault before = if is_after (position_after before) then None
    else Some (fault_after before NoEnd)

-- the first fault of lines that come after others: the first line with a cause, or what is missing
-- at the end of the lines
abbrev pub first_fault_by : (List (List ℕ) → List ℕ → Option Cause)
    → (List (List ℕ) → Cause → CaveError) → (List (List ℕ) → Option CaveError) → List (List ℕ)
    → List (List ℕ) → Option CaveError
first_fault_by cause tell ending before [] = ending before
first_fault_by cause tell ending before (line ∷ lines) =
    option_or (option_map (tell before) (cause before line))
    (first_fault_by cause tell ending (before ++ line ∷ []) lines)

abbrev pub first_fault : List (List ℕ) → List (List ℕ) → Option CaveError
first_fault = first_fault_by line_cause fault_after end_fault

abbrev pub class_of_line : TextLine → ClassEntry
class_of_line line = record { bound = line.number; text = line_text line }

-- the tables with one more row
abbrev pub with_entry : Tables → Entry → Tables
with_entry t (LongLine line) = record t { long = with_line t.long line }
with_entry t (ShortLine line) = record t { short = with_line t.short line }
with_entry t (Way place going) = record t { ways = with_way t.ways place going }
with_entry t (Word word) = record t { words = t.words ++ word ∷ [] }
with_entry t (ObjectLine line) =
    record t {
      objects = with_line t.objects (with_key t.object line);
      object = object_after t.object line;
    }
with_entry t (MessageLine line) = record t { messages = with_line t.messages line }
with_entry t (PlacementRow object placement) =
    record t { placements = map.insert t.placements object placement }
with_entry t (DefaultRow action message) =
    record t { defaults = map.insert t.defaults action message }
with_entry t (ConditionRow bit places) =
    record t { conditions = fold (mark_bit bit) t.conditions places }
with_entry t (ClassLine line) = record t { classes = t.classes ++ class_of_line line ∷ [] }
with_entry t (HintRow number hint) = record t { hints = map.insert t.hints number hint }
with_entry t (MagicLine line) = t

-- what is wrong with a row that comes after those of the tables
abbrev pub table_limit : Tables → Entry → Option Cause
table_limit t (Way place going) = at_most MAX_WAYS t.ways.count
table_limit t (Word word) = at_most MAX_WORDS (length t.words)
table_limit t (ClassLine line) = at_most MAX_CLASSES (length t.classes)
table_limit t (ObjectLine line) = if object_after t.object line == 0 then Some OutOfRange else None
table_limit t entry = None

abbrev pub unless_cause : {X : Type 0} → Option Cause → X → Result X Cause
unless_cause None x = Ok x
unless_cause (Some cause) x = Err cause

abbrev pub admit : Tables → Entry → Result Tables Cause
admit t entry = unless_cause (table_limit t entry) (with_entry t entry)

-- the tables after a line of a section
unfoldable pub row_step : Tables → Section → List ℕ → Result Tables Cause
row_step t s line = entry_in s line >>= λ entry. admit t entry

abbrev pub into_position : DatabaseReader → Option Position → Result DatabaseReader Cause
into_position r None = Err BadSection
into_position r (Some position) = Ok (record r { position = position })

abbrev pub advance_in : DatabaseReader → Position → List ℕ → Result DatabaseReader Cause
advance_in r Outside line = into_position r (position_after_heading line)
advance_in r (Inside s) line = if closes line then Ok (record r { position = Outside })
    else row_step r.tables s line >>= λ t. Ok (record r { tables = t })
advance_in r After line = Ok r

-- the reader after a line
unfoldable pub advance : DatabaseReader → List ℕ → Result DatabaseReader Cause
advance r line = if is_all_blank line then Ok r else advance_in r r.position line

abbrev pub no_texts : TextsSoFar
no_texts = record { texts = map.empty; last = None }

-- the tables of a database without rows
abbrev pub no_tables : Tables
no_tables = record {
  long = no_texts;
  short = no_texts;
  ways = record { ways = map.empty; count = 0 };
  words = [];
  objects = no_texts;
  object = 0;
  messages = no_texts;
  placements = map.empty;
  defaults = map.empty;
  conditions = map.empty;
  classes = [];
  hints = map.empty;
}

abbrev pub tables_of : List Entry → Tables
tables_of rows = fold with_entry no_tables rows

-- the numbers and words of a row of the section are there, in range or not
abbrev pub HasParts : Section → List ℕ → Type 0
HasParts Section.Travel line =
    (place : Number) × (target : Number) × (rest : List ℕ) × (motions : List Number)
    × BeginsWithNumbers line (place ∷ target ∷ []) rest × IsNumberList rest motions
    × (1 ≤ length motions)
HasParts Section.Words line =
    (number : Number) × (rest : List ℕ) × (word : List ℕ) × (ignored : List ℕ)
    × BeginsWithNumber line number rest × BeginsWithField rest word ignored
HasParts Section.Placements line =
    (object : Number) × (after_object : List ℕ) × (first : Number) × (after_first : List ℕ)
    × (second : Number) × (ignored : List ℕ) × BeginsWithNumber line object after_object
    × MayBeginWithNumber after_object first after_first
    × MayBeginWithNumber after_first second ignored
HasParts Section.Defaults line =
    (action : Number) × (message : Number) × (ignored : List ℕ)
    × BeginsWithNumbers line (action ∷ message ∷ []) ignored
HasParts Section.Conditions line =
    (bit : Number) × (rest : List ℕ) × (places : List Number) × BeginsWithNumber line bit rest
    × IsNumberList rest places
HasParts Section.Hints line =
    (numbers : List Number) × (ignored : List ℕ) × BeginsWithNumbers line numbers ignored
    × (length numbers ≡ 5)
HasParts s line = (number : Number) × (rest : List ℕ) × BeginsWithNumber line number rest

-- the line is a row of the section, however long its lists are
abbrev pub IsInRange : Section → List ℕ → Type 0
IsInRange Section.Travel line = (place : ℕ) × (going : Going) × IsWayRow line place going
IsInRange Section.Conditions line =
    (bit : ℕ) × (places : List ℕ) × IsConditionRow line bit places
IsInRange s line = (row : Entry) × IsRow s line row

-- the line is a prop's, and no line before it is an object's
abbrev pub LacksObject : List Entry → Section → List ℕ → Type 0
LacksObject before Section.Objects line =
    (row : TextLine) × IsTextRow IsOfProp line row
    × All (λ earlier. ¬ IsOfObject earlier.number) (filter_map object_line_of before)
LacksObject before s line = ⊥

-- the line has more than 40 motions or places
abbrev pub HasLongList : Section → List ℕ → Type 0
HasLongList Section.Travel line =
    (place : ℕ) × (going : Going) × IsWayRow line place going × (40 < length going.motions)
HasLongList Section.Conditions line =
    (bit : ℕ) × (places : List ℕ) × IsConditionRow line bit places × (40 < length places)
HasLongList s line = ⊥

-- the rows before are already all that the section may have
abbrev pub IsFull : List Entry → Section → Type 0
IsFull before Section.Travel = MAX_WAYS ≤ length (filter_map way_of before)
IsFull before Section.Words = MAX_WORDS ≤ length (filter_map word_entry_of before)
IsFull before Section.Classes = MAX_CLASSES ≤ length (filter_map class_line_of before)
IsFull before s = ⊥

-- this is wrong with the line inside the section after these rows, and no lower cause applies
abbrev pub IsLowest : List Entry → Section → List ℕ → Cause → Type 0
IsLowest before s line BadNumber = ¬ HasParts s line
IsLowest before s line OutOfRange =
    HasParts s line × ((¬ IsInRange s line) ⊎ LacksObject before s line)
IsLowest before s line TooManyRows =
    HasParts s line × IsInRange s line × (HasLongList s line ⊎ IsFull before s)
IsLowest before s line cause = ⊥

-- the line opens no section, and doesn't end the database
abbrev pub OpensNothing : List ℕ → Type 0
OpensNothing line = ((s : Section) → ¬ IsLineOfNumber (Natural (section_number s)) line)
    × (¬ IsLineOfNumber (Natural 0) line)

-- this is wrong with the line at that place after these rows, and no lower cause applies
abbrev pub IsLowestAt : List Entry → Position → List ℕ → Cause → Type 0
IsLowestAt before Outside line BadSection = (¬ IsTrue (is_all_blank line)) × OpensNothing line
IsLowestAt before (Inside s) line cause =
    (¬ IsTrue (is_all_blank line)) × (¬ IsLineOfNumber (Negative 1) line)
    × IsLowest before s line cause
IsLowestAt before position line cause = ⊥

-- the cause of a line is its lowest
abbrev pub ReportsLowest : Type 0
ReportsLowest = (before : List (List ℕ)) (line : List ℕ) (cause : Cause)
    → line_cause before line ≡ Some cause
    → IsLowestAt (entries before) (position_after before) line cause

abbrev pub bound_to : Bindings → Key → Option ℕ
bound_to b (RoleKey number) = map.get b.roles number
bound_to b (PlaceKey number) = map.get b.places number
bound_to b LettersKey = b.letters

abbrev pub bind_key : Bindings → Key → ℕ → Bindings
bind_key b (RoleKey number) value = record b { roles = map.insert b.roles number value }
bind_key b (PlaceKey number) value = record b { places = map.insert b.places number value }
bind_key b LettersKey value = record b { letters = Some value }

abbrev pub bind : Bindings → Binding → Bindings
bind b binding = bind_key b binding.key binding.value

abbrev pub bind_new : Bindings → Binding → Result Bindings Cause
bind_new b binding = if is_some (bound_to b binding.key) then Err (BadBinding Repeated)
    else Ok (bind b binding)

-- the bindings after a line
unfoldable pub bind_line : Bindings → List ℕ → Result Bindings Cause
bind_line b line = if is_skipped line then Ok b
    else binding_row line >>= λ binding. bind_new b binding

abbrev pub no_bindings : Bindings
no_bindings = record { roles = map.empty; places = map.empty; letters = None }

abbrev pub bindings_from : List Binding → Bindings
bindings_from bindings = fold bind no_bindings bindings
