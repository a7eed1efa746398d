-- The figures of a line, each of which is a column of the table of lines and a member of the line's
-- object.
use Rattle.std.specs.Prelude.{ℕ, ℤ, if◌then◌else◌, List, [], ◌∷◌, ◌++◌, codes, drop, map}
use Rattle.std.specs.Prelude.{length, Option, Some, None, option_map}
use Rattle.std.specs.Fmt.{decimal, signed_decimal}
use Rattle.std.specs.List.{filter, flat_map}
use Rattle.cave_data.specs.CaveView.{CaveView}
use Rattle.cave_world.specs.declared.state.State.{State}
use Rattle.play_state_text.specs.Words.{ending_word, question_word}
use Rattle.play_tables.specs.Draws.{draws_at}
use Rattle.play_tables.specs.Events.{each_event, event_happens, event_name}
use Rattle.play_tables.specs.declared.events.Event.{Event}
use Rattle.turn_ends.specs.Score.{score_of}
use Rattle.world_objects.specs.Objects.{objects_in_hands}
use Rattle.play_walk.specs.Json.{Member, json_list, next_value, quoted}
use Rattle.play_walk.specs.Objects.{listed_object}
use Rattle.play_walk.specs.declared.figures.Form.{Form}
use Rattle.play_walk.specs.declared.figures.Form.TheVariants.{Columns, Members}

-- what a figure is: a number, a word or none, words, or objects, with how an object lists each
pub data Figure : Type 0 where
  Count : ℕ → Figure
  Signed : ℤ → Figure
  OneWord : Option (List ℕ) → Figure
  SomeWords : List (List ℕ) → Figure
  SomeObjects : (ℕ → List ℕ) → List ℕ → Figure

-- ---- how a figure is written: in a table, or in an object

-- what stands before it
abbrev pub key_in : Form → List ℕ → List ℕ
key_in Columns key = codes "\t"
key_in Members key = codes ",\"" ++ (key ++ codes "\":")

-- a word, which has no quote and no backslash
abbrev pub word_in : Form → List ℕ → List ℕ
word_in Columns word = word
word_in Members word = quoted word

abbrev pub word_or_none : Form → Option (List ℕ) → List ℕ
word_or_none Columns None = codes "-"
word_or_none Members None = codes "null"
word_or_none form (Some word) = word_in form word

-- words, with commas between them
abbrev pub listed_in : Form → List ℕ → List ℕ
listed_in Columns [] = codes "-"
listed_in Columns words = words
listed_in Members words = codes "[" ++ (words ++ codes "]")

-- a table has of objects how many there are
abbrev pub value_in : Form → Figure → List ℕ
value_in form (Count n) = decimal n
value_in form (Signed z) = signed_decimal z
value_in form (OneWord word) = word_or_none form word
value_in form (SomeWords words) = listed_in form (drop 1 (flat_map (next_value (word_in form)) words))
value_in Columns (SomeObjects value xs) = decimal (length xs)
value_in Members (SomeObjects value xs) = json_list value xs

unfoldable pub figure_in : Form → List ℕ × Figure → List ℕ
figure_in form (key, figure) = key_in form key ++ value_in form figure

abbrev pub figure_member : List ℕ × Figure → Member
figure_member (key, figure) = (key, value_in Members figure)

-- ---- what the figures are

-- the name of an event that happened, after a comma
unfoldable pub next_event : Form → CaveView → State → State → Event → List ℕ
next_event form cave s t event =
    if event_happens cave s t event then next_value (word_in form) (event_name event) else []

-- the names of the events that happened
unfoldable pub happened_words : CaveView → State → State → List (List ℕ)
happened_words cave s t = map event_name (filter (event_happens cave s t) each_event)

-- the places where the player is before and after a line
unfoldable pub place_figures : State → State → List (List ℕ × Figure)
place_figures s t = (codes "from", Count s.trail.here) ∷ (codes "to", Count t.trail.here) ∷ []

-- the turns up to the line, the score, what the lamp still burns, and what is in the hands
unfoldable pub count_figures : CaveView → ℕ → State → List (List ℕ × Figure)
count_figures cave turns t =
    (codes "turns", Count turns) ∷ (codes "score", Count (score_of cave t))
    ∷ (codes "lamp", Signed t.lamp.charge)
    ∷ (codes "carried", SomeObjects (listed_object cave None) (objects_in_hands t.objects)) ∷ []

-- how many random numbers the line drew, and where the stream is after it
unfoldable pub chance_figures : List ℕ → State → State → List (List ℕ × Figure)
chance_figures line s t =
    (codes "draws", Count (draws_at line s.stream t.stream)) ∷ (codes "stream", Count t.stream) ∷ []

-- the question that is open, how the game has ended, and what happened
unfoldable pub outcome_figures : CaveView → State → State → List (List ℕ × Figure)
outcome_figures cave s t =
    (codes "question", OneWord (option_map question_word t.question))
    ∷ (codes "ended", OneWord (option_map ending_word t.ending))
    ∷ (codes "happened", SomeWords (happened_words cave s t)) ∷ []

-- the figures of a line that was played after this many turns, by the states before and after it
unfoldable pub figures : CaveView → List ℕ → ℕ → State → State → List (List ℕ × Figure)
figures cave line turns s t =
    place_figures s t ++ (count_figures cave turns t
    ++ (chance_figures line s t ++ outcome_figures cave s t))
