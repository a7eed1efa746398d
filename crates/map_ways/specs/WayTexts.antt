-- What is written about a way: the motions that take it, and on what condition.
use Rattle.std.specs.Prelude.{ℕ, ◌+◌, ◌%◌, Bool, true, false, ◌==◌, ◌||◌, ◌&&◌, not}
use Rattle.std.specs.Prelude.{if◌then◌else◌, List, [], ◌∷◌, ◌++◌, codes, length}
use Rattle.data_rows.specs.Rows.{Going}
use Rattle.data_rows.specs.declared.targets.Condition.{Condition}
use Rattle.cave_data.specs.CaveView.{CaveView, ways_from}
use Rattle.cave_world.specs.Sight.{forced}
use Rattle.cave_world.specs.Travel.{row_condition}
use Rattle.check_tables.specs.WayWords.{condition_mark, motion_name}
use Rattle.check_tables.specs.Reach.{goes_on_to, motions_again, motions_begun}
use Rattle.map_ways.specs.Ways.{ends_at}

-- the most motions on a line
abbrev pub MOTIONS_PER_LINE : ℕ
MOTIONS_PER_LINE = 3

-- what comes before the name of a motion that follows this many others: a full line ends with a
-- mark that it goes on
abbrev pub motion_start : ℕ → List ℕ
motion_start shown =
    if not (shown == 0) && shown % MOTIONS_PER_LINE == 0 then codes " ..\n" else []

-- motions that follow this many others, each with what comes before it
abbrev pub motions_after : CaveView → ℕ → List ℕ → List ℕ
motions_after cave shown [] = []
motions_after cave shown (motion ∷ motions) =
    motion_start shown ++ (motion_name cave motion ++ motions_after cave (shown + 1) motions)

-- the motions that are named: none if a forced motion leads on, as no player says one there
abbrev pub motions_text : CaveView → ℕ → List ℕ → List ℕ
motions_text cave from motions =
    if forced cave from then [] else motions_after cave 0 motions

-- motions that take a row, with its condition
unfoldable pub taking_text : CaveView → ℕ → Bool → List ℕ → Condition → List ℕ
taking_text cave from later motions condition =
    if length motions == 0 then []
    else motions_text cave from motions ++ condition_mark cave later condition

-- two texts with a comma between them, or the only one that there is
abbrev pub two_texts : List ℕ → List ℕ → List ℕ
two_texts first second =
    first ++ ((if length first == 0 || length second == 0 then [] else codes ",") ++ second)

-- the motions that begin with a row after others, and after rows that can fail those that they list,
-- each with the condition of the row
unfoldable pub row_motions : CaveView → ℕ → List Going → Going → List ℕ
row_motions cave from before row =
    two_texts (taking_text cave from false (motions_begun before row) (row_condition row))
    (if goes_on_to before row
    then taking_text cave from true (motions_again before row) (row_condition row) else [])

-- a text that isn't empty, on its own line
abbrev pub line_of_text : List ℕ → List ℕ → List ℕ
line_of_text prefix text =
    if length text == 0 then [] else prefix ++ (text ++ codes "\n")

-- what is said about a row after others, if it leads to the place
abbrev pub text_to : CaveView → ℕ → ℕ → List Going → Going → List ℕ
text_to cave from place before row =
    if ends_at place row then row_motions cave from before row else []

-- the lines of rows after others
abbrev pub row_lines : CaveView → List ℕ → ℕ → ℕ → List Going → List Going → List ℕ
row_lines cave prefix from place before [] = []
row_lines cave prefix from place before (row ∷ rows) =
    line_of_text prefix (text_to cave from place before row)
    ++ row_lines cave prefix from place (before ++ row ∷ []) rows

abbrev pub way_text : CaveView → List ℕ → ℕ → ℕ → List ℕ
way_text cave prefix from to = row_lines cave prefix from to [] (ways_from cave from)
