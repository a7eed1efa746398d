-- Which texts the plays of logs say, which rows of the rules they apply, and what is reported about
-- these.
use Rattle.std.specs.Prelude.{◌≡◌, ℕ, Bool, List, [], ◌∷◌, ◌++◌, length, map}
use Rattle.std.specs.List.{flat_map, Contains}
use Rattle.std.specs.List.Sorted.{IsPermutation}
use Rattle.std.specs.Str.Lines.{lines}
use Rattle.cave_data.specs.CaveView.{CaveView}
use Rattle.cave_data.specs.Reads.{Reads}
use Rattle.cave_play.specs.Stages.{AtMostOne, Stage, known_stage}
use Rattle.cave_world.specs.declared.part.Part.{Part}
use Rattle.cave_world.specs.declared.state.State.{State}
use Rattle.cave_world.specs.declared.tables.RuleRow.TheVariants.{OfTable}
use Rattle.cave_world.specs.declared.tables.Table.TheVariants as table
use Rattle.data_lines.specs.WayLines.{way_lines}
use Rattle.play_command.specs.declared.views.CoverView.{CoverView}
use Rattle.play_command.specs.declared.views.CoverView.TheVariants.{Known, Rules, Said}
use Rattle.cave_play.specs.Logs.{first_stages}
use Rattle.play_machine.specs.Moments.{Moment, noted_of}
use Rattle.replay_edits.specs.Edit.{Game, game_of}
use Rattle.check_tables.specs.Known.{KnownEntries}
use Rattle.check_tables.specs.Marks.{is_among}
use Rattle.play_cover.specs.RowMarks.{mark_of_row}
use Rattle.play_cover.specs.Reports.{row_report, rows_left, text_report, texts_left, unshown}
use Rattle.play_cover.specs.Texts.{said_by_all}
use Rattle.check_tables.specs.declared.marks.Mark.{Mark}

-- ---- what a play covers

abbrev pub said_at_start : CaveView → State → List Part → List Mark
said_at_start cave begun greeting = said_by_all cave greeting

abbrev pub said_at : CaveView → Moment → List Mark
said_at cave moment = said_by_all cave moment.parts

-- a game begins with the question whether the player wants instructions
abbrev pub rows_at_start : CaveView → State → List Part → List Mark
rows_at_start cave begun greeting = mark_of_row (OfTable table.Questions 1) ∷ []

abbrev pub rows_at : CaveView → Moment → List Mark
rows_at cave moment = map mark_of_row moment.rows

-- both
abbrev pub shown_at_start : CaveView → State → List Part → List Mark
shown_at_start cave begun greeting =
    said_at_start cave begun greeting ++ rows_at_start cave begun greeting

abbrev pub shown_at : CaveView → Moment → List Mark
shown_at cave moment = said_at cave moment ++ rows_at cave moment

-- the texts that playing a game says, the rows that it applies or tries, or both, from its beginning
-- to its last line
abbrev pub covered_in : CoverView → CaveView → Game → List Mark
covered_in (Said view) cave game = noted_of said_at_start said_at cave game
covered_in Rules cave game = noted_of rows_at_start rows_at cave game
covered_in Known cave game = noted_of shown_at_start shown_at cave game

-- ---- what is reported

-- the report on this many logs, by what they cover
abbrev pub report_by : CoverView → KnownEntries → List ℕ → CaveView → (Mark → Bool) → ℕ → List ℕ
report_by (Said view) known database cave is_covered logs =
    text_report cave is_covered known view (way_lines database) logs
report_by Rules known database cave is_covered logs =
    row_report is_covered cave known (way_lines database) logs
report_by Known known database cave is_covered logs =
    unshown cave (way_lines database) is_covered is_covered

-- how many things they don't cover that aren't known; nothing is left of what is all listed
abbrev pub left_by : CoverView → KnownEntries → List ℕ → CaveView → (Mark → Bool) → ℕ
left_by (Said view) known database cave is_covered = texts_left cave is_covered known
left_by Rules known database cave is_covered =
    rows_left is_covered cave known (way_lines database)
left_by Known known database cave is_covered = 0

-- the mark is of something that a play of these games covers
abbrev pub is_covered_in : CoverView → CaveView → List Game → Mark → Bool
is_covered_in view cave games mark = is_among mark (flat_map (covered_in view cave) games)

abbrev pub report_on_games : CoverView → KnownEntries → List ℕ → CaveView → List Game → List ℕ
report_on_games view known database cave games =
    report_by view known database cave (is_covered_in view cave games) (length games)

abbrev pub left_in_games : CoverView → KnownEntries → List ℕ → CaveView → List Game → ℕ
left_in_games view known database cave games =
    left_by view known database cave (is_covered_in view cave games)

abbrev pub covered_in_log : CoverView → CaveView → ℕ → List ℕ → List Mark
covered_in_log view cave seed log = covered_in view cave (game_of seed (lines log))

-- what is covered if each log is played by itself
abbrev pub covered_in_all : CoverView → CaveView → ℕ → List (List ℕ) → List Mark
covered_in_all view cave seed logs = flat_map (covered_in_log view cave seed) logs

module _ (known : KnownEntries) (database : List ℕ) (cave : CaveView) (seed : ℕ) where
  abbrev pub report_of_logs : CoverView → List (List ℕ) → ℕ → List ℕ
  report_of_logs view logs count =
      report_by view known database cave
      (λ mark. is_among mark (covered_in_all view cave seed logs))
      count

  abbrev pub cover_text : CoverView → List (List ℕ) → List ℕ
  cover_text view logs = report_of_logs view logs (length logs)

  -- how many things are left that no log shows
  abbrev pub left_in_logs : CoverView → List (List ℕ) → ℕ
  left_in_logs view logs =
      left_by view known database cave (λ mark. is_among mark (covered_in_all view cave seed logs))

-- the list of what is known is read first, and then a cave
abbrev pub cover_stages : List ℕ → List ℕ → List ℕ → ℕ → List Stage
cover_stages database bindings list seed = known_stage list ∷ first_stages database bindings seed

-- the output is the report on the logs in the cave of the database and its bindings, and this many
-- things are left that none of them shows
abbrev pub IsCovered : List ℕ → List ℕ → KnownEntries → List (List ℕ) → ℕ → CoverView
    → ℕ → List ℕ → Type 0
IsCovered database bindings known logs seed view left output =
    (cave : CaveView) × Reads database bindings cave
    × (output ≡ cover_text known database cave seed view logs)
    × (left ≡ left_in_logs known database cave seed view logs)

-- ---- laws

-- the order of the logs changes no byte of the output
abbrev pub OrderIsNothing : Type 0
OrderIsNothing =
    (known : KnownEntries) (database : List ℕ) (cave : CaveView) (seed : ℕ) (view : CoverView)
    (logs others : List (List ℕ))
    → IsPermutation logs others
    → cover_text known database cave seed view others
    ≡ cover_text known database cave seed view logs

-- a log that is given once more changes nothing in it except the number of logs
abbrev pub AgainIsNothing : Type 0
AgainIsNothing =
    (known : KnownEntries) (database : List ℕ) (cave : CaveView) (seed : ℕ) (view : CoverView)
    (logs : List (List ℕ)) (log : List ℕ)
    → Contains logs log
    → (count : ℕ)
    → report_of_logs known database cave seed view (log ∷ logs) count
    ≡ report_of_logs known database cave seed view logs count

-- a database with its bindings, a list of what is known, logs and a seed have at most one output
abbrev pub OneCoveredOutput : Type 0
OneCoveredOutput =
    (database bindings : List ℕ) (known : KnownEntries) (logs : List (List ℕ)) (seed : ℕ)
    (view : CoverView)
    → AtMostOne
    (λ output. (left : ℕ) × IsCovered database bindings known logs seed view left output)
