-- What is written of the items of a script, in words and as a table.
use Rattle.std.specs.Prelude.{ℕ, List, [], ◌∷◌, ◌++◌, codes, Option, None, Some, Ok, Err}
use Rattle.std.specs.Fmt.{decimal}
use Rattle.std.specs.List.{sum_by}
use Rattle.cave_data.specs.CaveView.{CaveView}
use Rattle.cave_replay.specs.declared.report.GroupReport.{GroupReport}
use Rattle.cave_world.specs.declared.ending.Ending.{Ending}
use Rattle.replay_edits.specs.Edit.{Game, changes_of}
use Rattle.replay_edits.specs.Faults.{edit_fault_text}
use Rattle.replay_edits.specs.declared.fault.EditFault.{EditFault}
use Rattle.replay_scripts.specs.Script.{Applied}
use Rattle.play_tables.specs.ItemRow.{met_column, accepted_row, item_head_row, refused_row}
use Rattle.play_state_text.specs.Words.{ending_word}
use Rattle.play_edits.specs.Items.{game_after_item}
use Rattle.play_edits.specs.Outcome.{ItemOutcome, lines_in, played_in, standing_of}
use Rattle.play_edits.specs.Refusal.{refusal_line, refusal_number, shown_copy}
use Rattle.play_edits.specs.declared.outcome.Standing.{Standing}
use Rattle.play_edits.specs.declared.refusal.LineCopy.{LineCopy}
use Rattle.play_edits.specs.declared.refusal.ExpectedLine.{ExpectedLine}
use Rattle.play_edits.specs.declared.refusal.ExpectedLine.TheVariants.{At, Impossible, Nowhere}
use Rattle.play_edits.specs.declared.refusal.Refusal.{Refusal}
use Rattle.play_edits.specs.declared.refusal.Refusal.TheVariants.{Edit, NoLine, OtherLine}
use Rattle.cave_replay.specs.Play.{state_after}
use Rattle.cave_world.specs.declared.state.State.{State}
use Rattle.play_machine.specs.Machine.{cave_rules}

-- what is said of the fault of an edit of a script
abbrev pub edit_words : EditFault → List ℕ
edit_words EditFault.EmptyGroup = codes "an empty group: put an edit between `begin` and `end`"
edit_words fault = edit_fault_text fault

abbrev pub expected_words : LineCopy → List ℕ
expected_words line = codes "; expected " ++ shown_copy line

-- the line that a guard expects, and where the log has it
abbrev pub expected_text : ExpectedLine → List ℕ
expected_text Impossible = codes "; expected a line that no log may have"
expected_text (Nowhere line) = expected_words line ++ codes ", which is nowhere"
expected_text (At line at) = expected_words line ++ (codes ", which is at " ++ decimal at)

-- what is said of a refusal after its number; of a guard also the line that the log has, and what
-- was expected
abbrev pub refusal_said : Refusal → List ℕ
refusal_said (Edit at fault) = edit_words fault
refusal_said (NoLine at lines expected) =
    (codes "no line: the log has " ++ decimal lines) ++ expected_text expected
refusal_said (OtherLine at line expected) =
    codes "another line: " ++ (shown_copy line ++ expected_text expected)

-- how a game has ended, if it has
abbrev pub ending_text : Option Ending → List ℕ
ending_text None = []
ending_text (Some ending) = codes ", ended: " ++ ending_word ending

-- where a game is after its last line: its score, the greatest one, its turns, the player's place,
-- and how it has ended
abbrev pub standing_text : Standing → List ℕ
standing_text standing =
    codes ", score " ++ (decimal standing.score ++ (codes " of " ++ (decimal standing.most
    ++ (codes ", turns " ++ (decimal standing.turns ++ (codes ", at " ++ (decimal standing.place
    ++ ending_text standing.ending)))))))

-- why an item was refused, as it is written
abbrev pub refusal_text : Refusal → List ℕ
refusal_text refusal =
    codes "line " ++ (decimal (refusal_line refusal) ++ (codes ": refused "
    ++ (decimal (refusal_number refusal) ++ (codes ", " ++ (refusal_said refusal ++ codes "\n")))))

-- where the replay of an item began and met the old play, and how many of the lines it played
abbrev pub replay_text : Applied → GroupReport → List ℕ
replay_text item done =
    (codes "line " ++ (decimal item.line ++ (codes ": ok, from " ++ (decimal done.from
    ++ codes ", met "))))
    ++ (met_column done.met
    ++ (codes ", played " ++ (decimal done.played ++ (codes " of " ++ decimal done.lines))))

-- what is written of an item: what it replayed, and where the game is then; or why it was refused
abbrev pub account_by : Applied → ItemOutcome → Standing → List ℕ
account_by item (Ok done) standing =
    replay_text item done ++ (standing_text standing ++ codes "\n")
account_by item (Err refusal) standing = refusal_text refusal

-- that of an item that was applied to a game
abbrev pub account : CaveView → Applied → Game → ItemOutcome → List ℕ
account cave item game outcome =
    account_by item outcome (standing_of cave (game_after_item item game))

-- what is written of items that are applied to a game, one after another
abbrev pub text_of_items : (Applied → Game → ItemOutcome → List ℕ) → List Applied → Game
    → List ItemOutcome → List ℕ
text_of_items tell [] game outcomes = []
text_of_items tell (item ∷ items) game [] = []
text_of_items tell (item ∷ items) game (outcome ∷ outcomes) =
    tell item game outcome ++ text_of_items tell items (game_after_item item game) outcomes

-- the last line: how many lines were played, and how many would have been, had each accepted item
-- played its log from the first line
abbrev pub totals_line : ℕ → ℕ → List ℕ
totals_line played lines =
    codes "replayed " ++ (decimal played ++ (codes " lines instead of "
    ++ (decimal lines ++ codes "\n")))

abbrev pub accounts : CaveView → List Applied → Game → List ItemOutcome → List ℕ
accounts cave items game outcomes =
    text_of_items (account cave) items game outcomes
    ++ totals_line (sum_by played_in outcomes) (sum_by lines_in outcomes)

-- ---- the table

-- the state to which playing a game leads
unfoldable pub last_state : CaveView → Game → State
last_state cave game =
    let rules = cave_rules cave in state_after rules (rules.begun game.seed) game.log

-- the row of an item by its outcome, with the last states of the log before it and after it, and
-- where the game is after it
abbrev pub row_by : Applied → ItemOutcome → State → Standing → State → List ℕ
row_by item (Ok done) s standing t =
    accepted_row item.line item.changes (changes_of done.inverse.items) done.from done.met
    done.played standing.score standing.turns s t
row_by item (Err refusal) s standing t =
    refused_row (refusal_line refusal) item.changes (refusal_number refusal)

-- the row of an item that was applied to a game
abbrev pub table_row : CaveView → Applied → Game → ItemOutcome → List ℕ
table_row cave item game outcome =
    let next = game_after_item item game in
    row_by item outcome (last_state cave game) (standing_of cave next) (last_state cave next)

-- the names of the columns, and a row for each item
abbrev pub table_text : CaveView → List Applied → Game → List ItemOutcome → List ℕ
table_text cave items game outcomes =
    item_head_row ++ text_of_items (table_row cave) items game outcomes
