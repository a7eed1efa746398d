-- The scripts of the accepted items of a script: the one that takes them back, and the one that has
-- them, each edit with a guard of the line at its place.
use Rattle.std.specs.Prelude.{ℕ, Bool, true, false, List, [], ◌∷◌, ◌++◌, map, reverse, Option, None}
use Rattle.std.specs.Prelude.{Some, slice_get, option_map, Ok, Err, if◌then◌else◌, is_none}
use Rattle.replay_edits.specs.Edit.{Change, Game, changes_of, inverses_of, log_after, inserts}
use Rattle.replay_edits.specs.Edit.{deletes, replaces, reseeds}
use Rattle.replay_edits.specs.LineText.{LineText}
use Rattle.replay_scripts.specs.Script.{Applied}
use Rattle.replay_scripts.specs.ScriptText.{Back, script_text, group_text}
use Rattle.play_edits.specs.Items.{game_after_item}
use Rattle.play_edits.specs.Outcome.{ItemOutcome}
use Rattle.play_edits.specs.Refusal.{item_refusal}
use Rattle.play_edits.specs.declared.refusal.Refusal.{Refusal}
use Rattle.replay_edits.specs.Faults.{fault_of_all}

-- the line of a log at the place of a change, if there is one; a new seed has no place
abbrev pub expected_at : Change → List (List ℕ) → Option (List ℕ)
expected_at (inserts place line) log = slice_get log place
expected_at (deletes place) log = slice_get log place
expected_at (replaces place line) log = slice_get log place
expected_at (reseeds seed) log = None

-- the line at the place of each change, in the log that those before it leave
abbrev pub expected_lines : List Change → List (List ℕ) → List (Option (List ℕ))
expected_lines [] log = []
expected_lines (change ∷ changes) log =
    expected_at change log ∷ expected_lines changes (log_after change log)

abbrev pub lines_in : List (Option LineText) → List (Option (List ℕ))
lines_in lines = map (option_map (λ line. line.items)) lines

-- changes, each with the line expected at its place, if any is
abbrev pub expecting : List Change → List (Option (List ℕ)) → List Back
expecting [] lines = []
expecting (change ∷ changes) [] = []
expecting (change ∷ changes) (expected ∷ lines) =
    record { change = change; expected = expected } ∷ expecting changes lines

-- changes of a log, each with a guard of the line at its place
abbrev pub with_guards : List Change → List (List ℕ) → List Back
with_guards changes log = expecting changes (expected_lines changes log)

abbrev pub without_guard : Change → Back
without_guard change = record { change = change; expected = None }

abbrev pub backs_by : Bool → List Change → List (List ℕ) → List Back
backs_by false changes log = map without_guard changes
backs_by true changes log = with_guards changes log

-- what takes an item back, by its outcome, if its edits are guarded by this log
abbrev pub back_by : Bool → ItemOutcome → List (List ℕ) → List (List Back)
back_by guarded (Ok done) log = backs_by guarded (changes_of done.inverse.items) log ∷ []
back_by guarded (Err refusal) log = []

-- the changes that take an item back, unless it was refused
abbrev pub back_if : Option Refusal → List Back → List (List Back)
back_if None backs = backs ∷ []
back_if (Some refusal) backs = []

-- they are guarded if lines of scripts may be guards
unfoldable pub back_of : Bool → Applied → Game → List (List Back)
back_of guarded item game = back_if (item_refusal item game.log)
    (backs_by guarded (inverses_of item.changes game) (game_after_item item game).log)

-- those of items, one after another
abbrev pub backs_of : Bool → List Applied → Game → List (List Back)
backs_of guarded [] game = []
backs_of guarded (item ∷ items) game =
    back_of guarded item game ++ backs_of guarded items (game_after_item item game)

-- the script that takes back items that were applied to a game, the last one first
abbrev pub undo_text : Bool → List Applied → Game → List ℕ
undo_text guarded items game = script_text (reverse (backs_of guarded items game))

-- ---- the items with guards

-- the text of an item, unless the item was refused
abbrev pub text_if_done : ItemOutcome → List ℕ → List ℕ
text_if_done (Ok done) text = text
text_if_done (Err refusal) text = []

-- the text of changes of a log, each with a guard, if none of them is refused
abbrev pub guarded_group : List Change → List (List ℕ) → List ℕ
guarded_group changes log =
    if is_none (fault_of_all changes log 0) then group_text (with_guards changes log) else []

-- the changes of an item with their guards, unless it was refused
unfoldable pub guarded_of : Applied → Game → List (List Back)
guarded_of item game = back_if (item_refusal item game.log) (with_guards item.changes game.log)

-- those of items, one after another
abbrev pub guarded_groups : List Applied → Game → List (List Back)
guarded_groups [] game = []
guarded_groups (item ∷ items) game =
    guarded_of item game ++ guarded_groups items (game_after_item item game)

-- the script of the items that are accepted in the game, with guards
abbrev pub guarded_text : List Applied → Game → List ℕ
guarded_text items game = script_text (guarded_groups items game)
