-- Laws about items: what guards do to one, and what scripts do in turn.
use Rattle.std.specs.Prelude.{◌≡◌, ◌++◌, List, ℕ, [], false, None, Some, take, slice_get}
use Rattle.std.specs.List.{AllByRecursion}
use Rattle.replay_scripts.specs.Script.{Applied, Expectation, guarded_by}
use Rattle.replay_edits.specs.Edit.{Change, Game}
use Rattle.replay_edits.specs.Faults.{fault_of_all, log_after_all}
use Rattle.base_lines.specs.Line.{is_line}
use Rattle.play_edits.specs.Items.{game_after_item, game_after_items, reports}
use Rattle.play_edits.specs.Refusal.{IsNearestAt, IsNowhere, expected_line, line_copy}
use Rattle.play_edits.specs.declared.refusal.ExpectedLine.{ExpectedLine}
use Rattle.play_edits.specs.declared.refusal.ExpectedLine.TheVariants.{At, Impossible, Nowhere}

-- A log meets a guard among changes: if none of the changes before it is refused, the log that they
-- leave has the guard's text at its place.
abbrev pub IsMet : List Change → List (List ℕ) → Expectation → Type 0
IsMet changes log guard =
    fault_of_all (take guard.after changes) log 0 ≡ None
    → slice_get (log_after_all (take guard.after changes) log) guard.place ≡ Some guard.text

-- if its guards are met, an item does to a game what it does without them; if one isn't, the game
-- stays as it is
abbrev pub GuardsRefuseAlone : Type 0
GuardsRefuseAlone =
    (item : Applied) (game : Game)
    → (AllByRecursion (IsMet item.changes game.log) item.guards
    → game_after_item item game ≡ game_after_item (guarded_by [] item) game)
    × (¬ AllByRecursion (IsMet item.changes game.log) item.guards
    → game_after_item item game ≡ game)

-- A guard's place, its text and a log lead to what a refusal says of where the log has the text: at
-- the place nearest to the guard's, or nowhere; or no log may have it.
abbrev pub IsWhere : Expectation → List (List ℕ) → ExpectedLine → Type 0
IsWhere guard log Impossible = is_line guard.text ≡ false
IsWhere guard log (Nowhere line) =
    (line ≡ line_copy guard.text) × IsNowhere guard.text log
IsWhere guard log (At line place) =
    (line ≡ line_copy guard.text) × IsNearestAt guard.place guard.text log place

abbrev pub NearestLinesAreNamed : Type 0
NearestLinesAreNamed =
    (guard : Expectation) (log : List (List ℕ)) → IsWhere guard log (expected_line guard log)

-- the items of one script and then of another do what the first does, and then what the second
-- does, and so do their reports
abbrev pub ScriptsRunInTurn : Type 0
ScriptsRunInTurn =
    (first second : List Applied) (game : Game)
    → (game_after_items (first ++ second) game
    ≡ game_after_items second (game_after_items first game))
    × (reports (first ++ second) game
    ≡ reports first game ++ reports second (game_after_items first game))
