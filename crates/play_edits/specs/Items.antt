-- What the items of a script do to a game, which are refused, and what is reported of them.
use Rattle.std.specs.Prelude.{ℕ, List, [], ◌∷◌, ◌++◌, codes, Option, None, Some}
use Rattle.std.specs.Fmt.{decimal}
use Rattle.replay_edits.specs.Edit.{apply_all, Game}
use Rattle.replay_scripts.specs.Script.{Applied}
use Rattle.play_edits.specs.Refusal.{item_refusal, refusal_line, refusal_number}
use Rattle.play_edits.specs.declared.refusal.Refusal.{Refusal}

abbrev pub item_report_by : Applied → Option Refusal → List ℕ
item_report_by item None = codes "line " ++ (decimal item.line ++ codes ": ok\n")
item_report_by item (Some refusal) =
    codes "line "
    ++ (decimal (refusal_line refusal)
    ++ (codes ": refused " ++ (decimal (refusal_number refusal) ++ codes "\n")))

abbrev pub game_left : Applied → Option Refusal → Game → Game
game_left item None game = apply_all item.changes game
game_left item (Some refusal) game = game

-- what is reported of an item, and the game after it
unfoldable pub item_report : Applied → Game → List ℕ
item_report item game = item_report_by item (item_refusal item game.log)

unfoldable pub game_after_item : Applied → Game → Game
game_after_item item game = game_left item (item_refusal item game.log) game

-- what is reported of several items, and the game after all that were accepted
abbrev pub reports : List Applied → Game → List ℕ
reports [] game = []
reports (item ∷ items) game = item_report item game ++ reports items (game_after_item item game)

abbrev pub refusal_list : Option Refusal → List Refusal
refusal_list None = []
refusal_list (Some refusal) = refusal ∷ []

-- why items are refused, each in the game that those before it left, in their order
abbrev pub refusals : List Applied → Game → List Refusal
refusals [] game = []
refusals (item ∷ items) game =
    refusal_list (item_refusal item game.log) ++ refusals items (game_after_item item game)

abbrev pub game_after_items : List Applied → Game → Game
game_after_items [] game = game
game_after_items (item ∷ items) game = game_after_items items (game_after_item item game)
