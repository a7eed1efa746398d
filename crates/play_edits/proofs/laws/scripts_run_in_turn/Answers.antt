use Rattle.std.proofs.Common.{◌≡◌, ◌∙◌, ◌++◌, ◌∷◌, List, [], ap, refl, sym}
use Rattle.std.proofs.lemmas.List.{append_assoc}
use Rattle.replay_edits.specs.Edit.{Game}
use Rattle.replay_scripts.specs.Script.{Applied}
use Rattle.play_edits.specs.Items.{game_after_item, game_after_items, item_report, reports}
use Rattle.play_edits.proofs.laws.scripts_run_in_turn.Goals as goal

games_in_turn : (first second : List Applied) (game : Game)
    → game_after_items (first ++ second) game
    ≡ game_after_items second (game_after_items first game)
games_in_turn [] second game = refl
games_in_turn (item ∷ items) second game = games_in_turn items second (game_after_item item game)

reports_in_turn : (first second : List Applied) (game : Game)
    → reports (first ++ second) game
    ≡ reports first game ++ reports second (game_after_items first game)
reports_in_turn [] second game = refl
reports_in_turn (item ∷ items) second game =
    let next = game_after_item item game in
    ap (λ rest. item_report item game ++ rest) (reports_in_turn items second next)
    ∙ sym (append_assoc (item_report item game) (reports items next)
    (reports second (game_after_items items next)))

pub returns : goal.returns
returns c = λ first second game.
    (games_in_turn first second game, reports_in_turn first second game)
