-- A hint that is offered doesn't move the player.
use Rattle.std.proofs.Common.{◌≡◌, ℕ, Option, Some, None, refl, ap}
use Rattle.std.specs.FinMap as map
use Rattle.cave_data.specs.CaveView.{CaveView}
use Rattle.turn_ends.specs.Questions.{after_offer, ask_question, asking_rows, after_ask}
use Rattle.data_rows.specs.declared.rows.Hint.{Hint}
use Rattle.turn_scene.specs.Scene.{Scene, after_row}
use Rattle.cave_world.specs.declared.ending.Question.TheVariants as question
use Rattle.cave_world.specs.declared.tables.Table.TheVariants as table

state_offered : (hint : Option Hint) (p : Scene) → (after_offer hint p).state ≡ p.state
state_offered None p = refl
state_offered (Some hint) p = refl

pub trail_asked : (cave : CaveView) (hint : ℕ) (p : Scene)
    → (after_ask cave (question.Hint hint) p).state.trail ≡ p.state.trail
unfolding after_ask ask_question asking_rows
trail_asked cave hint p =
    ap (λ s. s.trail)
    (state_offered (map.get cave.hints hint) (after_row table.Questions 5 (after_row table.Asking 2 p)))
