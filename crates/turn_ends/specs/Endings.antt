-- How a game ends, and what a death does.
use Rattle.std.specs.Prelude.{ℕ, ◌+◌, ◌-◌, false, List, [], ◌∷◌, Option, Some, None, min, is_some}
use Rattle.std.specs.Prelude.{option_map, unwrap_or}
use Rattle.data_rows.specs.declared.role.Role.TheVariants as role
use Rattle.cave_data.specs.CaveView.{CaveView, Rated, class_of}
use Rattle.cave_world.specs.declared.ending.Ending.{Ending}
use Rattle.cave_world.specs.declared.ending.Question.TheVariants as question
use Rattle.cave_world.specs.declared.part.NumberLine.TheVariants as line
use Rattle.cave_world.specs.declared.part.Part.TheVariants as part
use Rattle.cave_world.specs.State.{LIVES}
use Rattle.cave_world.specs.declared.state.State.{State}
use Rattle.turn_scene.specs.Scene.{Scene, with_state}
use Rattle.turn_scene.specs.Parts.{with_tallies}
use Rattle.turn_ends.specs.Score.{score_of, max_score_of}
use Rattle.cave_world.specs.declared.tables.Table.TheVariants as table
use Rattle.turn_scene.specs.Rows.{Deed, Test, Effect, Row, deed, plain_row, after_all, by_table}
use Rattle.turn_scene.specs.Rows.{otherwise}
use Rattle.turn_scene.specs.Tests.{cave_closing}
use Rattle.turn_scene.specs.Effects.{in_scene, change, follow, say, tell}
use Rattle.turn_ends.specs.Questions.{ask}

abbrev pub score_now : Deed (Unit {0}) → ℕ
score_now d = score_of d.cave d.scene.state

-- the first class whose bound isn't below the score
abbrev pub class_now : Deed (Unit {0}) → Option Rated
class_now d = class_of d.cave (score_now d)

-- the points that are missing to pass the bound of a class
abbrev pub points_wanted : ℕ → Option Rated → ℕ
points_wanted score None = 0
points_wanted score (Some rated) = rated.bound + 1 - score

abbrev pub has_class : Test (Unit {0})
has_class d = is_some (class_now d)

-- another class follows that of the score
abbrev pub has_next_class : Test (Unit {0})
has_next_class d = unwrap_or (option_map (λ (class : Rated). class.is_followed) (class_now d)) false

-- the line of the score, of the greatest one, and of the turns
abbrev pub tell_turns : Effect (Unit {0})
tell_turns d = tell (part.Turns (score_now d) (max_score_of d.cave)) d

abbrev pub tell_class : Effect (Unit {0})
tell_class d = tell (part.Class (score_now d)) d

abbrev pub tell_points_wanted : Effect (Unit {0})
tell_points_wanted d =
    tell (part.Number line.PointsWanted (points_wanted (score_now d) (class_now d)) 0) d

unfoldable pub class_rows : List (Row (Unit {0}) (Unit {0}))
class_rows =
    plain_row (has_next_class ∷ []) (tell_class ∷ tell_points_wanted ∷ [])
    ∷ plain_row (has_class ∷ []) (tell_class ∷ say role.TopClass ∷ [])
    ∷ otherwise (say role.OffScale ∷ [])

unfoldable pub tell_score : List (Effect (Unit {0}))
tell_score = tell_turns ∷ by_table table.Classes class_rows ∷ []

abbrev pub with_ending : Ending → State → State
with_ending how s = record s { ending = Some how }

-- the game ends, and then the score is printed
unfoldable pub after_end : CaveView → Ending → Scene → Scene
after_end cave how p =
    (after_all tell_score (deed cave tt (with_state (with_ending how p.state) p))).scene

-- one more death, up to the last
abbrev pub with_one_death : State → State
with_one_death s = with_tallies (record (s.tallies) { deaths = min (s.tallies.deaths + 1) LIVES }) s

module _ {C : Type 0} where
  abbrev pub end_as : Ending → Effect C
  end_as how d = in_scene (after_end d.cave how d.scene) d

  abbrev pub count_death : Effect C
  count_death d = change with_one_death d

-- a death in a closing cave is the last; after another the player is asked whether to come back
unfoldable pub death_rows : List (Row (Unit {0}) (Unit {0}))
death_rows =
    plain_row (cave_closing ∷ [])
    (say role.KilledClosing ∷ count_death ∷ end_as Ending.Killed ∷ [])
    ∷ otherwise (ask question.Die ∷ [])

-- the player dies
unfoldable pub after_die : CaveView → Scene → Scene
after_die cave p = (by_table table.Death death_rows (deed cave tt p)).scene

module _ {C : Type 0} where
  abbrev pub die : Effect C
  die d = follow after_die d
