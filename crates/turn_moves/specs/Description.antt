-- How the player's place is described.
use Rattle.std.specs.Prelude.{◌%◌, Bool, true, false, ◌==◌, List, [], ◌∷◌, ◌++◌, is_some}
use Rattle.std.specs.FinMap as map
use Rattle.data_rows.specs.declared.place_role.PlaceRole.TheVariants as place
use Rattle.data_rows.specs.declared.role.Role.TheVariants as role
use Rattle.cave_data.specs.CaveView.{CaveView}
use Rattle.cave_words.specs.declared.named.Named.TheVariants as name
use Rattle.world_objects.specs.Lists.{halves_at}
use Rattle.cave_world.specs.State.{visits_of, with_visit}
use Rattle.cave_world.specs.declared.part.Part.TheVariants as part
use Rattle.cave_world.specs.declared.state.State.{State}
use Rattle.turn_scene.specs.Scene.{Scene}
use Rattle.cave_world.specs.declared.tables.Table.TheVariants as table
use Rattle.turn_scene.specs.Rows.{Deed, Act, Test, Effect, Row, deed, row_then, plain_row}
use Rattle.turn_scene.specs.Rows.{chance_row, first_fitting_or, nothing_but, by_table, always}
use Rattle.turn_scene.specs.Rows.{otherwise, otherwise_then, noted}
use Rattle.turn_scene.specs.Tests.{the, no, in_hands, percent, player_at, cave_closing, here}
use Rattle.turn_scene.specs.Tests.{forced_at, in_the_dark, was_dark}
use Rattle.turn_scene.specs.Effects.{say, tell, change, follow}
use Rattle.turn_moves.specs.Objects.{after_all_objects}
use Rattle.turn_moves.specs.Ways.{die_at}

-- a bear in the hands is mentioned before the text
unfoldable pub bear_rows : List (Row (Unit {0}) (Unit {0}))
bear_rows = plain_row (in_hands (the name.Bear) ∷ []) (say role.BearFollows ∷ []) ∷ []

abbrev pub brief : Test (Unit {0})
brief d = d.scene.state.talk.is_brief

-- the place has no visits yet
abbrev pub first_visit : Test (Unit {0})
first_visit d = visits_of d.scene.state (here d) == 0

-- its visits are a multiple of 5
abbrev pub fifth_visit : Test (Unit {0})
fifth_visit d = visits_of d.scene.state (here d) % 5 == 0

abbrev pub short_text : Test (Unit {0})
short_text d = is_some (map.get d.cave.short (here d))

abbrev pub tell_long : Effect (Unit {0})
tell_long d = tell (part.Long (here d)) d

abbrev pub tell_short : Effect (Unit {0})
tell_short d = tell (part.Short (here d)) d

-- the text of the place, long or short
unfoldable pub text_rows : List (Row (Unit {0}) (Unit {0}))
text_rows =
    plain_row (brief ∷ first_visit ∷ []) (tell_long ∷ [])
    ∷ plain_row (no brief ∷ fifth_visit ∷ []) (tell_long ∷ [])
    ∷ plain_row (no short_text ∷ []) (tell_long ∷ [])
    ∷ otherwise (tell_short ∷ [])

-- at one place something hollow is heard, by chance, until the cave is closing
unfoldable pub hollow_rows : List (Row (Unit {0}) (Unit {0}))
hollow_rows =
    chance_row (player_at place.Y2 ∷ no cave_closing ∷ []) (percent 25) (say role.Hollow ∷ [])
    ∷ []

abbrev pub with_visit_here : State → State
with_visit_here s = with_visit s s.trail.here

abbrev pub after_objects_here : CaveView → Scene → Scene
after_objects_here cave p =
    after_all_objects cave (halves_at p.state.trail.here p.state.objects.lists) p

-- at a place of forced motion only the text is printed
unfoldable pub tell_place : List (Effect (Unit {0}))
tell_place =
    by_table table.BearFollows bear_rows ∷ by_table table.PlaceText text_rows ∷ []

-- any other place is described, with the objects there
unfoldable pub see_place : List (Effect (Unit {0}))
see_place =
    tell_place
    ++ by_table table.Hollow hollow_rows ∷ change with_visit_here ∷ follow after_objects_here ∷ []

unfoldable pub feel_place : List (Effect (Unit {0}))
feel_place =
    by_table table.BearFollows bear_rows ∷ say role.Dark ∷ by_table table.Hollow hollow_rows ∷ []

-- a player who goes on in the dark may fall into a pit
unfoldable pub description_rows : List (Row (Unit {0}) (Unit {0}))
description_rows =
    plain_row (no in_the_dark ∷ []) see_place
    ∷ chance_row (was_dark ∷ []) (percent 35) (say role.Pit ∷ die_at here ∷ [])
    ∷ otherwise feel_place

-- a place without forced motion is described
unfoldable pub after_describe : CaveView → Scene → Scene
after_describe cave p = (by_table table.Description description_rows (deed cave tt p)).scene

module _ {C : Type 0} where
  abbrev pub describe_place : Effect C
  describe_place d = follow after_describe d

-- what is seen where the player is; what follows says whether a forced motion moves the player on
unfoldable pub stop_rows : List (Row (Unit {0}) Bool)
stop_rows =
    row_then (forced_at here ∷ []) tell_place (always true)
    ∷ otherwise_then (describe_place ∷ []) (always false)

unfoldable pub stop_here : Deed (Unit {0}) → Act Bool
stop_here d = first_fitting_or (noted table.Stops stop_rows) (nothing_but (always false)) d
