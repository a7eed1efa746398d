-- Verbs of few rules, and verbs that have none of their own.
use Rattle.std.specs.Prelude.{List, [], ◌∷◌, pos, ◌-ℤ◌, true}
use Rattle.data_rows.specs.declared.role.Role.TheVariants as role
use Rattle.cave_world.specs.Sight.{LAMP_ON}
use Rattle.turn_scene.specs.Props.{LAMP_OFF, UNSEEN, VASE_BROKEN, VASE_WHOLE}
use Rattle.turn_scene.specs.Effects.{say, set_prop, look, fix, change}
use Rattle.turn_scene.specs.Rows.{Row, plain_row, row_then, otherwise_then, by_table, Effect, Thing}
use Rattle.turn_scene.specs.Tests.{no, near, lamp_dead, was_dark, in_the_dark, both, carried}
use Rattle.turn_scene.specs.Tests.{is_here, cave_closing, prop_up_to, cave_closed, player_at, prop}
use Rattle.turn_scene.specs.Tests.{MAX_DETAILS}
use Rattle.cave_verbs.specs.Effects.{default, ask_what}
use Rattle.cave_verbs.specs.Rows.{VerbRow, row, describes, stays, ends, keeps, poses, x, is}
use Rattle.cave_verbs.specs.declared.task.Task.{Task}
use Rattle.cave_world.specs.declared.tables.Table.TheVariants as table
use Rattle.cave_verbs.specs.Things.{lamp, fissure, rod, second_rod}
use Rattle.cave_words.specs.declared.named.Named.TheVariants as name
use Rattle.world_objects.specs.Objects.{prop_of}
use Rattle.data_rows.specs.declared.place_role.PlaceRole.TheVariants as place
use Rattle.cave_world.specs.declared.ending.Ending.TheVariants as ending
use Rattle.turn_scene.specs.SharedRules.{lay_down}
use Rattle.cave_world.specs.declared.ending.Question.TheVariants as question
use Rattle.cave_world.specs.declared.state.State.{State}
use Rattle.turn_scene.specs.Parts.{with_talk}

unfoldable pub on_rows : List VerbRow
on_rows =
    row (no (near lamp) ∷ []) (default ∷ [])
    ∷ row (lamp_dead ∷ []) (say role.LampDead ∷ [])
    ∷ row_then (was_dark ∷ []) (set_prop lamp LAMP_ON ∷ say role.LampOn ∷ []) describes
    ∷ otherwise_then (set_prop lamp LAMP_ON ∷ say role.LampOn ∷ []) stays

-- the game says that it is dark, if it is so now
unfoldable pub darkened_rows : List (Row Task (Unit {0}))
darkened_rows = plain_row (in_the_dark ∷ []) (say role.Dark ∷ []) ∷ []

unfoldable pub off_rows : List VerbRow
off_rows =
    row (no (near lamp) ∷ []) (default ∷ [])
    ∷ otherwise_then
    (set_prop lamp LAMP_OFF ∷ say role.LampOff ∷ by_table table.Darkened darkened_rows ∷ []) stays

-- a prop becomes 1 less what it was
abbrev pub flip : Thing Task → Effect Task
flip t d = set_prop t (pos 1 -ℤ prop_of d.scene.state.objects (t d)) d

-- the text for 2 less the prop, which is 1 more than the prop was before it was flipped
abbrev pub look_at_flip : Thing Task → Effect Task
look_at_flip t d = look t (pos 2 -ℤ prop_of d.scene.state.objects (t d)) d

unfoldable pub wave_rows : List VerbRow
wave_rows =
    row (no (carried x) ∷ no (both (is name.Rod) (carried second_rod)) ∷ [])
    (say role.NotHeld ∷ [])
    ∷ row (is name.Rod ∷ is_here fissure ∷ carried rod ∷ no cave_closing ∷ [])
    (flip fissure ∷ look_at_flip fissure ∷ [])
    ∷ otherwise_then (default ∷ []) stays

unfoldable pub rub_rows : List VerbRow
rub_rows =
    row (is name.Lamp ∷ []) (default ∷ [])
    ∷ otherwise_then (say role.RubOdd ∷ []) stays

unfoldable pub blast_rows : List VerbRow
blast_rows =
    row (no cave_closed ∷ []) (default ∷ [])
    ∷ row (prop_up_to second_rod UNSEEN ∷ []) (default ∷ [])
    ∷ row_then (near second_rod ∷ []) (say role.Klutz ∷ []) (ends ending.Klutz)
    ∷ row_then (player_at place.Ne ∷ []) (say role.WrongWay ∷ []) (ends ending.WrongWay)
    ∷ otherwise_then (say role.Success ∷ []) (ends ending.Success)

unfoldable pub break_rows : List VerbRow
break_rows =
    row (is name.Vase ∷ prop x VASE_WHOLE ∷ [])
    (lay_down x ∷ set_prop x VASE_BROKEN ∷ fix x ∷ say role.VaseSmash ∷ [])
    ∷ row_then (is name.Mirror ∷ cave_closed ∷ []) (say role.MirrorBreak ∷ say role.Disturbed ∷ [])
    (ends ending.Killed)
    ∷ row (is name.Mirror ∷ []) (say role.MirrorNo ∷ [])
    ∷ otherwise_then (default ∷ []) stays

unfoldable pub wake_rows : List VerbRow
wake_rows =
    row_then (is name.Dwarf ∷ cave_closed ∷ []) (say role.WakeDwarf ∷ say role.Disturbed ∷ [])
    (ends ending.Killed)
    ∷ otherwise_then (default ∷ []) stays

-- a verb that needs an object and has none
unfoldable pub bare_rows : List VerbRow
bare_rows = otherwise_then (ask_what ∷ []) keeps

-- a verb for which there is no rule
unfoldable pub other_rows : List VerbRow
other_rows = otherwise_then (default ∷ []) stays

unfoldable pub nothing_rows : List VerbRow
nothing_rows = otherwise_then (say role.Ok ∷ []) stays

unfoldable pub bare_quit_rows : List VerbRow
bare_quit_rows = otherwise_then [] (poses question.Quit)

unfoldable pub bare_score_rows : List VerbRow
bare_score_rows = otherwise_then [] (poses question.ScoreQuit)

-- places are described briefly from now on, and the game has said often enough that there are no
-- more details
abbrev pub with_brevity : State → State
with_brevity s = with_talk (record (s.talk) { is_brief = true; details = MAX_DETAILS }) s

unfoldable pub bare_brief_rows : List VerbRow
bare_brief_rows = otherwise_then (change with_brevity ∷ say role.Brief ∷ []) stays
