-- KILL.
use Rattle.std.specs.Prelude.{ℕ, List, [], ◌∷◌}
use Rattle.data_rows.specs.declared.role.Role.TheVariants as role
use Rattle.cave_words.specs.declared.named.Named.TheVariants as name
use Rattle.cave_world.specs.declared.ending.Ending.TheVariants as ending
use Rattle.cave_world.specs.declared.ending.Question.TheVariants as question
use Rattle.turn_scene.specs.Props.{BEAR_DEAD, BEAR_WILD, BIRD_FREE, DRAGON_ALIVE}
use Rattle.turn_scene.specs.Rows.{Deed, Test, row_then, otherwise_then}
use Rattle.turn_scene.specs.Effects.{say, destroy, set_prop}
use Rattle.turn_scene.specs.SharedRules.{lose_to_snake}
use Rattle.turn_scene.specs.Tests.{no, either, both, there_is, near, is_here, prop, dwarf}
use Rattle.turn_scene.specs.Tests.{cave_closed}
use Rattle.cave_verbs.specs.Choice.{candidate, objects_meant, several, first}
use Rattle.cave_verbs.specs.Rows.{VerbRow, row, keeps, poses, ends, does, stays, x, is}
use Rattle.cave_verbs.specs.Effects.{default, ask_what}
use Rattle.cave_verbs.specs.Verbs.{is_verb}
use Rattle.cave_verbs.specs.declared.verb.Verb.{Verb}
use Rattle.cave_verbs.specs.declared.task.Task.{Task}
use Rattle.cave_verbs.specs.Things.{bear, bird, clam, dragon, oyster, snake, troll}

-- the player's own verb, which may have gone on to this one
abbrev pub is_typed : Verb → Test Task
is_typed v d = is_verb d.about.commanded v

abbrev pub foes : Deed Task → List ℕ
foes = objects_meant
    (candidate name.Dwarf dwarf
    ∷ candidate name.Snake (near snake)
    ∷ candidate name.Dragon (both (is_here dragon) (prop dragon DRAGON_ALIVE))
    ∷ candidate name.Troll (is_here troll)
    ∷ candidate name.Bear (both (near bear) (prop bear BEAR_WILD))
    ∷ [])

-- what is killed if there is no foe
abbrev pub prey : Deed Task → List ℕ
prey = objects_meant
    (candidate name.Bird (both (near bird) (no (is_typed Verb.Throw)))
    ∷ candidate name.Clam (either (near clam) (near oyster))
    ∷ [])

unfoldable pub bare_kill_rows : List VerbRow
bare_kill_rows =
    row_then (several foes ∷ []) (ask_what ∷ []) keeps
    ∷ row_then (there_is (first foes) ∷ []) [] (does Verb.Kill (first foes))
    ∷ row_then (several prey ∷ []) (ask_what ∷ []) keeps
    ∷ row_then (there_is (first prey) ∷ []) [] (does Verb.Kill (first prey))
    ∷ otherwise_then (say role.NoneToKill ∷ []) stays

unfoldable pub kill_rows : List VerbRow
kill_rows =
    row (is name.Bird ∷ cave_closed ∷ []) (say role.BirdNo ∷ [])
    ∷ row (is name.Bird ∷ []) (destroy x ∷ set_prop x BIRD_FREE ∷ lose_to_snake ∷ say role.BirdDead
    ∷ [])
    ∷ row (either (is name.Clam) (is name.Oyster) ∷ []) (say role.Shell ∷ [])
    ∷ row (is name.Snake ∷ []) (say role.SnakeNo ∷ [])
    ∷ row_then (is name.Dwarf ∷ cave_closed ∷ []) (say role.Disturbed ∷ []) (ends ending.Killed)
    ∷ row (is name.Dwarf ∷ []) (say role.WithWhat ∷ [])
    ∷ row_then (is name.Dragon ∷ prop x DRAGON_ALIVE ∷ []) [] (poses question.Dragon)
    ∷ row (is name.Dragon ∷ []) (say role.DeadAlready ∷ [])
    ∷ row (is name.Troll ∷ []) (say role.TrollNo ∷ [])
    ∷ row (is name.Bear ∷ prop x BEAR_WILD ∷ []) (say role.BearFight ∷ [])
    ∷ row (is name.Bear ∷ prop x BEAR_DEAD ∷ []) (say role.DeadAlready ∷ [])
    ∷ row (is name.Bear ∷ []) (say role.BearFriend ∷ [])
    ∷ otherwise_then (default ∷ []) stays
