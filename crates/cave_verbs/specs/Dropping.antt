-- DROP.
use Rattle.std.specs.Prelude.{List, [], ◌∷◌}
use Rattle.data_rows.specs.declared.role.Role.TheVariants as role
use Rattle.cave_words.specs.declared.named.Named.TheVariants as name
use Rattle.cave_world.specs.declared.ending.Ending.TheVariants as ending
use Rattle.turn_scene.specs.Props.{BATTERIES_FRESH, BIRD_FREE, DRAGON_ALIVE, SNAKE_GONE, TROLL_FLED}
use Rattle.turn_scene.specs.Props.{VASE_BREAKING, VASE_BROKEN, VASE_ON_PILLOW, VASE_WHOLE}
use Rattle.turn_scene.specs.Effects.{say, look, bring, destroy, fix, set_prop}
use Rattle.turn_scene.specs.SharedRules.{put, troll_goes, lose_to_snake}
use Rattle.turn_scene.specs.Rows.{row_then, otherwise_then}
use Rattle.turn_scene.specs.Tests.{no, carried, near, is_here, prop, cave_closed, away_from_home}
use Rattle.cave_verbs.specs.Effects.{default}
use Rattle.cave_verbs.specs.Rows.{VerbRow, row, ends, does, stays, x, is}
use Rattle.cave_verbs.specs.declared.verb.Verb.TheVariants as verb
use Rattle.cave_verbs.specs.Things.{batteries, dragon, pillow, second_rod, snake, troll, vending}

unfoldable pub drop_rows : List VerbRow
drop_rows =
    row_then (is name.Rod ∷ no (carried x) ∷ carried second_rod ∷ []) [] (does verb.Drop second_rod)
    ∷ row (no (carried x) ∷ []) (default ∷ [])
    ∷ row_then (is name.Bird ∷ near snake ∷ cave_closed ∷ [])
    (say role.BirdSnake ∷ say role.Disturbed ∷ []) (ends ending.Killed)
    ∷ row (is name.Bird ∷ near snake ∷ [])
    (say role.BirdSnake ∷ destroy snake ∷ set_prop snake SNAKE_GONE ∷ put x ∷ [])
    ∷ row (is name.Coins ∷ near vending ∷ [])
    (destroy x ∷ bring batteries ∷ look batteries BATTERIES_FRESH ∷ [])
    ∷ row (is name.Bird ∷ is_here dragon ∷ prop dragon DRAGON_ALIVE ∷ [])
    (say role.BirdDragon ∷ destroy x ∷ set_prop x BIRD_FREE ∷ lose_to_snake ∷ [])
    ∷ row (is name.Bear ∷ is_here troll ∷ [])
    (say role.TrollFlees ∷ troll_goes ∷ set_prop troll TROLL_FLED ∷ put x ∷ [])
    ∷ row (is name.Vase ∷ away_from_home pillow ∷ is_here pillow ∷ [])
    (set_prop x VASE_WHOLE ∷ look x VASE_ON_PILLOW ∷ put x ∷ [])
    ∷ row (is name.Vase ∷ away_from_home pillow ∷ [])
    (set_prop x VASE_BROKEN ∷ look x VASE_BREAKING ∷ fix x ∷ put x ∷ [])
    ∷ otherwise_then (say role.Ok ∷ put x ∷ []) stays
