-- How objects are put down one after another, for the code that does it.
use Rattle.std.specs.Prelude.{ℕ, List, [], ◌∷◌}
use Rattle.cave_data.specs.CaveView.{CaveView}
use Rattle.world_objects.specs.Objects.{Layout, after_move_to, with_anchor, with_prop}
use Rattle.turn_scene.specs.Homes.{home, hold_of}
use Rattle.turn_scene.specs.Props.{UNSEEN}

-- an object is put where it is as the game begins, its second half first
unfoldable pub after_placing : CaveView → ℕ → Layout → Layout
after_placing cave x o = after_move_to (with_anchor o x (hold_of cave x)) x (home cave x)

-- the objects of a list are put down like this, the last one first
abbrev pub after_placing_all : CaveView → List ℕ → Layout → Layout
after_placing_all cave [] o = o
after_placing_all cave (x ∷ xs) o = after_placing cave x (after_placing_all cave xs o)

-- the objects of a list haven't been seen yet
abbrev pub after_hiding_treasures : List ℕ → Layout → Layout
after_hiding_treasures [] o = o
after_hiding_treasures (x ∷ xs) o = after_hiding_treasures xs (with_prop o x UNSEEN)
