-- The motions that rules name, and their numbers in a database.
use Rattle.std.specs.Prelude.{◌≡◌, ℕ, ◌==◌, List, [], ◌∷◌, Option, Some, None, Result, MatchResult}
use Rattle.std.specs.List.{find}
use Rattle.cave_world.specs.declared.motion.Motion.{Motion}
use Rattle.cave_world.specs.declared.motion.NoNamedMotion.{NoNamedMotion}

-- the number by which a database knows it
abbrev pub motion_number : Motion → ℕ
motion_number Motion.Any = 1
motion_number Motion.Forward = 7
motion_number Motion.Back = 8
motion_number Motion.Out = 11
motion_number Motion.Crawl = 17
motion_number Motion.Inside = 19
motion_number Motion.Nowhere = 21
motion_number Motion.Up = 29
motion_number Motion.Down = 30
motion_number Motion.Left = 36
motion_number Motion.Right = 37
motion_number Motion.East = 43
motion_number Motion.West = 44
motion_number Motion.North = 45
motion_number Motion.South = 46
motion_number Motion.Northeast = 47
motion_number Motion.Southeast = 48
motion_number Motion.Southwest = 49
motion_number Motion.Northwest = 50
motion_number Motion.Look = 57
motion_number Motion.Xyzzy = 62
motion_number Motion.Depression = 63
motion_number Motion.Entrance = 64
motion_number Motion.Plugh = 65
motion_number Motion.Cave = 67
motion_number Motion.Plover = 71

-- each motion that rules name, once
abbrev pub EACH_MOTION : List Motion
EACH_MOTION =
    Motion.Any ∷ Motion.Forward ∷ Motion.Back ∷ Motion.Out ∷ Motion.Crawl ∷ Motion.Inside ∷
    Motion.Nowhere ∷ Motion.Up ∷ Motion.Down ∷ Motion.Left ∷ Motion.Right ∷ Motion.East ∷
    Motion.West ∷ Motion.North ∷ Motion.South ∷ Motion.Northeast ∷ Motion.Southeast ∷
    Motion.Southwest ∷ Motion.Northwest ∷ Motion.Look ∷ Motion.Xyzzy ∷ Motion.Depression ∷
    Motion.Entrance ∷ Motion.Plugh ∷ Motion.Cave ∷ Motion.Plover ∷ []

-- a row that lists it is taken by every motion, and a first row that begins with it is forced
abbrev pub any_motion : ℕ
any_motion = motion_number Motion.Any

unfoldable pub motion_among : List Motion → ℕ → Option Motion
motion_among motions number = find (λ m. motion_number m == number) motions

-- the motion with a number, if rules name it
unfoldable pub motion_of : ℕ → Option Motion
motion_of number = motion_among EACH_MOTION number

abbrev pub IsMotionOf : ℕ → Result Motion NoNamedMotion → Type 0
IsMotionOf number r = MatchResult r (λ m. motion_of number ≡ Some m) (λ e. motion_of number ≡ None)

-- each motion that rules name is the one of its number
abbrev pub MotionsAreNumbered : Type 0
MotionsAreNumbered = (m : Motion) → motion_of (motion_number m) ≡ Some m
