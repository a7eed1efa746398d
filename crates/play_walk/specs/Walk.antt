-- A line of a log, and the opening, as an object of JSON.
use Rattle.std.specs.Prelude.{ℕ, List, [], ◌∷◌, ◌++◌, codes, map}
use Rattle.std.specs.Fmt.{decimal}
use Rattle.cave_data.specs.CaveView.{CaveView}
use Rattle.cave_world.specs.declared.state.State.{State}
use Rattle.world_objects.specs.Objects.{unplaced_objects}
use Rattle.play_walk.specs.Figures.{figure_member, figures}
use Rattle.play_walk.specs.Json.{Member, json_object, json_string}
use Rattle.play_walk.specs.Objects.{moved_member}

-- the text of a line, and what was said at it
unfoldable pub text_members : List ℕ → List ℕ → List Member
text_members line said = (codes "line", line) ∷ (codes "said", json_string said) ∷ []

-- a line: its place in the log, its text and what was said at it, its figures, and which objects
-- have moved
unfoldable pub walk_line : CaveView → ℕ → List ℕ → List ℕ → ℕ → State → State → List ℕ
walk_line cave place line said turns s t =
    json_object (codes "place", decimal place)
    (text_members (json_string line) said
    ++ (map figure_member (figures cave line turns s t)
    ++ moved_member cave s.objects t.objects ∷ []))
    ++ codes "\n"

-- the opening: it isn't a line, it has the figures of a line that changes nothing, and each object
-- that is anywhere has moved there
unfoldable pub walk_opening : CaveView → List ℕ → State → List ℕ
walk_opening cave said s =
    json_object (codes "place", codes "null")
    (text_members (codes "null") said
    ++ (map figure_member (figures cave [] 0 s s)
    ++ moved_member cave unplaced_objects s.objects ∷ []))
    ++ codes "\n"
