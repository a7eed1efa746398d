-- A script that has the lines of one script and then those of another.
use Rattle.std.specs.Prelude.{◌≡◌, ℕ, ◌+◌, Bool, List, ◌++◌, length, map, Ok}
use Rattle.std.specs.Str.Lines.{lines}
use Rattle.play_edits.specs.Items.{game_after_items}
use Rattle.replay_edits.specs.Edit.{Game}
use Rattle.replay_scripts.specs.Guards.{script_by}
use Rattle.replay_scripts.specs.Script.{Applied, Expectation}

-- a guard, and an item, this many lines further on in a script
abbrev pub guard_further : ℕ → Expectation → Expectation
guard_further by guard = record {
  line = guard.line + by;
  place = guard.place;
  text = guard.text;
  after = guard.after;
}

abbrev pub item_further : ℕ → Applied → Applied
item_further by item = record {
  line = item.line + by;
  changes = item.changes;
  lines = map (λ line. line + by) item.lines;
  guards = map (guard_further by) item.guards;
}

-- It gives the items of the one, and then those of the other, as many lines further on as the one
-- has. Together they make of any game what the other's make of what the one's leave.
pub record IsJoined (guarded : Bool) (first joined : List ℕ) (one other : List Applied) : Type 0
  where
    pub read : script_by guarded joined
        ≡ Ok (one ++ map (item_further (length (lines first))) other)
    pub does : (game : Game)
        → game_after_items (one ++ map (item_further (length (lines first))) other) game
        ≡ game_after_items other (game_after_items one game)

abbrev pub ScriptsJoin : Type 0
ScriptsJoin =
    (guarded : Bool) (first second joined : List ℕ) (one other : List Applied)
    → lines joined ≡ lines first ++ lines second
    → script_by guarded first ≡ Ok one → script_by guarded second ≡ Ok other
    → IsJoined guarded first joined one other
