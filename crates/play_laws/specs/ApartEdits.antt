-- Edits at places apart from each other: either may be made first.
use Rattle.std.specs.Prelude.{◌≡◌, ℕ, ◌+◌, ◌-◌, ◌≤◌, nat_lt, nat_le, Bool, true, false, IsTrue}
use Rattle.std.specs.Prelude.{List, [], ◌∷◌, length, None, if◌then◌else◌}
use Rattle.base_lines.specs.Limits.{MAX_LOG_LINES}
use Rattle.replay_edits.specs.Edit.{Game, Change, inserts, deletes, replaces, reseeds, apply_all}
use Rattle.replay_edits.specs.Faults.{fault_of, fault_of_all}

-- what a change touches: the gap in front of the line at a place, that line, or the seed
pub data Touched : Type 0 where
  gap_before : ℕ → Touched
  line_itself : ℕ → Touched
  seed_itself : Touched

abbrev pub touched_by : Change → Touched
touched_by (inserts place line) = gap_before place
touched_by (deletes place) = line_itself place
touched_by (replaces place line) = line_itself place
touched_by (reseeds seed) = seed_itself

-- neither change touches what the other touches
abbrev pub AreApart : Change → Change → Type 0
AreApart one other = ¬ (touched_by one ≡ touched_by other)

-- where a place of a log is after a change
abbrev pub shifted_place : Change → ℕ → ℕ
shifted_place (inserts at line) place = if nat_le at place then place + 1 else place
shifted_place (deletes at) place = if nat_lt at place then place - 1 else place
shifted_place (replaces at line) place = place
shifted_place (reseeds seed) place = place

-- the second change, at the place where its own is after the first
abbrev pub shifted_by : Change → Change → Change
shifted_by first (inserts place line) = inserts (shifted_place first place) line
shifted_by first (deletes place) = deletes (shifted_place first place)
shifted_by first (replaces place line) = replaces (shifted_place first place) line
shifted_by first (reseeds seed) = reseeds seed

-- the one change, and then the other, shifted by what the one did
abbrev pub one_by_one : Change → Change → List Change
one_by_one first second = first ∷ shifted_by first second ∷ []

abbrev pub adds_line : Change → Bool
adds_line (inserts place line) = true
adds_line (deletes place) = false
adds_line (replaces place line) = false
adds_line (reseeds seed) = false

-- if both changes add a line, the log has room for both lines
abbrev pub HasRoomForBoth : Change → Change → List (List ℕ) → Type 0
HasRoomForBoth one other log =
    IsTrue (adds_line one) → IsTrue (adds_line other) → length log + 2 ≤ MAX_LOG_LINES

-- Both orders leave the same game, and meet the same fault: none, if the log has room for what both
-- add.
pub record Commute (one other : Change) (game : Game) : Type 0 where
  pub same : apply_all (one_by_one one other) game ≡ apply_all (one_by_one other one) game
  pub alike : fault_of_all (one_by_one one other) game.log 0
      ≡ fault_of_all (one_by_one other one) game.log 0
  pub accepted : HasRoomForBoth one other game.log
      → fault_of_all (one_by_one one other) game.log 0 ≡ None

-- two changes that a game accepts, apart from each other, may be made in either order
abbrev pub ApartEditsCommute : Type 0
ApartEditsCommute = (one other : Change) (game : Game) → fault_of one game.log ≡ None
    → fault_of other game.log ≡ None → AreApart one other → Commute one other game
