-- Where the player is, how often places were described, and how a game begins and ends.
use Rattle.std.specs.Prelude.{ℕ, ◌+◌, ◌-◌, ◌%◌, Bool, true, false, ◌==◌, ◌||◌, if◌then◌else◌, None}
use Rattle.std.specs.Prelude.{Some, is_some, replicate, slice_index_or, slice_set, length, pos}
use Rattle.cave_world.specs.declared.state.State.{State}
use Rattle.cave_world.specs.declared.ending.Question.TheVariants.{Welcome}
use Rattle.world_objects.specs.Objects.{unplaced_objects, objects_in_hands, is_at_hand, is_in_hands}
use Rattle.world_objects.specs.Objects.{is_object_at}
use Rattle.base_lines.specs.Numbers.{LAST_PLACE, LAST_HINT}
use Rattle.cave_world.specs.declared.lamp.Lamp.{Lamp}
use Rattle.cave_world.specs.declared.closing.Closing.{Closing}
use Rattle.cave_world.specs.declared.talk.Talk.{Talk}
use Rattle.cave_world.specs.declared.dwarves.Dwarf.{Dwarf}
use Rattle.cave_world.specs.declared.dwarves.Dwarves.{Dwarves}
use Rattle.cave_world.specs.declared.dwarves.Knife.TheVariants.{Unthrown}
use Rattle.cave_world.specs.declared.hints.Hints.{Hints}
use Rattle.cave_world.specs.Limits.{dwarf_count}

unfoldable pub full_lamp : Lamp
full_lamp = record { charge = pos 330; is_warned = false }

unfoldable pub far_closing : Closing
far_closing =
    record {
      first_clock = pos 30;
      second_clock = pos 50;
      is_closing = false;
      is_closed = false;
      is_panicking = false;
    }

unfoldable pub silent_talk : Talk
silent_talk =
    record { verb = None; object = 0; last = 0; is_brief = false; details = 0; magic = pos 0 }

abbrev pub no_dwarf : Dwarf
no_dwarf = record { place = 0; last = 0; has_seen = false }

unfoldable pub asleep : Dwarves
asleep = record { anger = 0; kills = 0; knife = Unthrown; each = replicate dwarf_count no_dwarf }

unfoldable pub unused_hints : Hints
unused_hints = record { turns = replicate LAST_HINT 0; is_taken = replicate LAST_HINT false }

-- the object is in the player's hands
abbrev pub toting : State → ℕ → Bool
toting s x = is_in_hands s.objects x

-- a half of the object is where the player is
abbrev pub at : State → ℕ → Bool
at s x = is_object_at s.objects s.trail.here x

-- the object is in the player's hands, or its first half is where the player is
abbrev pub here : State → ℕ → Bool
here s x = is_at_hand s.objects s.trail.here x

-- how many objects are in the player's hands
abbrev pub holding : State → ℕ
holding s = length (objects_in_hands s.objects)

-- a game begins: the player is at a place and is greeted, and nothing is placed yet
unfoldable pub starting_state : ℕ → ℕ → State
starting_state place x = record {
  trail = record { here = place; last = place; older = place };
  objects = unplaced_objects;
  visits = replicate LAST_PLACE 0;
  lamp = full_lamp;
  closing = far_closing;
  tallies = record { unseen = 0; lost = 0; deaths = 0 };
  talk = silent_talk;
  dwarves = asleep;
  hints = unused_hints;
  question = Some Welcome;
  ending = None;
  stream = x;
}

-- no command can follow: a question is open, or the game has ended
unfoldable pub takes_no_command : State → Bool
takes_no_command s = is_some s.question || is_some s.ending

unfoldable pub state_with_player_at : State → ℕ → State
state_with_player_at s place =
    record s { trail = record { here = place; last = s.trail.last; older = s.trail.older } }

-- the player is at a place, and has come from there
abbrev pub with_player_from : ℕ → State → State
with_player_from place s =
    let trail = s.trail in record s { trail = record trail { here = place; last = place } }

-- the player's place is remembered as where the player comes from
unfoldable pub state_after_set_out : State → State
state_after_set_out s =
    record s { trail = record { here = s.trail.here; last = s.trail.here; older = s.trail.last } }

unfoldable pub visits_of : State → ℕ → ℕ
visits_of s place = if place == 0 then 0 else slice_index_or s.visits (place - 1) 0

-- as the count of visits reaches this number it starts again at 0
abbrev pub END_OF_VISITS : ℕ
END_OF_VISITS = 10000

-- one more, or 0 after the last that is counted
unfoldable pub with_visit : State → ℕ → State
with_visit s place = if place == 0 then s
    else record s {
      visits = slice_set s.visits (place - 1) ((visits_of s place + 1) % END_OF_VISITS);
    }

unfoldable pub without_visits : State → ℕ → State
without_visits s place = if place == 0 then s
    else record s { visits = slice_set s.visits (place - 1) 0 }

-- the most treasures lost that are counted
abbrev pub MAX_LOST : ℕ
MAX_LOST = 60000

-- how many deaths a game has: the player can't come back after the last
abbrev pub LIVES : ℕ
LIVES = 3

-- the most turns that are counted in the area of a hint
abbrev pub MAX_TURNS_IN_AREA : ℕ
MAX_TURNS_IN_AREA = 10000

-- how many turns the player has stayed where a hint helps
abbrev pub turns_in_area : State → ℕ → ℕ
turns_in_area s hint = slice_index_or s.hints.turns (hint - 1) 0

-- the hint that is written under the oyster
abbrev pub CLUE_HINT : ℕ
CLUE_HINT = 2

-- the instructions, which count as a hint
abbrev pub INSTRUCTIONS_HINT : ℕ
INSTRUCTIONS_HINT = 3

abbrev pub is_hint_taken : State → ℕ → Bool
is_hint_taken s hint = slice_index_or s.hints.is_taken (hint - 1) false

abbrev pub with_hint_taken : ℕ → State → State
with_hint_taken hint s =
    let hints = s.hints in
    record s { hints = record hints { is_taken = slice_set hints.is_taken (hint - 1) true } }
