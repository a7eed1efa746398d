-- The most parts that a turn says.
use Rattle.std.specs.Prelude.{ℕ, ◌+◌, ◌*◌, ◌≤◌}
use Rattle.arrayvec.specs.ArrayVec.{array_vec_len}
use Rattle.turn_scene.specs.Scene.{GoesOn, IsSameScene, MAX_FORCED_MOTIONS}
use Rattle.turn_scene.specs.declared.scene.Scene.{Scene as OpenScene}

-- this many more parts can be said: a turn has room for 512
abbrev pub HasRoom : {N : Type 0} → ℕ → OpenScene N → Type 0
HasRoom parts scene = array_vec_len scene.out.now + parts ≤ 512

-- at most this many parts were said
abbrev pub SaysUpTo : {N : Type 0} → ℕ → OpenScene N → OpenScene N → Type 0
SaysUpTo parts old new = array_vec_len new.out.now ≤ array_vec_len old.out.now + parts

-- the same turn goes on, no forced motion was counted, and at most this many parts were said
abbrev pub GoesOnSaying : {N : Type 0} → ℕ → OpenScene N → OpenScene N → Type 0
GoesOnSaying parts old new = GoesOn old new × SaysUpTo parts old new

-- the same turn goes on, with any count of forced motions, and at most this many parts were said
abbrev pub MovesOnSaying : {N : Type 0} → ℕ → OpenScene N → OpenScene N → Type 0
MovesOnSaying parts old new = IsSameScene old new × SaysUpTo parts old new

-- an end: the score, its class, and what is missing for the next class
abbrev pub parts_of_end : ℕ
parts_of_end = 3

-- a death: a line and the end, or a question
abbrev pub parts_of_death : ℕ
parts_of_death = 1 + parts_of_end

-- a question: a line of its own, and its message
abbrev pub parts_of_question : ℕ
parts_of_question = 2

-- knives: how many were thrown, how many hit
abbrev pub parts_of_throws : ℕ
parts_of_throws = 2

-- what dwarves do: how many there are, and their knives
abbrev pub parts_of_attack : ℕ
parts_of_attack = 1 + parts_of_throws

-- the dwarves: the pirate, and what dwarves do
abbrev pub parts_of_dwarves : ℕ
parts_of_dwarves = 1 + parts_of_attack

-- the text of a place, after the bear
abbrev pub parts_of_text : ℕ
parts_of_text = 2

-- darkness: the bear, that it is dark, something hollow
abbrev pub parts_of_darkness : ℕ
parts_of_darkness = 3

-- the clocks: the cave begins to close, and the lamp
abbrev pub parts_of_clocks : ℕ
parts_of_clocks = 2

-- a place that is described: its text, something hollow, and 200 halves of objects
abbrev pub parts_of_place : ℕ
parts_of_place = parts_of_text + 1 + 200

-- what keeps the player out of a place: that the cave is closed, or a dwarf
abbrev pub parts_of_holding_back : ℕ
parts_of_holding_back = 2

-- a place of forced motion: what keeps the player out of it, and its text
abbrev pub parts_of_passing : ℕ
parts_of_passing = parts_of_holding_back + parts_of_text

-- a place at which the player stays: what keeps the player out of it, the dwarves, the place
abbrev pub parts_of_stop : ℕ
parts_of_stop = parts_of_holding_back + parts_of_dwarves + parts_of_place

-- a way: a line, or on the bridge a line and a death
abbrev pub parts_of_journey : ℕ
parts_of_journey = 1 + parts_of_death

-- a forced motion: the line of its way, and the place that it leads to; a way that kills says no
-- more
abbrev pub parts_of_forced_motion : ℕ
parts_of_forced_motion = 1 + parts_of_passing

-- forced motions: each of those that are left, and the last place
abbrev pub parts_of_forced_motions : ℕ → ℕ
parts_of_forced_motions left = parts_of_forced_motion * left + parts_of_stop

-- an arrival: a place, and the forced motions from there
abbrev pub parts_of_arrival : ℕ → ℕ
parts_of_arrival left = parts_of_passing + parts_of_forced_motions left

-- a row of a verb says at most two parts
abbrev pub parts_of_row : ℕ
parts_of_row = 2

-- INVENTORY: each of 100 objects between two lines
abbrev pub parts_of_inventory : ℕ
parts_of_inventory = 100 + 2

-- this many rows from which a verb goes on
abbrev pub parts_of_goings_on : ℕ → ℕ
parts_of_goings_on left = parts_of_row * left

-- a verb: three rows from which it goes on, and an inventory
abbrev pub parts_of_verb : ℕ
parts_of_verb = parts_of_goings_on 3 + parts_of_inventory

-- what the command asks is done: a verb that leads on, without an inventory, and an arrival; a way
-- that leads on, or a verb that leads nowhere, says fewer parts
abbrev pub parts_of_request : ℕ → ℕ
parts_of_request left = parts_of_goings_on 3 + parts_of_row + parts_of_arrival left

-- and it has room for a verb, whichever it is, and an arrival
abbrev pub room_of_request : ℕ → ℕ
room_of_request left = parts_of_verb + parts_of_arrival left

-- the clocks, and then what the command asks
abbrev pub parts_of_timed_request : ℕ → ℕ
parts_of_timed_request left = parts_of_clocks + parts_of_request left

-- and the room for it
abbrev pub room_of_timed_request : ℕ → ℕ
room_of_timed_request left = parts_of_clocks + room_of_request left

-- the end of a turn: the oyster, and the question of a hint
abbrev pub parts_of_finish : ℕ
parts_of_finish = 1 + parts_of_question

-- a command: the clocks, what it asks with all the forced motions of a turn, and the end of the
-- turn
abbrev pub parts_of_command : ℕ
parts_of_command = parts_of_timed_request MAX_FORCED_MOTIONS + parts_of_finish

-- an answer: a line, an arrival with all the forced motions of a turn, and the turn ends
abbrev pub parts_of_answer : ℕ
parts_of_answer = 1 + parts_of_arrival MAX_FORCED_MOTIONS + parts_of_finish

-- a turn: a command, which says more than an answer
abbrev pub parts_of_turn : ℕ
parts_of_turn = parts_of_command
