-- What a machine holds of a game, and what a checkpoint keeps of it.
use Rattle.std.specs.Prelude.{List, [], ◌∷◌, ◌≡◌, ℕ, ◌-◌, ◌++◌, length, replicate}
use Rattle.cave_world.specs.declared.part.Part.{Part}
use Rattle.play_machine.specs.declared.piece.PieceParts.{PieceParts}
use Rattle.play_machine.specs.declared.piece.PieceParts.TheVariants.{One, Two, Many}
use Rattle.cave_data.specs.CaveView.{CaveView}
use Rattle.cave_replay.specs.Session.{SessionView}
use Rattle.cave_world.specs.declared.state.State.{State}
use Rattle.replay_edits.specs.Edit.{Game}
use Rattle.play_machine.specs.declared.machine.CaveMachine.{CaveMachine}
use Rattle.cave_replay.specs.Play.{MachineRules}
use Rattle.turn_text.specs.Text.{text_of_all}
use Rattle.cave_turn.specs.Turns.{start_of_game, turn_on_line}
use Rattle.base_lines.specs.Numbers.{LAST_PLACE}
use Rattle.play_machine.specs.declared.packed_state.Fields.{Fields}

-- the parts that a turn said
pub record Piece : Type 0 where
  pub items : List Part

-- the parts themselves
abbrev pub parts_of : PieceParts → List Part
parts_of (One parts) = parts
parts_of (Two parts) = parts
parts_of (Many parts) = parts.items

-- the piece whose parts lie in the one place
abbrev pub piece_in : List PieceParts → Piece
piece_in [] = record { items = [] }
piece_in (parts ∷ more) = record { items = parts_of parts }

-- the session is one of the cave's machine, and holds the game
pub record HoldsGame (cave : CaveView) (game : Game)
    (session : SessionView CaveMachine Piece State) : Type 0 where
  pub cave_is : session.machine.rules.cave.now ≡ cave
  pub game_is : session.game ≡ game

-- the answer at the start and at a line is what the turn says there
abbrev pub cave_rules : CaveView → MachineRules State (List Part)
cave_rules cave = record {
  begun = λ seed. (start_of_game cave seed).state;
  greeting = λ seed. (start_of_game cave seed).parts;
  after = λ state line. (turn_on_line cave state line).state;
  said = λ state line. (turn_on_line cave state line).parts;
  ticked = λ state line. (turn_on_line cave state line).ticked;
}

abbrev pub rendering_of : CaveView → List Part → ℕ → List ℕ
rendering_of cave parts turns = text_of_all cave turns parts

-- the visits of this many places, if those after the first ones were never described
abbrev pub visits_from : List ℕ → ℕ → List ℕ
visits_from first places = first ++ replicate (places - length first) 0

-- these are the visits of the first places, and the others were never described
abbrev pub IsUnvisitedAfter : List ℕ → List ℕ → Type 0
IsUnvisitedAfter visits first = visits_from first (length visits) ≡ visits

-- how many places are looked at together
abbrev pub places_of_block : ℕ
places_of_block = 30

-- the visits of places that are looked at together, none of which was described
abbrev pub unvisited_block : List ℕ
unvisited_block = replicate places_of_block 0

abbrev pub state_of_fields : Fields → State
state_of_fields fields = record {
  trail = fields.trail;
  objects = fields.objects.value;
  visits = visits_from fields.visits.items LAST_PLACE;
  lamp = fields.lamp;
  closing = fields.closing;
  tallies = fields.tallies;
  talk = fields.talk;
  dwarves = fields.dwarves;
  hints = fields.hints;
  question = fields.question;
  ending = fields.ending;
  stream = fields.stream;
}
