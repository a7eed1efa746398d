-- A turn while it is played, and the objects that its rules name.
use Rattle.std.specs.Prelude.{◌≡◌, ℕ, ℤ, Bool, ◌==◌, if◌then◌else◌, List, [], ◌∷◌, ◌++◌, true}
use Rattle.std.specs.Prelude.{false, ◌&&◌, not}
use Rattle.std.specs.List.{list_any}
use Rattle.data_rows.specs.declared.role.Role.{Role}
use Rattle.cave_words.specs.Stream.{next, pct}
use Rattle.cave_world.specs.State.{state_with_player_at, state_after_set_out}
use Rattle.cave_world.specs.declared.part.Part.{Part}
use Rattle.cave_world.specs.declared.state.State.{State}
use Rattle.cave_world.specs.declared.tables.RuleRow.{RuleRow}
use Rattle.cave_world.specs.declared.tables.Table.{Table}
use Rattle.cave_data.specs.CaveView.{CaveView}
use Rattle.cave_world.specs.Called.{object_called}
use Rattle.cave_words.specs.declared.named.Named.{Named}
use Rattle.turn_scene.specs.declared.scene.Scene.{Scene as OpenScene}
use Rattle.turn_scene.specs.declared.rules.Rules.{Rules}

abbrev pub cave_of : Rules → CaveView
cave_of rules = rules.cave.now

-- a liquid, which the bottle may hold
abbrev pub is_liquid_name : Named → Bool
is_liquid_name Named.Water = true
is_liquid_name Named.Oil = true
is_liquid_name _ = false

-- the object of a name: WATER and OIL count as absent if they have the number of BOTTL
unfoldable pub thing : CaveView → Named → ℕ
thing cave name =
    if is_liquid_name name && object_called cave name == object_called cave Named.Bottle then 0
    else object_called cave name

-- an object is the one of a name
unfoldable pub is_called : CaveView → ℕ → Named → Bool
is_called cave x n = not (x == 0) && thing cave n == x

-- an object is the one of one of the names
abbrev pub is_one_of : CaveView → ℕ → List Named → Bool
is_one_of cave x names = list_any (is_called cave x) names

-- the state, what was said, which rows of the rules applied, whether it was dark as the turn began,
-- and how many forced motions are left in the turn
pub record Scene : Type 0 where
  pub state : State
  pub parts : List Part
  pub rows : List RuleRow
  pub was_dark : Bool
  pub left : ℕ

-- the scene of a turn while it is played, whose notes say which rows applied
abbrev pub scene_of : {N : Type 0} → (N → List RuleRow) → OpenScene N → Scene
scene_of rows scene =
    record {
      state = scene.state.now;
      parts = scene.out.now.items;
      rows = rows scene.notes.now;
      was_dark = scene.was_dark;
      left = scene.left;
    }

-- it is the same state, the same parts and the same notes that change
abbrev pub IsSameScene : {N : Type 0} → OpenScene N → OpenScene N → Type 0
IsSameScene old new =
    (new.state.ghost_name ≡ old.state.ghost_name) × (new.out.ghost_name ≡ old.out.ghost_name)
    × (new.notes.ghost_name ≡ old.notes.ghost_name)

-- the same ones change, and no forced motion was counted
abbrev pub GoesOn : {N : Type 0} → OpenScene N → OpenScene N → Type 0
GoesOn old new = IsSameScene old new × (new.left ≡ old.left)

abbrev pub MAX_FORCED_MOTIONS : ℕ
MAX_FORCED_MOTIONS = 20

-- a turn begins with nothing said, and with all its forced motions
abbrev pub scene_at_start : Bool → State → Scene
scene_at_start was_dark s =
    record { state = s; parts = []; rows = []; was_dark = was_dark; left = MAX_FORCED_MOTIONS }

abbrev pub with_state : State → Scene → Scene
with_state s p = record p { state = s }

abbrev pub after_telling : Part → Scene → Scene
after_telling told p = record p { parts = p.parts ++ told ∷ [] }

-- rows are noted
abbrev pub after_rows : List RuleRow → Scene → Scene
after_rows rows p = record p { rows = p.rows ++ rows }

-- a row of a table applies
abbrev pub after_row : Table → ℕ → Scene → Scene
after_row table number p =
    after_rows (RuleRow.OfTable table number ∷ []) p

-- a role's message is said
abbrev pub after_saying : Role → Scene → Scene
after_saying role p = after_telling (Part.Role role) p

-- the text of an object for a number is printed, if there is the object
abbrev pub after_look_at : ℕ → ℤ → Scene → Scene
after_look_at x v p = if x == 0 then p else after_telling (Part.Object x v) p

-- this many forced motions are left
abbrev pub with_left : ℕ → Scene → Scene
with_left left p = record p { left = left }

-- where the player is
abbrev pub here_of : Scene → ℕ
here_of p = p.state.trail.here

abbrev pub scene_at_place : ℕ → Scene → Scene
scene_at_place place p = with_state (state_with_player_at p.state place) p

-- the player sets out: the player's place becomes the one that the player came from
abbrev pub after_setting_out : Scene → Scene
after_setting_out p = with_state (state_after_set_out p.state) p

abbrev pub after_draw : Scene → Scene
after_draw p = let s = p.state in with_state (record s { stream = next s.stream }) p

-- what happens in this many of 100 cases happens now
abbrev pub happens : ℕ → Scene → Bool
happens percent p = pct percent p.state.stream
