-- What rows do to the scene that they are played in.
use Rattle.std.specs.Prelude.{◌≡◌, ℕ, zero, suc, ◌+◌, ℤ, Option, Some, None, List, fold}
use Rattle.data_rows.specs.declared.place_role.PlaceRole.{PlaceRole}
use Rattle.data_rows.specs.declared.role.Role.{Role}
use Rattle.cave_data.specs.CaveView.{CaveView}
use Rattle.world_objects.specs.Objects.{after_move_to, after_carry, with_anchor, Layout}
use Rattle.world_objects.specs.Objects.{after_juggle, with_prop}
use Rattle.world_objects.specs.declared.spot.Anchor.{Anchor}
use Rattle.cave_world.specs.State.{with_player_from, with_hint_taken}
use Rattle.cave_world.specs.declared.part.Part.{Part}
use Rattle.cave_world.specs.declared.state.State.{State}
use Rattle.cave_world.specs.declared.tables.RuleRow.{RuleRow}
use Rattle.turn_scene.specs.declared.scene.Scene.{Scene as OpenScene}
use Rattle.turn_scene.specs.Bounds.{GoesOnSaying}
use Rattle.turn_scene.specs.Scene.{Scene, with_state, after_telling, after_saying, after_look_at}
use Rattle.turn_scene.specs.Scene.{after_setting_out, scene_of}
use Rattle.turn_scene.specs.Parts.{with_one_more_lost, with_objects, with_lamp}
use Rattle.turn_scene.specs.Places.{place_named}
use Rattle.turn_scene.specs.Rows.{Deed, Effect, Thing, always}

abbrev pub with_charge : ℤ → State → State
with_charge turns s = with_lamp (record (s.lamp) { charge = turns }) s

-- an object is moved to a place, if there is the place
abbrev pub after_sending : ℕ → Option ℕ → State → State
after_sending x None s = s
after_sending x (Some place) s = with_objects (after_move_to s.objects x place) s

-- what is done for this many numbers from the first on, one after another
unfoldable pub for_each_from : {S : Type 0} → ℕ → ℕ → (ℕ → S → S) → S → S
for_each_from first zero what s = s
for_each_from first (suc n) what s = what (first + n) (for_each_from first n what s)

-- what is done for a number and each below it down to 1, one after another
unfoldable pub for_each_down_from : {S : Type 0} → ℕ → (ℕ → S → S) → S → S
for_each_down_from zero what s = s
for_each_down_from (suc n) what s = for_each_down_from n what (what (suc n) s)

-- what is done for each of a list, one after another
abbrev pub for_each : {X S : Type 0} → List X → (X → S → S) → S → S
for_each xs what s = fold (λ t x. what x t) s xs

-- the code has changed the state of a scene, and said nothing
abbrev pub Changes : {N : Type 0} → (N → List RuleRow) → (State → State) → OpenScene N
    → OpenScene N → Type 0
Changes noted_rows change old new =
    (scene_of noted_rows new ≡ with_state (change old.state.now) (scene_of noted_rows old))
    × GoesOnSaying 0 old new

-- what rows about anything do
module _ {C : Type 0} where
  abbrev pub in_scene : Scene → Deed C → Deed C
  in_scene p d = record d { scene = p }

  abbrev pub in_state : State → Deed C → Deed C
  in_state s d = in_scene (with_state s d.scene) d

  abbrev pub in_objects : Layout → Deed C → Deed C
  in_objects o d = in_state (with_objects o d.scene.state) d

  abbrev pub tell : Part → Effect C
  tell told d = in_scene (after_telling told d.scene) d

  -- a role's message is said
  abbrev pub say : Role → Effect C
  say role d = in_scene (after_saying role d.scene) d

  -- the text of an object for a prop, if there is the object
  abbrev pub look : Thing C → ℤ → Effect C
  look t v d = in_scene (after_look_at (t d) v d.scene) d

  abbrev pub carry : Thing C → Effect C
  carry t d = in_objects (after_carry d.scene.state.objects (t d)) d

  abbrev pub bring : Thing C → Effect C
  bring t d = in_objects (after_move_to d.scene.state.objects (t d) d.scene.state.trail.here) d

  -- an object is nowhere from now on
  abbrev pub destroy : Thing C → Effect C
  destroy t d = in_objects (after_move_to d.scene.state.objects (t d) 0) d

  -- what holds an object from now on
  abbrev pub attach : Thing C → (Deed C → Anchor) → Effect C
  attach t by d = in_objects (with_anchor d.scene.state.objects (t d) (by d)) d

  -- an object can't be moved any more, or can be moved again
  abbrev pub fix : Thing C → Effect C
  fix t = attach t (always Anchor.Fixed)

  abbrev pub loosen : Thing C → Effect C
  loosen t = attach t (always Anchor.Loose)

  abbrev pub juggle : Thing C → Effect C
  juggle t d = in_objects (after_juggle d.scene.state.objects (t d)) d

  abbrev pub set_prop : Thing C → ℤ → Effect C
  set_prop t v d = in_objects (with_prop d.scene.state.objects (t d) v) d

  -- one more treasure is lost
  abbrev pub lose_one : Effect C
  lose_one d = in_state (with_one_more_lost d.scene.state) d

  -- effects on states
  abbrev pub change : (State → State) → Effect C
  change f d = in_state (f d.scene.state) d

  -- effects on scenes
  abbrev pub follow : (CaveView → Scene → Scene) → Effect C
  follow f d = in_scene (f d.cave d.scene) d

  -- an object is put at a place
  abbrev pub move : Thing C → (Deed C → ℕ) → Effect C
  move t place d = in_objects (after_move_to d.scene.state.objects (t d) (place d)) d

  -- an object is moved to the place of a role, if there is the place
  abbrev pub send : Thing C → PlaceRole → Effect C
  send t role d = in_state (after_sending (t d) (place_named d.cave role) d.scene.state) d

  -- a message of the cave is said
  abbrev pub tell_message : (Deed C → ℕ) → Effect C
  tell_message message d = tell (Part.Message (message d)) d

  -- the player is at a place, and came from there
  abbrev pub put_player : (Deed C → ℕ) → Effect C
  put_player place d = in_state (with_player_from (place d) d.scene.state) d

  -- the player's place becomes the one that the player came from
  abbrev pub set_out : Effect C
  set_out d = in_scene (after_setting_out d.scene) d

  abbrev pub take_hint : (Deed C → ℕ) → Effect C
  take_hint h d = in_state (with_hint_taken (h d) d.scene.state) d

  -- the lamp burns this many turns from now on
  abbrev pub set_charge : ℤ → Effect C
  set_charge turns d = in_state (with_charge turns d.scene.state) d
