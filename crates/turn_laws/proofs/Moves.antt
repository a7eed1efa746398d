-- What motions and places do to a claim.
use Rattle.std.proofs.Common.{Bool, List, [], arith, false, subst, suc, sym, true, zero, ℕ, ◌+◌}
use Rattle.std.proofs.Common.{◌-◌, ◌∷◌, ◌≡◌}
use Rattle.std.specs.Prelude.{if◌then◌else◌, None, Option, Some, is_some, slice_set, ◌==◌}
use Rattle.cave_data.specs.CaveView.{ways_from, CaveView}
use Rattle.cave_world.specs.declared.state.State.{State}
use Rattle.turn_scene.specs.Rows.{act_of, Act, Deed, after_all, always, by_table, deed, noted}
use Rattle.turn_scene.specs.Rows.{nothing_but}
use Rattle.turn_scene.specs.Tests.{here}
use Rattle.turn_scene.specs.Scene.{after_setting_out, with_left, Scene, thing}
use Rattle.cave_world.specs.State.{state_after_set_out, without_visits}
use Rattle.cave_world.specs.Travel.{Try, TravelResult, after_condition, after_go, after_trying_row}
use Rattle.cave_world.specs.Travel.{count_unlisted, from_listed, holds, is_passed, result_of}
use Rattle.cave_world.specs.Travel.{result_of_last, row_condition, row_destination, row_outcome}
use Rattle.cave_world.specs.Travel.{travel, travel_by_rows, tries, try_of}
use Rattle.cave_world.specs.declared.travel_rows.Outcome.{Outcome}
use Rattle.data_rows.specs.Rows.{Going}
use Rattle.data_rows.specs.declared.targets.Condition.{Condition}
use Rattle.data_rows.specs.declared.targets.Condition.TheVariants.{Chance}
use Rattle.data_rows.specs.declared.targets.Destination.{Destination}
use Rattle.data_rows.specs.declared.targets.Destination.TheVariants.{PutsEmeraldDown}
use Rattle.data_rows.specs.declared.targets.Special.TheVariants.{Bridge, Squeeze}
use Rattle.turn_moves.specs.Arrival.{after_arrival, after_forced_motions, after_description}
use Rattle.turn_moves.specs.Arrival.{stop_at}
use Rattle.turn_moves.specs.Bridge.{break_bridge, bridge_rows, cross_bridge}
use Rattle.turn_moves.specs.Bridge.{pass_troll, spices_rows, toll_rows}
use Rattle.turn_moves.specs.Back.{back_rows, go_back, place_back}
use Rattle.turn_moves.specs.Journeys.{enough_rows, journey_by, journey_by_request, journey_by_rows}
use Rattle.turn_moves.specs.Journeys.{journey_of_outcome, look_round, own_motion, refusal_rows}
use Rattle.turn_moves.specs.Journeys.{set_forth}
use Rattle.turn_moves.specs.Squeeze.{squeeze_rows, squeeze_through}
use Rattle.cave_words.specs.declared.named.Named.TheVariants as name
use Rattle.turn_laws.proofs.Effects.{effects, guarded, kept_by, placed, quiet, state_chosen}
use Rattle.turn_laws.proofs.Places.{Reaches, Stopped, falling_kept, seen_kept, shown_kept}
use Rattle.turn_laws.proofs.Places.{shown_open}
use Rattle.turn_laws.proofs.View.{Anywhere, Claim, IsCalm, IsKept, Line, On, Ready, There, View}
use Rattle.turn_laws.proofs.View.{choose, view}
use Rattle.cave_world.specs.declared.tables.Table.TheVariants as table

module _ {cave : CaveView} {l : Line} {Q P : Claim} (k : IsKept cave l Q P) where
  abbrev R : Claim
  R = Ready Anywhere P

  held_still : {v : View} → R v → P v
  held_still h = h.holds

  -- a condition, and the way to a destination
  drawn_kept : (m : Condition) (s : State) → On R s → On R (after_condition m s)
  drawn_kept (Chance percent) s h = h
  drawn_kept _ s h = h

  gone_kept : (emerald : ℕ) (d : Destination) (s : State) → On R s → On R (after_go emerald d s)
  gone_kept emerald PutsEmeraldDown s h = placed k emerald s.trail.here h
  gone_kept emerald _ s h = h

  row_kept : (emerald : ℕ) (s : State) (row : Going) → On R s → On R (after_trying_row emerald s row)
  unfolding after_trying_row
  row_kept emerald s row h =
      let m = row_condition row in let d = row_destination row in let t = after_condition m s in
      let g = drawn_kept m s h in
      state_chosen k (holds m s) (after_go emerald d t) t (gone_kept emerald d t g) g

  -- rows that are tried, if the last try before them led as given
  tries_kept : (emerald : ℕ) (s : State) (failed : Option ℕ) (number : ℕ) (rows : List Going)
      (before : TravelResult) → On R s → On R before.state
      → On R (result_of_last before (tries emerald s failed number rows)).state
  tries_kept emerald s failed number [] before h led = led
  tries_kept emerald s failed number (row ∷ rows) before h led =
      let t = after_trying_row emerald s row in
      let one = try_of emerald s number row in
      let later = tries emerald t (Some row.target) (number + 1) rows in
      choose (λ (all : List Try). On R (result_of_last before all).state) (is_passed failed row)
      (tries emerald s failed (number + 1) rows)
      (one ∷ (if is_some (row_outcome s row) then [] else later))
      (λ _. tries_kept emerald s failed (number + 1) rows before h led)
      (λ _. choose (λ (all : List Try). On R (result_of_last (result_of one) all).state)
      (is_some (row_outcome s row)) [] later
      (λ _. row_kept emerald s row h)
      (λ _. tries_kept emerald t (Some row.target) (number + 1) rows (result_of one)
      (row_kept emerald s row h) (row_kept emerald s row h)))

  travelled_kept : (emerald motion : ℕ) (s : State) → On R s
      → On R (travel cave emerald motion s).state
  unfolding travel travel_by_rows
  travelled_kept emerald motion s h =
      let ways = ways_from cave s.trail.here in
      tries_kept emerald s None (count_unlisted motion ways) (from_listed motion ways)
      (record { state = s; outcome = Outcome.NoMotion }) h h

  squeezed_kept : (d : Deed (Unit {0})) → On R d.scene.state → On R (squeeze_through d).scene.state
  unfolding squeeze_through squeeze_rows
  squeezed_kept d h = kept_by R (noted table.Squeeze squeeze_rows) here (search parts 20) d h

  passed_kept : (d : Deed (Unit {0})) → On R d.scene.state → On R (pass_troll d).scene.state
  unfolding toll_rows
  passed_kept d h = quiet R (noted table.Toll toll_rows) (search effects parts 20) d h

  spiced_kept : (d : Deed (Unit {0})) → On R d.scene.state
      → On R (by_table table.SpicesLost spices_rows d).scene.state
  unfolding spices_rows
  spiced_kept d h = quiet R (noted table.SpicesLost spices_rows) (search effects parts 20) d h

  -- the bridge breaks
  broken_kept : (d : Deed (Unit {0})) → On R d.scene.state
      → On P (after_all break_bridge d).scene.state
  unfolding break_bridge
  broken_kept d h = search (effects, spiced_kept, falling_kept k) depth 16

  -- a player whom the troll lets pass crosses, or the troll asks for a treasure
  bridged_kept : (p : Scene) → On R p.state → On P (cross_bridge (deed cave tt p)).scene.state
  unfolding cross_bridge bridge_rows
  bridged_kept p h =
      guarded (λ (a : Act ℕ). On P a.scene.state) (nothing_but here) (deed cave tt p)
      (noted table.Bridge bridge_rows)
      (search (effects, held_still, passed_kept, broken_kept) parts 20 depth 12)

  led_kept : (motion : ℕ) (o : Outcome) (p : Scene) → On R p.state
      → On P (journey_of_outcome cave motion o p).scene.state
  unfolding refusal_rows
  led_kept motion (Outcome.Go place) p h = h.holds
  led_kept motion (Outcome.Special Squeeze) p h = (squeezed_kept (deed cave tt p) h).holds
  led_kept motion (Outcome.Special Bridge) p h = bridged_kept p h
  led_kept motion (Outcome.Say message) p h = h.holds
  led_kept motion Outcome.NoMotion p h =
      quiet P (noted table.NoMotion refusal_rows) (search parts 20) (deed cave motion p) h.holds
  led_kept motion Outcome.NoWay p h = h.holds

  pub forth_kept : (motion : ℕ) (p : Scene) → On R p.state
      → On P (set_forth cave motion p).scene.state
  unfolding set_forth state_after_set_out journey_by_rows
  forth_kept motion p h =
      let q = after_setting_out p in
      let j = travel cave (thing cave name.Emerald) motion q.state in
      led_kept motion j.outcome _
      (travelled_kept (thing cave name.Emerald) motion q.state h)

  -- the player is moved on by a forced motion
  carried_kept : (left : ℕ) (moved : Bool) (p : Scene) → Stopped P moved p.state
      → On P (after_forced_motions left cave (act_of p moved)).state
  unfolding after_forced_motions
  carried_kept zero true p h = h.holds
  carried_kept (suc left) true p h =
      let j = set_forth cave 1 (with_left left p) in let s = stop_at cave j.step j.scene in
      carried_kept left s.step s.scene
      (shown_kept k j.step j.scene (forth_kept 1 (with_left left p) h))
  carried_kept zero false p h = h
  carried_kept (suc left) false p h = h

  pub arriving_kept : (new : ℕ) (p : Scene) → On P p.state → On P (after_arrival cave new p).state
  arriving_kept new p h = carried_kept p.left _ _ (shown_kept k new p h)

  -- the player arrives, and was elsewhere before
  pub arriving_open : (before new : ℕ) (p : Scene) → On (There P before) p.state
      → IsCalm (view p.state) → Reaches P p.state.trail.here p.state
      → On P (after_arrival cave new p).state
  arriving_open before new p h calm stays =
      carried_kept p.left _ _ (shown_open k before new p h calm stays)

  pub describing_kept : (p : Scene) → On R p.state → On P (after_description cave p).state
  describing_kept p h = carried_kept p.left _ _ (seen_kept k p h)

  -- the player looks around
  looking_round_kept : (d : Deed ℕ) → On R d.scene.state
      → On R (after_all look_round d).scene.state
  unfolding look_round enough_rows without_visits
  looking_round_kept d h =
      let e = by_table table.Enough enough_rows d in
      let s = e.scene.state in let place = s.trail.here in
      let g = quiet R (noted table.Enough enough_rows) (search parts 20) d h in
      state_chosen k (place == 0) s (record s { visits = slice_set s.visits (place - 1) 0 }) g g

  -- the place where a player who goes back wants to go is found by what is true, which changes
  -- nothing
  wanted_same : (d : Deed (Unit {0})) → (place_back d).scene.state ≡ d.scene.state
  unfolding place_back
  wanted_same d = grind arith

  back_kept : (d : Deed (Unit {0})) → On R d.scene.state → On R (go_back d).scene.state
  unfolding go_back back_rows state_after_set_out
  back_kept d h =
      let wanted = place_back d in
      kept_by R (noted table.Back back_rows) (always None) (search parts 20)
      (deed d.cave wanted.step wanted.scene) (subst (On R) (sym (wanted_same d)) h)

  -- one of two answers of a table
  answer_chosen : (b : Bool) (a c : Act (Act (Option ℕ))) → On R a.step.scene.state
      → On R c.step.scene.state → On R (if b then a else c).step.scene.state
  answer_chosen b a c h g =
      choose (λ (one : Act (Act (Option ℕ))). On R one.step.scene.state) b a c (λ _. h) (λ _. g)

  pub own_kept : (d : Deed ℕ) → On R d.scene.state → On R (own_motion d).scene.state
  unfolding own_motion
  own_kept d h = search (answer_chosen, looking_round_kept, back_kept) depth 12

  -- the player travels by a motion, or arrives again
  gone_by_kept : (o : Option ℕ) (p : Scene) → On R p.state
      → On P (journey_by cave o p).scene.state
  gone_by_kept None p h = h.holds
  gone_by_kept (Some motion) p h = forth_kept motion p h

  pub motion_kept : (motion : ℕ) (p : Scene) → On R p.state
      → On P (journey_by_request cave motion p).scene.state
  unfolding journey_by_request
  motion_kept motion p h =
      let own = own_motion (deed cave motion p) in
      gone_by_kept own.step own.scene (own_kept (deed cave motion p) h)
