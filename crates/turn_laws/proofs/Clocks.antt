-- What the clocks, and the lamp with them, do to a claim.
use Rattle.std.proofs.Common.{◌++◌, Bool, List, [], arith, false, inl, inr, negsuc, pos, refl}
use Rattle.std.proofs.Common.{subst, sym, true, ℕ, ℤ, ◌∙◌, ◌∷◌, ◌≡◌}
use Rattle.std.proofs.lemmas.Bool.{true≢false}
use Rattle.std.proofs.lemmas.Int.{ints}
use Rattle.std.specs.Int.{int_min}
use Rattle.std.specs.Ordering.{int_eq}
use Rattle.std.specs.Prelude.{int_le, if◌then◌else◌, None, Option, Some, is_some, unwrap_or, ◌&&◌}
use Rattle.std.specs.Prelude.{◌+ℤ◌, ◌-ℤ◌}
use Rattle.cave_data.specs.CaveView.{CaveView}
use Rattle.cave_world.specs.Limits.{MAX_LAMP_TURNS}
use Rattle.cave_world.specs.declared.state.State.{State}
use Rattle.turn_clocks.specs.declared.clocks.Clocks.{Clocks}
use Rattle.turn_scene.specs.Effects.{put_player, change, say, set_prop, with_charge}
use Rattle.turn_scene.specs.Rows.{act_of, Act, Deed, after_all, all_hold, always, by_table, deed}
use Rattle.turn_scene.specs.Rows.{noted, nothing_but}
use Rattle.turn_scene.specs.Tests.{place_of, player_at, in_the_depths, no, the}
use Rattle.turn_scene.specs.Scene.{Scene, thing}
use Rattle.turn_scene.specs.Homes.{hold_of, home}
use Rattle.turn_scene.specs.Places.{place_named}
use Rattle.turn_scene.specs.Props.{SNAKE_GONE, CHAIN_UNLOCKED, FISSURE_OPEN, GRATE_LOCKED}
use Rattle.turn_scene.specs.Props.{PLANT_SMALL, SEEN, AXE_FREE, BATTERIES_USED, BIRD_CAGED}
use Rattle.turn_scene.specs.Props.{BOTTLE_EMPTY, LAMP_OFF, UNSEEN}
use Rattle.turn_scene.specs.Reach.{has_prop}
use Rattle.world_objects.specs.Objects.{after_move_to, anchor_at, objects_in_hands}
use Rattle.cave_world.specs.Sight.{LAMP_ON}
use Rattle.turn_clocks.specs.Clocks.{clock_rows, run_clocks, tick_clocks}
use Rattle.turn_clocks.specs.FirstClock.{all_seen, begin_closing, closing_bear_rows}
use Rattle.turn_clocks.specs.FirstClock.{some_turns_left, with_first_clock_down, without_dwarves}
use Rattle.turn_clocks.specs.Lamp.{burn, burning_rows, can_change_batteries, care_for_lamp}
use Rattle.turn_clocks.specs.Lamp.{change_batteries, go_out, lamp_clock, lamp_rows, turns_left}
use Rattle.turn_clocks.specs.Lamp.{warn, warning_rows, with_warning}
use Rattle.turn_clocks.specs.Repository.{all_of, close_cave, northeast_things, southwest_things}
use Rattle.turn_clocks.specs.Repository.{with_empty_hands, with_second_clock_down, without_all}
use Rattle.turn_scene.specs.SharedRules.{after_troll, troll_goes, troll_leaves}
use Rattle.turn_scene.specs.SharedRules.{after_lay_down, lay_down_rows}
use Rattle.turn_scene.specs.Parts.{with_objects}
use Rattle.world_objects.specs.declared.spot.Anchor.TheVariants as anchor
use Rattle.data_rows.specs.declared.place_role.PlaceRole.TheVariants as landmark
use Rattle.cave_words.specs.declared.named.Named.TheVariants as name
use Rattle.data_rows.specs.declared.role.Role.TheVariants as role
use Rattle.cave_world.specs.declared.tables.Table.TheVariants as table
use Rattle.cave_world.specs.declared.tables.RuleRow.{RuleRow}
use Rattle.turn_laws.specs.Courses.{is_lit}
use Rattle.turn_laws.specs.Laws.{before_lamp, is_changed, unless_closed}
use Rattle.turn_laws.proofs.Effects.{by_guarded, effects, fails_alone, guarded, holds_alone}
use Rattle.turn_laws.proofs.Effects.{second_holds, more_charge, moved, moved_all, quiet, tests}
use Rattle.turn_laws.proofs.View.{Begins, Burns, Change, Claim, Counts, Hold, IsKept, IsMoved}
use Rattle.turn_laws.proofs.View.{Juggle, Leaves, Line, On, Place, Prop, Ready, Shifts, Shuts}
use Rattle.turn_laws.proofs.View.{Somewhere, There, Ticks, View, after, burnt, led, left_of, view}

-- an object is put at a place, with the prop that it gets once it was in the hands
abbrev stored : ℕ → ℕ → ℤ → List Change
stored place x v = Place x place ∷ Prop x (UNSEEN -ℤ v) ∷ []

-- a clock whose last turn passes has one turn left
last_turn : (c : ℤ) → int_eq c (pos 1) ≡ true → int_le (pos 0) c ≡ true
last_turn c one = grind (arith, ints, one)

-- what holds if the clocks closed the cave: the player is elsewhere, at the repository's end
pub record AfterClosure (P : Claim) (cave : CaveView) (before : ℕ) (s : State) : Type 0 where
  pub holds : On (There P before) s
  pub place : place_named cave landmark.Ne ≡ Some s.trail.here

-- what holds after the clocks, which closed the cave or didn't
abbrev pub AfterClocks : Claim → CaveView → ℕ → Bool → State → Type 0
AfterClocks P cave before true s = AfterClosure P cave before s
AfterClocks P cave before false s = On P s

-- an option that has a value is some value
there : (o : Option ℕ) → is_some o ≡ true → o ≡ Some (unwrap_or o 0)
there None is = absurd (true≢false (sym is))
there (Some n) is = refl

module _ {game : CaveView} {l : Line} {Q P : Claim} (k : IsKept game l Q P) where
  abbrev Early : Claim
  Early = Ready (Somewhere l) Q

  moves : IsMoved Early
  moves v c r = record { holds = k.keeps (Shifts c) v tt r.holds; calm = r.calm; at = r.at }

  counted : (d : Deed (Unit {0}))
      → all_hold (all_seen ∷ in_the_depths ∷ no (player_at landmark.Y2) ∷ some_turns_left ∷ []) d
      ≡ true
      → On Early d.scene.state → On Early (with_first_clock_down d.scene.state)
  counted d fit r =
      let v = view d.scene.state in
      record { holds = k.keeps Counts v (search tests) r.holds; calm = r.calm; at = r.at }

  ticked : (d : Deed (Unit {0})) → int_le (pos 0) d.scene.state.closing.second_clock ≡ true
      → On Early d.scene.state → On Early (with_second_clock_down d.scene.state)
  ticked d some r =
      let v = view d.scene.state in
      record { holds = k.keeps Ticks v some r.holds; calm = r.calm; at = r.at }

  ticked_by : (d : Deed (Unit {0})) (runs : Bool)
      → (runs && (int_le (pos 0) d.scene.state.closing.second_clock && true)) ≡ true
      → On Early d.scene.state → On Early (with_second_clock_down d.scene.state)
  ticked_by d runs fit r = ticked d (holds_alone _ (second_holds runs _ fit)) r

  -- a claim would hold once the cave is closing
  abbrev Begun : Claim
  Begun v =
      Early (record v { closing = record v.closing { first_clock = negsuc 0; is_closing = true } })

  begun_moved : IsMoved Begun
  begun_moved v change h = moves _ change h

  bear_goes : (x : ℕ) (s : State) → On Begun s
      → On Begun (with_objects (after_move_to s.objects x 0) s)
  bear_goes x s h = begun_moved (view s) (Place x 0) h

  -- the cave begins to close
  start_kept : (d : Deed (Unit {0})) → On Early d.scene.state
      → On Early (after_all begin_closing d).scene.state
  unfolding begin_closing after_troll troll_leaves closing_bear_rows
  start_kept d h =
      let cave = d.cave in
      let troll = thing cave name.Troll in let second = thing cave name.SecondTroll in
      let e = troll_goes (change without_dwarves
      (set_prop (the name.Fissure) FISSURE_OPEN (set_prop (the name.Grate) GRATE_LOCKED d))) in
      let begun : Early (after game Begins (view d.scene.state)) =
      record { holds = k.keeps Begins _ h.calm h.holds; calm = h.calm; at = h.at } in
      let gone : On Begun e.scene.state = moved_all Early moves (
      Prop (thing cave name.Grate) GRATE_LOCKED ∷ Prop (thing cave name.Fissure) FISSURE_OPEN
      ∷ Place troll 0 ∷ Hold troll anchor.Loose ∷ Place second (home cave troll)
      ∷ Hold second (hold_of cave troll) ∷ Juggle (thing cave name.Chasm) ∷ []
      ) _ begun in
      let left = by_table table.ClosingBear closing_bear_rows e in
      let chain = thing left.cave name.Chain in let axe = thing left.cave name.Axe in
      moved_all Begun begun_moved (
      Prop chain CHAIN_UNLOCKED ∷ Hold chain anchor.Loose ∷ Prop axe AXE_FREE
      ∷ Hold axe anchor.Loose ∷ []
      ) (view left.scene.state)
      (quiet Begun (noted table.ClosingBear closing_bear_rows) (search bear_goes parts 20) e gone)

  emptied_kept : (xs : List ℕ) (v : View) → Early v
      → Early (record v { objects = without_all xs v.objects })
  emptied_kept [] v h = h
  emptied_kept (x ∷ xs) v h = emptied_kept xs _ (moves v (Place x 0) h)

  -- the cave is closed if both ends of a repository are known: the player is elsewhere
  closed_kept : (d : Deed (Unit {0})) (notes : List RuleRow) (b c : Bool)
      → (int_eq d.scene.state.closing.first_clock (negsuc 0)
      && (int_eq d.scene.state.closing.second_clock (pos 1)
      && (b && (is_some (place_named d.cave landmark.Ne) && c)))) ≡ true
      → On Early d.scene.state
      → AfterClosure Early d.cave d.scene.state.trail.here
      (after_all (change with_second_clock_down ∷ close_cave)
      (record d { scene = record d.scene { rows = notes } })).scene.state
  unfolding close_cave with_empty_hands northeast_things southwest_things
  closed_kept d notes b c fit h =
      let cave = d.cave in let v = view d.scene.state in
      let ne = place_of landmark.Ne d in let sw = place_of landmark.Sw d in
      let gone = ticked d (last_turn d.scene.state.closing.second_clock (search tests)) h in
      let shut : Early (after game Shuts (after game Ticks v)) =
      record { holds = k.keeps Shuts _ (search tests) gone.holds; calm = h.calm; at = h.at } in
      let hung = moved_all Early moves (
      stored ne (thing cave name.Bottle) BOTTLE_EMPTY
      ++ stored ne (thing cave name.Plant) PLANT_SMALL
      ++ stored ne (thing cave name.Oyster) SEEN ++ stored ne (thing cave name.Lamp) LAMP_OFF
      ++ stored ne (thing cave name.Rod) SEEN ++ stored ne (thing cave name.Dwarf) SEEN
      ++ stored sw (thing cave name.Grate) GRATE_LOCKED
      ++ stored sw (thing cave name.Snake) SNAKE_GONE
      ++ stored sw (thing cave name.Bird) BIRD_CAGED ++ stored sw (thing cave name.Cage) SEEN
      ++ stored sw (thing cave name.SecondRod) SEEN ++ stored sw (thing cave name.Pillow) SEEN
      ++ stored ne (thing cave name.Mirror) SEEN
      ++ Hold (thing cave name.Mirror) (anchor_at sw) ∷ []
      ) _ shut in
      let e = all_of southwest_things (put_player (place_of landmark.Ne)
      (all_of northeast_things (change with_second_clock_down
      (record d { scene = record d.scene { rows = notes } })))) in
      let held = emptied_kept (objects_in_hands e.scene.state.objects) _ hung in
      record { holds = held; place = there _ (search tests) }

  -- the first clock runs only while it is above 0
  pub both_kept : (cave : CaveView) (p : Scene) → On Early p.state
      → AfterClocks Early cave p.state.trail.here (tick_clocks (deed cave tt p)).step
      (tick_clocks (deed cave tt p)).scene.state
  unfolding tick_clocks clock_rows
  both_kept cave p h =
      let d : Deed (Unit {0}) = deed cave tt p in
      guarded (λ (a : Act Bool). AfterClocks Early cave p.state.trail.here a.step a.scene.state)
      (nothing_but (always false)) d (noted table.Clocks clock_rows)
      (search (effects, start_kept, counted d, ticked_by d, closed_kept d) parts 20)

-- what the lamp leaves of a charge
gone_out : (c : ℤ) → int_eq c (pos 0) ≡ true → negsuc 0 ≡ left_of c
gone_out c none = rw none

still_lit : (c : ℤ) → int_eq c (pos 0) ≡ false → c ≡ left_of c
still_lit c some = rw some

-- what holds after the clocks
abbrev pub After : Claim → CaveView → ℕ → Clocks → State → Type 0
After P cave before Clocks.GoOn s = On P s
After P cave before Clocks.GaveUp s = On P s
After P cave before (Clocks.Closed place) s = AfterClosure P cave before s

-- the lamp goes on, or is passed over
abbrev passed : CaveView → Bool → Scene → Act Clocks
passed cave closed p =
    if closed then act_of p (Clocks.Closed p.state.trail.here) else lamp_clock (deed cave tt p)

-- the lamp is in a scene, if it is reached, as laws say of a line
pub record IsLampOf (cave : CaveView) (l : Line) (o : Option Scene) : Type 0 where
  pub lit : is_lit cave o ≡ l.is_lit
  pub changed : is_changed cave o ≡ l.is_changed

module _ {cave : CaveView} {l : Line} {Q P : Claim} (k : IsKept cave l Q P) where
  abbrev R : Claim
  R = Ready (Somewhere l) P

  -- a claim will hold for any charge that the lamp leaves after it has burnt
  abbrev Dims : Claim
  Dims v = (c : ℤ) → Leaves l v.charge c → R (record v { charge = c })

  abbrev lit : Scene → Deed (Unit {0})
  lit p = burn (deed cave tt p)

  burnt_kept : (p : Scene) → has_prop p.state (thing cave name.Lamp) LAMP_ON ≡ l.is_lit
      → On (Ready (Somewhere l) Q) p.state → On Dims (burn (deed cave tt p)).scene.state
  unfolding burning_rows
  burnt_kept p lit h =
      by_guarded Dims (deed cave tt p) (noted table.Burning burning_rows) (
        (λ fit c is. burnt_as true (sym (holds_alone _ fit) ∙ lit) c is),
        (λ other c is. burnt_as false (sym (fails_alone _ other) ∙ lit) c is),
      )
    where
      burnt_as : (b : Bool) → b ≡ l.is_lit → (c : ℤ) → Leaves l (burnt b p.state.lamp.charge) c
          → R (record (view p.state) { charge = c })
      burnt_as b same c is = record {
        holds = k.keeps (Burns c) (view p.state)
            (subst (λ (b : Bool). Leaves l (burnt b p.state.lamp.charge) c) same is) h.holds;
        calm = h.calm;
        at = h.at;
      }

  dims_moved : IsMoved Dims
  dims_moved v change h c is = moved k (record v { charge = c }) change (h c is)

  dims_placed : (x place : ℕ) (s : State) → On Dims s
      → On Dims (with_objects (after_move_to s.objects x place) s)
  dims_placed x place s h = dims_moved (view s) (Place x place) h

  laid_down_dim : (x : ℕ) (p : Scene) → On Dims p.state
      → On Dims (after_lay_down cave x p).state
  unfolding after_lay_down lay_down_rows
  laid_down_dim x p h =
      quiet Dims (noted table.LayDown lay_down_rows) (search dims_placed parts 20) (deed cave x p) h

  replaced_kept : (p : Scene) → l.is_changed ≡ true → On Dims p.state
      → On R (after_all change_batteries (deed cave tt p)).scene.state
  unfolding change_batteries
  replaced_kept p changed h =
      let x = thing cave name.Batteries in let d : Deed (Unit {0}) = deed cave tt p in
      let used = (set_prop (the name.Batteries) BATTERIES_USED (say role.Replaced d)).scene in
      let got : On Dims used.state = dims_moved (view p.state) (Prop x BATTERIES_USED) h in
      renewed (view (after_lay_down cave x used).state) (laid_down_dim x used got)
    where
      renewed : (v : View) → Dims v
          → R (record v { charge = int_min (v.charge +ℤ pos 2500) (pos MAX_LAMP_TURNS) })
      renewed v h = h _ (inl (changed, more_charge v.charge 2500))

  -- the lamp goes out
  going_out_kept : (d : Deed (Unit {0})) → turns_left (pos 0) d ≡ true
      → On Dims d.scene.state → On R (go_out d).scene.state
  going_out_kept d none dims =
      let h : On R (with_charge (negsuc 0) d.scene.state) =
      dims (negsuc 0) (inr (gone_out d.scene.state.lamp.charge none)) in
      moved k (view (with_charge (negsuc 0) d.scene.state)) (Prop (thing d.cave name.Lamp) LAMP_OFF) h

  lasts : (d : Deed (Unit {0})) → (turns_left (pos 0) d && true) ≡ false → On Dims d.scene.state
      → On R d.scene.state
  lasts d some h = h d.scene.state.lamp.charge (inr (still_lit _ (fails_alone _ some)))

  warned_kept : (d : Deed (Unit {0})) → On R d.scene.state → On R (after_all warn d).scene.state
  unfolding warn warning_rows
  warned_kept d h =
      quiet R (noted table.LampWarning warning_rows) (search parts 20) (change with_warning d) h

  -- the lamp goes on, or the player gives up
  lamp_kept : (before : ℕ) (p : Scene) → IsLampOf cave l (Some p)
      → On (Ready (Somewhere l) Q) p.state
      → (let a = lamp_clock (deed cave tt p) in After R cave before a.step a.scene.state)
  unfolding care_for_lamp lamp_rows
  lamp_kept before p of h =
      let dims = burnt_kept p of.lit h in let stays = lasts (lit p) in
      guarded (λ (a : Act Clocks). After R cave before a.step a.scene.state)
      (nothing_but (always Clocks.GoOn)) (lit p) (noted table.Lamp lamp_rows)
      (search (effects, tests, replaced_kept, changes, going_out_kept, stays, dims, warned_kept)
      parts 20 depth 9)
    where
      changes : all_hold can_change_batteries (lit p) ≡ true → l.is_changed ≡ true
      changes can = sym of.changed ∙ can

  -- the lamp is reached, or is passed over
  passed_kept : (before : ℕ) (closed : Bool) (p : Scene) → IsLampOf cave l (unless_closed closed p)
      → AfterClocks (Ready (Somewhere l) Q) cave before closed p.state
      → After R cave before (passed cave closed p).step (passed cave closed p).scene.state
  passed_kept before true p of h = record { holds = led k _ (sym of.lit) h.holds; place = h.place }
  passed_kept before false p of h = lamp_kept before p of h

  -- the clocks go on: the player is where they say, and was somewhere before
  pub clocks_kept : (p : Scene) → IsLampOf cave l (before_lamp cave p)
      → On (Ready (Somewhere l) Q) p.state
      → (before : ℕ)
      × After R cave before (run_clocks cave p).step (run_clocks cave p).scene.state
  unfolding run_clocks
  clocks_kept p of h =
      let a = tick_clocks (deed cave tt p) in (
        p.state.trail.here,
        passed_kept p.state.trail.here a.step a.scene of (both_kept k cave p h),
      )
