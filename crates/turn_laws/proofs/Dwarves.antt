-- The dwarves keep each claim that is kept by what happens while the player stays.
use Rattle.std.proofs.Common.{Bool, List, [], arith, false, refl, subst, sym, true, ℕ, ◌<◌, ◌∷◌}
use Rattle.std.proofs.Common.{◌≡◌, ◌≤◌}
use Rattle.std.specs.Prelude.{min, ◌&&◌, ◌==◌}
use Rattle.cave_data.specs.CaveView.{CaveView}
use Rattle.cave_world.specs.declared.dwarves.Dwarf.{Dwarf}
use Rattle.cave_world.specs.declared.state.State.{State}
use Rattle.turn_scene.specs.Rows.{act_of_row, answer_row, note_row, noted_row, otherwise_row, Act}
use Rattle.turn_scene.specs.Rows.{Deed, after_all, always, by_table, deed, noted, nothing_but}
use Rattle.turn_scene.specs.Scene.{Scene}
use Rattle.cave_words.specs.Stream.{next}
use Rattle.turn_dwarves.specs.Ahead.{ways_of_dwarf}
use Rattle.cave_world.specs.Limits.{PIRATE}
use Rattle.turn_dwarves.specs.Band.{dwarf_of, gone, with_anger, with_dwarf}
use Rattle.turn_dwarves.specs.Pirate.{after_stealing, after_stealing_all, take_booty}
use Rattle.turn_dwarves.specs.Pirate.{theft_rows, with_pirate_home, after_pirate, chase_rows}
use Rattle.turn_dwarves.specs.Pirate.{move_pirate, pirate_rows, pirate_turn_rows}
use Rattle.turn_dwarves.specs.Dwarves.{anger_rows, awake, encounter_dwarves}
use Rattle.turn_dwarves.specs.Knives.{Raider, attack, attacker, dwarf_turn, let_dwarf_act}
use Rattle.turn_dwarves.specs.Knives.{move_attacker, no_attack, raid, raider, threat_rows, threaten}
use Rattle.turn_dwarves.specs.Knives.{thrown_rows}
use Rattle.turn_dwarves.specs.Lines.{dwarf_rows, knife_rows, provoked_rows, tell_attack}
use Rattle.turn_dwarves.specs.Moving.{after_dwarf_move, chosen_way, dwarf_in_sight, dwarf_on_way}
use Rattle.turn_dwarves.specs.Waking.{after_keeping_one_apart, apart_rows, leaving_rows, wake}
use Rattle.turn_dwarves.specs.Waking.{waking_rows, with_dwarf_at, without_dwarf}
use Rattle.turn_dwarves.specs.declared.knives.Attack.{Attack}
use Rattle.turn_scene.specs.Effects.{for_each_from}
use Rattle.cave_world.specs.declared.tables.Table.TheVariants as table
use Rattle.turn_laws.proofs.Counted.{angrier, changed, isnt_gone}
use Rattle.turn_laws.proofs.Effects.{banded, by_guarded, each_kept, effects, fails_alone}
use Rattle.turn_laws.proofs.Effects.{first_holds, guarded, holds_alone, kept_by, placed}
use Rattle.turn_laws.proofs.Effects.{quiet, second_holds}
use Rattle.turn_laws.proofs.View.{Claim, IsKept, Line, On, Ready, Somewhere, some_place, view}

-- the pirate isn't one of the five dwarves
not_low : 5 < 5 → ⊥
not_low low = omega (arith, low)

module _ {game : CaveView} {l : Line} {Q P : Claim} (k : IsKept game l Q P) where
  abbrev R : Claim
  R = Ready (Somewhere l) P

  -- a dwarf changes; one of the five that is gone stays gone
  dwarf_kept : (n : ℕ) (d : Dwarf) (s : State)
      → (1 ≤ s.trail.here → n < 5 → (dwarf_of s n).place ≡ 0 → d.place ≡ 0) → On R s
      → On R (with_dwarf n d s)
  unfolding with_dwarf dwarf_of
  dwarf_kept n d s gone h =
      banded k (view s) _ (changed s.trail.here (view s).band n d gone) h

  -- the dwarves are angrier than they were
  angry_kept : (was n : ℕ) (s : State) → (s.dwarves.anger == was) ≡ true → was ≤ n → On R s
      → On R (with_anger n s)
  angry_kept was n s so more h =
      let least : min s.dwarves.anger 13 ≤ n = grind (arith, so, more) in
      banded k (view s) _ (angrier s.trail.here (view s).band n least) h

  leaving_kept : (d : Deed ℕ) → On R d.scene.state
      → On R (by_table table.Leaving leaving_rows d).scene.state
  unfolding leaving_rows without_dwarf
  leaving_kept d h = quiet R (noted table.Leaving leaving_rows) (search gone parts 20) d h
    where
      gone : (n : ℕ) (s : State) → On R s → On R (without_dwarf n s)
      gone n s g = dwarf_kept n _ s (λ _ _ _. refl) g

  settled_kept : (n place : ℕ) (s : State)
      → (1 ≤ s.trail.here → (dwarf_of s n).place ≡ 0 → place ≡ 0) → On R s
      → On R (with_dwarf_at n place s)
  unfolding with_dwarf_at
  settled_kept n place s gone h = dwarf_kept n _ s (λ some low. gone some) h

  one_apart_kept : (cave : CaveView) (n : ℕ) (p : Scene) → On R p.state
      → On R (after_keeping_one_apart cave n p).state
  unfolding after_keeping_one_apart apart_rows
  one_apart_kept cave n p h =
      by_guarded R (deed cave n p) (noted table.Apart apart_rows) (
        (λ fit. settled_kept n _ p.state
            (λ some gone. absurd (isnt_gone _ _ some (first_holds _ _ fit) gone)) h),
        (λ _. settled_kept n _ p.state (λ some gone. gone) h),
      )

  apart_kept : (cave : CaveView) (p : Scene) → On R p.state
      → On R (for_each_from 0 5 (after_keeping_one_apart cave) p).state
  apart_kept cave p h =
      each_kept (λ (q : Scene). On R q.state) 0 5 (after_keeping_one_apart cave)
      (λ n q g. one_apart_kept cave n q g) p h

  woken_kept : (d : Deed Attack) → (d.scene.state.dwarves.anger == 1 && true) ≡ true
      → On R d.scene.state → On R (after_all wake d).scene.state
  unfolding wake
  woken_kept d stirs h =
      placed k _ _ (apart_kept d.cave _ (leaving_kept _ (leaving_kept _
      (angry_kept 1 2 d.scene.state (holds_alone _ stirs) (omega arith) h))))

  waking_kept : (d : Deed Attack) → (d.scene.state.dwarves.anger == 1 && true) ≡ true
      → On R d.scene.state → On R (by_table table.Waking waking_rows d).scene.state
  unfolding waking_rows
  waking_kept d stirs h =
      by_guarded R d (noted table.Waking waking_rows) (search (effects, woken_kept) parts 20)

  -- a dwarf that looks around changes only itself
  sight_same : (d : Deed Dwarf) → (dwarf_in_sight d).scene.state ≡ d.scene.state
  unfolding dwarf_in_sight
  sight_same d = grind arith

  -- nor does one whose ways are counted
  ways_same : (d : Deed ℕ) → (ways_of_dwarf d).scene.state ≡ d.scene.state
  unfolding ways_of_dwarf
  ways_same d = grind arith

  moved_kept : (cave : CaveView) (n : ℕ) (p : Scene)
      → (n < 5 → (dwarf_of p.state n).place ≡ 0 → ⊥) → On R p.state
      → On R (after_dwarf_move cave n p).state
  unfolding after_dwarf_move chosen_way dwarf_of
  moved_kept cave n p living h =
      let way = chosen_way (deed cave n p) in
      let d = deed cave (dwarf_on_way way.step (dwarf_of p.state n)) way.scene in
      let moved = (dwarf_in_sight d).step in
      subst (λ (s : State). On R (with_dwarf n moved s)) (sym (sight_same d))
      (subst (λ (s : State). On R (with_dwarf n moved (record s { stream = next s.stream })))
      (sym (ways_same (deed cave n p)))
      (dwarf_kept n moved (record (p.state) { stream = next p.state.stream })
      (λ _ low gone. absurd (living low gone)) h))

  thrown_kept : (d : Deed Raider) → On R d.scene.state
      → On R (by_table table.KnifeThrown thrown_rows d).scene.state
  unfolding thrown_rows
  thrown_kept d h = quiet R (noted table.KnifeThrown thrown_rows) (search parts 20) d h

  threatened_kept : (d : Deed Raider) → On R d.scene.state → On R (threaten d).scene.state
  unfolding threaten threat_rows
  threatened_kept d h =
      kept_by R (noted table.Threats threat_rows) attack (search thrown_kept parts 20) d h

  turn_kept : (d : Deed Raider) → On R d.scene.state → On R (dwarf_turn d).scene.state
  unfolding dwarf_turn
  turn_kept d h =
      guarded (λ (a : Act (Act Attack)). On R a.step.scene.state)
      (act_of_row (noted_row table.DwarfTurn 2 (otherwise_row (move_attacker ∷ []) threaten))) d
      (noted table.DwarfTurn (answer_row (gone attacker ∷ []) (nothing_but attack) ∷ [])) (
        (λ _. h),
        (λ some. threatened_kept (move_attacker (note_row table.DwarfTurn 2 d))
            (moved_kept d.cave d.about.number (note_row table.DwarfTurn 2 d).scene
            (λ _ gone. some_place _ (fails_alone _ some) gone) h)),
      )

  raided_kept : (d : Deed Attack) → On R d.scene.state → On R (raid d).scene.state
  raided_kept d h =
      each_kept (λ (e : Deed Attack). On R e.scene.state) 0 5 let_dwarf_act
      (λ n e g. turn_kept (deed e.cave (raider n e.about) e.scene) g) d h

  -- what is printed, and the anger of dwarves who throw knives for the first time
  told_kept : (d : Deed Attack) → On R d.scene.state → On R (after_all tell_attack d).scene.state
  unfolding tell_attack dwarf_rows provoked_rows knife_rows
  told_kept d h =
      let one = by_table table.DwarvesHere dwarf_rows d in
      let first = quiet R (noted table.DwarvesHere dwarf_rows) (search parts 20) d h in
      quiet R (noted table.Knives knife_rows) (search parts 20)
      (by_table table.Provoked provoked_rows one)
      (by_guarded R one (noted table.Provoked provoked_rows) (
        (λ fit. angry_kept 2 3 one.scene.state (holds_alone _ (second_holds _ _ fit)) (omega arith)
            first),
        (λ _. first),
      ))

  stolen_kept : (cave : CaveView) (x : ℕ) (p : Scene)
      → On R p.state → On R (after_stealing cave x p).state
  unfolding after_stealing theft_rows
  stolen_kept cave x p h =
      quiet R (noted table.Theft theft_rows) (search effects parts 20) (deed cave x p) h

  all_stolen_kept : (cave : CaveView) (xs : List ℕ) (p : Scene) → On R p.state
      → On R (after_stealing_all cave xs p).state
  all_stolen_kept cave [] p h = h
  all_stolen_kept cave (x ∷ xs) p h =
      all_stolen_kept cave xs (after_stealing cave x p) (stolen_kept cave x p h)

  home_kept : (cave : CaveView) (s : State) → On R s → On R (with_pirate_home cave s)
  unfolding with_pirate_home
  home_kept cave s h = dwarf_kept PIRATE _ s (λ _ low _. absurd (not_low low)) h

  pirate_kept : (cave : CaveView) (p : Scene) → On R p.state → On R (after_pirate cave p).state
  unfolding after_pirate pirate_turn_rows chase_rows pirate_rows take_booty
  pirate_kept cave p h =
      quiet R (noted table.PirateTurn pirate_turn_rows) (search moved parts 20) (deed cave tt p) h
    where
      met : (d : Deed (Unit {0})) → On R d.scene.state
          → On R (by_table table.Pirate pirate_rows d).scene.state
      met d h =
          quiet R (noted table.Pirate pirate_rows)
          (search (effects, home_kept, all_stolen_kept) parts 20 depth 12) d h

      moved : (d : Deed (Unit {0})) → On R d.scene.state
          → On R (by_table table.Chase chase_rows (move_pirate d)).scene.state
      moved d h =
          quiet R (noted table.Chase chase_rows) (search met parts 20) (move_pirate d)
          (moved_kept d.cave PIRATE d.scene (λ low _. not_low low) h)

  stirred_kept : (s : State) (deep : Bool) → (s.dwarves.anger == 0 && deep) ≡ true → On R s
      → On R (with_anger 1 s)
  stirred_kept s deep asleep h = angry_kept 0 1 s (first_holds _ deep asleep) (omega arith) h

  -- the dwarves sleep, stir, or act
  pub dwarves_kept : (cave : CaveView) (p : Scene) → On R p.state
      → On R (encounter_dwarves cave p).scene.state
  unfolding encounter_dwarves anger_rows awake
  dwarves_kept cave p h =
      guarded (λ (a : Act Bool). On R a.scene.state) (nothing_but (always false))
      (deed cave no_attack p) (noted table.Anger anger_rows)
      (search (effects, stirred_kept, waking_kept, told_kept, pirate_kept, raided_kept) parts 20)
