-- What a command does to a claim.
use Rattle.std.proofs.Common.{Bool, List, arith, false, inl, refl, subst, sym, true, ℕ, ℤ, ◌≡◌}
use Rattle.std.specs.Prelude.{take as first_of, None, Option, Some, drop, is_some, nat_le, ◌&&◌}
use Rattle.std.specs.Prelude.{◌==◌, ◌||◌}
use Rattle.cave_turn.specs.Answers.{without_question}
use Rattle.cave_data.specs.CaveView.{default_message, CaveView}
use Rattle.cave_verbs.specs.Acting.{act, next_of_step}
use Rattle.cave_world.specs.declared.state.State.{State}
use Rattle.turn_clocks.specs.declared.clocks.Clocks.{Clocks}
use Rattle.turn_ends.specs.Endings.{with_one_death}
use Rattle.turn_scene.specs.Effects.{for_each_down_from, for_each_from, change}
use Rattle.turn_scene.specs.Rows.{Deed, after_all, by_table, deed, noted}
use Rattle.turn_scene.specs.Scene.{after_telling, happens, scene_at_start, thing, Scene, after_draw}
use Rattle.turn_scene.specs.Scene.{after_look_at}
use Rattle.turn_scene.specs.Places.{building_place}
use Rattle.cave_verbs.specs.declared.next.Next.{Next}
use Rattle.cave_verbs.specs.declared.verb.Verb.{Verb}
use Rattle.cave_turn.specs.Commands.{Followed, after_clocks, after_unknown_word, after_travel}
use Rattle.cave_turn.specs.Commands.{begin_command, after_timed_words, after_command, followed}
use Rattle.cave_turn.specs.Commands.{do_action, do_request, do_verb, keep_half_command}
use Rattle.cave_turn.specs.Commands.{after_keeping, forget_knife_rows, after_next}
use Rattle.cave_turn.specs.Commands.{unknown_word_rows, after_understood, after_words}
use Rattle.cave_turn.specs.Commands.{with_magic_waiting}
use Rattle.cave_turn.specs.Finish.{after_object_shown, after_end_of_turn, end_rows, hands_rows}
use Rattle.cave_turn.specs.Finish.{shown_rows}
use Rattle.cave_turn.specs.Revival.{after_fall, come_back, fall_rows, put_out_rows, reborn_rows}
use Rattle.cave_turn.specs.Revival.{revival_rows, revive}
use Rattle.cave_words.specs.Words.{words_of}
use Rattle.cave_words.specs.declared.words.Words.{Words}
use Rattle.cave_words.specs.declared.named.Named.TheVariants as name
use Rattle.cave_world.specs.Sight.{dark}
use Rattle.cave_world.specs.State.{takes_no_command}
use Rattle.cave_turn.specs.declared.half_command.HalfCommand.{HalfCommand}
use Rattle.cave_turn.specs.declared.request.Request.{Request}
use Rattle.cave_turn.specs.declared.request.Understood.{Understood}
use Rattle.turn_clocks.specs.Clocks.{run_clocks}
use Rattle.turn_clocks.specs.Hints.{after_consider, guard_rows, hint_rows, offer_rows}
use Rattle.turn_moves.specs.Journeys.{journey_by_request}
use Rattle.turn_scene.specs.Parts.{with_objects}
use Rattle.cave_verbs.specs.Rows.{task_of}
use Rattle.cave_verbs.specs.Verbs.{verb_of}
use Rattle.world_objects.specs.Objects.{after_move_to, with_prop}
use Rattle.cave_world.specs.declared.ending.Ending.TheVariants as ending_is
use Rattle.cave_world.specs.declared.part.Part.TheVariants as part
use Rattle.cave_world.specs.declared.ending.Question.TheVariants as question
use Rattle.turn_laws.specs.Laws.{before_lamp}
use Rattle.turn_laws.proofs.Reading.{read_kept}
use Rattle.turn_ends.specs.Questions.{with_question}
use Rattle.std.specs.FinMap as map
use Rattle.turn_laws.proofs.Clocks.{After, IsLampOf, clocks_kept}
use Rattle.turn_laws.proofs.Effects.{by_guarded, each_kept, each_kept_down, fails_alone, moved}
use Rattle.turn_laws.proofs.Effects.{quiet, tests}
use Rattle.turn_laws.proofs.Moves.{arriving_kept, arriving_open, describing_kept, motion_kept}
use Rattle.turn_laws.proofs.Places.{asking_kept, ended_kept, ending_kept, none_over}
use Rattle.turn_laws.proofs.Verbs.{acted_kept, is_asking_apart, known}
use Rattle.turn_laws.proofs.View.{Anywhere, Asks, Buries, Claim, IsKept, IsMoved, Line, Moves, On}
use Rattle.turn_laws.proofs.View.{Place, Prop, Puts, Ready, Revives, Somewhere, View, anywhere}
use Rattle.turn_laws.proofs.View.{choose, view, with_death}
use Rattle.cave_world.specs.declared.tables.Table.TheVariants as table

-- if a row fits, and with one more test it doesn't, that test fails
test_fails : (a b : Bool) → (a && true) ≡ true → (a && (b && true)) ≡ false → b ≡ false
test_fails a b fit other = grind (arith, fit, other)

-- objects that are shown, or that fall, one after another
module _ (P : Claim) (moves : IsMoved P) where
  shown_kept : (cave : CaveView) (p : Scene) → On P p.state
      → On P (for_each_from 1 100 (after_object_shown cave) p).state
  unfolding after_object_shown shown_rows
  shown_kept cave p h =
      each_kept (λ (q : Scene). On P q.state) 1 100 (after_object_shown cave)
      (λ x q g. quiet P (noted table.ObjectShown shown_rows) (search turned parts 20)
      (deed cave x q) g) p h
    where
      turned : (x : ℕ) (w : ℤ) (s : State) → On P s
          → On P (with_objects (with_prop s.objects x w) s)
      turned x w s h = moves (view s) (Prop x w) h

  pub fallen_kept : (cave : CaveView) (p : Scene) → On P p.state
      → On P (for_each_down_from 100 (after_fall cave) p).state
  unfolding after_fall fall_rows
  fallen_kept cave p h =
      each_kept_down (λ (q : Scene). On P q.state) 100 (after_fall cave)
      (λ x q g. quiet P (noted table.Fall fall_rows) (search placed parts 20) (deed cave x q) g) p h
    where
      placed : (x place : ℕ) (s : State) → On P s
          → On P (with_objects (after_move_to s.objects x place) s)
      placed x place s h = moves (view s) (Place x place) h

-- what is kept of a command for the next one
settled_kept : (P : Claim) (o : Option HalfCommand) (x : ℕ) (p : Scene) → On P p.state
    → On P (after_keeping o x p).state
unfolding after_keeping
settled_kept P None x p h = h
settled_kept P (Some half) x p h = h

half_same : (d : Deed Followed) → (keep_half_command d).scene.state ≡ d.scene.state
unfolding keep_half_command
half_same d = grind arith

module _ {cave : CaveView} {l : Line} {Q P : Claim} (k : IsKept cave l Q P) where
  abbrev Here : ℕ → Type 0
  Here = Somewhere l

  moves : IsMoved P
  moves v c h = k.keeps (Moves c) v tt h

  -- a hint is offered only if nothing is over
  guarded_kept : (i : ℕ) (p : Scene) → is_some (map.get cave.hints i) ≡ true
      → (is_some p.state.question || is_some p.state.ending) ≡ false → On P p.state
      → On P (by_table table.HintGuards guard_rows (deed cave i p)).scene.state
  unfolding guard_rows
  guarded_kept i p known free h =
      by_guarded P (deed cave i p) (noted table.HintGuards guard_rows)
      (search (asking_kept P, due, h) parts 40 depth 30)
    where
      due : On P (with_question (question.Hint i) p.state)
      due =
          let calm = none_over p.state.question p.state.ending free in
          k.keeps (Asks (question.Hint i)) (view p.state) (refl, calm, known) h

  offered_kept : (i : ℕ) (p : Scene) → is_some (map.get cave.hints i) ≡ true → On P p.state
      → On P (by_table table.Offers offer_rows (deed cave i p)).scene.state
  unfolding offer_rows takes_no_command
  offered_kept i p known h =
      by_guarded P (deed cave i p) (noted table.Offers offer_rows)
      (search (h, known, guarded_kept, test_fails) parts 20)

  hints_kept : (p : Scene) → On P p.state
      → On P (for_each_from 4 17 (after_consider cave) p).state
  unfolding after_consider hint_rows
  hints_kept p h =
      each_kept (λ (q : Scene). On P q.state) 4 17 (after_consider cave)
      (λ i q g. by_guarded P (deed cave i q) (noted table.HintTurns hint_rows)
      (search (g, offered_kept, tests) parts 20)) p h

  -- what is in the hands is shown
  hands_kept : (d : Deed (Unit {0})) → On P d.scene.state
      → On P (by_table table.Hands hands_rows d).scene.state
  unfolding hands_rows
  hands_kept d h =
      quiet P (noted table.Hands hands_rows) (search (looked, shown_kept P moves) parts 20) d h
    where
      looked : (x : ℕ) (w : ℤ) (p : Scene) → On P p.state → On P (after_look_at x w p).state
      looked x w p h = choose (λ (q : Scene). On P q.state) (x == 0) p _ (λ _. h) (λ _. h)

  pub finished_kept : (p : Scene) → On P p.state → On P (after_end_of_turn cave p).state
  unfolding after_end_of_turn end_rows
  finished_kept p h =
      by_guarded P (deed cave tt p) end_rows (search (hints_kept, hands_kept) parts 20)

  -- what follows what a verb did
  following_kept : (next : Next) (p : Scene) → is_asking_apart next ≡ false
      → On (Ready Here P) p.state → On P (after_next cave next p).state
  following_kept Next.Stay p other h = h.holds
  following_kept Next.Keep p other h = h.holds
  following_kept Next.Describe p other h = describing_kept k p (anywhere h)
  following_kept (Next.Arrive place) p other h = arriving_kept k place p h.holds
  following_kept (Next.Ask q) p other h =
      asking_kept P cave q p (k.keeps (Asks q) (view p.state)
      ((known cave q other).0, h.calm, (known cave q other).1) h.holds)
  following_kept (Next.End how) p other h = ending_kept k cave how p h

  -- an action is done, or the game says what the cave says of it
  acting_kept : (o : Option Verb) (number x : ℕ) (word : List ℕ) (p : Scene)
      → On (Ready Here P) p.state → On P (do_action cave o number x word p).scene.state
  unfolding do_verb
  acting_kept (Some v) number x word p h =
      let a = act cave (task_of v x word) p in
      let acted = acted_kept k cave (task_of v x word) p h in
      following_kept (next_of_step a.step) a.scene acted.1 acted.0
  acting_kept None number x word p h =
      choose (λ (q : Scene). On P q.state) (default_message cave number == 0) p
      (after_telling (part.Message (default_message cave number)) p) (λ _. h.holds) (λ _. h.holds)

  done_kept : (r : Request) (p : Scene) → On (Ready Here P) p.state
      → On P (do_request cave r p).scene.state
  unfolding after_travel after_unknown_word unknown_word_rows
  done_kept Request.Unknown p h =
      quiet P (noted table.UnknownWord unknown_word_rows) (search parts 20)
      (deed cave (happens 20 p) (after_draw p)) h.holds
  done_kept (Request.Motion motion) p h =
      let j = journey_by_request cave motion p in
      arriving_kept k j.step j.scene (motion_kept k motion p (anywhere h))
  done_kept (Request.Tell told) p h = h.holds
  done_kept Request.Knives p h = h.holds
  done_kept (Request.Act number x word) p h = acting_kept (verb_of number) number x word p h
  done_kept (Request.WhatToDo word) p h = h.holds

  -- what was understood is carried out
  carried_out_kept : (u : Understood) (p : Scene) → On (Ready Here P) p.state
      → On P (after_understood cave u p).state
  unfolding after_understood
  carried_out_kept u p h =
      let a = do_request cave u.request p in
      let d = deed cave (followed u a.step) a.scene in
      settled_kept P _ _ _ (subst (On P) (sym (half_same d)) (done_kept u.request p h))

  -- the words of a line are done
  done_for_kept : (words : Words) (p : Scene) → On (Ready Here P) p.state
      → On P (after_words cave words.first words.second p).state
  done_for_kept words p h = by_first words.first
    where
      by_first : (o : Option (List ℕ))
          → On P (after_words cave o words.second p).state
      by_first None = h.holds
      by_first (Some word) = carried_out_kept _ _ (read_kept k _ h)

  -- what the clocks leave of a command
  after_clocks_kept : (words : Words) (before : ℕ) (o : Clocks) (p : Scene)
      → After (Ready Here P) cave before o p.state → On P (after_clocks cave words o p).state
  unfolding after_keeping
  after_clocks_kept words before Clocks.GoOn p h = done_for_kept words p h
  after_clocks_kept words before Clocks.GaveUp p h = ending_kept k cave ending_is.Quit p h
  after_clocks_kept words before (Clocks.Closed place) p h =
      let v : View = record (view p.state) { here = before } in
      arriving_open k before place p h.holds.holds h.holds.calm
      (λ some. k.keeps (Puts p.state.trail.here) v (some, inl h.place) h.holds.holds)

  -- a command begins
  pub begun_kept : (R : Claim) (s : State) → On R s → On R (begin_command cave s).state
  unfolding begin_command forget_knife_rows
  begun_kept R s h =
      let t = with_magic_waiting s in
      let p = scene_at_start (dark cave (thing cave name.Lamp) t) t in
      quiet R (noted table.KnifeForgotten forget_knife_rows) (search parts 20) (deed cave tt p) h

  -- the clocks run, and what they leave is done
  pub commanded_kept : (line : List ℕ) (s : State)
      → IsLampOf cave l (before_lamp cave (begin_command cave s)) → On (Ready Here Q) s
      → On P (after_command cave line s).state
  unfolding after_command after_timed_words
  commanded_kept line s of h =
      let p = begin_command cave s in
      let words = words_of cave.letters line in
      let t = run_clocks cave p in
      let after = clocks_kept k p of (begun_kept (Ready Here Q) s h) in
      finished_kept (after_timed_words cave words p)
      (after_clocks_kept words after.0 t.step t.scene after.1)

  -- a player who died, and whose death was counted, may come back, or is dead for good
  abbrev pub Mourned : Claim
  Mourned v =
      (nat_le 3 v.tallies.deaths ≡ false
      → Ready Anywhere P (record v { here = building_place cave }))
      × P (record v { ending = Some ending_is.Killed })

  pub mourned : l.is_lit ≡ false → (s : State) → s.question ≡ Some question.Die
      → s.ending ≡ None → On Q s → On Mourned (with_one_death (without_question s))
  mourned unlit s asked goes h = (
    (λ few. record {
      holds = k.keeps Revives (view s) (few, asked, goes, unlit) h;
      calm = (refl, goes);
      at = tt;
    }),
    k.keeps (Buries ending_is.Killed) (view s) (asked, goes, unlit) h,
  )

  -- a claim would hold if the player were back
  abbrev Back : Claim
  Back v = Ready Anywhere P (record v { here = building_place cave })

  back_moved : IsMoved Back
  back_moved v c r = moved k _ c r

  -- a player is back with empty hands
  returned_kept : (p : Scene) → On Back p.state
      → On P (after_all (drop 1 revive) (deed cave question.Die p)).scene.state
  unfolding revive
  returned_kept p h =
      describing_kept k (after_all (first_of 2 (drop 1 revive)) (deed cave question.Die p)).scene
      (fallen_kept Back back_moved cave p h)

  revived_kept : (p : Scene) → (nat_le 3 p.state.tallies.deaths && true) ≡ false
      → On Mourned p.state → On P (after_all revive (deed cave question.Die p)).scene.state
  unfolding revive put_out_rows
  revived_kept p few h =
      returned_kept _ (quiet Back (noted table.LampPutOut put_out_rows) (search put_out parts 20)
      (deed cave question.Die p) (h.0 (fails_alone _ few)))
    where
      put_out : (x : ℕ) (w : ℤ) (s : State) → On Back s
          → On Back (with_objects (with_prop s.objects x w) s)
      put_out x w s g = back_moved (view s) (Prop x w) g

  pub reborn_kept : (p : Scene) → On Mourned (with_one_death p.state)
      → On P (after_all come_back (deed cave question.Die p)).scene.state
  unfolding come_back reborn_rows revival_rows
  reborn_kept p h =
      let e = by_table table.Reborn reborn_rows (deed cave question.Die p) in
      let told = quiet (λ v. Mourned (record v { tallies = with_death v.tallies }))
      (noted table.Reborn reborn_rows) (search parts 20) (deed cave question.Die p) h in
      by_guarded P (change with_one_death e) (noted table.Revival revival_rows)
      (search (ended_kept P, revived_kept, told) parts 20)
