-- What the score, the questions and a death do to a claim, and what a player who arrives sees and
-- meets.
use Rattle.std.proofs.Common.{Bool, List, [], arith, false, inl, inr, refl, sym, true, ℕ, ℤ, ◌-◌}
use Rattle.std.proofs.Common.{◌∙◌, ◌∷◌, ◌≡◌, ◌≤◌, ◌⊎◌}
use Rattle.std.proofs.lemmas.Bool.{true≢false}
use Rattle.std.specs.Prelude.{None, Option, Some, is_some, nat_le, not, ◌&&◌, ◌==◌, ◌||◌}
use Rattle.cave_data.specs.CaveView.{CaveView}
use Rattle.cave_world.specs.declared.ending.Ending.{Ending}
use Rattle.cave_world.specs.declared.ending.Question.{Question}
use Rattle.cave_world.specs.declared.state.State.{State}
use Rattle.turn_ends.specs.Endings.{tell_turns, after_die, after_end, class_rows, death_rows}
use Rattle.turn_ends.specs.Endings.{tell_score, with_ending, with_one_death}
use Rattle.turn_scene.specs.Effects.{change, say, set_prop}
use Rattle.turn_scene.specs.Rows.{Act, Deed, after_all, always, by_table, deed, first_fitting_or}
use Rattle.turn_scene.specs.Rows.{note_row, noted, nothing_but}
use Rattle.turn_scene.specs.Scene.{scene_at_place, Scene, with_state}
use Rattle.turn_scene.specs.Places.{outside_place}
use Rattle.std.specs.FinMap as map
use Rattle.cave_world.specs.State.{state_with_player_at, takes_no_command, with_visit}
use Rattle.data_rows.specs.declared.rows.Hint.{Hint}
use Rattle.turn_dwarves.specs.Dwarves.{encounter_dwarves}
use Rattle.turn_ends.specs.Questions.{after_ask, after_offer, after_question, ask_question}
use Rattle.turn_ends.specs.Questions.{asking_rows, die_rows, pose, question_row, tell_question}
use Rattle.turn_ends.specs.Questions.{tell_score_now, with_question}
use Rattle.turn_moves.specs.Arrival.{block, blocking_rows, come_on, come_to, hit_rows, meet, new}
use Rattle.turn_moves.specs.Arrival.{over_rows, place_rows, stop_at}
use Rattle.turn_moves.specs.Description.{after_describe, bear_rows, description_rows, feel_place}
use Rattle.turn_moves.specs.Description.{hollow_rows, see_place, stop_here, stop_rows, tell_place}
use Rattle.turn_moves.specs.Description.{text_rows, with_visit_here}
use Rattle.turn_moves.specs.Dying.{after_die_at, with_all_left_at}
use Rattle.turn_moves.specs.Objects.{after_object, after_all_objects, find_treasure}
use Rattle.turn_moves.specs.Objects.{last_treasure_rows}
use Rattle.turn_moves.specs.Objects.{object_rows, object_text_rows, with_one_less_unseen}
use Rattle.turn_scene.specs.Tests.{it}
use Rattle.world_objects.specs.Lists.{halves_at}
use Rattle.world_objects.specs.declared.object.Half.{Half}
use Rattle.data_rows.specs.declared.role.Role.TheVariants as role
use Rattle.turn_scene.specs.SharedRules.{after_panic}
use Rattle.turn_laws.proofs.Dwarves.{dwarves_kept}
use Rattle.turn_laws.proofs.Effects.{by_guarded, effects, fails_alone, guarded, holds_alone}
use Rattle.turn_laws.proofs.Effects.{panicked, propped, quiet}
use Rattle.turn_laws.proofs.View.{Anywhere, Claim, Comes, Dies, Ends, Finds, IsCalm, IsKept, Kills}
use Rattle.turn_laws.proofs.View.{Line, On, Panics, Ready, Shortens, Somewhere, There, View}
use Rattle.turn_laws.proofs.View.{anywhere, choose, from_one, view}
use Rattle.cave_world.specs.declared.tables.Table.TheVariants as table

pub ended_kept : (P : Claim) (cave : CaveView) (how : Ending) (p : Scene)
    → On P (with_ending how p.state) → On P (after_end cave how p).state
unfolding after_end tell_score class_rows
ended_kept P cave how p h =
    quiet P (noted table.Classes class_rows) (search parts 20)
    (tell_turns (deed cave tt (with_state (with_ending how p.state) p))) h

offer_kept : (P : Claim) (o : Option Hint) (p : Scene) → On P p.state
    → On P (after_offer o p).state
offer_kept P None p h = h
offer_kept P (Some hint) p h = h

die_kept : (P : Claim) (d : Deed Question) → On P d.scene.state
    → On P (by_table table.Die die_rows d).scene.state
unfolding die_rows
die_kept P d h = quiet P (noted table.Die die_rows) (search parts 20) d h

-- the message of a question changes no state
asked_aloud_kept : (P : Claim) (asked : Question) (d : Deed Question) → On P d.scene.state
    → On P (tell_question asked d).scene.state
asked_aloud_kept P Question.Die d h = die_kept P d h
asked_aloud_kept P (Question.Hint i) d h = offer_kept P (map.get d.cave.hints i) d.scene h
asked_aloud_kept P _ d h = h

posed_kept : (P : Claim) (d : Deed Question) → On P d.scene.state → On P (pose d).scene.state
posed_kept P d h =
    asked_aloud_kept P d.about (note_row table.Questions (question_row d.about) d) h

pub question_kept : (P : Claim) (cave : CaveView) (q : Question) (p : Scene) → On P p.state
    → On P (after_question cave q p).state
question_kept P cave q p h = posed_kept P (deed cave q p) h

-- a claim would hold if a question were asked
abbrev Asked : Claim → Question → Claim
Asked P q v = P (record v { question = Some q })

-- the score may be printed before the question
pub asking_kept : (P : Claim) (cave : CaveView) (q : Question) (p : Scene)
    → On P (with_question q p.state) → On P (after_ask cave q p).state
unfolding after_ask ask_question asking_rows
asking_kept P cave q p h =
    quiet (Asked P q) (noted table.Asking asking_rows) (
      (λ d g. ((λ _. (posed (tell_score_now (note_row table.Asking 1 d)) g, tt)), (λ _. g))),
      ((λ d g. (posed (note_row table.Asking 2 d) g, tt)), tt),
    ) (deed cave q p) h
  where
    posed : (e : Deed Question) → On (Asked P q) e.scene.state
        → On (Asked P q) (pose e).scene.state
    posed e g = posed_kept (Asked P q) e g

module _ {game : CaveView} {l : Line} {Q P : Claim} (k : IsKept game l Q P)
    (cave : CaveView) where
  -- the player dies at the present place, and was there before, or is nowhere now
  pub dying_kept : (before : ℕ) (p : Scene)
      → (p.state.trail.here ≡ before) ⊎ (p.state.trail.here ≡ 0)
      → On (There P before) p.state → IsCalm (view p.state) → On P (after_die cave p).state
  unfolding after_die death_rows
  dying_kept before p same h calm =
      by_guarded P (deed cave tt p) (noted table.Death death_rows)
      (search (ended_kept P, asking_kept P, killed, asked) parts 20)
    where
      killed : (p.state.closing.is_closing && true) ≡ true
          → On P (with_ending Ending.Killed (with_one_death p.state))
      killed closing =
          k.keeps (Kills Ending.Killed p.state.trail.here)
          (record (view p.state) { here = before }) (calm, holds_alone _ closing, same) h

      asked : (p.state.closing.is_closing && true) ≡ false
          → On P (with_question Question.Die p.state)
      asked free =
          k.keeps (Dies p.state.trail.here)
          (record (view p.state) { here = before }) (calm, fails_alone _ free) h

  -- the player dies, and what is in the hands is put somewhere
  pub falling_kept : (place : ℕ) (p : Scene) → On (Ready Anywhere P) p.state
      → On P (after_die_at cave place p).state
  unfolding after_die_at
  falling_kept place p h =
      dying_kept p.state.trail.here (with_state (with_all_left_at place p.state) p) (inl refl)
      h.holds h.calm

  -- the game ends, or a question is asked
  pub ending_kept : {Other : ℕ → Type 0} (how : Ending) (p : Scene) → On (Ready Other P) p.state
      → On P (after_end cave how p).state
  ending_kept how p h = ended_kept P cave how p (k.keeps (Ends how) (view p.state) h.calm h.holds)

-- tables that only print
module _ (P : Claim) where
  -- the text of a place of forced motion is printed
  told_kept : (d : Deed (Unit {0})) → On P d.scene.state → On P (after_all tell_place d).scene.state
  unfolding tell_place bear_rows text_rows
  told_kept d h =
      quiet P (noted table.PlaceText text_rows) (search parts 20) (by_table table.BearFollows bear_rows d)
      (quiet P (noted table.BearFollows bear_rows) (search parts 20) d h)

  darkness_kept : (d : Deed (Unit {0})) → On P d.scene.state
      → On P (after_all feel_place d).scene.state
  unfolding feel_place bear_rows hollow_rows
  darkness_kept d h =
      quiet P (noted table.Hollow hollow_rows) (search parts 20) (say role.Dark (by_table table.BearFollows bear_rows d))
      (quiet P (noted table.BearFollows bear_rows) (search parts 20) d h)

  text_kept : (d : Deed ℕ) → On P d.scene.state
      → On P (by_table table.ObjectText object_text_rows d).scene.state
  unfolding object_text_rows
  text_kept d h = quiet P (noted table.ObjectText object_text_rows) (search parts 20) d h

  visit_kept : (s : State) (place : ℕ) → On P s → On P (with_visit s place)
  unfolding with_visit
  visit_kept s place h = choose (On P) (place == 0) s _ (λ _. h) (λ _. h)

-- if one more than one is left, there were two
two_unseen : (n : ℕ) (b : Bool) → (b && not (n - 1 == 0)) ≡ true → 2 ≤ n
two_unseen n b left = grind (arith, left)

-- place 0 is no place
pub none_of : (place : ℕ) → (place == 0) ≡ true → place ≡ 0
none_of place none = grind (arith, none)

-- a place that isn't shut off
not_shut : (a none b c : Bool) → none ≡ false → (a && (not none && (c && true))) ≡ false
    → (a && b && c) ≡ false
not_shut a none b c some h = grind (arith, some, h)

-- if nothing is over, no question is open, and the game goes on
pub none_over : (q : Option Question) (e : Option Ending) → (is_some q || is_some e) ≡ false
    → (q ≡ None) × (e ≡ None)
none_over None None h = (refl, refl)
none_over None (Some how) h = absurd (true≢false h)
none_over (Some q) e h = absurd (true≢false h)

-- if commands can follow, nothing is over
calm_open : (q : Option Question) (e : Option Ending) → q ≡ None → e ≡ None
    → (is_some q || is_some e) ≡ false
calm_open q e none goes = rw none (rw goes refl)

-- a claim holds after the player has come to a place, unless that is no place
abbrev pub Reaches : Claim → ℕ → State → Type 0
Reaches P place s = (place == 0) ≡ false → On (There P place) s

-- what holds where the player stops: a player who is moved on can go on
abbrev pub Stopped : Claim → Bool → State → Type 0
Stopped P true s = On (Ready Anywhere P) s
Stopped P false s = On P s

abbrev pub OnStop : Claim → Act Bool → Type 0
OnStop P s = Stopped P s.step s.scene.state

module _ {cave : CaveView} {l : Line} {Q P : Claim} (k : IsKept cave l Q P) where
  abbrev R : Claim
  R = Ready Anywhere P

  -- a treasure is found, and the rest may be lost
  found_kept : (v : ℤ) (d : Deed ℕ) → On R d.scene.state
      → On R (after_all (find_treasure v) d).scene.state
  unfolding find_treasure last_treasure_rows
  found_kept v d h =
      let seen = set_prop it v d in
      let s = seen.scene.state in
      let e = change with_one_less_unseen seen in
      let got : On R s = propped k (it d) v h in
      text_kept R (by_table table.LastTreasure last_treasure_rows e)
      (guarded (λ (a : Act (Unit {0})). On R a.scene.state) (nothing_but (λ f. tt)) e
      (noted table.LastTreasure last_treasure_rows) (
        (λ lost. record {
          holds = k.keeps Shortens (view s)
              (two_unseen s.tallies.unseen (s.tallies.unseen - 1 == s.tallies.lost)
              (holds_alone _ lost)) got.holds;
          calm = h.calm;
          at = h.at;
        }),
        (λ _. record { holds = k.keeps Finds (view s) tt got.holds; calm = h.calm; at = h.at }),
      ))

  object_kept : (x : ℕ) (p : Scene) → On R p.state → On R (after_object cave x p).state
  unfolding after_object object_rows
  object_kept x p h =
      quiet R (noted table.ObjectHere object_rows) (search (found_kept, text_kept R) parts 20)
      (deed cave x p) h

  objects_kept : (halves : List Half) (p : Scene) → On R p.state
      → On R (after_all_objects cave halves p).state
  objects_kept [] p h = h
  objects_kept (half ∷ halves) p h = objects_kept halves (after_object cave _ p) (object_kept _ p h)

  sight_kept : (p : Scene) → On R p.state → On R (after_all see_place (deed cave tt p)).scene.state
  unfolding see_place tell_place hollow_rows
  sight_kept p h =
      let d = by_table table.PlaceText text_rows (by_table table.BearFollows bear_rows (deed cave tt p)) in
      let q = by_table table.Hollow hollow_rows d in
      let r = change with_visit_here q in
      let s = r.scene.state in
      objects_kept (halves_at s.trail.here s.objects.lists) r.scene
      (visit_kept R q.scene.state q.scene.state.trail.here
      (quiet R (noted table.Hollow hollow_rows) (search parts 20) d (told_kept R (deed cave tt p) h)))

  held_still : {v : View} → R v → P v
  held_still h = h.holds

  -- a player who goes on in the dark may fall into a pit
  described_kept : (p : Scene) → On R p.state → On P (after_describe cave p).state
  unfolding after_describe description_rows
  described_kept p h =
      by_guarded P (deed cave tt p) (noted table.Description description_rows)
      (search (effects, held_still, sight_kept, falling_kept k, darkness_kept P) parts 20 depth 9)

  pub seen_kept : (p : Scene) → On R p.state → OnStop P (stop_here (deed cave tt p))
  unfolding stop_here stop_rows
  seen_kept p h =
      guarded (OnStop P) (nothing_but (always false)) (deed cave tt p)
      (noted table.Stops stop_rows) (search (effects, held_still, told_kept R, described_kept) parts 20)

  -- the dwarves move and the place is described
  met_kept : (p : Scene) → On (Ready (Somewhere l) P) p.state → OnStop P (meet (deed cave tt p))
  unfolding meet hit_rows
  met_kept p h =
      let r = encounter_dwarves cave p in
      hit r.step r.scene (anywhere (dwarves_kept k cave p h))
    where
      hit : (b : Bool) (q : Scene) → On R q.state → OnStop P (first_fitting_or
          (noted table.Hits hit_rows) (nothing_but (always false)) (deed cave b q))
      hit b q g =
          guarded (OnStop P) (nothing_but (always false)) (deed cave b q)
          (noted table.Hits hit_rows) (search (falling_kept k, described_kept) parts 20)

  -- the player comes to a place, and was elsewhere before
  come_kept : (before place : ℕ) (p : Scene) → On (There P before) p.state
      → IsCalm (view p.state) → Reaches P place p.state → OnStop P (come_to cave place p)
  unfolding come_to place_rows state_with_player_at
  come_kept before place p h calm reaches =
      let dies = dying_kept k cave before in
      guarded (OnStop P) meet (deed cave tt (scene_at_place place p))
      (noted table.Arrival place_rows)
      (search (dies, none, there, found, effects, held_still, told_kept R, described_kept, met_kept)
      parts 20 depth 9)
    where
      none : (place == 0 && true) ≡ true → (place ≡ before) ⊎ (place ≡ 0)
      none is = inr (none_of place (holds_alone _ is))

      there : (place == 0 && true) ≡ false → On R (scene_at_place place p).state
      there some = record { holds = reaches (fails_alone _ some); calm = calm; at = tt }

      found : (place == 0 && true) ≡ false
          → On (Ready (Somewhere l) P) (scene_at_place place p).state
      found some =
          let is = fails_alone _ some in
          record { holds = reaches is; calm = calm; at = λ _. from_one place is }

  -- a closing cave or a dwarf keeps the player here, and otherwise the player comes to a place
  come_on_kept : (before place : ℕ) (p : Scene) → On (There P before) p.state
      → IsCalm (view p.state) → Reaches P p.state.trail.here p.state
      → (let held = block (deed cave place p) in OnStop P (come_to cave held.step held.scene))
  unfolding block blocking_rows
  come_on_kept before place p h calm stays =
      guarded (λ (held : Act ℕ). OnStop P (come_to cave held.step held.scene))
      (nothing_but new) (deed cave place p) (noted table.Blocking blocking_rows)
      (search (stays_here, come_kept before, comes) parts 20)
    where
      stays_here : (q : Scene) → On (There P before) q.state → IsCalm (view q.state)
          → Reaches P q.state.trail.here q.state
          → OnStop P (come_to cave (after_panic cave q).state.trail.here (after_panic cave q))
      stays_here q there still found =
          let s = q.state in
          let t = panicked
          (λ (t : State). On (There P before) t × IsCalm (view t) × Reaches P t.trail.here t)
          cave q (there, still, found)
          (λ n how. (
            k.keeps (Panics n) (record (view s) { here = before }) how there,
            still,
            λ some. k.keeps (Panics n) (view s) how (found some),
          )) in
          come_kept before _ (after_panic cave q) t.0 t.1 t.2

      comes : (p.state.closing.is_closing
          && (not (place == 0) && (nat_le place (outside_place cave) && true))) ≡ false
          → Reaches P place p.state
      comes free some =
          k.keeps (Comes place) (record (view p.state) { here = before })
          (some, not_shut p.state.closing.is_closing (place == 0) (nat_le 1 place) _ some free) h

  -- the player is shown a place, unless what was before is the end, or leaves a question open
  stopping_kept : (before place : ℕ) (p : Scene) → On (There P before) p.state
      → ((is_some p.state.question || is_some p.state.ending) && true ≡ true → On P p.state)
      → ((is_some p.state.question || is_some p.state.ending) && true ≡ false
      → IsCalm (view p.state))
      → Reaches P p.state.trail.here p.state → OnStop P (stop_at cave place p)
  unfolding stop_at over_rows takes_no_command
  stopping_kept before place p h over calm stays =
      guarded (OnStop P) come_on (deed cave place p) over_rows
      (search (over, goes_on) parts 20)
    where
      goes_on : (is_some p.state.question || is_some p.state.ending) && true ≡ false
          → OnStop P (come_on (deed cave place p))
      goes_on free = come_on_kept before place p h (calm free) stays

  pub shown_kept : (place : ℕ) (p : Scene) → On P p.state → OnStop P (stop_at cave place p)
  shown_kept place p h =
      stopping_kept p.state.trail.here place p h (λ _. h)
      (λ free. none_over p.state.question p.state.ending (fails_alone _ free)) (λ _. h)

  -- the player is shown a place, and was elsewhere before
  pub shown_open : (before place : ℕ) (p : Scene) → On (There P before) p.state
      → IsCalm (view p.state) → Reaches P p.state.trail.here p.state
      → OnStop P (stop_at cave place p)
  shown_open before place p h calm stays =
      stopping_kept before place p h
      (λ over. absurd (true≢false
      (sym (holds_alone _ over) ∙ calm_open p.state.question p.state.ending calm.0 calm.1)))
      (λ _. calm) stays
