-- Verbs keep each claim that is kept by what happens in a game, and no verb asks whether to come
-- back from death, or about a hint.
use Rattle.std.proofs.Common.{Bool, List, [], arith, false, length, refl, suc, true, zero, ℕ, ℤ}
use Rattle.std.proofs.Common.{◌+◌, ◌∷◌, ◌≡◌, ◌≤◌}
use Rattle.std.proofs.lemmas.Bool.{true≢false}
use Rattle.std.specs.Prelude.{take as first_of, Option, drop, min, nat_le, ◌&&◌, ◌==◌}
use Rattle.cave_data.specs.CaveView.{CaveView}
use Rattle.cave_verbs.specs.Acting.{act, act_bare, act_on, act_once, act_within, rows_of}
use Rattle.cave_verbs.specs.Acting.{next_of_step}
use Rattle.cave_world.specs.declared.closing.Closing.{Closing}
use Rattle.cave_world.specs.declared.dwarves.Dwarf.{Dwarf}
use Rattle.cave_world.specs.declared.ending.Ending.{Ending}
use Rattle.cave_world.specs.declared.ending.Question.{Question}
use Rattle.cave_world.specs.declared.state.Tallies.{Tallies}
use Rattle.turn_scene.specs.Rows.{Act, Deed, deed, noted, nothing_but}
use Rattle.turn_scene.specs.Tests.{here}
use Rattle.turn_scene.specs.Scene.{Scene}
use Rattle.cave_verbs.specs.declared.next.Next.{Next}
use Rattle.cave_verbs.specs.declared.verb.Verb.{Verb}
use Rattle.world_objects.specs.Objects.{after_carry, with_prop, Layout, objects_in_hands}
use Rattle.cave_words.specs.Stream.{next}
use Rattle.cave_verbs.specs.Small.{blast_rows, break_rows, wake_rows, darkened_rows, off_rows}
use Rattle.cave_verbs.specs.Small.{on_rows, bare_brief_rows, bare_quit_rows, bare_rows}
use Rattle.cave_verbs.specs.Small.{bare_score_rows, nothing_rows, other_rows, rub_rows, wave_rows}
use Rattle.cave_verbs.specs.Dropping.{drop_rows}
use Rattle.cave_verbs.specs.Feeding.{bare_eat_rows, eat_rows, feed_rows}
use Rattle.cave_verbs.specs.Finding.{bare_inventory_rows, bear_along_rows, find_rows}
use Rattle.cave_verbs.specs.Killing.{bare_kill_rows, kill_rows}
use Rattle.cave_verbs.specs.Magic.{bare_foo_rows, eggs_rows}
use Rattle.cave_verbs.specs.Opening.{bare_open_rows, open_rows}
use Rattle.cave_verbs.specs.Pouring.{bare_fill_rows, drink_rows, fill_rows, pour_rows}
use Rattle.cave_verbs.specs.Reading.{bare_read_rows, read_rows}
use Rattle.cave_verbs.specs.Taking.{bare_take_rows, take_rows}
use Rattle.cave_verbs.specs.Throwing.{throw_rows, without_first_at}
use Rattle.turn_scene.specs.Reach.{is_dwarf_at, is_dwarf_here}
use Rattle.cave_verbs.specs.Rows.{VerbRow, first_fitting, going_on, stays}
use Rattle.cave_verbs.specs.declared.task.Task.{Task}
use Rattle.cave_verbs.specs.declared.next.Next.TheVariants.{Ask}
use Rattle.cave_verbs.specs.declared.next.VerbStep.{VerbStep}
use Rattle.cave_verbs.specs.declared.next.VerbStep.TheVariants.{Done, GoOn}
use Rattle.turn_laws.proofs.Effects.{LeadRows, Leads, Left, banded, banded_as, effects, first_holds}
use Rattle.turn_laws.proofs.Effects.{first_leads, guarded, propped, second_holds, shown}
use Rattle.std.specs.List.{list_any}
use Rattle.cave_world.specs.declared.tables.Table.TheVariants as table
use Rattle.turn_laws.specs.Reachable.{IsKnown}
use Rattle.turn_laws.proofs.Counted.{room, room_still, struck}
use Rattle.turn_laws.proofs.View.{Band, Claim, HasRoom, IsKept, Line, On, Ready, Somewhere, Takes}
use Rattle.turn_laws.proofs.View.{View, after_taking, choose, is_die}

-- a question is whether to come back, or about a hint
abbrev pub is_apart : Question → Bool
is_apart Question.Die = true
is_apart (Question.Hint hint) = true
is_apart (Question.Take hint) = true
is_apart _ = false

-- any other isn't, and asks nothing of the cave
pub known : (cave : CaveView) (q : Question) → is_apart q ≡ false
    → (is_die q ≡ false) × IsKnown cave q
known cave Question.Die other = absurd (true≢false other)
known cave (Question.Hint hint) other = absurd (true≢false other)
known cave (Question.Take hint) other = absurd (true≢false other)
known cave _ other = (refl, tt)

abbrev pub is_asking_apart : Next → Bool
is_asking_apart (Ask q) = is_apart q
is_asking_apart _ = false

abbrev pub Spared : VerbStep → Type 0
Spared step = is_asking_apart (next_of_step step) ≡ false

-- rows keep a claim while commands can follow
abbrev pub KeepRows : (ℕ → Type 0) → Claim → List VerbRow → Type 0
KeepRows Here P rows = LeadRows (Ready Here P) (Ready Here P) Spared rows

ruleset tables = (effects, refl)

module _ {game : CaveView} {l : Line} {Q P : Claim} (k : IsKept game l Q P) where
  abbrev Here : ℕ → Type 0
  Here = Somewhere l

  abbrev Keep : (Deed Task → Act VerbStep) → Type 0
  Keep f = Leads (Ready Here P) (Ready Here P) Spared f

  by_rows : (rows : List _) → KeepRows Here P rows → Keep (first_fitting rows)
  by_rows rows each d h =
      first_leads (Ready Here P) (Ready Here P) Spared rows (nothing_but stays) each
      (λ e g. (g, refl)) d h

  -- objects are taken if there is room for them; a tamed bird takes its cage along
  abbrev Free : Layout → Type 0
  Free o = (nat_le 7 (length (objects_in_hands o)) && true) ≡ false

  taken : (v : View) (xs : List ℕ) → length xs ≤ 2 → HasRoom v.objects → Ready Here P v
      → Ready Here P (record v { objects = after_taking xs v.objects })
  taken v xs few room r =
      record { holds = k.keeps (Takes xs) v (few, room) r.holds; calm = r.calm; at = r.at }

  module _ {n : ℕ} {o : Layout} {q : ℤ} {c : Closing} {t : Tallies} {b : Band} {h : List Bool}
      {a : Option Question} {e : Option Ending} where
    took : (x : ℕ) → Free o → Ready Here P (shown n o q c t b h a e)
        → Ready Here P (shown n (after_carry o x) q c t b h a e)
    took x free r = taken (shown n o q c t b h a e) (x ∷ []) (omega arith) (room _ free) r

    took_both : (x y : ℕ) → Free o → Ready Here P (shown n o q c t b h a e)
        → Ready Here P (shown n (after_carry (after_carry o x) y) q c t b h a e)
    took_both x y free r =
        taken (shown n o q c t b h a e) (x ∷ y ∷ []) (omega arith) (room _ free) r

    tamed : (x y z : ℕ) (w : ℤ) → Free o → Ready Here P (shown n o q c t b h a e)
        → Ready Here P (shown n (after_carry (after_carry (with_prop o z w) x) y) q c t b h a e)
    tamed x y z w free r =
        taken (shown n (with_prop o z w) q c t b h a e) (x ∷ y ∷ []) (omega arith)
        (room_still o z w (room _ free)) (propped k z w r)

  -- a dwarf that is here is killed
  killed : {n : ℕ} {o : Layout} {q : ℤ} {c : Closing} {t : Tallies} {h : List Bool}
      {a : Option Question} {e : Option Ending} (g m : ℕ) (w : List Dwarf) (rest : Bool)
      → ((nat_le 2 g && list_any (is_dwarf_at n) (first_of 5 w)) && rest) ≡ true
      → Ready Here P (shown n o q c t (banded_as g m w) h a e)
      → Ready Here P
      (shown n o q c t (banded_as g (min (m + 1) 60000) (without_first_at n w)) h a e)
  killed {n = n} g m w rest fit r =
      banded k _ _
      (struck n (banded_as g m w) (second_holds (nat_le 2 g) _ (first_holds _ rest fit))) r

  -- the rows of TAKE before the one that fits full hands
  abbrev before_full_hands : ℕ
  before_full_hands = 9

  -- from that row on the hands aren't full
  taken_kept : Keep (first_fitting (noted table.Take take_rows))
  unfolding take_rows
  taken_kept d h =
      let rows = noted table.Take take_rows in
      first_leads (Ready Here P) (Ready Here P) Spared (first_of before_full_hands rows)
      (first_fitting (drop before_full_hands rows)) (search tables parts 60)
      (λ e g. guarded (Left (Ready Here P) Spared) (nothing_but stays) e
      (drop before_full_hands rows)
      (search (tables, took, took_both, tamed) depth 30)) d h

  -- the rows of verbs without an object
  bare_kept : (v : Verb) → KeepRows Here P (rows_of v).0
  unfolding bare_brief_rows bare_eat_rows bare_fill_rows bare_foo_rows bare_inventory_rows
      bare_kill_rows bare_open_rows bare_quit_rows bare_read_rows bare_rows bare_score_rows
      bare_take_rows bear_along_rows blast_rows darkened_rows drink_rows eggs_rows nothing_rows
      off_rows on_rows pour_rows
  bare_kept Verb.Take = search tables parts 60
  bare_kept _ = search tables parts 60 depth 9

  -- what verbs do to an object
  object_kept : (v : Verb) → Keep (first_fitting (rows_of v).1)
  unfolding blast_rows break_rows drink_rows drop_rows eat_rows feed_rows fill_rows find_rows
      kill_rows nothing_rows off_rows darkened_rows on_rows open_rows other_rows pour_rows read_rows
      rub_rows wake_rows wave_rows throw_rows is_dwarf_here
  object_kept Verb.Take d h = taken_kept d h
  object_kept v d h = by_rows (rows_of v).1 (search (tables, killed) parts 60 depth 14 fits 4000) d h

  -- a verb by its own rules
  once_kept : Keep act_once
  unfolding act_bare act_on
  once_kept d h =
      choose (Left (Ready Here P) Spared) (d.about.object == 0) (act_bare d) (act_on d)
      (λ _. by_rows (rows_of d.about.verb).0 (bare_kept d.about.verb) d h)
      (λ _. object_kept d.about.verb d h)

  -- a verb with those that it goes on with
  within_kept : (left : ℕ) → Keep (act_within left)
  unfolding act_within
  within_kept zero d h = once_kept d h
  within_kept (suc left) d h =
      stepped (act_once d) (act_once d).step refl (once_kept d h)
      (λ v x. within_kept left (deed d.cave (going_on d.about v x) (act_once d).scene)
      (once_kept d h).0)
    where
      stepped : (o : Act VerbStep) (step : VerbStep) → o.step ≡ step → Left (Ready Here P) Spared o
          → ((v : Verb) (x : ℕ) → Left (Ready Here P) Spared
          (act_within left (deed d.cave (going_on d.about v x) o.scene)))
          → Left (Ready Here P) Spared (elim step as (λ _. Act VerbStep) [
            | Done next ↦ o
            | GoOn v x ↦ act_within left (deed d.cave (going_on d.about v x) o.scene)
          ])
      stepped o (Done next) is here more = here
      stepped o (GoOn v x) is here more = more v x

  -- what a command says, which doesn't ask whether to come back
  pub acted_kept : (cave : CaveView) (command : Task) (p : Scene) → On (Ready Here P) p.state
      → Left (Ready Here P) Spared (act cave command p)
  unfolding act
  acted_kept cave command p h = within_kept 3 (deed cave command p) h
