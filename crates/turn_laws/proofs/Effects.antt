-- What rows do to a claim, by what their effects do to it, if what happens while the player stays
-- keeps the claim.
use Rattle.std.proofs.Common.{Bool, List, [], arith, false, inl, inr, pos, refl, subst, suc, sym}
use Rattle.std.proofs.Common.{true, zero, ℕ, ℤ, ◌+◌, ◌∷◌, ◌≡◌, ◌≤◌, ◌⊎◌}
use Rattle.std.proofs.lemmas.Int.{ints}
use Rattle.std.specs.Int.{int_min}
use Rattle.std.specs.Prelude.{if◌then◌else◌, None, Option, Some, min, slice_set, ◌&&◌, ◌+ℤ◌}
use Rattle.cave_data.specs.CaveView.{CaveView}
use Rattle.cave_world.specs.Limits.{MAX_LAMP_TURNS}
use Rattle.cave_world.specs.declared.closing.Closing.{Closing}
use Rattle.cave_world.specs.declared.dwarves.Dwarf.{Dwarf}
use Rattle.cave_world.specs.declared.ending.Ending.{Ending}
use Rattle.cave_world.specs.declared.ending.Question.{Question}
use Rattle.cave_world.specs.declared.state.State.{State}
use Rattle.cave_world.specs.declared.state.Tallies.{Tallies}
use Rattle.turn_scene.specs.Rows.{Row, Test, act_of_row, after_trying_by, fits_by, Act, Deed}
use Rattle.turn_scene.specs.Rows.{after_drawing, all_hold, by_rows, by_table, deed}
use Rattle.turn_scene.specs.Rows.{first_fitting_or, noted, nothing_but}
use Rattle.turn_scene.specs.Scene.{Scene, after_look_at}
use Rattle.world_objects.specs.Objects.{after_juggle, after_move_to, with_anchor, with_prop, Layout}
use Rattle.world_objects.specs.declared.spot.Anchor.{Anchor}
use Rattle.turn_scene.specs.Effects.{after_sending, for_each_down_from, for_each_from}
use Rattle.cave_world.specs.declared.tables.Table.TheVariants as table
use Rattle.turn_scene.specs.SharedRules.{after_loss_to_snake, loss_to_snake_rows, after_panic}
use Rattle.turn_scene.specs.SharedRules.{panic_rows, after_lay_down, after_put, caged_bird_rows}
use Rattle.turn_scene.specs.SharedRules.{free_bird_rows, lay_down_rows, put_down, vessel}
use Rattle.turn_scene.specs.SharedRules.{after_troll, troll_leaves}
use Rattle.cave_verbs.specs.Effects.{after_default}
use Rattle.turn_laws.proofs.Counted.{angrier}
use Rattle.turn_laws.proofs.View.{Band, Bands, Change, Claim, Hints, Hold, IsBandAfter}
use Rattle.turn_laws.proofs.View.{IsChargeAfter, IsKept, IsMoved, Juggle, Line, Loses, Moves, On}
use Rattle.turn_laws.proofs.View.{Panics, Pays, Place, Prop, Ready, Somewhere, View, after_change}
use Rattle.turn_laws.proofs.View.{choose, view}

-- what holds before something is done for numbers, one after another, holds after it, if it does
-- for each
pub each_kept : {S : Type 0} (Q : S → Type 0) (first n : ℕ) (what : ℕ → S → S)
    → ((x : ℕ) (s : S) → Q s → Q (what x s)) → (s : S) → Q s → Q (for_each_from first n what s)
unfolding for_each_from
each_kept Q first zero what one s h = h
each_kept Q first (suc n) what one s h = one (first + n) _ (each_kept Q first n what one s h)

pub each_kept_down : {S : Type 0} (Q : S → Type 0) (n : ℕ) (what : ℕ → S → S)
    → ((x : ℕ) (s : S) → Q s → Q (what x s)) → (s : S) → Q s → Q (for_each_down_from n what s)
unfolding for_each_down_from
each_kept_down Q zero what one s h = h
each_kept_down Q (suc n) what one s h =
    each_kept_down Q n what one (what (suc n) s) (one (suc n) s h)

-- a claim holds after an act, and what follows is of some kind
abbrev pub Left : {F : Type 0} → Claim → (F → Type 0) → Act F → Type 0
Left P Next a = On P a.scene.state × Next a.step

-- what holds of a deed after a draw decides that a row fits, or doesn't, or if there is no draw
abbrev pub Drawn : {C : Type 0} → Option (Test C) → Deed C → (Deed C → Type 0)
    → (Deed C → Type 0) → Type 0
Drawn None d Fit Unfit = Fit d
Drawn (Some draw) d Fit Unfit =
    (draw d ≡ true → Fit (after_drawing d)) × (draw d ≡ false → Unfit (after_drawing d))

-- the same if the row has tests before
abbrev pub Tried : {C : Type 0} → List (Test C) → Option (Test C) → Deed C → (Deed C → Type 0)
    → (Deed C → Type 0) → Type 0
Tried [] draw d Fit Unfit = Drawn draw d Fit Unfit
Tried (test ∷ tests) draw d Fit Unfit =
    (all_hold (test ∷ tests) d ≡ true → Drawn draw d Fit Unfit)
    × (all_hold (test ∷ tests) d ≡ false → Unfit d)

tried : {C F : Type 0} (Q : Act F → Type 0) (Unfit : Deed C → Type 0) (f g : Deed C → Act F)
    → ((e : Deed C) → Unfit e → Q (g e)) → (tests : List (Test C)) (draw : Option (Test C))
    (d : Deed C)
    → Tried tests draw d (λ e. Q (f e)) Unfit
    → (let e = after_trying_by tests draw d in Q (if fits_by tests draw d then f e else g e))
tried Q Unfit f g other [] None d each = each
tried Q Unfit f g other [] (Some draw) d each =
    choose Q (draw d) _ _ each.0 (λ unfit. other _ (each.1 unfit))
tried Q Unfit f g other (test ∷ tests) None d each =
    choose Q (all_hold (test ∷ tests) d) _ _ each.0 (λ unfit. other d (each.1 unfit))
tried Q Unfit f g other (test ∷ tests) (Some draw) d each =
    by_tests (all_hold (test ∷ tests) d)
    (λ all. choose Q (draw d) _ _ (each.0 all).0 (λ unfit. other _ ((each.0 all).1 unfit)))
    (λ some. other d (each.1 some))
  where
    by_tests : (b : Bool)
        → (b ≡ true → Q (if draw d then f (after_drawing d) else g (after_drawing d)))
        → (b ≡ false → Q (g d))
        → (let e = if b then after_drawing d else d in Q (if b && draw d then f e else g e))
    by_tests true all some = all refl
    by_tests false all some = some refl

-- from one claim the effects of rows that fit lead to another, and to what follows of some kind
abbrev pub LeadRows : {C F : Type 0} → Claim → Claim → (F → Type 0) → List (Row C F) → Type 0
LeadRows Q P Next [] = Unit {0}
LeadRows {C} Q P Next (r ∷ rows) =
    ((d : Deed C) → On Q d.scene.state
    → Tried r.tests r.draw d (λ e. Left P Next (act_of_row r e)) (λ e. On Q e.scene.state))
    × LeadRows Q P Next rows

-- from one claim an act leads to another
abbrev pub Leads : {C F : Type 0} → Claim → Claim → (F → Type 0) → (Deed C → Act F) → Type 0
Leads {C} Q P Next f = (d : Deed C) → On Q d.scene.state → Left P Next (f d)

-- anything may follow
abbrev pub Any : {F : Type 0} → F → Type 0
Any step = Unit {0}

-- the first row that fits, or what is done if none does
pub first_leads : {C F : Type 0} (Q P : Claim) (Next : F → Type 0) (rows : List (Row C F))
    (f : Deed C → Act F) → LeadRows Q P Next rows → Leads Q P Next f
    → Leads Q P Next (first_fitting_or rows f)
first_leads Q P Next [] f k other d h = other d h
first_leads Q P Next (r ∷ rows) f k other d h =
    tried (Left P Next) (λ e. On Q e.scene.state) (act_of_row r) (first_fitting_or rows f)
    (λ e g. first_leads Q P Next rows f k.1 other e g) r.tests r.draw d (k.0 d h)

-- a table after which a claim still holds, and anything may follow
pub kept_by : {C F : Type 0} (P : Claim) (rows : List (Row C F)) (end : Deed C → F)
    → LeadRows P P Any rows → (d : Deed C) → On P d.scene.state
    → On P (first_fitting_or rows (nothing_but end) d).scene.state
kept_by P rows end k d h = (first_leads P P Any rows (nothing_but end) k (λ e g. (g, tt)) d h).0

-- the same of a table of effects
pub quiet : {C : Type 0} (P : Claim) (rows : List (Row C (Unit {0}))) → LeadRows P P Any rows
    → (d : Deed C) → On P d.scene.state → On P (by_rows rows d).scene.state
quiet P rows k d h = kept_by P rows (λ e. tt) k d h

-- it holds of each row if that fits and none before it does, and of what is done if none fits
abbrev pub Guarded : {C F : Type 0} → (Act F → Type 0) → (Deed C → Act F) → Deed C
    → List (Row C F) → Type 0
Guarded Q otherwise d [] = Q (otherwise d)
Guarded Q otherwise d (r ∷ rows) =
    Tried r.tests r.draw d (λ e. Q (act_of_row r e)) (λ e. Guarded Q otherwise e rows)

pub guarded : {C F : Type 0} (Q : Act F → Type 0) (otherwise : Deed C → Act F) (d : Deed C)
    (rows : List (Row C F)) → Guarded Q otherwise d rows → Q (first_fitting_or rows otherwise d)
guarded Q otherwise d [] each = each
guarded Q otherwise d (r ∷ rows) each =
    tried Q (λ e. Guarded Q otherwise e rows) (act_of_row r) (first_fitting_or rows otherwise)
    (λ e other. guarded Q otherwise e rows other) r.tests r.draw d each

-- the same of a table of effects, and a claim
pub by_guarded : {C : Type 0} (P : Claim) (d : Deed C) (rows : List (Row C (Unit {0})))
    → Guarded (λ a. On P a.scene.state) (nothing_but (λ e. tt)) d rows
    → On P (by_rows rows d).scene.state
by_guarded P d rows each = guarded (λ a. On P a.scene.state) (nothing_but (λ e. tt)) d rows each

-- a test that is the only one of a row holds, or fails, as the row does
pub holds_alone : (a : Bool) → (a && true) ≡ true → a ≡ true
holds_alone a h = grind (arith, h)

pub fails_alone : (a : Bool) → (a && true) ≡ false → a ≡ false
fails_alone a h = grind (arith, h)

-- the first of two tests that hold holds, and so does the second
pub first_holds : (a b : Bool) → (a && b) ≡ true → a ≡ true
first_holds a b h = grind (arith, h)

pub second_holds : (a b : Bool) → (a && b) ≡ true → b ≡ true
second_holds a b h = grind (arith, h)

-- by these a search finds one of several tests that hold together
pub ruleset tests = (first_holds, second_holds)

-- objects change one after another
abbrev pub after_changes : List Change → Layout → Layout
after_changes [] o = o
after_changes (c ∷ cs) o = after_changes cs (after_change c o)

pub moved_all : (P : Claim) → IsMoved P → (cs : List Change) (v : View) → P v
    → P (record v { objects = after_changes cs v.objects })
moved_all P moves [] v h = h
moved_all P moves (c ∷ cs) v h =
    moved_all P moves cs (record v { objects = after_change c v.objects }) (moves v c h)

-- more turns of the lamp, up to the most
pub more_charge : (b : ℤ) (n : ℕ) → IsChargeAfter b (int_min (b +ℤ pos n) (pos MAX_LAMP_TURNS))
more_charge b n = record { least = grind (arith, ints); most = grind (arith, ints) }

-- what laws speak of, as a search finds it: by each part
abbrev tallied : ℕ → ℕ → ℕ → Tallies
tallied u l d = record { unseen = u; lost = l; deaths = d }

abbrev pub banded_as : ℕ → ℕ → List Dwarf → Band
banded_as g m w = record { anger = g; kills = m; each = w }

abbrev pub shown : ℕ → Layout → ℤ → Closing → Tallies → Band → List Bool → Option Question
    → Option Ending → View
shown n o q c t b h a e =
    record {
      here = n;
      objects = o;
      charge = q;
      closing = c;
      tallies = t;
      band = b;
      hints = h;
      question = a;
      ending = e;
    }

-- what holds with each clock that panic may leave, and if nothing changes, holds after panic
pub panicked : (R : State → Type 0) (cave : CaveView) (p : Scene) → R p.state
    → ((n : ℤ) → (n ≡ p.state.closing.second_clock) ⊎ (n ≡ pos 15)
    → R (record (p.state) {
      closing = record (p.state.closing) { second_clock = n; is_panicking = true };
    }))
    → R (after_panic cave p).state
unfolding after_panic panic_rows
panicked R cave p here each =
    guarded (λ (a : Act (Unit {0})). R a.scene.state) (nothing_but (λ e. tt)) (deed cave tt p)
    (noted table.Panic panic_rows) (
      (λ _. here),
      (λ _. (
        (λ _. each p.state.closing.second_clock (inl refl)),
        (λ _. each (pos 15) (inr refl)),
      )),
    )

-- what is put down for an object changes nothing
vessel_same : (d : Deed ℕ) → (vessel d).scene.state ≡ d.scene.state
unfolding vessel
vessel_same d = grind arith

module _ {game : CaveView} {l : Line} {Q P : Claim} {Other : ℕ → Type 0} (k : IsKept game l Q P)
  where
    pub moved : (v : View) (c : Change) → Ready Other P v
        → Ready Other P (record v { objects = after_change c v.objects })
    moved v c r = record { holds = k.keeps (Moves c) v tt r.holds; calm = r.calm; at = r.at }

    module _ {n : ℕ} {o : Layout} {q : ℤ} {c : Closing} {t : Tallies} {b : Band} {h : List Bool}
        {a : Option Question} {e : Option Ending} where
      pub placed : (x p : ℕ) → Ready Other P (shown n o q c t b h a e)
          → Ready Other P (shown n (after_move_to o x p) q c t b h a e)
      placed x p r = moved (shown n o q c t b h a e) (Place x p) r

      pub held : (x : ℕ) (w : Anchor) → Ready Other P (shown n o q c t b h a e)
          → Ready Other P (shown n (with_anchor o x w) q c t b h a e)
      held x w r = moved (shown n o q c t b h a e) (Hold x w) r

      pub propped : (x : ℕ) (w : ℤ) → Ready Other P (shown n o q c t b h a e)
          → Ready Other P (shown n (with_prop o x w) q c t b h a e)
      propped x w r = moved (shown n o q c t b h a e) (Prop x w) r

      pub juggled : (x : ℕ) → Ready Other P (shown n o q c t b h a e)
          → Ready Other P (shown n (after_juggle o x) q c t b h a e)
      juggled x r = moved (shown n o q c t b h a e) (Juggle x) r

      pub hinted : (i : ℕ) → Ready Other P (shown n o q c t b h a e)
          → Ready Other P (shown n o q c t b (slice_set h i true) a e)
      hinted i r = record { holds = k.keeps (Hints i) _ tt r.holds; calm = r.calm; at = r.at }

      pub paid_by : (m : ℕ) → l.is_paid ≡ true → Ready Other P (shown n o q c t b h a e)
          → Ready Other P (shown n o (int_min (q +ℤ pos m) (pos MAX_LAMP_TURNS)) c t b h a e)
      paid_by m paid r =
          let more = k.keeps (Pays _) _ (paid, more_charge q m) r.holds in
          record { holds = more; calm = r.calm; at = r.at }

    pub lost : {n : ℕ} {o : Layout} {q : ℤ} {c : Closing} {u s d : ℕ} {b : Band} {h : List Bool}
        {a : Option Question} {e : Option Ending}
        → Ready Other P (shown n o q c (tallied u s d) b h a e)
        → Ready Other P (shown n o q c (tallied u (min (s + 1) 60000) d) b h a e)
    lost r = record { holds = k.keeps Loses _ tt r.holds; calm = r.calm; at = r.at }

    -- one of two states, deeds, scenes or acts
    pub state_chosen : (b : Bool) (s t : State) → On (Ready Other P) s → On (Ready Other P) t
        → On (Ready Other P) (if b then s else t)
    state_chosen b s t h g = choose (On (Ready Other P)) b s t (λ _. h) (λ _. g)

    pub scene_chosen : (b : Bool) (p q : Scene) → On (Ready Other P) p.state
        → On (Ready Other P) q.state → On (Ready Other P) (if b then p else q).state
    scene_chosen b p q h g =
        choose (λ (one : Scene). On (Ready Other P) one.state) b p q (λ _. h) (λ _. g)

    pub deed_chosen : {C : Type 0} (b : Bool) (d e : Deed C) → On (Ready Other P) d.scene.state
        → On (Ready Other P) e.scene.state → On (Ready Other P) (if b then d else e).scene.state
    deed_chosen b d e h g =
        choose (λ (one : Deed _). On (Ready Other P) one.scene.state) b d e (λ _. h) (λ _. g)

    pub act_chosen : {F : Type 0} (b : Bool) (a c : Act F) → On (Ready Other P) a.scene.state
        → On (Ready Other P) c.scene.state → On (Ready Other P) (if b then a else c).scene.state
    act_chosen b a c h g =
        choose (λ (one : Act _). On (Ready Other P) one.scene.state) b a c (λ _. h) (λ _. g)

    pub panic : (cave : CaveView) (p : Scene) → On (Ready Other P) p.state
        → On (Ready Other P) (after_panic cave p).state
    panic cave p h =
        panicked (On (Ready Other P)) cave p h (λ n how.
        record { holds = k.keeps (Panics n) (view p.state) how h.holds; calm = h.calm; at = h.at })

    pub sent : (x : ℕ) (o : Option ℕ) (s : State) → On (Ready Other P) s
        → On (Ready Other P) (after_sending x o s)
    sent x None s h = h
    sent x (Some p) s h = placed x p h

    pub say_default : (cave : CaveView) (number : ℕ) (p : Scene) → On (Ready Other P) p.state
        → On (Ready Other P) (after_default cave number p).state
    say_default cave number p h = search scene_chosen

    pub look : (x : ℕ) (w : ℤ) (p : Scene) → On (Ready Other P) p.state
        → On (Ready Other P) (after_look_at x w p).state
    look x w p h = search scene_chosen

module _ {game : CaveView} {l : Line} {Q P : Claim} (k : IsKept game l Q P) where
  pub banded : (v : View) (w : Band) → IsBandAfter v.here v.band w → Ready (Somewhere l) P v
      → Ready (Somewhere l) P (record v { band = w })
  banded v w after r =
      record { holds = k.keeps (Bands w) v (r.at, after) r.holds; calm = r.calm; at = r.at }

  pub angered : {n : ℕ} {o : Layout} {q : ℤ} {c : Closing} {t : Tallies} {h : List Bool}
      {a : Option Question} {e : Option Ending} (g m : ℕ) (w : List Dwarf)
      → Ready (Somewhere l) P (shown n o q c t (banded_as g m w) h a e)
      → Ready (Somewhere l) P (shown n o q c t (banded_as (min (g + 1) 13) m w) h a e)
  angered {n = n} g m w r =
      let more : min g 13 ≤ min (g + 1) 13 = omega arith in
      banded _ _ (angrier n (banded_as g m w) (min (g + 1) 13) more) r

-- what a search uses: changes, what is chosen or only said, and what follows from both
pub ruleset changes_made = (placed, held, propped, juggled, hinted, lost, angered)

pub ruleset choices = (state_chosen, deed_chosen, scene_chosen, act_chosen, say_default, look)

ruleset plain_effects = (changes_made, choices)

-- what rules that have their own rows do
module _ {game : CaveView} {l : Line} {Q P : Claim} {Other : ℕ → Type 0} (k : IsKept game l Q P)
  where
    pub put : (cave : CaveView) (x : ℕ) (p : Scene) → On (Ready Other P) p.state
        → On (Ready Other P) (after_put cave x p).state
    unfolding after_put put_down caged_bird_rows free_bird_rows
    put cave x p h =
        let y = vessel (deed cave x p) in let d = deed cave y.step y.scene in
        let one = subst (On (Ready Other P)) (sym (vessel_same (deed cave x p))) h in
        let caged = quiet (Ready Other P) (noted table.CagedBird caged_bird_rows)
        (search plain_effects parts 20) d one in
        let free = quiet (Ready Other P) (noted table.FreeBird free_bird_rows)
        (search plain_effects parts 20) (by_table table.CagedBird caged_bird_rows d) caged in
        moved k _ (Place y.step _) free

    pub laid_down : (cave : CaveView) (x : ℕ) (p : Scene) → On (Ready Other P) p.state
        → On (Ready Other P) (after_lay_down cave x p).state
    unfolding after_lay_down lay_down_rows
    laid_down cave x p h =
        quiet (Ready Other P) (noted table.LayDown lay_down_rows) (search plain_effects parts 20)
        (deed cave x p) h

    pub troll_gone : (cave : CaveView) (p : Scene) → On (Ready Other P) p.state
        → On (Ready Other P) (after_troll cave p).state
    unfolding after_troll troll_leaves
    troll_gone cave p h = search plain_effects

    pub lost_to_snake : (cave : CaveView) (p : Scene) → On (Ready Other P) p.state
        → On (Ready Other P) (after_loss_to_snake cave p).state
    unfolding after_loss_to_snake loss_to_snake_rows
    lost_to_snake cave p h =
        quiet (Ready Other P) (noted table.SnakeLoss loss_to_snake_rows) (search plain_effects parts 20)
        (deed cave tt p) h

pub ruleset effects =
    (changes_made, choices, panic, sent, put, laid_down, troll_gone, lost_to_snake)
