-- Steps of a journey by the ways of a place: how it begins, and how a way fails.
use Rattle.std.proofs.Common.{◌≡◌, ℕ, Bool, true, false, List, [], ◌∷◌, refl, sym, ap, ◌∙◌, None}
use Rattle.std.proofs.Common.{Some, inl, inr, arith, ap₂, cond, ◌⊎◌}
use Rattle.std.specs.Prelude.{◌==◌, ◌&&◌, ◌||◌, not, is_some}
use Rattle.std.specs.List.{list_any}
use Rattle.std.proofs.lemmas.Bool.{cases_eq, eq-eqb, false≢true, ne_eqb}
use Rattle.data_rows.specs.Rows.{Going}
use Rattle.data_rows.specs.declared.targets.Condition.{Condition}
use Rattle.data_rows.specs.declared.targets.Destination.{Destination}
use Rattle.cave_world.specs.Motions.{any_motion}
use Rattle.cave_world.specs.declared.state.State.{State}
use Rattle.cave_world.specs.declared.tables.RuleRow.TheVariants.{OfPlace}
use Rattle.cave_world.specs.Travel.{after_condition, after_go, after_trying_row, holds}
use Rattle.cave_world.specs.Travel.{lists_motion, outcome_at, row_condition, row_destination}
use Rattle.cave_world.specs.Travel.{row_outcome}
use Rattle.check_tables.specs.Reach.{begins_journey, ends_journey, ends_there, is_certain}

pub some_same : {A : Type 0} {a b : A} → Some a ≡ Some b → a ≡ b
some_same same = grind (arith, same)

pub or_second : (a b : Bool) → b ≡ true → (a || b) ≡ true
or_second true b is = refl
or_second false b is = is

pub other_way : (m n : ℕ) → (m == n) ≡ false → (n == m) ≡ false
other_way m n other = elim (cases_eq n m) [
  | inl same ↦ absurd (false≢true (sym other ∙ eq-eqb m n (sym same)))
  | inr apart ↦ ne_eqb n m apart
]

pub or_first : (a b : Bool) → a ≡ true → (a || b) ≡ true
or_first true b is = refl
or_first false b is = absurd (false≢true is)

pub neither : {a b : Bool} → a ≡ false → b ≡ false → (a || (b || false)) ≡ false
neither one other = grind (arith, one, other)

pub place_same : {p q m n : ℕ} {a b : Bool} → OfPlace p m a ≡ OfPlace q n b → p ≡ q
place_same same = grind (arith, same)

pub index_same : {p q m n : ℕ} {a b : Bool} → OfPlace p m a ≡ OfPlace q n b → m ≡ n
index_same same = grind (arith, same)

-- ---- a way that fails

abbrev pub ends_by : Condition → Destination → Bool
ends_by c d = is_certain c && ends_there d

-- what is certain holds, and leads somewhere unless it puts the emerald down
fails_by : (c : Condition) (d : Destination) (s : State)
    → cond (holds c s) (outcome_at d) None ≡ None → ends_by c d ≡ false
fails_by (Condition.Chance percent) d s fails = refl
fails_by (Condition.InHands object) d s fails = refl
fails_by (Condition.AtHand object) d s fails = refl
fails_by (Condition.OtherProp object prop) d s fails = refl
fails_by Condition.Always (Destination.Place place) s fails =
    absurd (false≢true (sym (ap is_some fails)))
fails_by Condition.Always (Destination.Special special) s fails =
    absurd (false≢true (sym (ap is_some fails)))
fails_by Condition.Always Destination.NoWay s fails =
    absurd (false≢true (sym (ap is_some fails)))
fails_by Condition.Always (Destination.Message message) s fails =
    absurd (false≢true (sym (ap is_some fails)))
fails_by Condition.Always Destination.PutsEmeraldDown s fails = refl
fails_by Condition.NotForDwarves (Destination.Place place) s fails =
    absurd (false≢true (sym (ap is_some fails)))
fails_by Condition.NotForDwarves (Destination.Special special) s fails =
    absurd (false≢true (sym (ap is_some fails)))
fails_by Condition.NotForDwarves Destination.NoWay s fails =
    absurd (false≢true (sym (ap is_some fails)))
fails_by Condition.NotForDwarves (Destination.Message message) s fails =
    absurd (false≢true (sym (ap is_some fails)))
fails_by Condition.NotForDwarves Destination.PutsEmeraldDown s fails = refl

pub fails : (s : State) (row : Going) → row_outcome s row ≡ None → ends_journey row ≡ false
unfolding row_outcome
fails s row none = fails_by (row_condition row) (row_destination row) s none

went : (emerald : ℕ) (d : Destination) (t : State)
    → (after_go emerald d t).trail.here ≡ t.trail.here
went emerald Destination.PutsEmeraldDown t = refl
went emerald (Destination.Place place) t = refl
went emerald (Destination.Special special) t = refl
went emerald Destination.NoWay t = refl
went emerald (Destination.Message message) t = refl

drew : (c : Condition) (s : State) → (after_condition c s).trail.here ≡ s.trail.here
drew (Condition.Chance percent) s = refl
drew (Condition.InHands object) s = refl
drew (Condition.AtHand object) s = refl
drew (Condition.OtherProp object prop) s = refl
drew Condition.Always s = refl
drew Condition.NotForDwarves s = refl

-- a try leaves the player where the player is
pub stays : (emerald : ℕ) (s : State) (row : Going)
    → (after_trying_row emerald s row).trail.here ≡ s.trail.here
unfolding after_trying_row
stays emerald s row = by (holds (row_condition row) s)
  where
    t : State
    t = after_condition (row_condition row) s

    by : (b : Bool) → (cond b (after_go emerald (row_destination row) t) t).trail.here
        ≡ s.trail.here
    by true = went emerald (row_destination row) t ∙ drew (row_condition row) s
    by false = drew (row_condition row) s

-- ---- how a motion begins

-- a way that doesn't list a motion doesn't list any
unlisted_by : (motion : ℕ) (motions : List ℕ)
    → list_any (λ m. m == motion || m == any_motion) motions ≡ false
    → list_any (λ m. m == any_motion || m == any_motion) motions ≡ false
unlisted_by motion [] none = refl
unlisted_by motion (m ∷ ms) none =
    by (m == motion) (m == any_motion) none (unlisted_by motion ms)
  where
    by : (one any : Bool)
        → ((one || any) || list_any (λ m. m == motion || m == any_motion) ms) ≡ false
        → (list_any (λ m. m == motion || m == any_motion) ms ≡ false
        → list_any (λ m. m == any_motion || m == any_motion) ms ≡ false)
        → ((any || any) || list_any (λ m. m == any_motion || m == any_motion) ms) ≡ false
    by true any none on = absurd (false≢true (sym none))
    by false true none on = absurd (false≢true (sym none))
    by false false none on = on none

any_lists : (motion : ℕ) (ways : List Going) → list_any (lists_motion motion) ways ≡ false
    → list_any (lists_motion any_motion) ways ≡ false
any_lists motion [] none = refl
any_lists motion (way ∷ ways) none =
    by (lists_motion motion way) none (unlisted_by motion way.motions) (any_lists motion ways)
  where
    by : (b : Bool) → (b || list_any (lists_motion motion) ways) ≡ false
        → (b ≡ false → lists_motion any_motion way ≡ false)
        → (list_any (lists_motion motion) ways ≡ false
        → list_any (lists_motion any_motion) ways ≡ false)
        → (lists_motion any_motion way || list_any (lists_motion any_motion) ways) ≡ false
    by true none one on = absurd (false≢true (sym none))
    by false none one on = rw (one refl) (on none)

-- one of the motions that a way lists, which makes it list the motion
begins_by : (motion : ℕ) (before : List Going) (motions : List ℕ)
    → list_any (lists_motion motion) before ≡ false
    → list_any (λ m. m == motion || m == any_motion) motions ≡ true
    → list_any (λ m. not (list_any (lists_motion m) before)) motions ≡ true
begins_by motion before [] none lists = absurd (false≢true lists)
begins_by motion before (m ∷ ms) none lists =
    by (cases_eq m motion) (cases_eq m any_motion) (begins_by motion before ms none)
  where
    starts : list_any (lists_motion m) before ≡ false
        → (not (list_any (lists_motion m) before)
        || list_any (λ m. not (list_any (lists_motion m) before)) ms) ≡ true
    starts is = or_first _ _ (ap not is)

    by : (m ≡ motion) ⊎ ¬ (m ≡ motion) → (m ≡ any_motion) ⊎ ¬ (m ≡ any_motion)
        → (list_any (λ m. m == motion || m == any_motion) ms ≡ true
        → list_any (λ m. not (list_any (lists_motion m) before)) ms ≡ true)
        → (not (list_any (lists_motion m) before)
        || list_any (λ m. not (list_any (lists_motion m) before)) ms) ≡ true
    by (inl same) any on = starts (ap (λ m. list_any (lists_motion m) before) same ∙ none)
    by (inr other) (inl any) on =
        starts (ap (λ m. list_any (lists_motion m) before) any ∙ any_lists motion before none)
    by (inr other) (inr neither) on =
        or_second _ _ (on (sym (ap₂ (λ a b. (a || b)
        || list_any (λ m. m == motion || m == any_motion) ms)
        (ne_eqb m motion other) (ne_eqb m any_motion neither)) ∙ lists))

pub begins : (motion : ℕ) (before : List Going) (way : Going)
    → list_any (lists_motion motion) before ≡ false → lists_motion motion way ≡ true
    → begins_journey before way ≡ true
begins motion before way none lists = begins_by motion before way.motions none lists
