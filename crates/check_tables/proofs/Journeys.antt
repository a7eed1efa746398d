-- A motion tries a way only if it may be taken.
use Rattle.std.proofs.Common.{◌≡◌, ℕ, zero, suc, ◌+◌, Bool, true, false, List, [], ◌∷◌, ◌++◌, refl}
use Rattle.std.proofs.Common.{map, sym, ap, ◌∙◌, Option, None, Some, arith, subst, take}
use Rattle.std.proofs.Common.{append_assoc, append-nil, ap₂, cond}
use Rattle.std.specs.Prelude.{◌==◌, not, is_some, Contains}
use Rattle.std.specs.List.{list_any, slice_get}
use Rattle.std.proofs.lemmas.Bool.{eqb-true, false≢true}
use Rattle.std.proofs.lemmas.List.Folds.{list_any-append}
use Rattle.cave_data.specs.CaveView.{CaveView, ways_from}
use Rattle.data_rows.specs.Rows.{Going}
use Rattle.data_rows.specs.Targets.{condition_of, destination_of}
use Rattle.cave_world.specs.declared.state.State.{State}
use Rattle.cave_world.specs.declared.travel_rows.Outcome.{Outcome}
use Rattle.cave_world.specs.declared.tables.RuleRow.{RuleRow}
use Rattle.cave_world.specs.declared.tables.RuleRow.TheVariants.{OfPlace}
use Rattle.cave_world.specs.Travel.{Try, after_trying_row, count_unlisted, from_listed, holds}
use Rattle.cave_world.specs.Travel.{lists_motion, row_condition, row_outcome, rows_tried_by}
use Rattle.cave_world.specs.Travel.{rows_tried_from, tries, tries_by_rows, try_of}
use Rattle.check_tables.specs.Reach.{begins_journey, comes_to, ends_journey, failed_after}
use Rattle.check_tables.specs.Reach.{failed_from, is_other, may_be_taken}
use Rattle.check_tables.proofs.WaySteps.{begins, ends_by, fails, index_same, neither, or_first}
use Rattle.check_tables.proofs.WaySteps.{or_second, other_way, place_same, some_same, stays}

-- some journey comes to the way that is this many after the first of the ways
abbrev pub comes_at : List Going → Option ℕ → List Going → ℕ → Bool
comes_at before failed [] later = false
comes_at before failed (way ∷ ways) zero = comes_to before failed way
comes_at before failed (way ∷ ways) (suc later) =
    comes_at (before ++ way ∷ []) (failed_after before failed way) ways later

comes_where : (before : List Going) (failed : Option ℕ) (ways : List Going) (later : ℕ)
    (way : Going) → slice_get ways later ≡ Some way → comes_at before failed ways later
    ≡ comes_to (before ++ take later ways) (failed_from before failed (take later ways)) way
comes_where before failed [] later way is = absurd (false≢true (ap is_some is))
comes_where before failed (first ∷ ways) zero way is =
    ap₂ (λ all w. comes_to all failed w) (sym (append-nil before)) (some_same is)
comes_where before failed (first ∷ ways) (suc later) way is =
    comes_where (before ++ first ∷ []) (failed_after before failed first) ways later way is
    ∙ ap (λ all. comes_to all (failed_from (before ++ first ∷ [])
    (failed_after before failed first) (take later ways)) way)
    (append_assoc before (first ∷ []) (take later ways))

-- ---- the rows that are tried

-- the row is the try of a way to which some journey comes, among the ways from a number on
abbrev pub IsComeTo : ℕ → List Going → Option ℕ → ℕ → List Going → RuleRow → Type 0
IsComeTo here before failed number ways row = (later : ℕ) × (applies : Bool)
    × (row ≡ OfPlace here (number + later) applies) × (comes_at before failed ways later ≡ true)

abbrev pub AreComeTo : ℕ → List Going → Option ℕ → ℕ → List Going → List Try → Type 0
AreComeTo here before failed number ways [] = Unit {0}
AreComeTo here before failed number ways (t ∷ ts) =
    IsComeTo here before failed number ways t.row × AreComeTo here before failed number ways ts

come_to : (here : ℕ) (before : List Going) (failed : Option ℕ) (number : ℕ) (ways : List Going)
    (ts : List Try) (row : RuleRow) → AreComeTo here before failed number ways ts
    → Contains (map (λ t. t.row) ts) row → IsComeTo here before failed number ways row
come_to here before failed number ways [] row all (at, less, is) = absurd (omega (arith, less))
come_to here before failed number ways (t ∷ ts) row (one, all) (zero, less, is) =
    subst (IsComeTo here before failed number ways) is one
come_to here before failed number ways (t ∷ ts) row (one, all) (suc at, less, is) =
    come_to here before failed number ways ts row all (at, omega (arith, less), is)

one_later : (here : ℕ) (before : List Going) (failed : Option ℕ) (number : ℕ) (way : Going)
    (ways : List Going) (ts : List Try)
    → AreComeTo here (before ++ way ∷ []) (failed_after before failed way) (number + 1) ways ts
    → AreComeTo here before failed number (way ∷ ways) ts
one_later here before failed number way ways [] all = tt
one_later here before failed number way ways (t ∷ ts) ((later, applies, is, comes), all) = (
  (suc later, applies, is ∙ ap (λ n. OfPlace here n applies) more, comes),
  one_later here before failed number way ways ts all,
)
  where
    more : number + 1 + later ≡ number + suc later
    more = omega arith

failed_there : (before : List Going) (failed : Option ℕ) (way : Going)
    → comes_to before failed way ≡ true → ends_journey way ≡ false
    → failed_after before failed way ≡ Some way.target
failed_there before failed way comes goes =
    ap (λ b. cond b (cond (ends_journey way) None (Some way.target)) failed) comes
    ∙ ap (λ b. cond b None (Some way.target)) goes

-- a way with the target of one that failed leaves that target
failed_again : (before : List Going) (target : ℕ) (way : Going) → way.target ≡ target
    → ends_by (condition_of target) (destination_of target) ≡ false
    → failed_after before (Some target) way ≡ Some target
failed_again before target way same goes =
    by (comes_to before (Some target) way)
    (ap (λ n. ends_by (condition_of n) (destination_of n)) same ∙ goes)
  where
    by : (b : Bool) → ends_journey way ≡ false
        → cond b (cond (ends_journey way) None (Some way.target)) (Some target) ≡ Some target
    by true on = ap (λ b. cond b None (Some way.target)) on ∙ ap Some same
    by false on = refl

module _ (emerald : ℕ) where
  abbrev pub tries_after : State → ℕ → Going → List Going → List Try
  tries_after s number way ways =
      tries emerald (after_trying_row emerald s way) (Some way.target) (number + 1) ways

  abbrev pub tries_on : Option Outcome → State → ℕ → Going → List Going → List Try
  tries_on leads s number way ways = cond (is_some leads) [] (tries_after s number way ways)

  -- a way is tried to which some journey comes, and then those after it
  tried : (s : State) (before : List Going) (failed : Option ℕ) (number : ℕ) (way : Going)
      (ways : List Going) → comes_to before failed way ≡ true
      → (ends_journey way ≡ false
      → AreComeTo (after_trying_row emerald s way).trail.here (before ++ way ∷ [])
      (Some way.target) (number + 1) ways (tries_after s number way ways))
      → AreComeTo s.trail.here before failed number (way ∷ ways)
      (try_of emerald s number way ∷ tries_on (row_outcome s way) s number way ways)
  tried s before failed number way ways comes rest = (
    (
      0,
      holds (row_condition way) s,
      ap (λ n. OfPlace s.trail.here n
          (holds (row_condition way) s)) first,
      comes,
    ),
    by (row_outcome s way) refl,
  )
    where
      first : number ≡ number + 0
      first = omega arith

      by : (leads : Option Outcome) → row_outcome s way ≡ leads
          → AreComeTo s.trail.here before failed number (way ∷ ways)
          (tries_on leads s number way ways)
      by (Some leads) is = tt
      by None is =
          let goes = fails s way is in
          one_later s.trail.here before failed number way ways (tries_after s number way ways)
          (subst (λ f. AreComeTo s.trail.here (before ++ way ∷ []) f (number + 1) ways
          (tries_after s number way ways)) (sym (failed_there before failed way comes goes))
          (subst (λ here. AreComeTo here (before ++ way ∷ []) (Some way.target) (number + 1) ways
          (tries_after s number way ways)) (stays emerald s way) (rest goes)))

  -- a journey that failed at a target, by which it goes on
  running : (s : State) (target : ℕ) (before : List Going) (number : ℕ) (ways : List Going)
      → ends_by (condition_of target) (destination_of target) ≡ false
      → AreComeTo s.trail.here before (Some target) number ways
      (tries emerald s (Some target) number ways)
  running s target before number [] goes = tt
  running s target before number (way ∷ ways) goes =
      by (way.target == target) refl
      (running s target (before ++ way ∷ []) (number + 1) ways goes)
      (λ on. running (after_trying_row emerald s way) way.target (before ++ way ∷ [])
      (number + 1) ways on)
    where
      by : (b : Bool) → (way.target == target) ≡ b
          → AreComeTo s.trail.here (before ++ way ∷ []) (Some target) (number + 1) ways
          (tries emerald s (Some target) (number + 1) ways)
          → (ends_journey way ≡ false
          → AreComeTo (after_trying_row emerald s way).trail.here (before ++ way ∷ [])
          (Some way.target) (number + 1) ways (tries_after s number way ways))
          → AreComeTo s.trail.here before (Some target) number (way ∷ ways)
          (cond b (tries emerald s (Some target) (number + 1) ways)
          (try_of emerald s number way ∷ tries_on (row_outcome s way) s number way ways))
      by true same passing on =
          one_later s.trail.here before (Some target) number way ways
          (tries emerald s (Some target) (number + 1) ways)
          (subst (λ f. AreComeTo s.trail.here (before ++ way ∷ []) f (number + 1) ways
          (tries emerald s (Some target) (number + 1) ways))
          (sym (failed_again before target way (eqb-true way.target target same) goes)) passing)
      by false other passing on =
          tried s before (Some target) number way ways
          (or_second (begins_journey before way) (not (target == way.target))
          (ap not (other_way way.target target other))) on

  -- a motion that no way lists so far
  waiting : (motion : ℕ) (s : State) (before : List Going) (failed : Option ℕ) (number : ℕ)
      (ways : List Going) → list_any (lists_motion motion) before ≡ false
      → AreComeTo s.trail.here before failed number ways
      (tries emerald s None (number + count_unlisted motion ways) (from_listed motion ways))
  waiting motion s before failed number [] none = tt
  waiting motion s before failed number (way ∷ ways) none =
      by (lists_motion motion way) refl
      (λ unlisted. waiting motion s (before ++ way ∷ []) (failed_after before failed way)
      (number + 1) ways (list_any-append (lists_motion motion) before (way ∷ [])
      ∙ neither none unlisted))
    where
      by : (b : Bool) → lists_motion motion way ≡ b
          → (lists_motion motion way ≡ false
          → AreComeTo s.trail.here (before ++ way ∷ []) (failed_after before failed way)
          (number + 1) ways (tries emerald s None (number + 1 + count_unlisted motion ways)
          (from_listed motion ways)))
          → AreComeTo s.trail.here before failed number (way ∷ ways)
          (tries emerald s None (number + cond b 0 (count_unlisted motion ways + 1))
          (cond b (way ∷ ways) (from_listed motion ways)))
      by true lists on =
          let first : number ≡ number + 0 = omega arith in
          subst (λ n. AreComeTo s.trail.here before failed number (way ∷ ways)
          (tries emerald s None n (way ∷ ways))) first
          (tried s before failed number way ways
          (or_first (begins_journey before way) (is_other way.target failed)
          (begins motion before way none lists))
          (λ on. running (after_trying_row emerald s way) way.target (before ++ way ∷ [])
          (number + 1) ways on))
      by false unlisted on =
          let later : number + 1 + count_unlisted motion ways
          ≡ number + (count_unlisted motion ways + 1) = omega arith in
          one_later s.trail.here before failed number way ways
          (tries emerald s None (number + (count_unlisted motion ways + 1))
          (from_listed motion ways))
          (subst (λ n. AreComeTo s.trail.here (before ++ way ∷ []) (failed_after before failed way)
          (number + 1) ways (tries emerald s None n (from_listed motion ways))) later
          (on unlisted))

pub tried_may_be_taken : (cave : CaveView) (emerald motion : ℕ) (s : State) (place index : ℕ)
    (applies : Bool) (way : Going)
    → Contains (rows_tried_from cave emerald motion s) (OfPlace place index applies)
    → slice_get (ways_from cave place) index ≡ Some way
    → may_be_taken (take index (ways_from cave place)) way ≡ true
unfolding rows_tried_from rows_tried_by
tried_may_be_taken cave emerald motion s place index applies way tries_it is =
    let ways = ways_from cave s.trail.here in
    let from : 0 + count_unlisted motion ways ≡ count_unlisted motion ways = omega arith in
    let (later, other, same, comes) = come_to s.trail.here [] None 0 ways
    (tries_by_rows emerald motion s ways) (OfPlace place index applies)
    (subst (λ n. AreComeTo s.trail.here [] None 0 ways
    (tries emerald s None n (from_listed motion ways))) from
    (waiting emerald motion s [] None 0 ways refl)) tries_it in
    let here : s.trail.here ≡ place = sym (place_same same) in
    let at : later ≡ index = omega (arith, index_same same) in
    let there : slice_get ways later ≡ Some way =
    ap (slice_get ways) at ∙ ap (λ p. slice_get (ways_from cave p) index) here ∙ is in
    subst (λ p. may_be_taken (take index (ways_from cave p)) way ≡ true) here
    (subst (λ n. may_be_taken (take n ways) way ≡ true) at
    (sym (comes_where [] None ways later way there) ∙ comes))
