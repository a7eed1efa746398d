-- A class is reached if the greatest score up to its bound belongs to it.
use Rattle.std.proofs.Common.{◌≡◌, ℕ, zero, suc, ◌+◌, ◌<◌, ◌≤◌, min, Bool, cond, true, false, leb}
use Rattle.std.proofs.Common.{List, [], ◌∷◌, length, get_or, Option, Some, refl, sym, ap, ap₂, ◌∙◌}
use Rattle.std.proofs.Common.{arith}
use Rattle.std.specs.Prelude.{◌||◌}
use Rattle.std.specs.List.{list_any, range_with_len}
use Rattle.std.proofs.lemmas.Bool.{leb-true, leb-false, eqb-true, false≢true}
use Rattle.std.proofs.lemmas.List.Folds.{list_any_at}
use Rattle.std.proofs.lemmas.List.FromFn.{length-range_with_len, get_or-range_with_len}
use Rattle.cave_data.specs.CaveView.{CaveView, ClassEntry, Rated, rating_at_row, class_from}
use Rattle.cave_data.specs.CaveView.{class_of}
use Rattle.turn_ends.specs.Score.{max_score_of}
use Rattle.play_cover.specs.Texts.{has_bound, is_class_reached}

-- a test that holds of no number below an end holds of none of a range that ends there
any_none : (p : ℕ → Bool) (end first count : ℕ) → ((n : ℕ) → n < end → p n ≡ false)
    → first + count ≤ end → list_any p (range_with_len first count) ≡ false
any_none p end first zero none within = refl
any_none p end first (suc count) none within =
    ap₂ (λ a b. a || b) (none first (omega arith))
    (any_none p end (first + 1) count none (omega arith))

any_at : (p : ℕ → Bool) (count n : ℕ) → n < count → p n ≡ true
    → list_any p (range_with_len 0 count) ≡ true
any_at p count n within holds =
    let inside : n < length (range_with_len 0 count) =
    rw (length-range_with_len 0 count) within in
    let there : get_or (range_with_len 0 count) n 0 ≡ n =
    get_or-range_with_len 0 count n 0 within ∙ omega arith in
    list_any_at p (range_with_len 0 count) n 0 inside (ap p there ∙ holds)

-- a score that belongs to a class with a bound is up to it
bounded : (row score bound : ℕ) (classes : List ClassEntry)
    → has_bound (class_from row score classes) bound ≡ true → score ≤ bound
bounded row score bound [] has = absurd (false≢true has)
bounded row score bound (class ∷ classes) has =
    here (leb score class.bound) refl (class_from (row + 1) score classes)
    (bounded (row + 1) score bound classes) has
  where
    here : (b : Bool) → leb score class.bound ≡ b → (next : Option Rated)
        → (has_bound next bound ≡ true → score ≤ bound)
        → has_bound (cond b (Some (rating_at_row row class classes)) next) bound ≡ true
        → score ≤ bound
    here true e next later has =
        omega (arith, leb-true score class.bound e, eqb-true class.bound bound has)
    here false e next later has = later has

-- so does any greater one up to the bound
greater : (row score more bound : ℕ) (classes : List ClassEntry) → score ≤ more → more ≤ bound
    → has_bound (class_from row score classes) bound ≡ true
    → has_bound (class_from row more classes) bound ≡ true
greater row score more bound [] up within has = has
greater row score more bound (class ∷ classes) up within has =
    here (leb score class.bound) (leb more class.bound) refl refl
    (class_from (row + 1) score classes) (class_from (row + 1) more classes)
    (greater (row + 1) score more bound classes up within) has
  where
    here : (b c : Bool) → leb score class.bound ≡ b → leb more class.bound ≡ c
        → (next other : Option Rated)
        → (has_bound next bound ≡ true → has_bound other bound ≡ true)
        → has_bound (cond b (Some (rating_at_row row class classes)) next) bound ≡ true
        → has_bound (cond c (Some (rating_at_row row class classes)) other) bound ≡ true
    here true true e f next other later has = has
    here true false e f next other later has =
        absurd (omega (arith, eqb-true class.bound bound has, leb-false more class.bound f))
    here false true e f next other later has =
        absurd (omega (arith, leb-false score class.bound e, leb-true more class.bound f))
    here false false e f next other later has = later has

pub reached : (cave : CaveView) (bound : ℕ)
    → is_class_reached cave bound ≡ has_bound (class_of cave (min bound (max_score_of cave))) bound
unfolding is_class_reached
reached cave bound = go (belongs (min bound most)) refl
  where
    most : ℕ
    most = max_score_of cave

    belongs : ℕ → Bool
    belongs score = has_bound (class_of cave score) bound

    go : (b : Bool) → belongs (min bound most) ≡ b
        → list_any belongs (range_with_len 0 (most + 1)) ≡ belongs (min bound most)
    go true holds =
        any_at belongs (most + 1) (min bound most) (omega arith) holds ∙ sym holds
    go false fails =
        any_none belongs (most + 1) 0 (most + 1) (λ n below. none n below (belongs n) refl)
        (omega arith)
        ∙ sym fails
      where
        none : (n : ℕ) → n < most + 1 → (b : Bool) → belongs n ≡ b → b ≡ false
        none n below false e = refl
        none n below true e =
            let up : n ≤ min bound most =
            omega (arith, bounded 1 n bound cave.classes e) in
            sym (greater 1 n (min bound most) bound cave.classes up (omega arith) e) ∙ fails

pub ruleset reaching = reached
