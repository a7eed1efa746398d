-- The places within some ways of a place are those to which walks of at most as many ways lead.
use Rattle.std.proofs.Common.{◌≡◌, ◌≤◌, ℕ, zero, suc, Bool, true, false, cond, List, [], ◌∷◌}
use Rattle.std.proofs.Common.{length, refl, sym, ap, ◌∙◌, arith}
use Rattle.std.specs.Prelude.{◌==◌, ◌&&◌, ◌||◌}
use Rattle.std.specs.List.{filter, list_any}
use Rattle.std.proofs.lemmas.Bool.{eq-eqb, eqb-true, false≢true}
use Rattle.cave_data.specs.CaveView.{CaveView}
use Rattle.map_ways.specs.Ways.{is_way}
use Rattle.map_ways.specs.Regions.{RegionIsWalked, is_led_to, is_one_of, is_walk, is_way_on}
use Rattle.map_ways.specs.Regions.{places_within}
use Rattle.map_ways.proofs.Bools.{and_both, both_and, or_left, or_right}

none_and : (b : Bool) → (b && false) ≡ false
none_and true = refl
none_and false = refl

-- an element of those that pass a test is one of all, and passes it
one_of_filter : (p : ℕ → Bool) (xs : List ℕ) (x : ℕ)
    → is_one_of (filter p xs) x ≡ (is_one_of xs x && p x)
one_of_filter p [] x = refl
one_of_filter p (y ∷ ys) x = by_tests (p y) (y == x) refl refl (one_of_filter p ys x)
  where
    by_tests : (passes same : Bool) → p y ≡ passes → (y == x) ≡ same
        → is_one_of (filter p ys) x ≡ (is_one_of ys x && p x)
        → is_one_of (cond passes (y ∷ filter p ys) (filter p ys)) x
        ≡ ((same || is_one_of ys x) && p x)
    by_tests true true does is rest =
        ap (λ b. b || is_one_of (filter p ys) x) is
        ∙ sym (ap p (sym (eqb-true y x is)) ∙ does)
    by_tests true false does is rest = ap (λ b. b || is_one_of (filter p ys) x) is ∙ rest
    by_tests false false does is rest = rest
    by_tests false true does is rest =
        let fails : p x ≡ false = ap p (sym (eqb-true y x is)) ∙ does in
        rest ∙ ap (λ b. is_one_of ys x && b) fails ∙ none_and (is_one_of ys x) ∙ sym fails

-- some element passes a test, if any does
any_is : (p : ℕ → Bool) (xs : List ℕ) → list_any p xs ≡ true
    → (x : ℕ) × ((is_one_of xs x ≡ true) × (p x ≡ true))
any_is p [] any = absurd (false≢true any)
any_is p (y ∷ ys) any = by_test (p y) refl any (λ found. any_is p ys found)
  where
    by_test : (b : Bool) → p y ≡ b → (b || list_any p ys) ≡ true
        → (list_any p ys ≡ true → (x : ℕ) × ((is_one_of ys x ≡ true) × (p x ≡ true)))
        → (x : ℕ) × ((is_one_of (y ∷ ys) x ≡ true) × (p x ≡ true))
    by_test true does found rest =
        (y, (or_left (y == y) (is_one_of ys y) (eq-eqb y y refl), does))
    by_test false fails found rest =
        let (x, (among, does)) = rest found in
        (x, (or_right (y == x) (is_one_of ys x) among, does))

is_any : (p : ℕ → Bool) (xs : List ℕ) (x : ℕ) → is_one_of xs x ≡ true → p x ≡ true
    → list_any p xs ≡ true
is_any p [] x among does = among
is_any p (y ∷ ys) x among does = by_test (y == x) refl among (λ found. is_any p ys x found does)
  where
    by_test : (b : Bool) → (y == x) ≡ b → (b || is_one_of ys x) ≡ true
        → (is_one_of ys x ≡ true → list_any p ys ≡ true)
        → (p y || list_any p ys) ≡ true
    by_test true same found rest = or_left (p y) (list_any p ys) (ap p (eqb-true y x same) ∙ does)
    by_test false other found rest = or_right (p y) (list_any p ys) (rest found)

module _ (cave : CaveView) (mapped : List ℕ) (from : ℕ) where
  abbrev within : ℕ → List ℕ
  within ways = places_within cave mapped from ways

  next : (ways to : ℕ)
      → is_one_of (within (suc ways)) to ≡ (is_one_of mapped to && is_way_on cave (within ways) to)
  next ways to = one_of_filter (is_way_on cave (within ways)) mapped to

  walked : (ways to : ℕ) → is_one_of (within ways) to ≡ true
      → (passed : List ℕ) × ((length passed ≤ ways) × (is_walk cave mapped from passed to ≡ true))
  walked zero to is =
      ([], (omega arith, sym (one_of_filter (λ place. place == from) mapped to) ∙ is))
  walked (suc ways) to is =
      let (known, on) = and_both (is_one_of mapped to) (is_way_on cave (within ways) to)
      (sym (next ways to) ∙ is) in
      by_test (is_one_of (within ways) to) refl known on (λ place. walked ways place)
    where
      by_test : (b : Bool) → is_one_of (within ways) to ≡ b → is_one_of mapped to ≡ true
          → (b || is_led_to cave (within ways) to) ≡ true
          → ((place : ℕ) → is_one_of (within ways) place ≡ true
          → (passed : List ℕ)
          × ((length passed ≤ ways) × (is_walk cave mapped from passed place ≡ true)))
          → (passed : List ℕ)
          × ((length passed ≤ suc ways) × (is_walk cave mapped from passed to ≡ true))
      by_test true is known on before =
          let (passed, (few, walk)) = before to is in
          (passed, (omega (arith, few), walk))
      by_test false is known on before =
          let (last, (among, leads)) = any_is (λ last. is_way cave last to) (within ways) on in
          let (passed, (few, walk)) = before last among in (
            last ∷ passed,
            (
              omega (arith, few),
              both_and (is_one_of mapped to)
                  (is_way cave last to && is_walk cave mapped from passed last) known
                  (both_and (is_way cave last to) (is_walk cave mapped from passed last) leads
                  walk),
            ),
          )

  there : (ways : ℕ) (passed : List ℕ) (to : ℕ) → length passed ≤ ways
      → is_walk cave mapped from passed to ≡ true → is_one_of (within ways) to ≡ true
  there zero [] to few walk = one_of_filter (λ place. place == from) mapped to ∙ walk
  there zero (last ∷ passed) to few walk = absurd (omega (arith, few))
  there (suc ways) [] to few walk =
      let known = (and_both (is_one_of mapped to) (to == from) walk).0 in
      let before = there ways [] to (omega arith) walk in
      next ways to
      ∙ both_and (is_one_of mapped to) (is_way_on cave (within ways) to) known
      (or_left (is_one_of (within ways) to) (is_led_to cave (within ways) to) before)
  there (suc ways) (last ∷ passed) to few walk =
      let (known, more) = and_both (is_one_of mapped to)
      (is_way cave last to && is_walk cave mapped from passed last) walk in
      let (leads, rest) = and_both (is_way cave last to) (is_walk cave mapped from passed last)
      more in
      let before = there ways passed last (omega (arith, few)) rest in
      next ways to
      ∙ both_and (is_one_of mapped to) (is_way_on cave (within ways) to) known
      (or_right (is_one_of (within ways) to) (is_led_to cave (within ways) to)
      (is_any (λ last. is_way cave last to) (within ways) last before leads))

pub region_is_walked : RegionIsWalked
region_is_walked cave mapped from ways to =
    (walked cave mapped from ways to, λ passed. there cave mapped from ways passed to)
