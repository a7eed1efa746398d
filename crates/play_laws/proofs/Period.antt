-- The stream has its whole period: no fewer draws than its size lead back to a number.
use Rattle.std.proofs.Common.{◌≡◌, ℕ, zero, suc, ◌+◌, ◌*◌, ◌/◌, ◌%◌, ◌<◌, ◌≤◌, false, refl, sym, ap}
use Rattle.std.proofs.Common.{◌∙◌, arith, inl, inr, ◌⊎◌, subst, Bool, true, ◌||◌, List, [], ◌∷◌}
use Rattle.std.proofs.Common.{length}
use Rattle.std.proofs.Math.Dec.{eqb}
use Rattle.std.specs.Prelude.{◌==◌}
use Rattle.std.proofs.lemmas.Bool.{eq-eqb, ne_eqb, eqb-true, eqb-false, false≢true, cases_Bool}
use Rattle.std.proofs.lemmas.Bool.{or_cases, true_from_ne_false}
use Rattle.std.proofs.lemmas.Map.Keys.{IsDistinct-cons}
use Rattle.std.proofs.lemmas.Map.Steps.{length-le_from_distinct_below}
use Rattle.std.specs.List.{AllByRecursion, IsDistinct, list_any}
use Rattle.std.proofs.lemmas.Nat.{mod_below}
use Rattle.std.proofs.Math.Nat.{mod-eq_of_lt, mod-add-div, mod-mod, mul-div_cancel_left}
use Rattle.cave_words.specs.Stream.{next}
use Rattle.play_tables.specs.Draws.{draws_within, draws_between}
use Rattle.play_laws.specs.DrawsMade.{after_draws, DrawsAreCounted, CountedDrawsLead}

-- a draw that isn't cut to the size of the stream, and several
abbrev pub uncut : ℕ → ℕ
uncut x = 1093 * x + 221587

abbrev pub uncut_after : ℕ → ℕ → ℕ
uncut_after zero x = x
uncut_after (suc made) x = uncut_after made (uncut x)

after_both : (one other x : ℕ)
    → uncut_after (one + other) x ≡ uncut_after other (uncut_after one x)
after_both zero other x =
    let none : 0 + other ≡ other = omega arith in ap (λ n. uncut_after n x) none
after_both (suc one) other x =
    let both : suc one + other ≡ suc (one + other) = omega arith in
    ap (λ n. uncut_after n x) both ∙ after_both one other (uncut x)

abbrev pub two_to : ℕ → ℕ
two_to zero = 1
two_to (suc k) = 2 * two_to k

-- a power of two of draws add an odd multiple of it
abbrev pub odd_for : ℕ → ℕ → ℕ → ℕ
odd_for u w x = 2 * (2 * u * x + w) + 1

pub record Adds (power : ℕ) : Type 0 where
  pub u : ℕ
  pub w : ℕ
  pub adds : (x : ℕ) → uncut_after power x ≡ x + power * odd_for u w x

-- what is added twice
twice : (p u w x : ℕ)
    → x + p * odd_for u w x + p * odd_for u w (x + p * odd_for u w x)
    ≡ x + 2 * p * odd_for (u + 2 * u * u * p) (w + u * p * (2 * w + 1)) x
twice p u w x = omega arith

adds_twice : (p : ℕ) → Adds p → Adds (2 * p)
adds_twice p one = record {
  u = one.u + 2 * one.u * one.u * p;
  w = one.w + one.u * p * (2 * one.w + 1);
  adds = λ x.
      let both : 2 * p ≡ p + p = omega arith in
      ap (λ n. uncut_after n x) both ∙ after_both p p x ∙ one.adds (uncut_after p x)
      ∙ ap (λ y. y + p * odd_for one.u one.w y) (one.adds x) ∙ twice p one.u one.w x;
}

adds_once : Adds 1
adds_once = record { u = 273; w = 110793; adds = λ x. once x }
  where
    once : (x : ℕ) → 1093 * x + 221587 ≡ x + 1 * odd_for 273 110793 x
    once x = omega arith

adds_power : (k : ℕ) → Adds (two_to k)
adds_power zero = adds_once
adds_power (suc k) = adds_twice (two_to k) (adds_power k)

-- a multiple of such a number of draws adds a multiple of it
adds_multiple : (p : ℕ) → Adds p → (times x : ℕ)
    → (more : ℕ) × (uncut_after (p * times) x ≡ x + p * more)
adds_multiple p one zero x =
    let none : p * 0 ≡ 0 = omega arith in
    let same : x ≡ x + p * 0 = omega arith in
    (0, ap (λ n. uncut_after n x) none ∙ same)
adds_multiple p one (suc times) x =
    let next_times : p * suc times ≡ p + p * times = omega arith in
    let (more, is) = adds_multiple p one times (uncut_after p x) in
    let sum : x + p * odd_for one.u one.w x + p * more ≡ x + p * (odd_for one.u one.w x + more) =
    omega arith in (
      odd_for one.u one.w x + more,
      ap (λ n. uncut_after n x) next_times
          ∙ after_both p (p * times) x ∙ is ∙ ap (λ y. y + p * more) (one.adds x) ∙ sum,
    )

half_or_more : (n : ℕ) → ((half : ℕ) × (n ≡ 2 * half)) ⊎ ((half : ℕ) × (n ≡ 2 * half + 1))
half_or_more zero = inl (0, refl)
half_or_more (suc n) = elim (half_or_more n) [
  | inl even ↦ inr (even.0, omega (arith, even.1))
  | inr odd ↦ inl (odd.0 + 1, omega (arith, odd.1))
]

two_to_some : (k : ℕ) → 0 < two_to k
two_to_some zero = omega arith
two_to_some (suc k) = let less = two_to_some k in omega (arith, less)

-- an odd multiple is no even one
no_parity : (p q v e x : ℕ) → 0 < p
    → x + 2 * p * q + p * (2 * v + 1) ≡ x + 2 * p * e → ⊥
no_parity p q v e x more same =
    let cut : p * (2 * q + 2 * v + 1) ≡ p * (2 * e) = omega (arith, same) in
    let odd : 2 * q + 2 * v + 1 ≡ 2 * e = sym (mul-div_cancel_left (2 * q + 2 * v + 1) more)
    ∙ ap (λ n. n / p) cut ∙ mul-div_cancel_left (2 * e) more in
    omega (arith, odd)

-- draws that add a multiple of a power of two are a multiple of it
adds_back : (k made x more : ℕ) → uncut_after made x ≡ x + two_to k * more
    → (times : ℕ) × (made ≡ two_to k * times)
adds_back zero made x more is = let one : made ≡ 1 * made = omega arith in (made, one)
adds_back (suc k) made x more is =
    let twice_more : two_to (suc k) * more ≡ two_to k * (2 * more) = omega arith in
    let (times, multiple) = adds_back k made x (2 * more) (is ∙ ap (λ n. x + n) twice_more) in
    elim (half_or_more times) [
      | inl even ↦ (even.0, multiple ∙ ap (λ n. two_to k * n) even.1 ∙ again k even.0)
      | inr odd ↦ absurd (no_odd k made x more times odd.0 multiple odd.1 is)
    ]
  where
    again : (k half : ℕ) → two_to k * (2 * half) ≡ two_to (suc k) * half
    again k half = omega arith

    no_odd : (k made x more times half : ℕ) → made ≡ two_to k * times → times ≡ 2 * half + 1
        → uncut_after made x ≡ x + two_to (suc k) * more → ⊥
    no_odd k made x more times half multiple odd is =
        let one = adds_power k in
        let parts : two_to k * (2 * half + 1) ≡ two_to (suc k) * half + two_to k = omega arith in
        let (some, first) = adds_multiple (two_to (suc k)) (adds_power (suc k)) half x in
        let y = uncut_after (two_to (suc k) * half) x in
        no_parity (two_to k) some (2 * one.u * y + one.w) more x (two_to_some k)
        (ap (λ n. n + two_to k * odd_for one.u one.w y) (sym first) ∙ sym (one.adds y)
        ∙ sym (after_both (two_to (suc k) * half) (two_to k) x)
        ∙ ap (λ n. uncut_after n x) (sym parts ∙ ap (λ n. two_to k * n) (sym odd) ∙ sym multiple)
        ∙ is)

-- ---- draws that are cut

next_cut : (x y : ℕ) → x % 1048576 ≡ y % 1048576 → uncut x % 1048576 ≡ uncut y % 1048576
next_cut x y same = cut x ∙ ap (λ n. (1093 * n + 221587) % 1048576) same ∙ sym (cut y)
  where
    cut : (x : ℕ) → (1093 * x + 221587) % 1048576 ≡ (1093 * (x % 1048576) + 221587) % 1048576
    cut x = omega arith

after_cut : (made x y : ℕ) → x % 1048576 ≡ y % 1048576
    → after_draws made x % 1048576 ≡ uncut_after made y % 1048576
after_cut zero x y same = same
after_cut (suc made) x y same =
    after_cut made (next x) (uncut y) (mod-mod (uncut x) 1048576 ∙ next_cut x y same)

after_less : (made x : ℕ) → x < 1048576 → after_draws made x < 1048576
after_less zero x less = less
after_less (suc made) x less = after_less made (next x) (mod_below (uncut x) 1048576 (omega arith))

-- fewer draws than the stream has numbers don't lead back
no_return : (made x : ℕ) → suc made < 1048576 → after_draws (suc made) x ≡ x → ⊥
no_return made x few same =
    let less : x < 1048576 = subst (λ n. n < 1048576) same
    (after_less made (next x) (mod_below (uncut x) 1048576 (omega arith))) in
    let far = uncut_after (suc made) x in
    let rest : far % 1048576 ≡ x = sym (after_cut (suc made) x x refl)
    ∙ ap (λ n. n % 1048576) same ∙ mod-eq_of_lt less in
    let whole : far ≡ x + 1048576 * (far / 1048576) =
    sym (mod-add-div far 1048576) ∙ ap (λ n. n + 1048576 * (far / 1048576)) rest in
    let (times, multiple) = adds_back 20 (suc made) x (far / 1048576) whole in
    elim (half_or_more times) [
      | inl even ↦ omega (arith, even.1, multiple, few)
      | inr odd ↦ omega (arith, odd.1, multiple, few)
    ]

counted_within : (made most x : ℕ) → made < most → most ≤ 1048576
    → draws_within most x (after_draws made x) ≡ made
unfolding draws_within
counted_within made zero x less few = absurd (omega (arith, less))
counted_within zero (suc most) x less few = rw (eq-eqb x x refl) refl
counted_within (suc made) (suc most) x less few =
    let other : (x == after_draws (suc made) x) ≡ false =
    ne_eqb x (after_draws (suc made) x)
    (λ same. no_return made x (omega (arith, less, few)) (sym same)) in
    rw other (ap suc (counted_within made most (next x) (omega (arith, less))
    (omega (arith, few))))

pub draws_counted : DrawsAreCounted
unfolding draws_between
draws_counted made x less = counted_within made 1048576 x less (omega arith)

-- ---- draws that are counted

-- the numbers that this many draws begin at
unfoldable trail : ℕ → ℕ → List ℕ
trail zero x = []
trail (suc n) x = x ∷ trail n (next x)

length_trail : (n x : ℕ) → length (trail n x) ≡ n
unfolding trail
length_trail zero x = refl
length_trail (suc n) x = ap suc (length_trail n (next x))

both_false : (one other : Bool) → (one || other) ≡ false → (one ≡ false) × (other ≡ false)
both_false true other holds = absurd (false≢true (sym holds))
both_false false other holds = (refl, holds)

next_less : (x : ℕ) → next x < 1048576
next_less x = mod_below (uncut x) 1048576 (omega arith)

trail_less : (n x q : ℕ) → x < 1048576 → list_any (eqb q) (trail n x) ≡ true → q < 1048576
unfolding trail
trail_less zero x q less found = absurd (false≢true found)
trail_less (suc n) x q less found =
    elim (or_cases (eqb q x) (list_any (eqb q) (trail n (next x))) found) [
      | inl here ↦ subst (λ k. k < 1048576) (sym (eqb-true q x here)) less
      | inr there ↦ trail_less n (next x) q (next_less x) there
    ]

next_after : (made x : ℕ) → next (after_draws made x) ≡ after_draws made (next x)
next_after zero x = refl
next_after (suc made) x = next_after made (next x)

never_back : (n made x : ℕ) → suc made + n ≤ 1048576
    → AllByRecursion (λ y. eqb x y ≡ false) (trail n (after_draws (suc made) x))
unfolding trail
never_back zero made x few = tt
never_back (suc n) made x few =
    let later = after_draws (suc made) x in (
      ne_eqb x later (λ same. no_return made x (omega (arith, few)) (sym same)),
      subst (λ y. AllByRecursion (λ z. eqb x z ≡ false) (trail n y)) (sym (next_after (suc made) x))
          (never_back n (suc made) x (omega (arith, few))),
    )

all_apart : (n x : ℕ) → n ≤ 1048576 → IsDistinct eqb (trail n x)
unfolding trail IsDistinct
all_apart zero x few = tt
all_apart (suc n) x few =
    (never_back n zero x (omega (arith, few)), all_apart n (next x) (omega (arith, few)))

apart_from_each : (q : ℕ) (xs : List ℕ) → list_any (eqb q) xs ≡ false
    → AllByRecursion (λ y. eqb q y ≡ false) xs
apart_from_each q [] none = tt
apart_from_each q (x ∷ xs) none =
    let parts = both_false (eqb q x) (list_any (eqb q) xs) none in
    (parts.0, apart_from_each q xs parts.1)

-- each number of the stream is on the trail from any of them
on_trail : (n x to : ℕ) → n ≡ 1048576 → x < 1048576 → to < 1048576
    → list_any (eqb to) (trail n x) ≡ true
on_trail n x to all less to_less = true_from_ne_false (list_any (eqb to) (trail n x)) (λ none.
    let many : length (to ∷ trail n x) ≤ 1048576 =
    length-le_from_distinct_below (to ∷ trail n x) 1048576
    (IsDistinct-cons eqb to (trail n x) (apart_from_each to (trail n x) none)
    (all_apart n x (omega (arith, all)))) (λ q found. below q found) in
    omega (arith, many, length_trail n x, all))
  where
    below : (q : ℕ) → list_any (eqb q) (to ∷ trail n x) ≡ true → q < 1048576
    below q found = elim (or_cases (eqb q to) (list_any (eqb q) (trail n x)) found) [
      | inl here ↦ subst (λ k. k < 1048576) (sym (eqb-true q to here)) to_less
      | inr there ↦ trail_less n x q less there
    ]

-- what is on the trail is where the counted draws lead
within_leads : (most x to : ℕ) → list_any (eqb to) (trail most x) ≡ true
    → (after_draws (draws_within most x to) x ≡ to) × (draws_within most x to < most)
unfolding draws_within trail
within_leads zero x to found = absurd (false≢true found)
within_leads (suc most) x to found = elim (cases_Bool (x == to)) [
  | inl same ↦ rw same (eqb-true x to same, omega arith)
  | inr other ↦
      let away : eqb to x ≡ false = ne_eqb to x (λ back. eqb-false x to other (sym back)) in
      let (leads, less) = within_leads most (next x) to (rw away at found) in
      rw other (leads, omega (arith, less))
]

pub counted_lead : CountedDrawsLead
unfolding draws_between
counted_lead from to less to_less =
    let (leads, few) = within_leads 1048576 from to (on_trail 1048576 from to refl less to_less) in
    record { leads = leads; few = few }
