-- Numbers of objects without a repetition, and what is set for each.
use Rattle.std.proofs.Common.{◌≡◌, ◌⊎◌, inl, inr, ℕ, zero, suc, ◌+◌, ◌-◌, ◌<◌, ◌≤◌, ◌||◌, ◌&&◌}
use Rattle.std.proofs.Common.{Bool, true, false, cond, eqb, leb, ltb, List, [], ◌∷◌, ◌++◌, length}
use Rattle.std.proofs.Common.{map, set, get_or, refl, sym, ap, ◌∙◌, arith}
use Rattle.std.specs.List.{filter, list_any, range_with_len}
use Rattle.std.proofs.lemmas.Bool.{cases_eq, eqb-true, eq-eqb, ne_eqb, or_from, and_right, and_left}
use Rattle.std.proofs.lemmas.Bool.{false≢true}
use Rattle.std.proofs.lemmas.Bool.Decides.{nat_tests}
use Rattle.std.proofs.lemmas.List.{ext_get_or, get_or-set_same, get_or-set_other, length-set}
use Rattle.std.proofs.lemmas.List.Folds.{list_any-append}
use Rattle.std.proofs.lemmas.List.FromFn.{length-map-range_with_len, get_or-map-range_with_len}
use Rattle.std.proofs.lemmas.Map.Views.{any-filter_same}
use Rattle.cave_data.specs.CaveView.{CaveView}
use Rattle.world_objects.specs.declared.spot.Anchor.{Anchor}
use Rattle.turn_scene.specs.Homes.{hold_of}
use Rattle.turn_ends.specs.Begin.{is_placed_now, all_objects, objects_due, start_order}

-- ---- numbers in a range
in_range : (a n k : ℕ) → list_any (eqb k) (range_with_len a n) ≡ (leb a k && ltb k (a + n))
in_range a zero k = none where
  none : false ≡ (leb a k && ltb k (a + 0))
  none = grind (arith, nat_tests)
in_range a (suc n) k = rw (in_range (a + 1) n k) more where
  more : (eqb k a || (leb (a + 1) k && ltb k (a + 1 + n))) ≡ (leb a k && ltb k (a + suc n))
  more = grind (arith, nat_tests)

pub among : (p : ℕ → Bool) (xs : List ℕ) (k : ℕ)
    → list_any (eqb k) (filter p xs) ≡ (p k && list_any (eqb k) xs)
among p xs k = any-filter_same (eqb k) p (p k) (λ x t. ap p (sym (eqb-true k x t))) xs

-- ---- each number is that of an object, and none occurs twice
abbrev pub IsOrder : List ℕ → Type 0
IsOrder [] = Unit {0}
IsOrder (x ∷ xs) = (0 < x) × ((x ≤ 100) × ((list_any (eqb x) xs ≡ false) × IsOrder xs))

order_next : (p : ℕ → Bool) (a n : ℕ) (b : Bool) → 0 < a → a ≤ 100
    → IsOrder (filter p (range_with_len (a + 1) n))
    → IsOrder
    (cond b (a ∷ filter p (range_with_len (a + 1) n)) (filter p (range_with_len (a + 1) n)))
order_next p a n true low high rest = (low, (high, (later, rest))) where
  none : (leb (a + 1) a && ltb a (a + 1 + n)) ≡ false
  none = grind (arith, nat_tests)

  later : list_any (eqb a) (filter p (range_with_len (a + 1) n)) ≡ false
  later = among p (range_with_len (a + 1) n) a
      ∙ (ap (λ b. p a && b) (in_range (a + 1) n a ∙ none) ∙ and_right (p a) false refl)
order_next p a n false low high rest = rest

pub order_kept : (p : ℕ → Bool) (a n : ℕ) → 0 < a → a + n ≤ 101
    → IsOrder (filter p (range_with_len a n))
order_kept p a zero low high = tt
order_kept p a (suc n) low high =
    order_next p a n (p a) low (omega arith) (order_kept p (a + 1) n (omega arith) (omega arith))

order_joined : (xs ys : List ℕ) → IsOrder xs → IsOrder ys
    → ((k : ℕ) → list_any (eqb k) xs ≡ true → list_any (eqb k) ys ≡ false) → IsOrder (xs ++ ys)
order_joined [] ys one two apart = two
order_joined (x ∷ xs) ys one two apart = (
  one.0,
  (
    one.1.0,
    (
      list_any-append (eqb x) xs ys
          ∙ or_from _ _ one.1.1.0 (apart x (ap (λ b. b || list_any (eqb x) xs) (eq-eqb x x refl))),
      order_joined xs ys one.1.1.1 two (λ k t. apart k (later (eqb k x) (list_any (eqb k) xs) t)),
    ),
  ),
)
  where
    later : (a b : Bool) → b ≡ true → (a || b) ≡ true
    later true b t = refl
    later false b t = t

either_due : (a : Anchor) → (is_placed_now false a ≡ true → is_placed_now true a ≡ false)
    × ((is_placed_now false a || is_placed_now true a) ≡ true)
either_due Anchor.Loose = (λ t. refl, refl)
either_due Anchor.Fixed = (λ t. refl, refl)
either_due (Anchor.At place) = (λ t. absurd (false≢true t), refl)

-- ---- all objects, and those that are due
in_objects : (k : ℕ) → list_any (eqb k) all_objects ≡ (leb 1 k && ltb k (1 + 100))
unfolding all_objects
in_objects k = in_range 1 100 k

objects_kept : (p : ℕ → Bool) → IsOrder (filter p all_objects)
unfolding all_objects
objects_kept p = order_kept p 1 100 (omega arith) (omega arith)

due_kept : (cave : CaveView) (twice : Bool) → IsOrder (objects_due cave twice)
unfolding objects_due
due_kept cave twice = objects_kept (λ x. is_placed_now twice (hold_of cave x))

in_due : (cave : CaveView) (twice : Bool) (k : ℕ)
    → list_any (eqb k) (objects_due cave twice)
    ≡ (is_placed_now twice (hold_of cave k) && list_any (eqb k) all_objects)
unfolding objects_due
in_due cave twice k = among (λ x. is_placed_now twice (hold_of cave x)) all_objects k

both_true : (a b : Bool) → (a && b) ≡ true → a ≡ true
both_true true b t = refl
both_true false b t = t

pub start_is_order : (cave : CaveView) → IsOrder (start_order cave)
unfolding start_order
start_is_order cave =
    order_joined (objects_due cave false) (objects_due cave true) (due_kept cave false)
    (due_kept cave true) apart where
      apart : (k : ℕ) → list_any (eqb k) (objects_due cave false) ≡ true
          → list_any (eqb k) (objects_due cave true) ≡ false
      apart k t =
          let single : is_placed_now false (hold_of cave k) ≡ true =
          both_true (is_placed_now false (hold_of cave k)) (list_any (eqb k) all_objects)
          (sym (in_due cave false k) ∙ t) in
          in_due cave true k
          ∙ and_left (is_placed_now true (hold_of cave k)) (list_any (eqb k) all_objects)
          ((either_due (hold_of cave k)).0 single)

both_cases : (a b c : Bool) → c ≡ true → (a || b) ≡ true → ((a && c) || (b && c)) ≡ true
both_cases true b c e t = rw e refl
both_cases false true c e t = e
both_cases false false c e t = t

pub each_in_order : (cave : CaveView) (k : ℕ) → k < 100
    → list_any (eqb (k + 1)) (start_order cave) ≡ true
unfolding start_order
each_in_order cave k h =
    list_any-append (eqb (k + 1)) (objects_due cave false) (objects_due cave true)
    ∙ rw (in_due cave false (k + 1), in_due cave true (k + 1))
    (both_cases (is_placed_now false (hold_of cave (k + 1)))
    (is_placed_now true (hold_of cave (k + 1))) (list_any (eqb (k + 1)) all_objects)
    (in_objects (k + 1) ∙ inside) (either_due (hold_of cave (k + 1))).1) where
      inside : (leb 1 (k + 1) && ltb (k + 1) (1 + 100)) ≡ true
      inside = grind (arith, nat_tests)

-- ---- what is set for each of some numbers, the first of the list last
abbrev pub sets : {X : Type 0} → (ℕ → X) → List ℕ → List X → List X
sets f [] l = l
sets f (x ∷ xs) l = set (sets f xs l) (x - 1) (f x)

length-sets : {X : Type 0} (f : ℕ → X) (xs : List ℕ) (l : List X) → length (sets f xs l) ≡ length l
length-sets f [] l = refl
length-sets f (x ∷ xs) l = length-set (sets f xs l) (x - 1) (f x) ∙ length-sets f xs l

pub get-set : {X : Type 0} (f : ℕ → X) (x : ℕ) (l : List X) (k : ℕ) (d : X) → 0 < x → k < length l
    → get_or (set l (x - 1) (f x)) k d ≡ cond (eqb (k + 1) x) (f (k + 1)) (get_or l k d)
get-set f x l k d low h = at (cases_eq (k + 1) x) where
  at : (k + 1 ≡ x) ⊎ (k + 1 ≡ x → ⊥)
      → get_or (set l (x - 1) (f x)) k d ≡ cond (eqb (k + 1) x) (f (k + 1)) (get_or l k d)
  at (inl e) =
      let here : x - 1 ≡ k = omega arith in
      rw (here, eq-eqb (k + 1) x e) (get_or-set_same l k (f x) d h ∙ ap f (sym e))
  at (inr ne) =
      let there : k ≡ x - 1 → ⊥ = λ e. ne (omega (arith, e)) in
      rw (ne_eqb (k + 1) x ne) (get_or-set_other l (x - 1) k (f x) d there)

get-sets : {X : Type 0} (f : ℕ → X) (xs : List ℕ) (l : List X) (k : ℕ) (d : X) → IsOrder xs
    → k < length l
    → get_or (sets f xs l) k d ≡ cond (list_any (eqb (k + 1)) xs) (f (k + 1)) (get_or l k d)
get-sets f [] l k d o h = refl
get-sets {X} f (x ∷ xs) l k d o h =
    get-set f x (sets f xs l) k d o.0 (omega (arith, length-sets f xs l))
    ∙ rw (get-sets f xs l k d o.1.1.1 h)
    (either (eqb (k + 1) x) (list_any (eqb (k + 1)) xs) (f (k + 1)) (get_or l k d)) where
      either : (a b : Bool) (v w : X) → cond a v (cond b v w) ≡ cond (a || b) v w
      either true b v w = refl
      either false b v w = refl

-- a list of 100 that has at each place what belongs to the object of the next number
each_in_range : {X : Type 0} (g : ℕ → X) (n : ℕ) (l : List X) (d : X) → length l ≡ n
    → ((k : ℕ) → k < n → get_or l k d ≡ g (k + 1)) → l ≡ map g (range_with_len 1 n)
each_in_range g n l d long h =
    ext_get_or d l (map g (range_with_len 1 n)) (long ∙ sym (length-map-range_with_len g 1 n))
    (λ k b. h k (omega arith)
    ∙ sym (get_or-map-range_with_len g 1 n k (k + 1) d (omega arith) (omega arith)))

pub each_is : {X : Type 0} (g : ℕ → X) (l : List X) (d : X) → length l ≡ 100
    → ((k : ℕ) → k < 100 → get_or l k d ≡ g (k + 1)) → l ≡ map g all_objects
unfolding all_objects
each_is g l d long h = each_in_range g 100 l d long h

pub all_set : {X : Type 0} (f : ℕ → X) (xs : List ℕ) (l : List X) (d : X) → IsOrder xs
    → length l ≡ 100
    → ((k : ℕ) → k < 100 → list_any (eqb (k + 1)) xs ≡ true) → sets f xs l ≡ map f all_objects
all_set f xs l d o long all =
    each_is f (sets f xs l) d (length-sets f xs l ∙ long)
    (λ k h. get-sets f xs l k d o (omega arith)
    ∙ ap (λ b. cond b (f (k + 1)) (get_or l k d)) (all k h))
