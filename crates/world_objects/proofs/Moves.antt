-- How moves of halves change the lists.
use Rattle.std.proofs.Common.{◌≡◌, ℕ, ◌<◌, ◌≤◌, ◌||◌, Bool, true, false, cond, not, List, [], ◌∷◌}
use Rattle.std.proofs.Common.{length, map, nat_lt, eqb, refl, sym, arith}
use Rattle.std.specs.List.{IsDistinct, AllByRecursion, list_any}
use Rattle.std.proofs.lemmas.List.{length-map}
use Rattle.std.proofs.lemmas.Bool.Decides.{nat_tests}
use Rattle.std.proofs.lemmas.Bool.{false≢true}
use Rattle.std.proofs.lemmas.Map.Keys.{IsDistinct-cons}
use Rattle.std.proofs.lemmas.Map.Steps.{length-le_from_distinct_below}
use Rattle.world_objects.specs.declared.lists.PlacedHalf.{PlacedHalf}
use Rattle.world_objects.specs.declared.object.Half.{Half}
use Rattle.world_objects.specs.declared.object.Half.TheVariants.{First, Second}
use Rattle.world_objects.specs.Lists.{object_of, half_number, without, put_first, Lacks, StartsAt}
use Rattle.world_objects.specs.Lists.{IsEntry, AreLists}

-- what holds of both choices holds of the chosen one
pub either : (P : List PlacedHalf → Type 0) (b : Bool) (x y : List PlacedHalf) → (b ≡ true → P x)
    → (b ≡ false → P y) → P (cond b x y)
either P true x y f g = f refl
either P false x y f g = g refl

Lacks-without : (n m : ℕ) (es : List PlacedHalf) → Lacks m es → Lacks m (without n es)
unfolding without
Lacks-without n m [] h = tt
Lacks-without n m (e ∷ es) h =
    let rest = Lacks-without n m es h.1 in
    either (λ l. Lacks m l) (not (eqb (half_number e.half) n)) (e ∷ without n es) (without n es)
    (λ _. (h.0, rest)) (λ _. rest)

differs : (a b : ℕ) → not (eqb a b) ≡ true → a ≡ b → ⊥
differs a b h e = grind (arith, nat_tests)

pub Lacks-taken : (n : ℕ) (es : List PlacedHalf) → Lacks n (without n es)
unfolding without
Lacks-taken n [] = tt
Lacks-taken n (e ∷ es) =
    let rest = Lacks-taken n es in
    either (λ l. Lacks n l) (not (eqb (half_number e.half) n)) (e ∷ without n es) (without n es)
    (λ t. (differs (half_number e.half) n t, rest)) (λ _. rest)

StartsAt-without : (n p : ℕ) (es : List PlacedHalf) → StartsAt p es → StartsAt p (without n es)
unfolding without
StartsAt-without n p [] h = tt
StartsAt-without n p (e ∷ es) h =
    let rest = StartsAt-without n p es h.1 in
    either (λ l. StartsAt p l) (not (eqb (half_number e.half) n)) (e ∷ without n es) (without n es)
    (λ _. (h.0, rest)) (λ _. rest)

pub AreLists-without : (n : ℕ) (es : List PlacedHalf) → AreLists es → AreLists (without n es)
unfolding without
AreLists-without n [] h = tt
AreLists-without n (e ∷ es) h =
    let rest = AreLists-without n es h.1.1.1.1 in
    either AreLists (not (eqb (half_number e.half) n)) (e ∷ without n es) (without n es)
    (λ _. (
      h.0,
      (
        h.1.0,
        (
          Lacks-without n (half_number e.half) es h.1.1.0,
          (StartsAt-without n e.place es h.1.1.1.0, rest),
        ),
      ),
    )) (λ _. rest)

pub StartsAt-earlier : (p q : ℕ) (es : List PlacedHalf) → p ≤ q → StartsAt q es → StartsAt p es
StartsAt-earlier p q [] h s = tt
StartsAt-earlier p q (e ∷ es) h s = (omega (arith, s.0), StartsAt-earlier p q es h s.1)

Lacks-put_first : (m : ℕ) (first : PlacedHalf) (es : List PlacedHalf)
    → (half_number first.half ≡ m → ⊥)
    → Lacks m es → Lacks m (put_first first es)
unfolding put_first
Lacks-put_first m first [] h l = (h, tt)
Lacks-put_first m first (e ∷ es) h l =
    either (λ x. Lacks m x) (nat_lt e.place first.place) (e ∷ put_first first es) (first ∷ e ∷ es)
    (λ _. (l.0, Lacks-put_first m first es h l.1)) (λ _. (h, l))

StartsAt-put_first : (p : ℕ) (first : PlacedHalf) (es : List PlacedHalf) → p ≤ first.place
    → StartsAt p es
    → StartsAt p (put_first first es)
unfolding put_first
StartsAt-put_first p first [] h s = (h, tt)
StartsAt-put_first p first (e ∷ es) h s =
    either (λ x. StartsAt p x) (nat_lt e.place first.place) (e ∷ put_first first es)
    (first ∷ e ∷ es) (λ _. (s.0, StartsAt-put_first p first es h s.1)) (λ _. (h, s))

below : (a b : ℕ) → nat_lt a b ≡ true → a ≤ b
below a b h = grind (arith, nat_tests)

above : (a b : ℕ) → nat_lt a b ≡ false → b ≤ a
above a b h = grind (arith, nat_tests)

apart : (a b : ℕ) → (a ≡ b → ⊥) → b ≡ a → ⊥
apart a b h e = h (sym e)

pub AreLists-put_first : (first : PlacedHalf) (es : List PlacedHalf) → IsEntry first
    → half_number first.half ≤ 200 → Lacks (half_number first.half) es → AreLists es
    → AreLists (put_first first es)
unfolding put_first
AreLists-put_first first [] is high l h = (is, (high, (tt, (tt, tt))))
AreLists-put_first first (e ∷ es) is high l h =
    either AreLists (nat_lt e.place first.place) (e ∷ put_first first es) (first ∷ e ∷ es)
    (λ t. (
      h.0,
      (
        h.1.0,
        (
          Lacks-put_first (half_number e.half) first es
              (apart (half_number e.half) (half_number first.half) l.0) h.1.1.0,
          (
            StartsAt-put_first e.place first es (below e.place first.place t) h.1.1.1.0,
            AreLists-put_first first es is high l.1 h.1.1.1.1,
          ),
        ),
      ),
    ))
    (λ t. let first_before : first.place ≤ e.place = above e.place first.place t in (
      is,
      (
        high,
        (l, ((first_before, StartsAt-earlier first.place e.place es first_before h.1.1.1.0), h)),
      ),
    ))

abbrev numbers : List PlacedHalf → List ℕ
numbers es = map (λ (e : PlacedHalf). half_number e.half) es

apart_from_Lacks : (n : ℕ) (es : List PlacedHalf) → Lacks n es
    → AllByRecursion (λ y. eqb n y ≡ false) (numbers es)
apart_from_Lacks n [] h = tt
apart_from_Lacks n (e ∷ es) h = (unequal n (half_number e.half) h.0, apart_from_Lacks n es h.1)
  where
    unequal : (a b : ℕ) → (b ≡ a → ⊥) → eqb a b ≡ false
    unequal a b h = grind (arith, nat_tests)

distinct : (es : List PlacedHalf) → AreLists es → IsDistinct eqb (numbers es)
unfolding IsDistinct
distinct [] h = tt
distinct (e ∷ es) h = (apart_from_Lacks (half_number e.half) es h.1.1.0, distinct es h.1.1.1.1)

-- a half of an object has a number
pub numbered : (half : Half) → 0 < object_of half → half_number half ≡ 0 → ⊥
numbered (First x) low none = omega (arith, low, none)
numbered (Second x) low none = omega (arith, none)

Lacks-none : (es : List PlacedHalf) → AreLists es → Lacks 0 es
Lacks-none [] h = tt
Lacks-none (e ∷ es) h = (λ z. numbered e.half h.0.0 z, Lacks-none es h.1.1.1.1)

one_of : (a q : ℕ) (b rest : Bool) → eqb q a ≡ b → a < 201 → (rest ≡ true → q < 201)
    → (b || rest) ≡ true → q < 201
one_of a q true rest is bound later t = grind (arith, nat_tests)
one_of a q false rest is bound later t = later t

in_range : (es : List PlacedHalf) → AreLists es → (q : ℕ) → list_any (eqb q) (numbers es) ≡ true
    → q < 201
in_range [] h q t = absurd (false≢true t)
in_range (e ∷ es) h q t =
    one_of (half_number e.half) q (eqb q (half_number e.half)) (list_any (eqb q) (numbers es)) refl
    (omega (arith, h.1.0)) (in_range es h.1.1.1.1 q) t

-- each half is listed once, so there is room for all halves
pub length-AreLists : (es : List PlacedHalf) → AreLists es → length es ≤ 200
length-AreLists es h =
    let all =
    IsDistinct-cons eqb 0 (numbers es) (apart_from_Lacks 0 es (Lacks-none es h))
    (distinct es h) in
    let count = length-le_from_distinct_below (0 ∷ numbers es) 201 all
    (λ q t. one_of 0 q (eqb q 0) (list_any (eqb q) (numbers es)) refl (omega arith)
    (in_range es h q) t) in
    let same = length-map es (λ (e : PlacedHalf). half_number e.half) in
    omega (arith, count, same)
