-- The links of lists make up these lists again.
use Rattle.std.proofs.Common.{◌≡◌, ◌≢◌, ℕ, zero, suc, ◌+◌, ◌-◌, ◌<◌, ◌≤◌, Bool, true, false, cond}
use Rattle.std.proofs.Common.{List, [], ◌∷◌, ◌++◌, length, map, filter, set, get_or, nat_lt, eqb}
use Rattle.std.proofs.Common.{refl, sym, ap, ◌∙◌, arith}
use Rattle.std.proofs.lemmas.List.{append-nil, ext_get_or, length-map, get_or-set_same}
use Rattle.std.proofs.lemmas.List.{get_or-set_other}
use Rattle.std.proofs.lemmas.List.FromFn.{length-map-range_with_len, get_or-map-range_with_len}
use Rattle.std.proofs.lemmas.Bool.Decides.{nat_tests}
use Rattle.world_objects.specs.declared.object.Half.{Half}
use Rattle.world_objects.specs.declared.object.Half.TheVariants.{First, Second}
use Rattle.world_objects.specs.declared.lists.PlacedHalf.{PlacedHalf}
use Rattle.world_objects.specs.declared.lists.ObjectLists.TheInside.{Inside}
use Rattle.world_objects.specs.Lists.{object_of, half_number, half_of, halves_at, StartsAt, Lacks}
use Rattle.world_objects.specs.Lists.{AreLists}
use Rattle.world_objects.specs.Links.{first_half, next_half, table, value_at, links_of}
use Rattle.world_objects.specs.Links.{halves_along, entries_of_places, entries_of, AreEntriesWithin}
use Rattle.world_objects.specs.Links.{AreLinks}
use Rattle.world_objects.proofs.Tests.{equal, unequal, apart, itself}
use Rattle.world_objects.proofs.Moves.{StartsAt-earlier, length-AreLists}
use Rattle.world_objects.proofs.SameLists.{Ascend, Ascend-AreLists, same_lists}
use Rattle.world_objects.proofs.Standing.{none_nowhere}
use Rattle.world_objects.proofs.Links.{low_number}

-- ---- tables

pub length-table : (f : ℕ → ℕ) (most : ℕ) → length (table f most) ≡ most
unfolding table
length-table f most = length-map-range_with_len f 1 most

pub value_at-table : (f : ℕ → ℕ) (most k : ℕ) → 0 < k → k ≤ most
    → value_at (table f most) k ≡ f k
unfolding table
value_at-table f most k low high =
    get_or-map-range_with_len f 1 most (k - 1) k 0 (omega arith) (omega arith)

-- numbers that agree with a function are its table
pub table_is : (f : ℕ → ℕ) (numbers : List ℕ) (most : ℕ) → length numbers ≡ most
    → ((k : ℕ) → 0 < k → k ≤ most → value_at numbers k ≡ f k) → table f most ≡ numbers
table_is f numbers most long tells =
    let all = length-table f most in
    ext_get_or 0 (table f most) numbers (all ∙ sym long) (λ i h. each i (omega (arith, all, h)))
  where
    each : (i : ℕ) → i < most → get_or (table f most) i 0 ≡ get_or numbers i 0
    each i h =
        let at : i + 1 - 1 ≡ i = omega arith in
        let same : value_at (table f most) (i + 1) ≡ value_at numbers (i + 1) =
        value_at-table f most (i + 1)
        (omega arith) (omega arith) ∙ sym (tells (i + 1) (omega arith) (omega arith)) in
        rw at at same

apart_less : (a b : ℕ) → 0 < a → 0 < b → eqb a b ≡ false → a - 1 ≢ b - 1
apart_less a b x y h e = grind (arith, nat_tests)

-- one number of a table is another
pub value_at-set : (f : ℕ → ℕ) (numbers : List ℕ) (most k v : ℕ) → length numbers ≡ most
    → 0 < k
    → k ≤ most → v ≡ f k
    → (j : ℕ) → 0 < j → (j ≢ k → value_at numbers j ≡ f j)
    → value_at (set numbers (k - 1) v) j ≡ f j
value_at-set f numbers most k v long low high here j low_j other = by (eqb j k) refl
  where
    by : (b : Bool) → eqb j k ≡ b → value_at (set numbers (k - 1) v) j ≡ f j
    by true t =
        let same : j ≡ k = equal j k t in
        ap (λ i. value_at (set numbers (k - 1) v) i) same
        ∙ (get_or-set_same numbers (k - 1) v 0 (omega (arith, long, low, high))
        ∙ (here ∙ ap f (sym same)))
    by false t =
        get_or-set_other numbers (k - 1) (j - 1) v 0 (apart_less j k low_j low t)
        ∙ other (apart j k t)

-- ---- the halves along links

-- from a number on the links lead along the halves, and no further
abbrev pub AreAlong : (ℕ → ℕ) → ℕ → List Half → Type 0
AreAlong next number [] = number ≡ 0
AreAlong next number (half ∷ halves) =
    (half_number half ≡ number)
    × (((0 < object_of half) × (object_of half ≤ 100)) × AreAlong next (next number) halves)

pub half_of_number : (half : Half) → 0 < object_of half → object_of half ≤ 100
    → half_of (half_number half) ≡ half
half_of_number (First x) low high =
    let first : nat_lt 100 x ≡ false = grind (arith, nat_tests) in rw first refl
half_of_number (Second x) low high =
    let second : nat_lt 100 (100 + x) ≡ true = grind (arith, nat_tests) in
    let back : 100 + x - 100 ≡ x = omega arith in
    rw (second, back) refl

some_number : (half : Half) (number : ℕ) → half_number half ≡ number → 0 < object_of half
    → eqb number 0 ≡ false
some_number half number same low = positive number (rw same at (low_number half low))
  where
    positive : (n : ℕ) → 0 < n → eqb n 0 ≡ false
    positive n h = grind (arith, nat_tests)

pub halves_along_is : (next : ℕ → ℕ) (most number : ℕ) (halves : List Half)
    → AreAlong next number halves → length halves ≤ most → halves_along next most number ≡ halves
unfolding halves_along
halves_along_is next zero number [] h l = refl
halves_along_is next (suc most) number [] h l = rw h refl
halves_along_is next zero number (half ∷ halves) h l = absurd (omega arith)
halves_along_is next (suc most) number (half ∷ halves) h l =
    let some : eqb number 0 ≡ false = some_number half number h.0 h.1.0.0 in
    let here : half_of number ≡ half = ap half_of (sym h.0) ∙ half_of_number half h.1.0.0 h.1.0.1 in
    let rest = halves_along_is next most (next number) halves h.1.1 (omega (arith, l)) in
    rw some (λ i. here i ∷ rest i)

-- each entry's half leads to the first half of its place after it
abbrev pub AreLinkedBy : (ℕ → ℕ) → List PlacedHalf → Type 0
AreLinkedBy next [] = Unit {0}
AreLinkedBy next (e ∷ es) = (next (half_number e.half) ≡ first_half e.place es)
    × AreLinkedBy next es

begun : (next : ℕ → ℕ) (p : ℕ) (e : PlacedHalf) (es : List PlacedHalf) (a : Bool)
    → eqb e.place p ≡ a
    → 0 < object_of e.half → object_of e.half ≤ 100
    → next (half_number e.half) ≡ first_half e.place es
    → AreAlong next (first_half p es) (halves_at p es)
    → AreAlong next (cond a (half_number e.half) (first_half p es))
    (map (λ (x : PlacedHalf). x.half)
    (cond a (e ∷ filter (λ (x : PlacedHalf). eqb x.place p) es)
    (filter (λ (x : PlacedHalf). eqb x.place p) es)))
begun next p e es true t low high leads ih =
    let there : next (half_number e.half) ≡ first_half p es = leads
    ∙ ap (λ q. first_half q es) (equal e.place p t) in
    (refl, ((low, high), rw there ih))
begun next p e es false t low high leads ih = ih

pub AreAlong-first_half : (next : ℕ → ℕ) (p : ℕ) (es : List PlacedHalf) → AreLists es
    → AreEntriesWithin es
    → AreLinkedBy next es → AreAlong next (first_half p es) (halves_at p es)
unfolding first_half
AreAlong-first_half next p [] l w k = refl
AreAlong-first_half next p (e ∷ es) l w k =
    begun next p e es (eqb e.place p) refl l.0.0 w.0.1 k.0
    (AreAlong-first_half next p es l.1.1.1.1 w.1 k.1)

-- links that lead on in the same way from all other halves
AreLinkedBy-like : (before after : ℕ → ℕ) (m : ℕ) (es : List PlacedHalf) → AreLists es → Lacks m es
    → ((n : ℕ) → 0 < n → n ≤ 200 → n ≢ m → after n ≡ before n)
    → AreLinkedBy before es → AreLinkedBy after es
AreLinkedBy-like before after m [] l lacks same k = tt
AreLinkedBy-like before after m (e ∷ es) l lacks same k = (
  same (half_number e.half) (low_number e.half l.0.0) l.1.0 lacks.0 ∙ k.0,
  AreLinkedBy-like before after m es l.1.1.1.1 lacks.1 same k.1,
)

next_half-first : (e : PlacedHalf) (es : List PlacedHalf)
    → next_half (half_number e.half) (e ∷ es) ≡ first_half e.place es
unfolding next_half
next_half-first e es = let here = itself (half_number e.half) in rw here refl

next_half-later : (n : ℕ) (e : PlacedHalf) (es : List PlacedHalf) → n ≢ half_number e.half
    → next_half n (e ∷ es) ≡ next_half n es
unfolding next_half
next_half-later n e es other =
    let far : eqb (half_number e.half) n ≡ false = unequal (half_number e.half) n
    (λ s. other (sym s)) in rw far refl

pub AreLinkedBy-next_half : (es : List PlacedHalf) → AreLists es
    → AreLinkedBy (λ n. next_half n es) es
AreLinkedBy-next_half [] l = tt
AreLinkedBy-next_half (e ∷ es) l = (
  next_half-first e es,
  AreLinkedBy-like (λ n. next_half n es) (λ n. next_half n (e ∷ es)) (half_number e.half) es
      l.1.1.1.1
      l.1.1.0 (λ n low high other. next_half-later n e es other)
      (AreLinkedBy-next_half es l.1.1.1.1),
)

linked : (next : ℕ → ℕ) (all es : List PlacedHalf) → AreLists es
    → ((n : ℕ) → 0 < n → n ≤ 200 → next n ≡ next_half n all) → AreLinkedBy (λ n. next_half n all) es
    → AreLinkedBy next es
linked next all [] l tells k = tt
linked next all (e ∷ es) l tells k = (
  tells (half_number e.half) (low_number e.half l.0.0) l.1.0
      ∙ k.0,
  linked next all es l.1.1.1.1 tells k.1,
)

-- a function that agrees with the links leads along the same halves
pub AreLinkedBy-value_at : (next : ℕ → ℕ) (es : List PlacedHalf) → AreLists es
    → ((n : ℕ) → 0 < n → n ≤ 200 → next n ≡ next_half n es) → AreLinkedBy next es
AreLinkedBy-value_at next es l tells = linked next es es l tells (AreLinkedBy-next_half es l)

shorter : (b : Bool) (n : ℕ) (e : PlacedHalf) (es : List PlacedHalf) → length es ≤ n
    → length (cond b (e ∷ es) es) ≤ n + 1
shorter true n e es h = omega arith
shorter false n e es h = omega arith

length-filter : (p : PlacedHalf → Bool) (es : List PlacedHalf) → length (filter p es) ≤ length es
length-filter p [] = omega arith
length-filter p (e ∷ es) =
    omega (arith, shorter (p e) (length es) e (filter p es) (length-filter p es))

-- no list is longer than all lists together
pub length-halves_at : (p : ℕ) (es : List PlacedHalf) → AreLists es → length (halves_at p es) ≤ 200
length-halves_at p es l =
    let kept : List PlacedHalf = filter (λ (e : PlacedHalf). eqb e.place p) es in
    omega (
      arith,
      length-map kept (λ (e : PlacedHalf). e.half),
      length-filter
          (λ (e : PlacedHalf). eqb e.place p) es,
      length-AreLists es l,
    )

-- ---- entries place by place

abbrev standing : ℕ → List Half → List PlacedHalf
standing place halves = map (λ half. record { place = place; half = half }) halves

segment : (q p : ℕ) (halves : List Half) (es : List PlacedHalf) (b : Bool) → eqb p q ≡ b
    → halves_at q (standing p halves ++ es) ≡ cond b (halves ++ halves_at q es) (halves_at q es)
segment q p [] es true t = refl
segment q p [] es false t = refl
segment q p (half ∷ halves) es true t =
    rw t (ap (λ (l : List Half). half ∷ l) (segment q p halves es true t))
segment q p (half ∷ halves) es false t = rw t (segment q p halves es false t)

outside : (lists : ℕ → List Half) (q p n : ℕ) → ((k : ℕ) → k < n → p + k ≢ q)
    → halves_at q (entries_of_places lists p n) ≡ []
unfolding entries_of_places
outside lists q p zero far = refl
outside lists q p (suc n) far =
    let other : eqb p q ≡ false = unequal p q (λ s. far 0 (omega arith) (omega (arith, s))) in
    segment q p (lists p) (entries_of_places lists (p + 1) n) false other
    ∙ outside lists q (p + 1) n (λ k h s. far (k + 1) (omega (arith, h)) (omega (arith, s)))

from_place : (lists : ℕ → List Half) (q p n : ℕ) (b : Bool) → eqb p q ≡ b → p ≤ q → q < p + suc n
    → (p + 1 ≤ q → halves_at q (entries_of_places lists (p + 1) n) ≡ lists q)
    → halves_at q (standing p (lists p) ++ entries_of_places lists (p + 1) n) ≡ lists q
from_place lists q p n true t low high ih =
    let here : p ≡ q = equal p q t in
    let none : halves_at q (entries_of_places lists (p + 1) n) ≡ [] = outside lists q (p + 1) n
    (λ k h s. absurd (omega (arith, here, s))) in
    segment q p (lists p) (entries_of_places lists (p + 1) n) true t
    ∙ (ap (λ (l : List Half). lists p ++ l) none ∙ (append-nil (lists p) ∙ ap lists here))
from_place lists q p n false t low high ih =
    segment q p (lists p) (entries_of_places lists (p + 1) n) false t ∙ ih (above p q low t)
  where
    above : (a b : ℕ) → a ≤ b → eqb a b ≡ false → a + 1 ≤ b
    above a b h e = grind (arith, nat_tests)

inside : (lists : ℕ → List Half) (q p n : ℕ) → p ≤ q → q < p + n
    → halves_at q (entries_of_places lists p n) ≡ lists q
unfolding entries_of_places
inside lists q p zero low high = absurd (omega arith)
inside lists q p (suc n) low high =
    from_place lists q p n (eqb p q) refl low high
    (λ l. inside lists q (p + 1) n l (omega (arith, high)))

ascending : (p : ℕ) (halves : List Half) (es : List PlacedHalf) → StartsAt p es → Ascend es
    → StartsAt p (standing p halves ++ es) × Ascend (standing p halves ++ es)
ascending p [] es s a = (s, a)
ascending p (half ∷ halves) es s a =
    let rest = ascending p halves es s a in ((omega arith, rest.0), (rest.0, rest.1))

Ascend-entries_of_places : (lists : ℕ → List Half) (p n : ℕ)
    → StartsAt p (entries_of_places lists p n)
    × Ascend (entries_of_places lists p n)
unfolding entries_of_places
Ascend-entries_of_places lists p zero = (tt, tt)
Ascend-entries_of_places lists p (suc n) =
    let rest = Ascend-entries_of_places lists (p + 1) n in
    ascending p (lists p) (entries_of_places lists (p + 1) n)
    (StartsAt-earlier p (p + 1) (entries_of_places lists (p + 1) n) (omega arith) rest.0) rest.1

none_past : (q : ℕ) (es : List PlacedHalf) → 300 < q → AreEntriesWithin es → halves_at q es ≡ []
none_past q [] h w = refl
none_past q (e ∷ es) h w =
    let far : eqb e.place q ≡ false = unequal e.place q (λ s. absurd (omega (arith, w.0.0, s))) in
    rw far (none_past q es h w.1)

-- lists of the right halves at all places are the lists
same_from : (lists : ℕ → List Half) (es : List PlacedHalf) → AreLists es → AreEntriesWithin es
    → ((q : ℕ) → 0 < q → q ≤ 300 → lists q ≡ halves_at q es) → entries_of_places lists 1 300 ≡ es
same_from lists es l w same =
    same_lists (entries_of_places lists 1 300) es (Ascend-entries_of_places lists 1 300).1
    (Ascend-AreLists es l) (λ q. at q (nat_lt 0 q) (nat_lt 300 q) refl refl)
  where
    at : (q : ℕ) (a b : Bool) → nat_lt 0 q ≡ a → nat_lt 300 q ≡ b
        → halves_at q (entries_of_places lists 1 300) ≡ halves_at q es
    at q false b s t =
        let nowhere : q ≡ 0 = grind (arith, nat_tests) in
        outside lists q 1 300 (λ k h e. absurd (omega (arith, nowhere, e)))
        ∙ (sym (none_nowhere es l) ∙ ap (λ p. halves_at p es) (sym nowhere))
    at q true true s t =
        let high : 300 < q = grind (arith, nat_tests) in
        outside lists q 1 300 (λ k h e. absurd (omega (arith, high, h, e)))
        ∙ sym (none_past q es high w)
    at q true false s t =
        let low : 0 < q = grind (arith, nat_tests) in
        let high : q ≤ 300 = grind (arith, nat_tests) in
        inside lists q 1 300 (omega arith) (omega arith) ∙ same q low high

-- ---- the lists that links make up

pub entries_back : (l : Inside) (es : List PlacedHalf) → AreLists es → AreEntriesWithin es
    → ((p : ℕ) → 0 < p → p ≤ 300 → value_at l.first p ≡ first_half p es)
    → ((n : ℕ) → 0 < n → n ≤ 200 → value_at l.next n ≡ next_half n es) → entries_of l ≡ es
unfolding entries_of
entries_back l es a w first next =
    same_from (λ p. halves_along (value_at l.next) 200 (value_at l.first p)) es a w
    (λ q low high.
    ap (λ n. halves_along (value_at l.next) 200 n) (first q low high)
    ∙ halves_along_is (value_at l.next) 200 (first_half q es) (halves_at q es)
    (AreAlong-first_half (value_at l.next) q es a w
    (AreLinkedBy-value_at (value_at l.next) es a next))
    (length-halves_at q es a))

-- links that agree with the entries of lists make up those lists
pub made : (l : Inside) (es : List PlacedHalf) → AreLists es → AreEntriesWithin es
    → length l.first ≡ 300
    → length l.next ≡ 200 → ((p : ℕ) → 0 < p → p ≤ 300 → value_at l.first p ≡ first_half p es)
    → ((n : ℕ) → 0 < n → n ≤ 200 → value_at l.next n ≡ next_half n es)
    → (entries_of l ≡ es) × AreLinks l
unfolding links_of
made l es a w places halves first next =
    let back : entries_of l ≡ es = entries_back l es a w first next in
    let firsts : table (λ p. first_half p es) 300 ≡ l.first =
    table_is (λ p. first_half p es) l.first
    300 places first in
    let nexts : table (λ n. next_half n es) 200 ≡ l.next = table_is (λ n. next_half n es) l.next 200
    halves next in
    let same : links_of es ≡ l = λ i. record { first = firsts i; next = nexts i } in
    (back, record { lists = rw back a; within = rw back w; exact = ap links_of back ∙ same })

-- what holds of links
pub length-first : (l : Inside) → AreLinks l → length l.first ≡ 300
unfolding links_of
length-first l k =
    ap (λ (x : Inside). length x.first) (sym k.exact)
    ∙ length-table (λ p. first_half p (entries_of l)) 300

pub length-next : (l : Inside) → AreLinks l → length l.next ≡ 200
unfolding links_of
length-next l k =
    ap (λ (x : Inside). length x.next) (sym k.exact)
    ∙ length-table (λ n. next_half n (entries_of l)) 200

pub value_at-first : (l : Inside) (p : ℕ) → AreLinks l → 0 < p → p ≤ 300
    → value_at l.first p ≡ first_half p (entries_of l)
unfolding links_of
value_at-first l p k low high =
    ap (λ (x : Inside). value_at x.first p) (sym k.exact)
    ∙ value_at-table (λ q. first_half q (entries_of l)) 300 p low high

pub value_at-next : (l : Inside) (n : ℕ) → AreLinks l → 0 < n → n ≤ 200
    → value_at l.next n ≡ next_half n (entries_of l)
unfolding links_of
value_at-next l n k low high =
    ap (λ (x : Inside). value_at x.next n) (sym k.exact)
    ∙ value_at-table (λ m. next_half m (entries_of l)) 200 n low high
