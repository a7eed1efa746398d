-- The links after a half was taken out of its list or put into one.
use Rattle.std.proofs.Common.{◌≡◌, ◌≢◌, ℕ, ◌-◌, ◌<◌, ◌≤◌, ◌&&◌, Bool, true, false, cond, not, List}
use Rattle.std.proofs.Common.{[], ◌∷◌, length, set, nat_lt, eqb, refl, sym, ap, ◌∙◌, length-set}
use Rattle.std.proofs.Common.{replicate, arith}
use Rattle.std.specs.Bool.{Decides}
use Rattle.std.specs.Cmp.Lexicographic.{pointwise, bytes_decides}
use Rattle.std.proofs.lemmas.List.{length-replicate, get_or-replicate}
use Rattle.std.proofs.lemmas.Bool.Decides.{Decides-and, Decides-at, Decides-like}
use Rattle.world_objects.specs.declared.object.Half.{Half}
use Rattle.world_objects.specs.declared.lists.PlacedHalf.{PlacedHalf}
use Rattle.world_objects.specs.declared.lists.ObjectLists.TheInside.{Inside}
use Rattle.world_objects.specs.Lists.{object_of, half_number, halves_at, without, put_first}
use Rattle.world_objects.specs.Lists.{AreLists, IsNew}
use Rattle.world_objects.specs.Links.{first_half, next_half, value_at, links_of, entries_of}
use Rattle.world_objects.specs.Links.{AreEntriesWithin, AreLinks}
use Rattle.world_objects.proofs.Tests.{equal, unequal, itself}
use Rattle.world_objects.proofs.Moves.{either, AreLists-without, AreLists-put_first}
use Rattle.world_objects.proofs.Links.{first_half-without, next_half-without, first_half-put_first}
use Rattle.world_objects.proofs.Links.{next_half-put_first, first_from_one, first_after_none}
use Rattle.world_objects.proofs.Links.{next_from_one, next_differs, low_number}
use Rattle.world_objects.proofs.SameLists.{Ascend-AreLists, same_lists}
use Rattle.world_objects.proofs.Chains.{value_at-set, made, length-first, length-next}
use Rattle.world_objects.proofs.Chains.{value_at-first, value_at-next}

-- ---- if the places and halves of entries exist, links lead to numbers that exist

AreEntriesWithin-without : (n : ℕ) (es : List PlacedHalf) → AreEntriesWithin es
    → AreEntriesWithin (without n es)
unfolding without
AreEntriesWithin-without n [] w = tt
AreEntriesWithin-without n (e ∷ es) w =
    let rest = AreEntriesWithin-without n es w.1 in
    either AreEntriesWithin (not (eqb (half_number e.half) n)) (e ∷ without n es) (without n es)
    (λ _. (w.0, rest)) (λ _. rest)

AreEntriesWithin-put_first : (first : PlacedHalf) (es : List PlacedHalf) → first.place ≤ 300
    → object_of first.half ≤ 100 → AreEntriesWithin es → AreEntriesWithin (put_first first es)
unfolding put_first
AreEntriesWithin-put_first first [] p o w = ((p, o), tt)
AreEntriesWithin-put_first first (e ∷ es) p o w =
    either AreEntriesWithin (nat_lt e.place first.place) (e ∷ put_first first es) (first ∷ e ∷ es)
    (λ _. (w.0, AreEntriesWithin-put_first first es p o w.1)) (λ _. ((p, o), w))

pub record IsPlace (p : ℕ) : Type 0 where
  pub low : 0 < p
  pub high : p ≤ 300

place_in : (p m : ℕ) (e : PlacedHalf) (fp : ℕ) (b : Bool) → eqb e.place p ≡ b → 0 < e.place
    → e.place ≤ 300 → (fp ≡ m → IsPlace p) → cond b (half_number e.half) fp ≡ m → IsPlace p
place_in p m e fp true t low high ih h =
    let same : e.place ≡ p = equal e.place p t in record { low = omega arith; high = omega arith }
place_in p m e fp false t low high ih h = ih h

-- a half is first at a place
pub is_place : (p m : ℕ) (es : List PlacedHalf) → 0 < m → AreLists es → AreEntriesWithin es
    → first_half p es ≡ m
    → IsPlace p
unfolding first_half
is_place p m [] low l w h = absurd (omega arith)
is_place p m (e ∷ es) low l w h =
    place_in p m e (first_half p es) (eqb e.place p) refl l.0.1 w.0.0
    (is_place p m es low l.1.1.1.1 w.1) h

-- no half is at place 0
pub first_nowhere : (es : List PlacedHalf) → AreLists es → first_half 0 es ≡ 0
unfolding first_half
first_nowhere [] l = refl
first_nowhere (e ∷ es) l =
    let far : eqb e.place 0 ≡ false = unequal e.place 0 (λ s. absurd (omega (arith, l.0.1, s))) in
    rw far (first_nowhere es l.1.1.1.1)

pub record IsNumber (n : ℕ) : Type 0 where
  pub low : 0 < n
  pub high : n ≤ 200

number_in : (n m : ℕ) (e : PlacedHalf) (x y : ℕ) (b : Bool) → eqb (half_number e.half) n ≡ b
    → 0 < half_number e.half → half_number e.half ≤ 200 → (y ≡ m → IsNumber n) → cond b x y ≡ m
    → IsNumber n
number_in n m e x y true t low high ih h =
    let same : half_number e.half ≡ n = equal (half_number e.half) n t in record
    { low = omega arith; high = omega arith }
number_in n m e x y false t low high ih h = ih h

-- a half with another after it has a number
pub is_number : (n m : ℕ) (es : List PlacedHalf) → 0 < m → AreLists es → next_half n es ≡ m
    → IsNumber n
unfolding next_half
is_number n m [] low l h = absurd (omega arith)
is_number n m (e ∷ es) low l h =
    number_in n m e (first_half e.place es) (next_half n es) (eqb (half_number e.half) n) refl
    (low_number e.half l.0.0) l.1.0 (is_number n m es low l.1.1.1.1) h

led_in : (m : ℕ) (e : PlacedHalf) (y : ℕ) (b : Bool) → 0 < half_number e.half
    → half_number e.half ≤ 200
    → (y ≡ m → IsNumber m) → cond b (half_number e.half) y ≡ m → IsNumber m
led_in m e y true low high ih h = record { low = omega arith; high = omega arith }
led_in m e y false low high ih h = ih h

-- what is first has a number
pub first_is_number : (p m : ℕ) (es : List PlacedHalf) → 0 < m → AreLists es → first_half p es ≡ m
    → IsNumber m
unfolding first_half
first_is_number p m [] low l h = absurd (omega arith)
first_is_number p m (e ∷ es) low l h =
    led_in m e (first_half p es) (eqb e.place p) (low_number e.half l.0.0) l.1.0
    (first_is_number p m es low l.1.1.1.1) h

after_in : (m : ℕ) (x y : ℕ) (b : Bool) → (x ≡ m → IsNumber m) → (y ≡ m → IsNumber m)
    → cond b x y ≡ m → IsNumber m
after_in m x y true f g h = f h
after_in m x y false f g h = g h

-- and so does what is after another
pub next_is_number : (n m : ℕ) (es : List PlacedHalf) → 0 < m → AreLists es → next_half n es ≡ m
    → IsNumber m
unfolding next_half
next_is_number n m [] low l h = absurd (omega arith)
next_is_number n m (e ∷ es) low l h =
    after_in m (first_half e.place es) (next_half n es) (eqb (half_number e.half) n)
    (first_is_number e.place m es low l.1.1.1.1) (next_is_number n m es low l.1.1.1.1) h

-- ---- nothing is anywhere

blank : (numbers : List ℕ) (most : ℕ) → numbers ≡ replicate most 0 → (length numbers ≡ most)
    × ((k : ℕ) → 0 < k → k ≤ most → value_at numbers k ≡ 0)
blank numbers most is = (
  ap (λ (l : List ℕ). length l) is ∙ length-replicate most 0,
  λ k low high. ap (λ (l : List ℕ). value_at l k) is
      ∙ get_or-replicate most (k - 1) 0 0 (omega arith),
)

nothing_first : (p : ℕ) → 0 ≡ first_half p []
unfolding first_half
nothing_first p = refl

nothing_next : (n : ℕ) → 0 ≡ next_half n []
unfolding next_half
nothing_next n = refl

pub emptied : (l : Inside) → l.first ≡ replicate 300 0 → l.next ≡ replicate 200 0
    → (entries_of l ≡ []) × AreLinks l
emptied l first next =
    let places = blank l.first 300 first in
    let halves = blank l.next 200 next in
    made l [] tt tt places.0 halves.0 (λ p low high. places.1 p low high ∙ nothing_first p)
    (λ n low high. halves.1 n low high ∙ nothing_next n)

-- ---- a half taken out

first_same : (m p : ℕ) (es : List PlacedHalf) → AreLists es → first_half p es ≢ m
    → first_half p es ≡ first_half p (without m es)
first_same m p es l other =
    let far : eqb (first_half p es) m ≡ false = unequal (first_half p es) m other in
    sym (first_half-without m p es l ∙ ap (λ b. cond b (next_half m es) (first_half p es)) far)

first_led : (m p : ℕ) (es : List PlacedHalf) → AreLists es → first_half p es ≡ m
    → next_half m es ≡ first_half p (without m es)
first_led m p es l here =
    let near : eqb (first_half p es) m ≡ true = ap (λ n. eqb n m) here ∙ itself m in
    sym (first_half-without m p es l ∙ ap (λ b. cond b (next_half m es) (first_half p es)) near)

next_none : (m : ℕ) (es : List PlacedHalf) → AreLists es → 0 ≡ next_half m (without m es)
next_none m es l =
    sym (next_half-without m m es l
    ∙ ap (λ b. cond b 0 (cond (eqb (next_half m es) m) (next_half m es) (next_half m es)))
    (itself m))

next_same : (m n : ℕ) (es : List PlacedHalf) → AreLists es → n ≢ m → next_half n es ≢ m
    → next_half n es ≡ next_half n (without m es)
next_same m n es l far other =
    let apart : eqb n m ≡ false = unequal n m far in
    let unled : eqb (next_half n es) m ≡ false = unequal (next_half n es) m other in
    sym (next_half-without m n es l
    ∙ (λ i. cond (apart i) 0 (cond (unled i) (next_half m es) (next_half n es))))

next_led : (m n : ℕ) (es : List PlacedHalf) → AreLists es → n ≢ m → next_half n es ≡ m
    → next_half m es ≡ next_half n (without m es)
next_led m n es l far here =
    let apart : eqb n m ≡ false = unequal n m far in
    let led : eqb (next_half n es) m ≡ true = ap (λ k. eqb k m) here ∙ itself m in
    sym (next_half-without m n es l
    ∙ (λ i. cond (apart i) 0 (cond (led i) (next_half m es) (next_half n es))))

-- it was the first one of a place
pub removed_first : (l : Inside) (m p : ℕ) → AreLinks l → 0 < m → first_half p (entries_of l) ≡ m
    → (let n : Inside = record
    { first = set l.first (p - 1) (value_at l.next m); next = set l.next (m - 1) 0 } in
    (entries_of n ≡ without m (entries_of l)) × AreLinks n)
removed_first l m p k low here =
    let es = entries_of l in
    let place = is_place p m es low k.lists k.within here in
    let number = first_is_number p m es low k.lists here in
    let firsts = length-first l k in
    let nexts = length-next l k in
    made (record {
      first = set l.first (p - 1) (value_at l.next m);
      next = set l.next (m - 1) 0;
    })
    (without m es) (AreLists-without m es k.lists) (AreEntriesWithin-without m es k.within)
    (length-set l.first (p - 1) (value_at l.next m) ∙ firsts)
    (length-set l.next (m - 1) 0 ∙ nexts)
    (λ q low_q high_q. value_at-set (λ q. first_half q (without m es)) l.first 300 p
    (value_at l.next m)
    firsts place.low place.high
    (value_at-next l m k low number.high ∙ first_led m p es k.lists here) q low_q
    (λ other. value_at-first l q k low_q high_q
    ∙ first_same m q es k.lists (λ s. other (first_from_one m q p es low k.lists s here))))
    (λ n low_n high_n. value_at-set (λ n. next_half n (without m es)) l.next 200 m 0 nexts low
    number.high (next_none m es k.lists) n low_n
    (λ other. value_at-next l n k low_n high_n
    ∙ next_same m n es k.lists other (λ s. first_after_none m p n es low k.lists here s)))

-- it was after another
pub removed_after : (l : Inside) (m b : ℕ) → AreLinks l → 0 < m → next_half b (entries_of l) ≡ m
    → (let n : Inside = record
    { first = l.first; next = set (set l.next (m - 1) 0) (b - 1) (value_at l.next m) } in
    (entries_of n ≡ without m (entries_of l)) × AreLinks n)
removed_after l m b k low here =
    let es = entries_of l in
    let before = is_number b m es low k.lists here in
    let number = next_is_number b m es low k.lists here in
    let firsts = length-first l k in
    let nexts = length-next l k in
    let differ : b ≢ m =
    λ s. next_differs m es low k.lists (ap (λ x. next_half x es) (sym s) ∙ here)
    in
    made (record {
      first = l.first;
      next =
          set (set l.next (m - 1) 0) (b - 1) (value_at l.next m);
    })
    (without m es) (AreLists-without m es k.lists) (AreEntriesWithin-without m es k.within)
    firsts (length-set (set l.next (m - 1) 0) (b - 1) (value_at l.next m)
    ∙ (length-set l.next (m - 1) 0 ∙ nexts))
    (λ q low_q high_q. value_at-first l q k low_q high_q
    ∙ first_same m q es k.lists (λ s. first_after_none m q b es low k.lists s here))
    (λ n low_n high_n. value_at-set (λ n. next_half n (without m es)) (set l.next (m - 1) 0)
    200 b
    (value_at l.next m) (length-set l.next (m - 1) 0 ∙ nexts) before.low before.high
    (value_at-next l m k low number.high ∙ next_led m b es k.lists differ here) n low_n
    (λ other. value_at-set (λ n. next_half n (without m es)) l.next 200 m 0 nexts low
    number.high
    (next_none m es k.lists) n low_n
    (λ far. value_at-next l n k low_n high_n
    ∙ next_same m n es k.lists far (λ s. other (next_from_one m n b es low k.lists s here)))))

-- ---- a half put at the front of a list

pub put_at_front : (l : Inside) (half : Half) (p : ℕ) → AreLinks l → IsNew half (entries_of l)
    → object_of half ≤ 100 → 0 < p → p ≤ 300
    → (let n : Inside = record {
      first = set l.first (p - 1) (half_number half);
      next = set l.next (half_number half - 1)
          (value_at l.first p);
    } in
    let e : PlacedHalf = record { place = p; half = half } in
    (entries_of n ≡ put_first e (entries_of l)) × AreLinks n)
put_at_front l half p k new high low_p high_p =
    let es = entries_of l in
    let e : PlacedHalf = record { place = p; half = half } in
    let m = half_number half in
    let firsts = length-first l k in
    let nexts = length-next l k in
    made (record {
      first = set l.first (p - 1) m;
      next = set l.next (m - 1) (value_at l.first p);
    })
    (put_first e es) (AreLists-put_first e es (new.0, low_p) new.1.0 new.1.1 k.lists)
    (AreEntriesWithin-put_first e es high_p high k.within)
    (length-set l.first (p - 1) m ∙ firsts)
    (length-set l.next (m - 1) (value_at l.first p) ∙ nexts)
    (λ q low_q high_q. value_at-set (λ q. first_half q (put_first e es)) l.first 300 p m
    firsts low_p
    high_p
    (sym (first_half-put_first p e es ∙ ap (λ b. cond b m (first_half p es)) (itself p))) q low_q
    (λ other. value_at-first l q k low_q high_q
    ∙ sym (first_half-put_first q e es
    ∙ ap (λ b. cond b m (first_half q es)) (unequal p q (λ s. other (sym s))))))
    (λ n low_n high_n. value_at-set (λ n. next_half n (put_first e es)) l.next 200 m
    (value_at l.first p)
    nexts (low_number half new.0) new.1.0
    (value_at-first l p k low_p high_p
    ∙ sym (next_half-put_first m e es new.1.1
    ∙ ap (λ b. cond b (first_half p es) (next_half m es)) (itself m))) n low_n
    (λ other. value_at-next l n k low_n high_n
    ∙ sym (next_half-put_first n e es new.1.1
    ∙ ap (λ b. cond b (first_half p es) (next_half n es)) (unequal m n (λ s. other (sym s))))))

-- ---- equal links are those of equal lists

pub same_values : (l m : Inside) (es fs : List PlacedHalf) (x y : Bool) → AreLinks l → AreLinks m
    → entries_of l ≡ es → entries_of m ≡ fs → x ≡ pointwise eqb l.first m.first
    → y ≡ pointwise eqb l.next m.next
    → Decides (x && y) (es ≡ fs)
same_values l m es fs x y k j v w first next =
    Decides-like (x && y) (λ h. sym v ∙ (ap entries_of (both l m h.0 h.1) ∙ w))
    (λ e. let same : l ≡ m = sym k.exact
    ∙ (ap links_of (v ∙ (e ∙ sym w)) ∙ j.exact) in
    (ap (λ (i : Inside). i.first) same, ap (λ (i : Inside). i.next) same))
    (Decides-and x y
    (Decides-at x (pointwise eqb l.first m.first) first (bytes_decides l.first m.first))
    (Decides-at y (pointwise eqb l.next m.next) next (bytes_decides l.next m.next)))
  where
    both : (l m : Inside) → l.first ≡ m.first → l.next ≡ m.next → l ≡ m
    both l m f n = λ i. record { first = f i; next = n i }

-- and equal lists are the same at each place
pub same_places : (es fs : List PlacedHalf) (b : Bool) → AreLists es → AreLists fs
    → Decides b (es ≡ fs)
    → Decides b ((q : ℕ) → halves_at q es ≡ halves_at q fs)
same_places es fs b k j d = (
  λ t q. ap (λ (l : List PlacedHalf). halves_at q l) (d.0 t),
  λ h. d.1 (same_lists es fs (Ascend-AreLists es k) (Ascend-AreLists fs j) h),
)
