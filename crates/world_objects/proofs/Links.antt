-- How moves of halves change the first half of each place, and the half after each half.
use Rattle.std.proofs.Common.{◌≡◌, ℕ, ◌<◌, Bool, true, false, cond, not, List, [], ◌∷◌, nat_lt, eqb}
use Rattle.std.proofs.Common.{refl, sym, ap, ◌∙◌, arith}
use Rattle.std.proofs.lemmas.Bool.Decides.{nat_tests}
use Rattle.world_objects.specs.declared.object.Half.{Half}
use Rattle.world_objects.specs.declared.lists.PlacedHalf.{PlacedHalf}
use Rattle.world_objects.specs.Lists.{object_of, half_number, without, put_first, Lacks, AreLists}
use Rattle.world_objects.specs.Links.{first_half, next_half}
use Rattle.world_objects.proofs.Tests.{equal, unequal, apart, itself}
use Rattle.world_objects.proofs.Moves.{numbered}
use Rattle.world_objects.proofs.Found.{without_absent}
use Rattle.world_objects.proofs.Places.{elsewhere}

pub low_number : (half : Half) → 0 < object_of half → 0 < half_number half
low_number half low = above_zero (half_number half) (numbered half low)
  where
    above_zero : (n : ℕ) → (n ≡ 0 → ⊥) → 0 < n
    above_zero n h = grind arith

-- a choice is one of the two
neither : (b : Bool) (x y m : ℕ) → (x ≡ m → ⊥) → (y ≡ m → ⊥) → cond b x y ≡ m → ⊥
neither true x y m f g h = f h
neither false x y m f g h = g h

not_zero : (m : ℕ) → 0 < m → 0 ≡ m → ⊥
not_zero m low h = absurd (omega arith)

-- ---- no link leads to a half that is nowhere

pub first_absent : (m p : ℕ) (es : List PlacedHalf) → 0 < m → Lacks m es → first_half p es ≡ m → ⊥
unfolding first_half
first_absent m p [] low l h = not_zero m low h
first_absent m p (e ∷ es) low l h =
    neither (eqb e.place p) (half_number e.half) (first_half p es) m l.0
    (first_absent m p es low l.1) h

pub next_absent : (m n : ℕ) (es : List PlacedHalf) → 0 < m → Lacks m es → next_half n es ≡ m → ⊥
unfolding next_half
next_absent m n [] low l h = not_zero m low h
next_absent m n (e ∷ es) low l h =
    neither (eqb (half_number e.half) n) (first_half e.place es) (next_half n es) m
    (first_absent m e.place es low l.1) (next_absent m n es low l.1) h

-- and none leads on from it
pub none_after : (m : ℕ) (es : List PlacedHalf) → Lacks m es → next_half m es ≡ 0
unfolding next_half
none_after m [] l = refl
none_after m (e ∷ es) l =
    let far : eqb (half_number e.half) m ≡ false = unequal (half_number e.half) m l.0 in
    rw far (none_after m es l.1)

-- ---- at most one link leads to a half

-- the links past an entry don't lead to its half
first_past : (m p : ℕ) (e : PlacedHalf) (es : List PlacedHalf) → AreLists (e ∷ es)
    → half_number e.half ≡ m
    → first_half p es ≡ m → ⊥
first_past m p e es l s h =
    first_absent (half_number e.half) p es (low_number e.half l.0.0) l.1.1.0 (h ∙ sym s)

next_past : (m n : ℕ) (e : PlacedHalf) (es : List PlacedHalf) → AreLists (e ∷ es)
    → half_number e.half ≡ m
    → next_half n es ≡ m → ⊥
next_past m n e es l s h =
    next_absent (half_number e.half) n es (low_number e.half l.0.0) l.1.1.0 (h ∙ sym s)

one_place : (m p q : ℕ) (e : PlacedHalf) (es : List PlacedHalf) (a b : Bool) → AreLists (e ∷ es)
    → eqb e.place p ≡ a → eqb e.place q ≡ b
    → (first_half p es ≡ m → first_half q es ≡ m → p ≡ q)
    → cond a (half_number e.half) (first_half p es) ≡ m
    → cond b (half_number e.half) (first_half q es) ≡ m → p ≡ q
one_place m p q e es true true l s t ih u v = sym (equal e.place p s) ∙ equal e.place q t
one_place m p q e es true false l s t ih u v = absurd (first_past m q e es l u v)
one_place m p q e es false true l s t ih u v = absurd (first_past m p e es l v u)
one_place m p q e es false false l s t ih u v = ih u v

pub first_from_one : (m p q : ℕ) (es : List PlacedHalf) → 0 < m → AreLists es → first_half p es ≡ m
    → first_half q es ≡ m → p ≡ q
unfolding first_half
first_from_one m p q [] low l u v = absurd (not_zero m low u)
first_from_one m p q (e ∷ es) low l u v =
    one_place m p q e es (eqb e.place p) (eqb e.place q) l refl refl
    (first_from_one m p q es low l.1.1.1.1) u v

first_or_next : (m p n : ℕ) (e : PlacedHalf) (es : List PlacedHalf) (a b : Bool) → 0 < m
    → AreLists (e ∷ es)
    → eqb e.place p ≡ a
    → (first_half p es ≡ m → next_half n es ≡ m → ⊥)
    → cond a (half_number e.half) (first_half p es) ≡ m
    → cond b (first_half e.place es) (next_half n es) ≡ m → ⊥
first_or_next m p n e es true true low l s ih u v = first_past m e.place e es l u v
first_or_next m p n e es true false low l s ih u v = next_past m n e es l u v
first_or_next m p n e es false true low l s ih u v = apart e.place p s
    (first_from_one m e.place p es low l.1.1.1.1 v u)
first_or_next m p n e es false false low l s ih u v = ih u v

-- the first half of a place follows none
pub first_after_none : (m p n : ℕ) (es : List PlacedHalf) → 0 < m → AreLists es
    → first_half p es ≡ m
    → next_half n es ≡ m → ⊥
unfolding first_half next_half
first_after_none m p n [] low l u v = not_zero m low u
first_after_none m p n (e ∷ es) low l u v =
    first_or_next m p n e es (eqb e.place p) (eqb (half_number e.half) n) low l refl
    (first_after_none m p n es low l.1.1.1.1) u v

one_before : (m i j : ℕ) (e : PlacedHalf) (es : List PlacedHalf) (a b : Bool) → 0 < m
    → AreLists (e ∷ es)
    → eqb (half_number e.half) i ≡ a → eqb (half_number e.half) j ≡ b
    → (next_half i es ≡ m → next_half j es ≡ m → i ≡ j)
    → cond a (first_half e.place es) (next_half i es) ≡ m
    → cond b (first_half e.place es) (next_half j es) ≡ m → i ≡ j
one_before m i j e es true true low l s t ih u v = sym (equal (half_number e.half) i s)
    ∙ equal (half_number e.half) j t
one_before m i j e es true false low l s t ih u v = absurd
    (first_after_none m e.place j es low l.1.1.1.1 u v)
one_before m i j e es false true low l s t ih u v = absurd
    (first_after_none m e.place i es low l.1.1.1.1 v u)
one_before m i j e es false false low l s t ih u v = ih u v

-- a half follows at most one
pub next_from_one : (m i j : ℕ) (es : List PlacedHalf) → 0 < m → AreLists es → next_half i es ≡ m
    → next_half j es ≡ m → i ≡ j
unfolding next_half
next_from_one m i j [] low l u v = absurd (not_zero m low u)
next_from_one m i j (e ∷ es) low l u v =
    one_before m i j e es (eqb (half_number e.half) i) (eqb (half_number e.half) j) low l refl refl
    (next_from_one m i j es low l.1.1.1.1) u v

after_other : (n : ℕ) (e : PlacedHalf) (es : List PlacedHalf) (b : Bool) → AreLists (e ∷ es)
    → eqb (half_number e.half) n ≡ b
    → (next_half n es ≡ n → ⊥) → cond b (first_half e.place es) (next_half n es) ≡ n → ⊥
after_other n e es true l t ih h = first_past n e.place e es l (equal (half_number e.half) n t) h
after_other n e es false l t ih h = ih h

-- no half follows itself
pub next_differs : (n : ℕ) (es : List PlacedHalf) → 0 < n → AreLists es → next_half n es ≡ n → ⊥
unfolding next_half
next_differs n [] low l h = not_zero n low h
next_differs n (e ∷ es) low l h =
    after_other n e es (eqb (half_number e.half) n) l refl (next_differs n es low l.1.1.1.1) h

-- ---- a half taken out: what led to it leads to the half after it

absent : (m : ℕ) (e : PlacedHalf) (es : List PlacedHalf) → AreLists (e ∷ es)
    → half_number e.half ≡ m
    → without m es ≡ es
absent m e es l s = rw (← s) (without_absent (half_number e.half) es l.1.1.0)

first_left : (m p : ℕ) (e : PlacedHalf) (es kept : List PlacedHalf) (s a : Bool) → AreLists (e ∷ es)
    → (half_number e.half ≡ m → kept ≡ es) → eqb (half_number e.half) m ≡ s → eqb e.place p ≡ a
    → first_half p kept ≡ cond (eqb (first_half p es) m) (next_half m es) (first_half p es)
    → first_half p (cond (not s) (e ∷ kept) kept) ≡ cond
    (eqb (cond a (half_number e.half) (first_half p es)) m)
    (cond s (first_half e.place es) (next_half m es))
    (cond a (half_number e.half) (first_half p es))
unfolding first_half
first_left m p e es kept true true l same t u ih =
    rw t (ap (λ (x : List PlacedHalf). first_half p x) (same (equal (half_number e.half) m t))
    ∙ ap (λ q. first_half q es) (sym (equal e.place p u)))
first_left m p e es kept true false l same t u ih =
    let here : half_number e.half ≡ m = equal (half_number e.half) m t in
    let far : eqb (first_half p es) m ≡ false = unequal (first_half p es) m
    (first_past m p e es l here) in
    rw far (ap (λ (x : List PlacedHalf). first_half p x) (same here))
first_left m p e es kept false true l same t u ih = rw (t, u) refl
first_left m p e es kept false false l same t u ih = rw u ih

unled : (a : Bool) → ◌≡◌ {A = ℕ} 0 (cond a 0 0)
unled true = refl
unled false = refl

pub first_half-without : (m p : ℕ) (es : List PlacedHalf) → AreLists es
    → first_half p (without m es)
    ≡ cond (eqb (first_half p es) m) (next_half m es) (first_half p es)
unfolding first_half next_half without
first_half-without m p [] l = unled (eqb 0 m)
first_half-without m p (e ∷ es) l =
    first_left m p e es (without m es) (eqb (half_number e.half) m) (eqb e.place p) l
    (absent m e es l) refl refl (first_half-without m p es l.1.1.1.1)

next_left : (m n : ℕ) (e : PlacedHalf) (es kept : List PlacedHalf) (s t c : Bool)
    → AreLists (e ∷ es)
    → (half_number e.half ≡ m → kept ≡ es)
    → eqb (half_number e.half) m ≡ s → eqb (half_number e.half) n ≡ t → eqb n m ≡ c
    → first_half e.place kept ≡ cond (eqb (first_half e.place es) m) (next_half m es)
    (first_half e.place es)
    → next_half n kept ≡ cond c 0 (cond (eqb (next_half n es) m) (next_half m es) (next_half n es))
    → next_half n (cond (not s) (e ∷ kept) kept) ≡ cond c 0
    (cond (eqb (cond t (first_half e.place es) (next_half n es)) m)
    (cond s (first_half e.place es) (next_half m es))
    (cond t (first_half e.place es) (next_half n es)))
unfolding next_half
next_left m n e es kept true t true l same u v w ahead ih =
    let here : half_number e.half ≡ m = equal (half_number e.half) m u in
    ap (λ (x : List PlacedHalf). next_half n x) (same here)
    ∙ (ap (λ k. next_half k es) (equal n m w ∙ sym here)
    ∙ none_after (half_number e.half) es l.1.1.0)
next_left m n e es kept true true false l same u v w ahead ih =
    absurd (apart n m w (sym (equal (half_number e.half) n v) ∙ equal (half_number e.half) m u))
next_left m n e es kept true false false l same u v w ahead ih =
    let here : half_number e.half ≡ m = equal (half_number e.half) m u in
    let far : eqb (next_half n es) m ≡ false =
    unequal (next_half n es) m (next_past m n e es l here) in
    rw far (ap (λ (x : List PlacedHalf). next_half n x) (same here))
next_left m n e es kept false true true l same u v w ahead ih =
    absurd (apart (half_number e.half) m u (equal (half_number e.half) n v ∙ equal n m w))
next_left m n e es kept false true false l same u v w ahead ih = rw v ahead
next_left m n e es kept false false c l same u v w ahead ih = rw v ih

pub next_half-without : (m n : ℕ) (es : List PlacedHalf) → AreLists es
    → next_half n (without m es) ≡ cond (eqb n m) 0
    (cond (eqb (next_half n es) m) (next_half m es) (next_half n es))
unfolding next_half without
next_half-without m n [] l = unled (eqb n m) ∙ ap (λ x. cond (eqb n m) 0 x) (unled (eqb 0 m))
next_half-without m n (e ∷ es) l =
    next_left m n e es (without m es) (eqb (half_number e.half) m) (eqb (half_number e.half) n)
    (eqb n m) l (absent m e es l) refl refl refl
    (first_half-without m e.place es l.1.1.1.1) (next_half-without m n es l.1.1.1.1)

-- ---- a half put at the front of the list of a place

first_right : (p : ℕ) (first e : PlacedHalf) (es put : List PlacedHalf) (b a : Bool)
    → nat_lt e.place first.place ≡ b → eqb e.place p ≡ a
    → first_half p put ≡ cond (eqb first.place p) (half_number first.half) (first_half p es)
    → first_half p (cond b (e ∷ put) (first ∷ e ∷ es)) ≡ cond (eqb first.place p)
    (half_number first.half) (cond a (half_number e.half) (first_half p es))
unfolding first_half
first_right p first e es put true true h u ih =
    let far : eqb first.place p ≡ false = elsewhere e.place p first.place h u in rw (u, far) refl
first_right p first e es put true false h u ih = rw u ih
first_right p first e es put false a h u ih = rw u refl

pub first_half-put_first : (p : ℕ) (first : PlacedHalf) (es : List PlacedHalf)
    → first_half p (put_first first es) ≡ cond (eqb first.place p) (half_number first.half)
    (first_half p es)
unfolding first_half put_first
first_half-put_first p first [] = refl
first_half-put_first p first (e ∷ es) =
    first_right p first e es (put_first first es) (nat_lt e.place first.place) (eqb e.place p) refl
    refl (first_half-put_first p first es)

earlier : (p q : ℕ) → nat_lt p q ≡ true → eqb p q ≡ false
earlier p q h = grind (arith, nat_tests)

next_right : (n : ℕ) (first e : PlacedHalf) (es put : List PlacedHalf) (b t : Bool)
    → nat_lt e.place first.place ≡ b → eqb (half_number e.half) n ≡ t
    → (half_number e.half ≡ half_number first.half → ⊥)
    → first_half e.place put ≡ cond (eqb first.place e.place) (half_number first.half)
    (first_half e.place es)
    → next_half n put
    ≡ cond (eqb (half_number first.half) n) (first_half first.place es) (next_half n es)
    → next_half n (cond b (e ∷ put) (first ∷ e ∷ es)) ≡ cond (eqb (half_number first.half) n)
    (first_half first.place (e ∷ es)) (cond t (first_half e.place es) (next_half n es))
unfolding first_half next_half
next_right n first e es put true true h v new ahead ih =
    let other : eqb (half_number first.half) n ≡ false = unequal (half_number first.half) n
    (λ s. new (equal (half_number e.half) n v ∙ sym s)) in
    let far : eqb first.place e.place ≡ false = elsewhere e.place e.place first.place h
    (itself e.place) in
    rw (v, other) (rw far at ahead)
next_right n first e es put true false h v new ahead ih =
    let back : eqb e.place first.place ≡ false = earlier e.place first.place h in rw (v, back) ih
next_right n first e es put false t h v new ahead ih = rw v refl

pub next_half-put_first : (n : ℕ) (first : PlacedHalf) (es : List PlacedHalf)
    → Lacks (half_number first.half) es
    → next_half n (put_first first es) ≡ cond (eqb (half_number first.half) n)
    (first_half first.place es) (next_half n es)
unfolding next_half put_first
next_half-put_first n first [] l = refl
next_half-put_first n first (e ∷ es) l =
    next_right n first e es (put_first first es) (nat_lt e.place first.place)
    (eqb (half_number e.half) n) refl refl l.0 (first_half-put_first e.place first es)
    (next_half-put_first n first es l.1)
