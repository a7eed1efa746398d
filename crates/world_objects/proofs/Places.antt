-- How moves of halves change the list of each place.
use Rattle.std.proofs.Common.{◌≡◌, ℕ, ◌==◌, Bool, true, false, cond, not, List, [], ◌∷◌, map}
use Rattle.std.proofs.Common.{filter, nat_lt, eqb, Option, Some, None, refl, ap, ◌∙◌, arith}
use Rattle.std.proofs.lemmas.Bool.Decides.{nat_tests}
use Rattle.world_objects.specs.declared.object.Half.{Half}
use Rattle.world_objects.specs.declared.lists.PlacedHalf.{PlacedHalf}
use Rattle.world_objects.specs.Lists.{half_number, halves_at, without, put_first, after_relist}
use Rattle.world_objects.specs.Lists.{others, listed_at}

one_more : (n q : ℕ) (e : PlacedHalf) (es kept : List PlacedHalf) (a b : Bool) → eqb e.place q ≡ a
    → not (eqb (half_number e.half) n) ≡ b
    → halves_at q kept ≡ others n (halves_at q es)
    → halves_at q (cond b (e ∷ kept) kept) ≡ others n (halves_at q (e ∷ es))
unfolding others
one_more n q e es kept true true h k ih = rw (h, k) (ap (λ (l : List Half). e.half ∷ l) ih)
one_more n q e es kept true false h k ih = rw (h, k) ih
one_more n q e es kept false true h k ih = rw h ih
one_more n q e es kept false false h k ih = rw h ih

pub halves_at-without : (n q : ℕ) (es : List PlacedHalf)
    → halves_at q (without n es) ≡ others n (halves_at q es)
unfolding without others
halves_at-without n q [] = refl
halves_at-without n q (e ∷ es) =
    one_more n q e es (without n es) (eqb e.place q) (not (eqb (half_number e.half) n)) refl refl
    (halves_at-without n q es)

told : (first : PlacedHalf) (es : List PlacedHalf) (b : Bool)
    → map (λ (e : PlacedHalf). e.half) (cond b (first ∷ es) es)
    ≡ cond b (first.half ∷ map (λ (e : PlacedHalf). e.half) es)
    (map (λ (e : PlacedHalf). e.half) es)
told first es true = refl
told first es false = refl

pub elsewhere : (p q r : ℕ) → nat_lt p r ≡ true → eqb p q ≡ true → eqb r q ≡ false
elsewhere p q r h e = grind (arith, nat_tests)

-- if an entry of an earlier place is before the one that is put in
past : (q : ℕ) (first e : PlacedHalf) (es put : List PlacedHalf) (a : Bool)
    → nat_lt e.place first.place ≡ true → eqb e.place q ≡ a
    → halves_at q put ≡ cond (eqb first.place q) (first.half ∷ halves_at q es) (halves_at q es)
    → halves_at q (e ∷ put)
    ≡ cond (eqb first.place q) (first.half ∷ halves_at q (e ∷ es)) (halves_at q (e ∷ es))
past q first e es put true t h ih =
    let far = elsewhere e.place q first.place t h in
    rw (h, far) (ap (λ (l : List Half). e.half ∷ l) (rw far at ih))
past q first e es put false t h ih = rw h ih

chosen : (q : ℕ) (first e : PlacedHalf) (es : List PlacedHalf) (b : Bool)
    → nat_lt e.place first.place ≡ b
    → halves_at q (put_first first es)
    ≡ cond (eqb first.place q) (first.half ∷ halves_at q es) (halves_at q es)
    → halves_at q (cond b (e ∷ put_first first es) (first ∷ e ∷ es))
    ≡ cond (eqb first.place q) (first.half ∷ halves_at q (e ∷ es)) (halves_at q (e ∷ es))
chosen q first e es true t ih = past q first e es (put_first first es) (eqb e.place q) t refl ih
chosen q first e es false t ih =
    told first (filter (λ (x : PlacedHalf). x.place == q) (e ∷ es)) (eqb first.place q)

pub halves_at-put_first : (q : ℕ) (first : PlacedHalf) (es : List PlacedHalf)
    → halves_at q (put_first first es)
    ≡ cond (eqb first.place q) (first.half ∷ halves_at q es) (halves_at q es)
unfolding put_first
halves_at-put_first q first [] = told first [] (eqb first.place q)
halves_at-put_first q first (e ∷ es) =
    chosen q first e es (nat_lt e.place first.place) refl (halves_at-put_first q first es)

pub halves_at-after_relist : (half : Half) (place : Option ℕ) (es : List PlacedHalf) (q : ℕ)
    → halves_at q (after_relist half place es) ≡ listed_at q half place (halves_at q es)
unfolding after_relist listed_at
halves_at-after_relist half None es q = halves_at-without (half_number half) q es
halves_at-after_relist half (Some place) es q =
    let rest = without (half_number half) es in
    let left = halves_at-without (half_number half) q es in
    halves_at-put_first q (record { place = place; half = half }) rest
    ∙ ap (λ (l : List Half). cond (eqb place q) (half ∷ l) l) left
