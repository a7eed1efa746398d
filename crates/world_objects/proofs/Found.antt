-- Which entries have the half of a number.
use Rattle.std.proofs.Common.{◌≡◌, ℕ, Bool, true, false, List, [], ◌∷◌, eqb, Option, Some, None}
use Rattle.std.proofs.Common.{refl, sym, ap, ◌∙◌}
use Rattle.std.proofs.lemmas.Bool.{false≢true}
use Rattle.world_objects.specs.declared.lists.PlacedHalf.{PlacedHalf}
use Rattle.world_objects.specs.Lists.{half_number, halves_at, without, Lacks, IsOnlyAt, has_half}
use Rattle.world_objects.specs.Objects.{is_listed, is_place}
use Rattle.world_objects.proofs.Tests.{equal, unequal, itself}

-- an entry that isn't the one is kept
kept : (n : ℕ) (e : PlacedHalf) (es : List PlacedHalf) (b : Bool) → has_half n e ≡ b → b ≡ false
    → without n es ≡ es → without n (e ∷ es) ≡ e ∷ es
unfolding without
kept n e es true h f ih = absurd (false≢true (sym f))
kept n e es false h f ih = rw h (ap (λ (l : List PlacedHalf). e ∷ l) ih)

-- taking out a half that is nowhere changes nothing
pub without_absent : (n : ℕ) (es : List PlacedHalf) → Lacks n es → without n es ≡ es
unfolding without
without_absent n [] l = refl
without_absent n (e ∷ es) l =
    kept n e es (has_half n e) refl (unequal (half_number e.half) n l.0) (without_absent n es l.1)

no_place : (p : ℕ) → None ≡ Some p → ⊥
no_place p h = cc

pub Lacks_nowhere : (n : ℕ) (es : List PlacedHalf) → IsOnlyAt n None es → Lacks n es
Lacks_nowhere n [] o = tt
Lacks_nowhere n (e ∷ es) o = ((λ h. no_place e.place (o.0 h)), Lacks_nowhere n es o.1)

listed_first : (n : ℕ) (e : PlacedHalf) (es : List PlacedHalf) → has_half n e ≡ true
    → is_listed n (halves_at e.place (e ∷ es)) ≡ true
unfolding is_listed
listed_first n e es h = let here = itself e.place in rw (here, h) refl

listed_more : (n q : ℕ) (e : PlacedHalf) (es : List PlacedHalf) (b c : Bool) → eqb e.place q ≡ b
    → has_half n e ≡ c → is_listed n (halves_at q es) ≡ true
    → is_listed n (halves_at q (e ∷ es)) ≡ true
unfolding is_listed
listed_more n q e es true true h k t = rw (h, k) refl
listed_more n q e es true false h k t = rw (h, k) t
listed_more n q e es false c h k t = rw h t

from_there : (q : ℕ) (from : Option ℕ) → is_place q from ≡ true → from ≡ Some q
from_there q None h = absurd (false≢true h)
from_there q (Some p) h = ap Some (equal p q h)

-- what the lists of all places say of a half, its entries say
pub only_at : (n : ℕ) (from : Option ℕ) (es : List PlacedHalf)
    → ((q : ℕ) → is_listed n (halves_at q es) ≡ true → is_place q from ≡ true) → IsOnlyAt n from es
only_at n from [] h = tt
only_at n from (e ∷ es) h = (
  (λ s. from_there e.place from (h e.place (listed_first n e es (rw s (itself n))))),
  only_at n from es (λ q t. h q (listed_more n q e es (eqb e.place q) (has_half n e) refl refl t)),
)

-- a half that isn't in the list of the one place where it could be is nowhere
pub Lacks_unlisted : (n p : ℕ) (es : List PlacedHalf) → IsOnlyAt n (Some p) es
    → is_listed n (halves_at p es) ≡ false → Lacks n es
Lacks_unlisted n p [] only none = tt
Lacks_unlisted n p (e ∷ es) only none = (
  λ s. elsewhere n p e es s (same_place p e.place (only.0 s)) none,
  Lacks_unlisted n p es only.1 (unlisted_more n p e es (is_listed n (halves_at p es)) refl none),
)
  where
    same_place : (a b : ℕ) → Some a ≡ Some b → a ≡ b
    same_place a b h = cc

    elsewhere : (n p : ℕ) (e : PlacedHalf) (es : List PlacedHalf) → half_number e.half ≡ n
        → p ≡ e.place
        → is_listed n (halves_at p (e ∷ es)) ≡ false → ⊥
    elsewhere n p e es s t none =
        false≢true
        (sym none
        ∙ (ap (λ q. is_listed n (halves_at q (e ∷ es))) t
        ∙ listed_first n e es (rw s (itself n))))

    unlisted_more : (n p : ℕ) (e : PlacedHalf) (es : List PlacedHalf) (b : Bool)
        → is_listed n (halves_at p es) ≡ b → is_listed n (halves_at p (e ∷ es)) ≡ false
        → is_listed n (halves_at p es) ≡ false
    unlisted_more n p e es true h none =
        absurd (false≢true
        (sym none ∙ listed_more n p e es (eqb e.place p) (has_half n e) refl refl h))
    unlisted_more n p e es false h none = h
