-- Lists made from the elements of a list, for what is noted log by log.
use Rattle.std.proofs.Common.{◌≡◌, ℕ, ◌+◌, Bool, List, [], ◌∷◌, ◌++◌, refl, sym, ap, ap₂, ◌∙◌}
use Rattle.std.specs.Prelude.{◌||◌}
use Rattle.std.specs.List.{flat_map, list_any, sum_by}
use Rattle.std.proofs.lemmas.List.Folds.{list_any-append}
use Rattle.std.proofs.lemmas.List.Sums.{sum_by-cons}

-- functions that agree
pub agree_flat : {X A : Type 0} (f g : X → List A) (xs : List X) → ((x : X) → f x ≡ g x)
    → flat_map f xs ≡ flat_map g xs
agree_flat f g [] agree = refl
agree_flat f g (x ∷ xs) agree = ap₂ (λ here rest. here ++ rest) (agree x) (agree_flat f g xs agree)

pub agree_sum : {X : Type 0} (f g : X → ℕ) (xs : List X) → ((x : X) → f x ≡ g x)
    → sum_by f xs ≡ sum_by g xs
agree_sum f g [] agree = refl
agree_sum f g (x ∷ xs) agree = sum_by-cons f x xs
    ∙ ap₂ (λ here rest. here + rest) (agree x) (agree_sum f g xs agree) ∙ sym (sum_by-cons g x xs)

-- a test that some element of some list passes
pub any_flat : {X A : Type 0} (p : A → Bool) (f : X → List A) (xs : List X)
    → list_any p (flat_map f xs) ≡ list_any (λ x. list_any p (f x)) xs
any_flat p f [] = refl
any_flat p f (x ∷ xs) =
    list_any-append p (f x) (flat_map f xs) ∙ ap (λ b. list_any p (f x) || b) (any_flat p f xs)
