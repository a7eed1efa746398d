-- Tests of rows and of roles in the code are tests of what these say.
use Rattle.std.proofs.Common.{◌≡◌, Bool, List, [], ◌∷◌, map, refl, sym, ap, ◌∙◌}
use Rattle.std.specs.Prelude.{◌||◌}
use Rattle.std.specs.List.{list_any}

list_any-map : {A B : Type 0} (p : B → Bool) (f : A → B) (xs : List A)
    → list_any p (map f xs) ≡ list_any (λ x. p (f x)) xs
list_any-map p f [] = refl
list_any-map p f (x ∷ xs) = ap (λ b. p (f x) || b) (list_any-map p f xs)

-- an answer about rows, for what they say
pub any_mapped : {A B : Type 0} (p : B → Bool) (f : A → B) (xs : List A) (answer : Bool)
    → answer ≡ list_any (λ x. p (f x)) xs → answer ≡ list_any p (map f xs)
any_mapped p f xs answer is = is ∙ sym (list_any-map p f xs)
