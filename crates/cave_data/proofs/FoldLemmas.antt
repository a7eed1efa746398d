-- Folds: from the last item back, and what happens to one part of a state.
use Rattle.std.proofs.Common.{◌≡◌, List, [], ◌∷◌, ◌++◌, reverse, fold, Option, Some, None, refl}
use Rattle.std.proofs.Common.{sym, ap, ◌∙◌}
use Rattle.std.specs.List.{filter_map, cons_option}
use Rattle.std.proofs.lemmas.List.{reverse-append}

-- f over items that are given from the last to the first
abbrev pub fold_back : {A B : Type 0} → (B → A → B) → B → List A → B
fold_back f a [] = a
fold_back f a (x ∷ xs) = f (fold_back f a xs) x

pub reverse-cons : {A : Type 0} (x : A) (xs : List A) → reverse (x ∷ xs) ≡ reverse xs ++ x ∷ []
reverse-cons x xs = reverse-append (x ∷ []) xs

module _ {A B : Type 0} (f : B → A → B) where
  fold_back-push : (a : B) (xs : List A) (x : A)
      → fold_back f a (xs ++ x ∷ []) ≡ fold_back f (f a x) xs
  fold_back-push a [] x = refl
  fold_back-push a (y ∷ xs) x = ap (λ b. f b y) (fold_back-push a xs x)

  pub fold-reversed : (a : B) (xs : List A) → fold f a xs ≡ fold_back f a (reverse xs)
  fold-reversed a [] = refl
  fold-reversed a (x ∷ xs) = fold-reversed (f a x) xs ∙ sym (fold_back-push a (reverse xs) x)
      ∙ sym (ap (fold_back f a) (reverse-cons x xs))

abbrev pub added : {A R : Type 0} → (A → R → A) → A → Option R → A
added add a None = a
added add a (Some r) = add a r

picked : {A R : Type 0} (add : A → R → A) (a : A) (o : Option R) (rs : List R)
    → fold add (added add a o) rs ≡ fold add a (cons_option o rs)
picked add a None rs = refl
picked add a (Some r) rs = refl

-- if each item changes a part of the state by what is picked of it, all items together change it by
-- all that is picked
pub fold-part : {T A E R : Type 0} (put : T → E → T) (part : T → A) (pick : E → Option R) (add : A
    → R → A)
    → ((t : T) (e : E) → part (put t e) ≡ added add (part t) (pick e)) → (t : T) (es : List E)
    → part (fold put t es) ≡ fold add (part t) (filter_map pick es)
fold-part put part pick add each t [] = refl
fold-part put part pick add each t (e ∷ es) =
    fold-part put part pick add each (put t e) es
    ∙ ap (λ a. fold add a (filter_map pick es)) (each t e)
    ∙ picked add (part t) (pick e) (filter_map pick es)
