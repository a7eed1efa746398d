-- The first of some things that passes a test, from a place on.
use Rattle.std.proofs.Common.{◌≡◌, ℕ, ◌+◌, Bool, true, false, cond, List, ◌∷◌, drop, Some, ap, ◌∙◌}
use Rattle.std.specs.List.{find, slice_get}
use Rattle.std.proofs.lemmas.List.{drop_more}
use Rattle.std.proofs.lemmas.Option.{get_or_from_slice_get, slice_get_within}

find_at : {A : Type 0} (test : A → Bool) (things : List A) (at : ℕ) (thing : A)
    → slice_get things at ≡ Some thing
    → find test (drop at things)
    ≡ cond (test thing) (Some thing) (find test (drop (at + 1) things))
find_at test things at thing is =
    let inside = slice_get_within things at thing is in
    let read = get_or_from_slice_get things at thing thing is in
    ap (find test) (drop_more things at thing inside)
    ∙ ap (λ one. find test (one ∷ drop (at + 1) things)) read

-- the one at the place passes
pub find_here : {A : Type 0} (test : A → Bool) (things : List A) (at : ℕ) (thing : A)
    → slice_get things at ≡ Some thing → test thing ≡ true
    → find test (drop at things) ≡ Some thing
find_here test things at thing is passes =
    find_at test things at thing is
    ∙ ap (λ b. cond b (Some thing) (find test (drop (at + 1) things))) passes

-- it doesn't
pub find_later : {A : Type 0} (test : A → Bool) (things : List A) (at : ℕ) (thing : A)
    → slice_get things at ≡ Some thing → test thing ≡ false
    → find test (drop at things) ≡ find test (drop (at + 1) things)
find_later test things at thing is fails =
    find_at test things at thing is
    ∙ ap (λ b. cond b (Some thing) (find test (drop (at + 1) things))) fails
