-- The objects in the hands, one by one.
use Rattle.std.proofs.Common.{◌≡◌, ℕ, ◌+◌, Bool, true, false, List, [], ◌∷◌, ◌++◌, length, cond}
use Rattle.std.proofs.Common.{sym, ap, ◌∙◌, refl, arith}
use Rattle.std.specs.List.{filter, range_with_len}
use Rattle.std.proofs.lemmas.List.{map-id, append-nil, length_push}
use Rattle.std.proofs.lemmas.List.FromFn.{filter_of_map_range_with_len_more}
use Rattle.world_objects.specs.Objects.{Layout, is_in_hands, in_hands_up_to}

carried_more : (o : Layout) (n : ℕ)
    → in_hands_up_to o (n + 1) ≡ in_hands_up_to o n ++ cond (is_in_hands o (n + 1)) ((n + 1) ∷ []) []
unfolding in_hands_up_to
carried_more o n =
    let next : 1 + n ≡ n + 1 = omega arith in
    sym (ap (λ (l : List ℕ). filter (is_in_hands o) l) (map-id (range_with_len 1 (n + 1))))
    ∙ (filter_of_map_range_with_len_more (is_in_hands o) (λ x. x) 1 n (n + 1) next
    ∙ ap (λ (l : List ℕ). filter (is_in_hands o) l ++ cond (is_in_hands o (n + 1)) ((n + 1) ∷ []) [])
    (map-id (range_with_len 1 n)))

-- one more object, which is in the hands
pub carried_one : (o : Layout) (n x : ℕ) (xs : List ℕ) (b : Bool) → xs ≡ in_hands_up_to o n
    → x ≡ n + 1 → b ≡ is_in_hands o x → b ≡ true → xs ++ x ∷ [] ≡ in_hands_up_to o (n + 1)
carried_one o n x xs b found next is held =
    let here : is_in_hands o (n + 1) ≡ true = ap (λ y. is_in_hands o y) (sym next)
    ∙ (sym is ∙ held) in
    rw (found, next)
    (sym (carried_more o n ∙ ap (λ t. in_hands_up_to o n ++ cond t ((n + 1) ∷ []) []) here))

-- one more object, which isn't
pub carried_no : (o : Layout) (n x : ℕ) (xs : List ℕ) (b : Bool) → xs ≡ in_hands_up_to o n
    → x ≡ n + 1 → b ≡ is_in_hands o x → b ≡ false → xs ≡ in_hands_up_to o (n + 1)
carried_no o n x xs b found next is free =
    let here : is_in_hands o (n + 1) ≡ false = ap (λ y. is_in_hands o y) (sym next)
    ∙ (sym is ∙ free) in
    found ∙ sym (carried_more o n
    ∙ (ap (λ t. in_hands_up_to o n ++ cond t ((n + 1) ∷ []) []) here
    ∙ append-nil (in_hands_up_to o n)))

pub carried_none : (o : Layout) → in_hands_up_to o 0 ≡ []
unfolding in_hands_up_to
carried_none o = refl

pub ruleset listing_in_hands = (carried_one, carried_no, carried_none)

-- ---- how many there are

pub count_one : (o : Layout) (n x k : ℕ) (b : Bool) → k ≡ length (in_hands_up_to o n) → x ≡ n + 1
    → b ≡ is_in_hands o x → b ≡ true → k + 1 ≡ length (in_hands_up_to o (n + 1))
count_one o n x k b counted next is held =
    let more = carried_one o n x (in_hands_up_to o n) b refl next is held in
    omega (arith, counted, ap (λ (l : List ℕ). length l) more, length_push (in_hands_up_to o n) x)

pub count_no : (o : Layout) (n x k : ℕ) (b : Bool) → k ≡ length (in_hands_up_to o n) → x ≡ n + 1
    → b ≡ is_in_hands o x → b ≡ false → k ≡ length (in_hands_up_to o (n + 1))
count_no o n x k b counted next is free =
    counted ∙ ap (λ (l : List ℕ). length l)
    (carried_no o n x (in_hands_up_to o n) b refl next is free)

pub count_none : (o : Layout) → 0 ≡ length (in_hands_up_to o 0)
count_none o = sym (ap (λ (l : List ℕ). length l) (carried_none o))

pub ruleset counting_in_hands = (count_one, count_no, count_none)
