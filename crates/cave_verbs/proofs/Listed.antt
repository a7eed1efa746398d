-- The objects that the inventory lists, one by one.
use Rattle.std.proofs.Common.{◌≡◌, ℕ, ◌+◌, Bool, true, false, List, [], ◌∷◌, ◌++◌, cond, sym, ap}
use Rattle.std.proofs.Common.{◌∙◌, refl, arith}
use Rattle.std.specs.List.{filter, range_with_len}
use Rattle.std.proofs.lemmas.List.{map-id, append-nil}
use Rattle.std.proofs.lemmas.List.FromFn.{filter_of_map_range_with_len_more}
use Rattle.cave_data.specs.CaveView.{CaveView}
use Rattle.cave_world.specs.declared.state.State.{State}
use Rattle.cave_verbs.specs.Finding.{is_in_inventory, listed_up_to}

filter_more : (p : ℕ → Bool) (n : ℕ)
    → filter p (range_with_len 1 (n + 1)) ≡ filter p (range_with_len 1 n)
    ++ cond (p (n + 1)) ((n + 1) ∷ []) []
filter_more p n =
    let next : 1 + n ≡ n + 1 = omega arith in
    sym (ap (λ (l : List ℕ). filter p l) (map-id (range_with_len 1 (n + 1))))
    ∙ (filter_of_map_range_with_len_more p (λ x. x) 1 n (n + 1) next
    ∙ ap (λ (l : List ℕ). filter p l
    ++ cond (p (n + 1)) ((n + 1) ∷ []) []) (map-id (range_with_len 1 n)))

listed_more : (cave : CaveView) (s : State) (n : ℕ)
    → listed_up_to cave s (n + 1) ≡ listed_up_to cave s n
    ++ cond (is_in_inventory cave s (n + 1)) ((n + 1) ∷ []) []
unfolding listed_up_to
listed_more cave s n = filter_more (is_in_inventory cave s) n

-- one object more, which is listed
pub listed_one : (cave : CaveView) (s : State) (n x : ℕ) (xs : List ℕ) (b : Bool)
    → xs ≡ listed_up_to cave s n → x ≡ n + 1 → b ≡ is_in_inventory cave s x → b ≡ true
    → xs ++ x ∷ [] ≡ listed_up_to cave s (n + 1)
listed_one cave s n x xs b found next is held =
    let here : is_in_inventory cave s (n + 1) ≡ true = ap (λ y. is_in_inventory cave s y) (sym next)
    ∙ (sym is ∙ held) in
    rw (found, next) (sym (listed_more cave s n
    ∙ ap (λ t. listed_up_to cave s n ++ cond t ((n + 1) ∷ []) []) here))

-- one object more, which isn't
pub listed_no : (cave : CaveView) (s : State) (n x : ℕ) (xs : List ℕ) (b : Bool)
    → xs ≡ listed_up_to cave s n → x ≡ n + 1 → b ≡ is_in_inventory cave s x → b ≡ false
    → xs ≡ listed_up_to cave s (n + 1)
listed_no cave s n x xs b found next is free =
    let here : is_in_inventory cave s (n + 1) ≡ false =
    ap (λ y. is_in_inventory cave s y) (sym next)
    ∙ (sym is ∙ free) in
    found ∙ sym (listed_more cave s n
    ∙ (ap (λ t. listed_up_to cave s n ++ cond t ((n + 1) ∷ []) []) here
    ∙ append-nil (listed_up_to cave s n)))

pub listed_none : (cave : CaveView) (s : State) → listed_up_to cave s 0 ≡ []
unfolding listed_up_to
listed_none cave s = refl

pub ruleset listing = (listed_one, listed_no, listed_none)
