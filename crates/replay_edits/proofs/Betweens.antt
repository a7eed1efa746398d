-- An item that is added, removed or replaced in a list that is between two others.
use Rattle.std.proofs.Common.{◌≡◌, ℕ, ◌+◌, ◌-◌, ◌<◌, ◌≤◌, List, ◌++◌, length, get_or, insert, remove}
use Rattle.std.proofs.Common.{set, refl, ap, ◌∙◌, arith}
use Rattle.std.proofs.lemmas.List.{get_or_append_left, get_or-append_right, set-append_left}
use Rattle.std.proofs.lemmas.List.{set-append_right}
use Rattle.std.proofs.lemmas.List.Edits.{insert-append_left, insert-append_right}
use Rattle.std.proofs.lemmas.List.Edits.{remove-append_left, remove-append_right}

pub insert_between : {X : Type 0} (before items after : List X) (within place : ℕ) (item : X)
    → length before + within ≡ place → within ≤ length items
    → insert (before ++ (items ++ after)) place item
    ≡ before ++ (insert items within item ++ after)
insert_between before items after within place item here fits =
    let e : place - length before ≡ within = omega arith in
    insert-append_right before (items ++ after) (length before) place item refl (omega arith)
    ∙ ap (λ n. before ++ insert (items ++ after) n item) e
    ∙ ap (λ l. before ++ l) (insert-append_left items after within item fits)

pub remove_between : {X : Type 0} (before items after : List X) (within place : ℕ)
    → length before + within ≡ place → within < length items
    → remove (before ++ (items ++ after)) place ≡ before ++ (remove items within ++ after)
remove_between before items after within place here fits =
    let e : place - length before ≡ within = omega arith in
    remove-append_right before (items ++ after) (length before) place refl (omega arith)
    ∙ ap (λ n. before ++ remove (items ++ after) n) e
    ∙ ap (λ l. before ++ l) (remove-append_left items after within fits)

pub set_between : {X : Type 0} (before items after : List X) (within place : ℕ) (item : X)
    → length before + within ≡ place → within < length items
    → set (before ++ (items ++ after)) place item ≡ before ++ (set items within item ++ after)
set_between before items after within place item here fits =
    let e : place - length before ≡ within = omega arith in
    set-append_right before (items ++ after) (length before) place item refl (omega arith)
    ∙ ap (λ n. before ++ set (items ++ after) n item) e
    ∙ ap (λ l. before ++ l) (set-append_left items after within item fits)

pub get_between : {X : Type 0} (before items after : List X) (within place : ℕ) (other : X)
    → length before + within ≡ place → within < length items
    → get_or (before ++ (items ++ after)) place other ≡ get_or items within other
get_between before items after within place other here fits =
    let e : place - length before ≡ within = omega arith in
    get_or-append_right before (items ++ after) (length before) place other refl (omega arith)
    ∙ ap (λ n. get_or (items ++ after) n other) e
    ∙ get_or_append_left items after other within fits
