-- Looking a name up in a table of names, name by name.
use Rattle.std.proofs.Common.{◌≡◌, ℕ, ◌+◌, ◌<◌, Bool, cond, List, [], length, map, drop, get_or}
use Rattle.std.proofs.Common.{Some, sym, ap, ◌∙◌, arith}
use Rattle.std.specs.Borrow.{Bor}
use Rattle.std.specs.List.{position_from}
use Rattle.std.specs.Str.{bytes_eq}
use Rattle.std.proofs.lemmas.List.{at_drop_more, get_or-map, length-map}

abbrev texts : List (Bor (List ℕ)) → List (List ℕ)
texts names = map (λ known. known.now) names

abbrev is_name : List ℕ → List ℕ → Bool
is_name name known = bytes_eq known name

-- the name at a place is the one, or those after it are searched
pub name_here : (names : List (Bor (List ℕ))) (name known : List ℕ) (i : ℕ) (d : Bor (List ℕ))
    (b : Bool) → i < length names → known ≡ (get_or names i d).now → b ≡ bytes_eq known name
    → position_from (λ k. bytes_eq k name) i (drop i (texts names))
    ≡ cond b (Some i)
    (position_from (λ k. bytes_eq k name) (i + 1) (drop (i + 1) (texts names)))
name_here names name known i d b within is test =
    let inside : i < length (texts names) =
    omega (arith, length-map names (λ (k : Bor (List ℕ)). k.now)) in
    at_drop_more (position_from (λ k. bytes_eq k name) i) (texts names) i [] inside
    ∙ ap (λ k. cond (bytes_eq k name) (Some i)
    (position_from (λ k. bytes_eq k name) (i + 1) (drop (i + 1) (texts names))))
    (get_or-map (λ k. k.now) names i d [] within ∙ sym is)
    ∙ ap (λ v.
    cond v (Some i) (position_from (λ k. bytes_eq k name) (i + 1) (drop (i + 1) (texts names))))
    (sym test)
