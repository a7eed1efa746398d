-- An item of a list and those around it.
use Rattle.std.proofs.Common.{◌≡◌, ℕ, ◌+◌, ◌<◌, ◌≤◌, List, [], ◌∷◌, ◌++◌, length, get_or, take}
use Rattle.std.proofs.Common.{drop, insert, remove, set, suc, sym, ap, ◌∙◌, arith}
use Rattle.std.proofs.Math.Seq.{set-append_seam, take-set-lt, take-append-add, drop-append-add}
use Rattle.std.specs.List.{splice}
use Rattle.std.proofs.lemmas.List.{append_assoc, drop_more, take_more_set, drop-set-lt}
use Rattle.std.proofs.lemmas.List.{take-append-drop, length-take-le, get_or-take}
use Rattle.std.proofs.lemmas.List.{get_or_append_left, set-append_left, take-append-le}
use Rattle.std.proofs.lemmas.List.{drop-append-le}

module _ {X : Type 0} (xs : List X) (i : ℕ) where
  -- the list around what is read in it
  pub read_form : (x : X) → i < length xs → x ≡ get_or xs i x
      → xs ≡ take i xs ++ (x ∷ drop (i + 1) xs)
  read_form x below read =
      sym (take-append-drop i xs)
      ∙ ap (λ t. take i xs ++ t)
      (drop_more xs i x below ∙ ap (λ e. e ∷ drop (i + 1) xs) (sym read))

  pub set_form : (y : X) → i < length xs → set xs i y ≡ take i xs ++ (y ∷ drop (i + 1) xs)
  set_form y below =
      sym (take-append-drop (i + 1) (set xs i y))
      ∙ ap (λ t. t ++ drop (i + 1) (set xs i y)) (take_more_set xs i y below)
      ∙ append_assoc (take i xs) (y ∷ []) (drop (i + 1) (set xs i y))
      ∙ ap (λ d. take i xs ++ (y ∷ d)) (drop-set-lt (i + 1) xs i y (omega arith))

  -- another item, and one more after it
  pub insert_form : (y z : X) → i < length xs
      → insert (set xs i y) (i + 1) z ≡ take i xs ++ (y ∷ (z ∷ drop (i + 1) xs))
  insert_form y z below =
      ap (λ t. t ++ (z ∷ drop (i + 1) (set xs i y))) (take_more_set xs i y below)
      ∙ append_assoc (take i xs) (y ∷ []) (z ∷ drop (i + 1) (set xs i y))
      ∙ ap (λ d. take i xs ++ (y ∷ (z ∷ d))) (drop-set-lt (i + 1) xs i y (omega arith))

  -- another item, and then the one after it is taken out
  pub remove_form : (y : X) → i < length xs
      → remove (set xs i y) (i + 1) ≡ take i xs ++ (y ∷ drop (suc (i + 1)) xs)
  remove_form y below =
      ap (λ t. t ++ drop (suc (i + 1)) (set xs i y)) (take_more_set xs i y below)
      ∙ append_assoc (take i xs) (y ∷ []) (drop (suc (i + 1)) (set xs i y))
      ∙ ap (λ d. take i xs ++ (y ∷ d)) (drop-set-lt (suc (i + 1)) xs i y (omega arith))

  -- and the first is changed once more
  pub reset_form : (y z : X) → i < length xs
      → set (remove (set xs i y) (i + 1)) i z ≡ take i xs ++ (z ∷ drop (suc (i + 1)) xs)
  reset_form y z below =
      let count = length-take-le i xs (omega arith) in
      ap (λ l. set l i z) (remove_form y below)
      ∙ ap (λ n. set (take i xs ++ (y ∷ drop (suc (i + 1)) xs)) n z) (sym count)
      ∙ set-append_seam (take i xs) y (drop (suc (i + 1)) xs) z

-- the items from `i + 1` on are others
module _ {X : Type 0} (xs ys : List X) (i : ℕ) (below : i < length xs) where
  first_items : length (take (i + 1) xs) ≡ i + 1
  first_items = length-take-le (i + 1) xs (omega arith)

  pub first_same : (other : X) → get_or (take (i + 1) xs ++ ys) i other ≡ get_or xs i other
  first_same other =
      get_or_append_left (take (i + 1) xs) ys other i (omega (arith, first_items))
      ∙ get_or-take (i + 1) xs i other (omega arith)

  pub later_form : (y : X) → set (take (i + 1) xs ++ ys) i y ≡ take i xs ++ (y ∷ ys)
  later_form y =
      set-append_left (take (i + 1) xs) ys i y (omega (arith, first_items))
      ∙ ap (λ t. t ++ ys)
      (sym (take-set-lt (i + 1) xs i y (omega arith)) ∙ take_more_set xs i y below)
      ∙ append_assoc (take i xs) (y ∷ []) ys

-- a stretch of a list that is between two others
pub splice_between : {X : Type 0} (xs ys zs middle : List X) (a b from to : ℕ)
    → length xs + a ≡ from → length xs + b ≡ to → a ≤ length ys → b ≤ length ys
    → splice (xs ++ (ys ++ zs)) from to middle ≡ xs ++ (splice ys a b middle ++ zs)
splice_between xs ys zs middle a b from to start end fits fits' =
    let front : take from (xs ++ (ys ++ zs)) ≡ xs ++ take a ys =
    ap (λ n. take n (xs ++ (ys ++ zs))) (sym start) ∙ take-append-add xs (ys ++ zs) a
    ∙ ap (λ l. xs ++ l) (take-append-le a ys zs fits) in
    let back : drop to (xs ++ (ys ++ zs)) ≡ drop b ys ++ zs =
    ap (λ n. drop n (xs ++ (ys ++ zs))) (sym end) ∙ drop-append-add xs (ys ++ zs) b
    ∙ drop-append-le b ys zs fits' in
    ap (λ l. l ++ (middle ++ drop to (xs ++ (ys ++ zs)))) front
    ∙ ap (λ l. (xs ++ take a ys) ++ (middle ++ l)) back
    ∙ append_assoc xs (take a ys) (middle ++ (drop b ys ++ zs))
    ∙ ap (λ l. xs ++ l)
    (sym (append_assoc (take a ys) (middle ++ drop b ys) zs
    ∙ ap (λ l. take a ys ++ l) (append_assoc middle (drop b ys) zs)))
