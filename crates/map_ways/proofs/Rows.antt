-- Tests and counts of rows in the code are those of what the rows say.
use Rattle.std.proofs.Common.{◌≡◌, ℕ, zero, suc, ◌+◌, ◌≤◌, Bool, true, false, cond, List, [], ◌∷◌}
use Rattle.std.proofs.Common.{length, map, refl, sym, ap, ◌∙◌, arith, lit≤}
use Rattle.std.specs.Prelude.{◌||◌}
use Rattle.std.specs.List.{All, filter, list_all, list_any, range_with_len}
use Rattle.std.proofs.lemmas.List.Elements.{All-cons, All-filter, All-nil}
use Rattle.std.proofs.lemmas.List.Folds.{list_all-map}
use Rattle.std.proofs.lemmas.List.FromFn.{length-range_with_len}
use Rattle.std.proofs.lemmas.List.Sums.{count_by-le-length, length-filter}
use Rattle.cave_data.specs.CaveView.{CaveView}
use Rattle.base_lines.specs.Numbers.{LAST_PLACE}
use Rattle.map_ways.specs.Ways.{is_mapped, mapped_places, place_numbers}

list_any-map : {A B : Type 0} (p : B → Bool) (f : A → B) (xs : List A)
    → list_any p (map f xs) ≡ list_any (λ x. p (f x)) xs
list_any-map p f [] = refl
list_any-map p f (x ∷ xs) = ap (λ b. p (f x) || b) (list_any-map p f xs)

-- an answer about rows, for what they say
pub any_mapped : {A B : Type 0} (p : B → Bool) (f : A → B) (xs : List A) (answer : Bool)
    → answer ≡ list_any (λ x. p (f x)) xs → answer ≡ list_any p (map f xs)
any_mapped p f xs answer is = is ∙ sym (list_any-map p f xs)

pub all_mapped : {A B : Type 0} (p : B → Bool) (f : A → B) (xs : List A) (answer : Bool)
    → answer ≡ list_all (λ x. p (f x)) xs → answer ≡ list_all p (map f xs)
all_mapped p f xs answer is = is ∙ sym (list_all-map p f xs)

length_cond : {A B : Type 0} (b : Bool) (x : A) (y : B) (xs : List A) (ys : List B)
    → length xs ≡ length ys → length (cond b (x ∷ xs) xs) ≡ length (cond b (y ∷ ys) ys)
length_cond true x y xs ys same = ap (λ n. suc n) same
length_cond false x y xs ys same = same

pub length-filter-map : {A B : Type 0} (p : B → Bool) (f : A → B) (xs : List A)
    → length (filter p (map f xs)) ≡ length (filter (λ x. p (f x)) xs)
length-filter-map p f [] = refl
length-filter-map p f (x ∷ xs) =
    length_cond (p (f x)) (f x) x (filter p (map f xs)) (filter (λ x. p (f x)) xs)
    (length-filter-map p f xs)

pub ruleset rows = (length-filter-map)

All-range : (most first count : ℕ) → first + count ≤ most + 1
    → All (λ n. n ≤ most) (range_with_len first count)
All-range most first zero within = All-nil (λ n. n ≤ most)
All-range most first (suc count) within =
    All-cons (λ n. n ≤ most) first (range_with_len (first + 1) count) (omega arith)
    (All-range most (first + 1) count (omega arith))

-- numbers of a range that pass a test are in its bounds
pub All-filter-range : (p : ℕ → Bool) (most first count : ℕ) → first + count ≤ most + 1
    → All (λ n. n ≤ most) (filter p (range_with_len first count))
All-filter-range p most first count within =
    All-filter p (λ n. n ≤ most) (range_with_len first count) (All-range most first count within)

pub length-filter-range : (p : ℕ → Bool) (first count : ℕ)
    → length (filter p (range_with_len first count)) ≤ count
length-filter-range p first count =
    let counted = length-filter p (range_with_len first count) in
    let few = count_by-le-length p (range_with_len first count) in
    let long = length-range_with_len first count in
    omega (arith, counted, few, long)

pub ruleset in_range = (All-filter-range, length-filter-range)

-- places on the map have a number
pub mapped_within : (cave : CaveView) → All (λ place. place ≤ LAST_PLACE) (mapped_places cave)
unfolding mapped_places place_numbers
mapped_within cave =
    All-filter-range (is_mapped cave) LAST_PLACE 1 LAST_PLACE (lit≤ tt)

-- and so there are at most this many
pub mapped_few : (cave : CaveView) → length (mapped_places cave) ≤ LAST_PLACE
unfolding mapped_places place_numbers
mapped_few cave = length-filter-range (is_mapped cave) 1 LAST_PLACE
