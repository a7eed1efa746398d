-- The first line of a text and the lines of the rest.
use Rattle.std.proofs.Common.{◌≡◌, ℕ, ◌+◌, ◌<◌, ◌≤◌, Bool, true, false, cond, not, ◌==◌, List, []}
use Rattle.std.proofs.Common.{◌∷◌, length, take, drop, refl, sym, ap, ◌∙◌, arith}
use Rattle.std.specs.List.{slice_split, onto_first, position_or_len, before_first, after_first}
use Rattle.std.specs.Str.Lines.{lines, lines_of_parts, strip_carriage_return}
use Rattle.std.proofs.lemmas.Bool.{ne_eqb}
use Rattle.std.proofs.lemmas.List.{take_rest}
use Rattle.std.proofs.lemmas.List.Splits.{slice_split_first}

abbrev is_feed : ℕ → Bool
is_feed b = b == 10

some_parts : (xs : List ℕ) → (y : List ℕ) × (ys : List (List ℕ)) × (slice_split is_feed xs ≡ y ∷ ys)
some_parts [] = ([], [], refl)
some_parts (x ∷ xs) =
    let rest = some_parts xs in
    elim (is_feed x) as (λ b. (y : List ℕ) × (ys : List (List ℕ))
    × (cond b ([] ∷ slice_split is_feed xs) (onto_first x (slice_split is_feed xs)) ≡ y ∷ ys)) [
      | true ↦ ([], slice_split is_feed xs, refl)
      | false ↦ (x ∷ rest.0, rest.1, ap (onto_first x) rest.2)
    ]

in_parts : (x y : List ℕ) (ys parts : List (List ℕ)) → parts ≡ y ∷ ys
    → lines_of_parts (x ∷ parts) ≡ strip_carriage_return x ∷ lines_of_parts parts
in_parts x y ys parts e = ap (λ p. lines_of_parts (x ∷ p)) e
    ∙ ap (λ p. strip_carriage_return x ∷ lines_of_parts p) (sym e)

pub lines_ended : (xs : List ℕ) (n : ℕ) → n ≡ position_or_len is_feed xs → n < length xs
    → lines xs ≡ strip_carriage_return (take n xs) ∷ lines (drop (n + 1) xs)
lines_ended xs n e h =
    let within : position_or_len is_feed xs < length xs = omega arith in
    let parts = some_parts (after_first is_feed xs) in
    ap lines_of_parts (slice_split_first is_feed xs 0 within)
    ∙ in_parts (before_first is_feed xs) parts.0 parts.1 _ parts.2
    ∙ ap (λ k. strip_carriage_return (take k xs) ∷ lines (drop (k + 1) xs)) (sym e)

one_part : (xs : List ℕ) → length xs ≤ position_or_len is_feed xs → slice_split is_feed xs ≡ xs ∷ []
one_part [] h = refl
one_part (x ∷ xs) h =
    elim (is_feed x) as (λ b. length (x ∷ xs) ≤ cond (not b) (1 + position_or_len is_feed xs) 0
    → cond b ([] ∷ slice_split is_feed xs) (onto_first x (slice_split is_feed xs)) ≡ (x ∷ xs)
    ∷ []) [
      | true ↦ λ l. absurd (omega arith)
      | false ↦ λ l. ap (onto_first x) (one_part xs (omega arith))
    ] h

pub lines_unended : (xs : List ℕ) (n : ℕ) → n ≡ position_or_len is_feed xs → length xs ≤ n
    → 0 < length xs → lines xs ≡ xs ∷ []
lines_unended [] n e h m = absurd (omega arith)
lines_unended (x ∷ xs) n e h m =
    ap lines_of_parts (one_part (x ∷ xs) (omega arith))
    ∙ ap (λ b. cond b [] ((x ∷ xs) ∷ [])) (ne_eqb (length (x ∷ xs)) 0 (λ z. omega arith))

pub ruleset lines_of_first = (lines_ended, lines_unended, take_rest)
