-- The first of a list.
use Rattle.std.proofs.Common.{◌≡◌, ℕ, ◌≤◌, ◌<◌, ◌==◌, true, false, nat_lt, min, List, ◌++◌, Option}
use Rattle.std.proofs.Common.{take, drop, map, length, sym, ap, ◌∙◌, arith}
use Rattle.std.proofs.lemmas.Bool.Decides.{nat_tests}
use Rattle.std.proofs.lemmas.List.{take_at, take_all, take-take, drop_all, append-nil}
use Rattle.std.proofs.lemmas.List.{length-take, length-take-le}
use Rattle.std.specs.List.{filter_map}
use Rattle.data_rows.specs.Rows.{Going}
use Rattle.data_rows.specs.RowViews.{going}
use Rattle.data_rows.specs.declared.rows.Row.{Row}
use Rattle.turn_dwarves.specs.Ahead.{without_repeats}

-- if n were found, they are the first n
pub full : (n : ℕ) (xs ys all : List ℕ) → length xs ≡ n → take n (xs ++ ys) ≡ take n all
    → xs ≡ take n all
full n xs ys all many same = sym (take_at xs ys n many) ∙ same

-- if no row is left and at most n were found, they are the first n
pub short : (n : ℕ) (xs all : List ℕ) (last : Option ℕ) (lead : Going → Option ℕ)
    (rows : List Row) (i : ℕ) → length rows ≤ i → length xs ≤ n
    → take n (xs ++ without_repeats last (filter_map lead (map going (drop i rows)))) ≡ take n all
    → xs ≡ take n all
short n xs all last lead rows i none few same =
    let ahead : List Row → List ℕ =
    λ left. without_repeats last (filter_map lead (map going left)) in
    let rest = ap (λ (left : List Row). take n (xs ++ ahead left)) (drop_all i rows none) in
    sym (take_all n xs few) ∙ (ap (λ l. take n l) (sym (append-nil xs)) ∙ (sym rest ∙ same))

-- if more than 19 of the first 20 were found, there are more, and the first 19 are the same
pub record AreMany (found all : List ℕ) : Type 0 where
  pub some : (length all == 0) ≡ false
  pub more : nat_lt 19 (length all) ≡ true
  pub long : length (take 19 all) ≡ 19
  pub same : take 19 found ≡ take 19 all

pub many : (found all : List ℕ) → found ≡ take 20 all → 19 < length found → AreMany found all
many found all is more =
    let counted : length found ≡ min 20 (length all) = ap length is ∙ length-take 20 all in
    record {
      some = grind (arith, nat_tests);
      more = grind (arith, nat_tests);
      long = length-take-le 19 all (omega (arith, counted, more));
      same = ap (λ l. take 19 l) is ∙ take-take 19 20 all (omega arith);
    }

-- if some of the first 20 were found, and at most 19, they are all
pub record AreAll (found all : List ℕ) : Type 0 where
  pub some : (length all == 0) ≡ false
  pub no_more : nat_lt 19 (length all) ≡ false
  pub long : length all ≡ length found
  pub same : take (length found) found ≡ all

pub few : (found all : List ℕ) → found ≡ take 20 all → 0 < length found → length found ≤ 19
    → AreAll found all
few found all is one under =
    let counted : length found ≡ min 20 (length all) = ap length is ∙ length-take 20 all in
    let fits : length all ≤ 20 = omega (arith, counted, under) in
    let same : found ≡ all = is ∙ take_all 20 all fits in
    record {
      some = grind (arith, nat_tests);
      no_more = grind (arith, nat_tests);
      long = ap length (sym same);
      same = take_all (length found) found (omega arith) ∙ same;
    }
