-- The rows are those of three kinds, and add up to the score.
use Rattle.std.proofs.Common.{◌≡◌, ℕ, ◌+◌, ◌-◌, ℤ, pos, ◌+ℤ◌, neg_ℤ, Bool, cond, true, false, List}
use Rattle.std.proofs.Common.{[], ◌∷◌, ◌++◌, map, drop, Option, Some, None, refl, sym, ap, ap₂, ◌∙◌}
use Rattle.std.proofs.Common.{append_assoc, arith}
use Rattle.std.specs.Prelude.{is_some}
use Rattle.std.specs.FinMap as table
use Rattle.std.specs.Int.{int_max}
use Rattle.std.specs.List.{filter, flat_map, range_with_len, sum_by}
use Rattle.std.proofs.lemmas.Bool.{false≢true}
use Rattle.std.proofs.lemmas.Grind.{flat_map-append}
use Rattle.std.proofs.lemmas.Int.{ints, int_max_is}
use Rattle.std.proofs.lemmas.List.Sums.{sum_by-cons}
use Rattle.std.proofs.Math.IntN.{+ℤ_idl, +ℤ_assoc, pos-+ℤ-pos, neg_ℤ-+ℤ}
use Rattle.cave_data.specs.CaveView.{CaveView}
use Rattle.data_rows.specs.declared.rows.Hint.{Hint}
use Rattle.cave_world.specs.State.{is_hint_taken}
use Rattle.cave_world.specs.declared.state.State.{State}
use Rattle.turn_scene.specs.Treasures.{known_treasures}
use Rattle.turn_ends.specs.Score.{points_by, treasure_rows, score_rows, price_in, price_of}
use Rattle.turn_ends.specs.Score.{hints_taken, hint_costs, score_of}
use Rattle.play_tables.specs.ScoreRows.{TableRow, treasure_row, other_rows_of, hint_score_row}
use Rattle.play_tables.specs.ScoreRows.{cave_has_hint, hints_in}
use Rattle.play_tables.specs.ScoreRows.{treasure_rows_of, hint_rows_of, table_rows, sum_of, AddUp}
use Rattle.play_tables.specs.ScoreTable.{row_text}

pub rows_in_three : (cave : CaveView) (s : State)
    → flat_map row_text (table_rows cave s)
    ≡ flat_map row_text (treasure_rows_of cave s)
    ++ (flat_map row_text (other_rows_of cave s) ++ flat_map row_text (hint_rows_of cave s))
unfolding table_rows
rows_in_three cave s =
    flat_map-append row_text (treasure_rows_of cave s) (other_rows_of cave s ++ hint_rows_of cave s)
    ∙ ap (λ t. flat_map row_text (treasure_rows_of cave s) ++ t)
    (flat_map-append row_text (other_rows_of cave s) (hint_rows_of cave s))

-- ---- sums

sum_of-append : (xs ys : List TableRow) → sum_of (xs ++ ys) ≡ sum_of xs +ℤ sum_of ys
sum_of-append [] ys = sym (+ℤ_idl (sum_of ys))
sum_of-append (x ∷ xs) ys =
    ap (λ z. x.points +ℤ z) (sum_of-append xs ys)
    ∙ sym (+ℤ_assoc x.points (sum_of xs) (sum_of ys))

-- what a treasure counts
abbrev points_of_one : CaveView → State → ℕ → ℕ
points_of_one cave s x = points_by (treasure_rows cave x) s

module _ (cave : CaveView) (s : State) where
  treasures_sum : (xs : List ℕ)
      → sum_of (map (treasure_row cave s) xs) ≡ pos (sum_by (points_of_one cave s) xs)
  treasures_sum [] = refl
  treasures_sum (x ∷ xs) =
      ap (λ z. pos (points_of_one cave s x) +ℤ z) (treasures_sum xs)
      ∙ pos-+ℤ-pos (points_of_one cave s x) (sum_by (points_of_one cave s) xs)
      ∙ ap pos (sym (sum_by-cons (points_of_one cave s) x xs))

  -- what the other rows count is what the rows of the score after the first count
  others_sum : sum_of (other_rows_of cave s) ≡ pos (points_by (drop 1 (score_rows cave)) s)
  unfolding score_rows
  others_sum = omega (arith, ints)

  -- a hint that the cave doesn't have costs nothing
  no_price : (h : ℕ) → cave_has_hint cave h ≡ false → price_of cave h ≡ 0
  unfolding price_of
  no_price h none = go (table.get cave.hints h) none
    where
      go : (found : Option Hint) → is_some found ≡ false → price_in found ≡ 0
      go None e = refl
      go (Some row) e = absurd (false≢true (sym e))

  both : (p q : ℕ) → neg_ℤ (pos p) +ℤ neg_ℤ (pos q) ≡ neg_ℤ (pos (p + q))
  both p q = sym (neg_ℤ-+ℤ (pos p) (pos q)) ∙ ap neg_ℤ (pos-+ℤ-pos p q)

  hints_sum : (hs : List ℕ)
      → sum_of (map (hint_score_row cave s) (filter (cave_has_hint cave) hs))
      ≡ neg_ℤ (pos (sum_by (price_of cave) (filter (is_hint_taken s) hs)))
  hints_sum [] = refl
  hints_sum (h ∷ hs) =
      here (cave_has_hint cave h) (is_hint_taken s h) refl refl (filter (cave_has_hint cave) hs)
      (filter (is_hint_taken s) hs) (hints_sum hs)
    where
      here : (b t : Bool) → cave_has_hint cave h ≡ b → is_hint_taken s h ≡ t
          → (shown taken : List ℕ)
          → sum_of (map (hint_score_row cave s) shown) ≡ neg_ℤ (pos (sum_by (price_of cave) taken))
          → sum_of (map (hint_score_row cave s) (cond b (h ∷ shown) shown))
          ≡ neg_ℤ (pos (sum_by (price_of cave) (cond t (h ∷ taken) taken)))
      here true true e f shown taken same =
          rw f (ap (λ z. neg_ℤ (pos (price_of cave h)) +ℤ z) same
          ∙ both (price_of cave h) (sum_by (price_of cave) taken)
          ∙ ap (λ n. neg_ℤ (pos n)) (sym (sum_by-cons (price_of cave) h taken)))
      here true false e f shown taken same = rw f (+ℤ_idl _ ∙ same)
      here false true e f shown taken same =
          let free : price_of cave h + sum_by (price_of cave) taken ≡ sum_by (price_of cave) taken =
          omega (arith, no_price h e) in
          same ∙ ap (λ n. neg_ℤ (pos n)) (sym (sum_by-cons (price_of cave) h taken ∙ free))
      here false false e f shown taken same = same

-- what is counted less what is paid, and not below 0
paid : (a b c : ℕ)
    → pos (a + b - c) ≡ int_max (pos a +ℤ (pos b +ℤ neg_ℤ (pos c))) (pos 0)
paid a b c =
    omega (arith, ints, int_max_is (pos a +ℤ (pos b +ℤ neg_ℤ (pos c))) (pos 0))

pub rows_add_up : (cave : CaveView) (s : State) → AddUp cave s
unfolding score_of score_rows table_rows hints_in hints_taken
rows_add_up cave s =
    let treasures : ℕ = sum_by (points_of_one cave s) (known_treasures cave) in
    let others : ℕ = points_by (drop 1 (score_rows cave)) s in
    let sum : sum_of (table_rows cave s)
    ≡ pos treasures +ℤ (pos others +ℤ neg_ℤ (pos (hint_costs cave s))) =
    sum_of-append (treasure_rows_of cave s) (other_rows_of cave s ++ hint_rows_of cave s)
    ∙ ap₂ (λ a b. a +ℤ b) (treasures_sum cave s (known_treasures cave))
    (sum_of-append (other_rows_of cave s) (hint_rows_of cave s)
    ∙ ap₂ (λ a b. a +ℤ b) (others_sum cave s) (hints_sum cave s (range_with_len 1 20))) in
    paid treasures others (hint_costs cave s) ∙ ap (λ z. int_max z (pos 0)) (sym sum)

pub ruleset summing = rows_add_up

pub ruleset in_three = (rows_in_three, append_assoc)
