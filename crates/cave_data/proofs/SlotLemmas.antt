-- The finite map of a table of slots has at a number what is in that slot.
use Rattle.std.proofs.Common.{◌≡◌, ℕ, ◌+◌, ◌<◌, ◌≤◌, length, option_and_then, suc, zero, true}
use Rattle.std.proofs.Common.{false, cond, List, [], ◌∷◌, Option, Some, None, option_map, refl, ap}
use Rattle.std.proofs.Common.{◌∙◌, arith}
use Rattle.std.proofs.lemmas.Bool.Decides.{nat_tests}
use Rattle.std.proofs.lemmas.Option.{slice_get_past}
use Rattle.std.specs.Ordering.{nat_cmp, eq_by_cmp}
use Rattle.std.specs.Cmp.{nat_cmp_total}
use Rattle.std.specs.FinMap as map
use Rattle.cave_data.specs.Slots.{slot, numbered_items, by_number}

same_number : (n : ℕ) → eq_by_cmp nat_cmp n n ≡ true
same_number n = grind (arith, nat_tests)

other_number : (m n : ℕ) → m < n → eq_by_cmp nat_cmp m n ≡ false
other_number m n h = grind (arith, nat_tests)

later_number : (m n : ℕ) → n < m → eq_by_cmp nat_cmp m n ≡ false
later_number m n h = grind (arith, nat_tests)

module _ {X Y : Type 0} (view : X → Y) where
  before_first : (xs : List (Option X)) (q n : ℕ) → q < n
      → map.find nat_cmp q (numbered_items view n xs) ≡ None
  before_first [] q n h = refl
  before_first (None ∷ xs) q n h = before_first xs q (suc n) (omega arith)
  before_first (Some x ∷ xs) q n h =
      ap (λ b. cond b (Some (view x)) (map.find nat_cmp q (numbered_items view (suc n) xs)))
      (other_number q n h) ∙ before_first xs q (suc n) (omega arith)

  find-numbered_items : (xs : List (Option X)) (j n q : ℕ) → q ≡ j + n
      → map.find nat_cmp q (numbered_items view n xs) ≡ option_map view (slot xs j)
  find-numbered_items [] j n q e = refl
  find-numbered_items (None ∷ xs) zero n q e = before_first xs q (suc n) (omega arith)
  find-numbered_items (None ∷ xs) (suc j) n q e = find-numbered_items xs j (suc n) q (omega arith)
  find-numbered_items (Some x ∷ xs) zero n q e =
      let same : q ≡ n = omega arith in
      ap (λ m. cond (eq_by_cmp nat_cmp m n) (Some (view x))
      (map.find nat_cmp m (numbered_items view (suc n) xs))) same
      ∙ ap (λ b. cond b (Some (view x)) (map.find nat_cmp n (numbered_items view (suc n) xs)))
      (same_number n)
  find-numbered_items (Some x ∷ xs) (suc j) n q e =
      ap (λ b. cond b (Some (view x)) (map.find nat_cmp q (numbered_items view (suc n) xs)))
      (later_number q n (omega arith)) ∙ find-numbered_items xs j (suc n) q (omega arith)

  pub get-by_number : (xs : List (Option X)) (n : ℕ)
      → map.get (by_number view xs) n ≡ option_map view (slot xs n)
  unfolding by_number
  get-by_number xs n = map.get-from_entries nat_cmp_total (numbered_items view 0 xs) n
      ∙ find-numbered_items xs n 0 n (omega arith)

  pub none_past : (xs : List (Option X)) (n : ℕ) → length xs ≤ n
      → map.get (by_number view xs) n ≡ None
  none_past xs n past =
      get-by_number xs n
      ∙ ap (λ s. option_map view (option_and_then (λ x. x) s)) (slice_get_past xs n past)

pub ruleset slots = (get-by_number)
