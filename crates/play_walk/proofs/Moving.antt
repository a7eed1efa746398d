-- The objects that were moved, one by one.
use Rattle.std.proofs.Common.{◌≡◌, ℕ, ◌+◌, Bool, true, false, List, [], ◌∷◌, ◌++◌, cond, sym, ap}
use Rattle.std.proofs.Common.{◌∙◌, refl, arith}
use Rattle.std.specs.List.{filter, range_with_len}
use Rattle.std.proofs.lemmas.List.{map-id, append-nil}
use Rattle.std.proofs.lemmas.List.FromFn.{filter_of_map_range_with_len_more}
use Rattle.world_objects.specs.Objects.{Layout}
use Rattle.play_walk.specs.Objects.{is_moved, moved_up_to}

module _ (s t : Layout) where
  moved_more : (n : ℕ)
      → moved_up_to s t (n + 1) ≡ moved_up_to s t n ++ cond (is_moved s t (n + 1)) ((n + 1) ∷ []) []
  unfolding moved_up_to
  moved_more n =
      let next : 1 + n ≡ n + 1 = omega arith in
      sym (ap (λ (l : List ℕ). filter (is_moved s t) l) (map-id (range_with_len 1 (n + 1))))
      ∙ (filter_of_map_range_with_len_more (is_moved s t) (λ x. x) 1 n (n + 1) next
      ∙ ap (λ (l : List ℕ). filter (is_moved s t) l ++ cond (is_moved s t (n + 1)) ((n + 1) ∷ []) [])
      (map-id (range_with_len 1 n)))

  -- one more object, which was moved
  pub moved_one : (n x : ℕ) (xs : List ℕ) (b : Bool) → xs ≡ moved_up_to s t n
      → x ≡ n + 1 → b ≡ is_moved s t x → b ≡ true → xs ++ x ∷ [] ≡ moved_up_to s t (n + 1)
  moved_one n x xs b found next is moved =
      let here : is_moved s t (n + 1) ≡ true = ap (λ y. is_moved s t y) (sym next)
      ∙ (sym is ∙ moved) in
      rw (found, next)
      (sym (moved_more n ∙ ap (λ b. moved_up_to s t n ++ cond b ((n + 1) ∷ []) []) here))

  -- one more object, which wasn't
  pub moved_no : (n x : ℕ) (xs : List ℕ) (b : Bool) → xs ≡ moved_up_to s t n
      → x ≡ n + 1 → b ≡ is_moved s t x → b ≡ false → xs ≡ moved_up_to s t (n + 1)
  moved_no n x xs b found next is stays =
      let here : is_moved s t (n + 1) ≡ false = ap (λ y. is_moved s t y) (sym next)
      ∙ (sym is ∙ stays) in
      found ∙ sym (moved_more n
      ∙ (ap (λ b. moved_up_to s t n ++ cond b ((n + 1) ∷ []) []) here
      ∙ append-nil (moved_up_to s t n)))

  pub moved_none : moved_up_to s t 0 ≡ []
  unfolding moved_up_to
  moved_none = refl

pub ruleset listing_moved = (moved_one, moved_no, moved_none)
