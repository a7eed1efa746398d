-- How the finite map of a table of slots changes as one slot changes.
use Rattle.std.proofs.Common.{◌≡◌, ◌⊎◌, inl, inr, ℕ, true, false, cond, List, [], Option, Some}
use Rattle.std.proofs.Common.{None, option_map, sym, ap, ◌∙◌, arith}
use Rattle.std.proofs.lemmas.Bool.{cases_eq}
use Rattle.std.proofs.lemmas.Bool.Decides.{nat_tests}
use Rattle.std.specs.Ordering.{nat_cmp, eq_by_cmp}
use Rattle.std.specs.Cmp.{nat_cmp_total}
use Rattle.std.specs.FinMap as map
use Rattle.cave_data.specs.Slots.{slot, by_number, ChangesSlot}
use Rattle.cave_data.proofs.SlotLemmas.{get-by_number, none_past}

pub same_key : (m n : ℕ) → m ≡ n → eq_by_cmp nat_cmp m n ≡ true
same_key m n h = grind (arith, nat_tests)

pub other_key : (m n : ℕ) → (m ≡ n → ⊥) → eq_by_cmp nat_cmp m n ≡ false
other_key m n h = grind (arith, nat_tests)

module _ {X Y : Type 0} (view : X → Y) where
  pub by_number-put : (old new : List (Option X)) (n : ℕ) (x : X) → ChangesSlot old new n (Some x)
      → by_number view new ≡ map.insert (by_number view old) n (view x)
  by_number-put old new n x h =
      map.same_map nat_cmp_total map.nat_cmp-IsAntisymmetric _ _ (λ q.
      get-by_number view new q ∙ at q (cases_eq q n)
      ∙ sym (map.get-insert nat_cmp_total (by_number view old) n (view x) q
      ∙ ap (cond (eq_by_cmp nat_cmp q n) (Some (view x))) (get-by_number view old q))) where
        at : (q : ℕ) → (q ≡ n) ⊎ (q ≡ n → ⊥)
            → option_map view (slot new q)
            ≡ cond (eq_by_cmp nat_cmp q n) (Some (view x)) (option_map view (slot old q))
        at q (inl e) = ap (λ k. option_map view (slot new k)) e ∙ ap (option_map view) h.changed
            ∙ sym (ap (λ b. cond b (Some (view x)) (option_map view (slot old q))) (same_key q n e))
        at q (inr ne) = ap (option_map view) (h.others q ne)
            ∙ sym (ap (λ b. cond b (Some (view x)) (option_map view (slot old q)))
            (other_key q n ne))

  pub by_number-replace : (old mid new : List (Option X)) (n : ℕ) (x : X)
      → ChangesSlot old mid n None → ChangesSlot mid new n (Some x)
      → by_number view new ≡ map.insert (by_number view old) n (view x)
  by_number-replace old mid new n x taken put =
      by_number-put old new n x
      (record { changed = put.changed; others = λ q ne. put.others q ne ∙ taken.others q ne })

-- two views that show the same of each slot show the same map
pub by_number-shows : {X Y : Type 0} (f g : X → Y) (xs : List (Option X))
    → ((n : ℕ) → option_map f (slot xs n) ≡ option_map g (slot xs n))
    → by_number f xs ≡ by_number g xs
by_number-shows f g xs same =
    map.same_map nat_cmp_total map.nat_cmp-IsAntisymmetric
    _ _ (λ q. get-by_number f xs q ∙ same q ∙ sym (get-by_number g xs q))

pub by_number-none : {X Y : Type 0} (view : X → Y) (xs : List (Option X)) → xs ≡ []
    → by_number view xs ≡ map.empty
unfolding by_number
by_number-none view xs e = ap (by_number view) e

pub ruleset slot_changes = (
  by_number-put,
  by_number-replace,
  by_number-none,
  get-by_number,
  none_past,
)
