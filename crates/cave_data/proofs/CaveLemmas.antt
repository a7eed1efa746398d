-- What the texts of a cave show, and the places that have a role if bindings don't say.
use Rattle.std.proofs.Common.{◌≡◌, ◌⊎◌, inl, inr, ℕ, Bool, true, false, cond, eqb, List, [], ◌∷◌}
use Rattle.std.proofs.Common.{map, Option, Some, None, option_map, is_some, refl, sym, ap, ◌∙◌}
use Rattle.std.specs.Option.{option_or}
use Rattle.std.specs.Ordering.{nat_cmp, eq_by_cmp}
use Rattle.std.specs.Cmp.{nat_cmp_total}
use Rattle.std.specs.FinMap as fin
use Rattle.std.proofs.lemmas.Bool.{cases_eq, eq-eqb, ne_eqb}
use Rattle.cave_data.specs.CaveView.{Texts}
use Rattle.cave_data.specs.Printing.{printed_text, printed_texts}
use Rattle.cave_data.specs.Bindings.{default_place, or_default, with_defaults}
use Rattle.cave_data.proofs.SlotLemmas.{get-by_number}
use Rattle.cave_data.proofs.SlotChanges.{same_key, other_key}

get-or_default : (n place : ℕ) (m : fin.FinMap nat_cmp ℕ) (q : ℕ)
    → fin.get (or_default n place m) q
    ≡ cond (eqb q n) (option_or (fin.get m q) (Some place)) (fin.get m q)
get-or_default n place m q = at (fin.get m n) refl where
  absent : fin.get m n ≡ None → (q ≡ n) ⊎ (q ≡ n → ⊥)
      → cond (eq_by_cmp nat_cmp q n) (Some place) (fin.get m q)
      ≡ cond (eqb q n) (option_or (fin.get m q) (Some place)) (fin.get m q)
  absent e (inl same) =
      ap (λ b. cond b (Some place) (fin.get m q)) (same_key q n same)
      ∙ sym (ap (λ b. cond b (option_or (fin.get m q) (Some place)) (fin.get m q)) (eq-eqb q n same)
      ∙ ap (λ o. option_or o (Some place)) (ap (fin.get m) same ∙ e))
  absent e (inr ne) =
      ap (λ b. cond b (Some place) (fin.get m q)) (other_key q n ne)
      ∙ ap (λ b. cond b (option_or (fin.get m q) (Some place)) (fin.get m q))
      (sym (ne_eqb q n ne))

  there : (v : ℕ) → fin.get m n ≡ Some v → (q ≡ n) ⊎ (q ≡ n → ⊥)
      → fin.get m q ≡ cond (eqb q n) (option_or (fin.get m q) (Some place)) (fin.get m q)
  there v e (inl same) =
      ap (fin.get m) same ∙ e
      ∙ sym (ap (λ b. cond b (option_or (fin.get m q) (Some place)) (fin.get m q))
      (eq-eqb q n same) ∙ ap (λ o. option_or o (Some place)) (ap (fin.get m) same ∙ e))
  there v e (inr ne) =
      ap (λ b. cond b (option_or (fin.get m q) (Some place)) (fin.get m q)) (sym (ne_eqb q n ne))

  at : (o : Option ℕ) → fin.get m n ≡ o
      → fin.get (or_default n place m) q
      ≡ cond (eqb q n) (option_or (fin.get m q) (Some place)) (fin.get m q)
  at None e = ap (λ o. fin.get (cond (is_some o) m (fin.insert m n place)) q) e
      ∙ fin.get-insert nat_cmp_total m n place q ∙ absent e (cases_eq q n)
  at (Some v) e = ap (λ o. fin.get (cond (is_some o) m (fin.insert m n place)) q) e
      ∙ there v e (cases_eq q n)

abbrev defaulted : ℕ → ℕ → ℕ → Option ℕ → Option ℕ
defaulted q n place o = cond (eqb q n) (option_or o (Some place)) o

defaulted-other : (q n place : ℕ) (o : Option ℕ) → (q ≡ n → ⊥) → defaulted q n place o ≡ o
defaulted-other q n place o ne = ap (λ b. cond b (option_or o (Some place)) o) (ne_eqb q n ne)

abbrev all_defaulted : Option ℕ → ℕ → Option ℕ
all_defaulted o q = defaulted q 0 1 (defaulted q 1 3 (defaulted q 2 8 (defaulted q 3 15 o)))

or_none : (o : Option ℕ) → option_or o None ≡ o
or_none None = refl
or_none (Some v) = refl

default_none : (q : ℕ) → (q ≡ 0 → ⊥) → (q ≡ 1 → ⊥) → (q ≡ 2 → ⊥) → (q ≡ 3 → ⊥)
    → default_place q ≡ None
default_none q n0 n1 n2 n3 =
    ap (λ b.
    cond b (Some 1)
    (cond (eqb q 1) (Some 3) (cond (eqb q 2) (Some 8) (cond (eqb q 3) (Some 15) None))))
    (ne_eqb q 0 n0)
    ∙ ap (λ b. cond b (Some 3) (cond (eqb q 2) (Some 8) (cond (eqb q 3) (Some 15) None)))
    (ne_eqb q 1 n1)
    ∙ ap (λ b. cond b (Some 8) (cond (eqb q 3) (Some 15) None)) (ne_eqb q 2 n2)
    ∙ ap (λ b. cond b (Some 15) None) (ne_eqb q 3 n3)

chain : (q : ℕ) (o : Option ℕ) → all_defaulted o q ≡ option_or o (default_place q)
chain q o = at (cases_eq q 0) (cases_eq q 1) (cases_eq q 2) (cases_eq q 3) where
  here : (n : ℕ) → q ≡ n → all_defaulted o n ≡ option_or o (default_place n)
      → all_defaulted o q ≡ option_or o (default_place q)
  here n e same = ap (all_defaulted o) e ∙ same ∙ ap (λ k. option_or o (default_place k)) (sym e)

  at : (q ≡ 0) ⊎ (q ≡ 0 → ⊥) → (q ≡ 1) ⊎ (q ≡ 1 → ⊥) → (q ≡ 2) ⊎ (q ≡ 2 → ⊥) → (q ≡ 3) ⊎ (q ≡ 3 → ⊥)
      → all_defaulted o q ≡ option_or o (default_place q)
  at (inl e) d2 d3 d4 = here 0 e refl
  at (inr n0) (inl e) d3 d4 = here 1 e refl
  at (inr n0) (inr n1) (inl e) d4 = here 2 e refl
  at (inr n0) (inr n1) (inr n2) (inl e) = here 3 e refl
  at (inr n0) (inr n1) (inr n2) (inr n3) =
      defaulted-other q 0 1 _ n0 ∙ defaulted-other q 1 3 _ n1 ∙ defaulted-other q 2 8 _ n2
      ∙ defaulted-other q 3 15 o n3 ∙ sym (or_none o)
      ∙ ap (option_or o) (sym (default_none q n0 n1 n2 n3))

pub get-with_defaults : (m : fin.FinMap nat_cmp ℕ) (q : ℕ)
    → fin.get (with_defaults m) q ≡ option_or (fin.get m q) (default_place q)
unfolding with_defaults
get-with_defaults m q =
    get-or_default 0 1 (or_default 1 3 (or_default 2 8 (or_default 3 15 m))) q
    ∙ ap (defaulted q 0 1) (get-or_default 1 3 (or_default 2 8 (or_default 3 15 m)) q
    ∙ ap (defaulted q 1 3) (get-or_default 2 8 (or_default 3 15 m) q
    ∙ ap (defaulted q 2 8) (get-or_default 3 15 m q)))
    ∙ chain q (fin.get m q)

shown_where : (b : Bool) (text : List ℕ) (o p : Option (List ℕ)) → p ≡ option_map printed_text o
    → cond b (Some (printed_text text)) p ≡ option_map printed_text (cond b (Some text) o)
shown_where true text o p e = refl
shown_where false text o p e = e

find-printed_text : (n : ℕ) (es : List (ℕ × List ℕ))
    → fin.find nat_cmp n (map (λ (e : ℕ × List ℕ). (e.0, printed_text e.1)) es)
    ≡ option_map printed_text (fin.find nat_cmp n es)
find-printed_text n [] = refl
find-printed_text n (e ∷ es) =
    shown_where (eq_by_cmp nat_cmp n e.0) e.1 (fin.find nat_cmp n es) _ (find-printed_text n es)

-- the texts of a map as they are printed
pub get-printed_texts : (m : Texts) (n : ℕ)
    → fin.get (printed_texts m) n ≡ option_map printed_text (fin.get m n)
unfolding printed_texts
get-printed_texts m n = fin.get-from_entries nat_cmp_total _ n ∙ find-printed_text n (fin.entries m)
    ∙ ap (option_map printed_text) (sym (fin.get-entries m n))

pub ruleset gets = (get-by_number, get-with_defaults, get-printed_texts)
