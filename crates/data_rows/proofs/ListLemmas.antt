-- A list that is read number by number is the list of all its numbers.
use Rattle.std.proofs.Common.{◌≡◌, ◌⊎◌, inl, inr, ℕ, true, false, cond, leb, ltb, ◌&&◌, List, []}
use Rattle.std.proofs.Common.{◌∷◌, ◌++◌, length, Option, Some, None, option_map, refl, sym, ap}
use Rattle.std.proofs.Common.{subst, ◌∙◌, arith}
use Rattle.std.specs.Prelude.{Result, Ok, Err}
use Rattle.std.specs.Option.{ok_or}
use Rattle.std.proofs.lemmas.Bool.Decides.{nat_tests}
use Rattle.std.proofs.lemmas.List.{append_assoc, append-nil, length-append}
use Rattle.data_rows.specs.declared.error.Cause.{Cause}
use Rattle.data_rows.specs.declared.error.Cause.TheVariants.{BadNumber, OutOfRange, TooManyRows}
use Rattle.data_rows.specs.declared.number.Number.{Number}
use Rattle.data_rows.specs.declared.number.Number.TheVariants.{Natural, Negative}
use Rattle.data_rows.specs.Fields.{number_of_field}
use Rattle.data_rows.specs.Lists.{with_number, few_within, list_within, some_listed}
use Rattle.data_rows.specs.Rows.{◌>>=◌, Going, number_or_cause, list_in, within, is_zero}
use Rattle.data_rows.specs.Rows.{before_zero, numbers_to_zero, all_within, some_of, few_of, way_row}

abbrev pub with_numbers : ℕ → ℕ → Result (List ℕ) Cause → List Number → Result (List ℕ) Cause
with_numbers low high list [] = list
with_numbers low high list (n ∷ ns) = with_numbers low high (with_number list (within low high n))
    ns

-- a number is in the range, or out of it
abbrev InOrOut : Result ℕ Cause → Type 0
InOrOut r = ((v : ℕ) × (r ≡ Ok v)) ⊎ (r ≡ Err OutOfRange)

in_or_out : (low high : ℕ) (n : Number) → InOrOut (within low high n)
in_or_out low high (Natural n) =
    elim (leb low n && leb n high) as (λ b. InOrOut (cond b (Ok n) (Err OutOfRange)))
    [ true ↦ inl (n, refl) | false ↦ inr refl ]
in_or_out low high (Negative n) = inr refl

out_of_range : (low high : ℕ) (ns : List Number)
    → with_numbers low high (Err OutOfRange) ns ≡ Err OutOfRange
out_of_range low high [] = refl
out_of_range low high (n ∷ ns) = at (in_or_out low high n) (out_of_range low high ns) where
  at : InOrOut (within low high n) → with_numbers low high (Err OutOfRange) ns ≡ Err OutOfRange
      → with_numbers low high (with_number (Err OutOfRange) (within low high n)) ns ≡ Err OutOfRange
  at (inl f) rest = ap (λ r. with_numbers low high (with_number (Err OutOfRange) r) ns) f.1 ∙ rest
  at (inr e) rest = ap (λ r. with_numbers low high (with_number (Err OutOfRange) r) ns) e ∙ rest

one_more : (vs : List ℕ) (v : ℕ) → with_number (few_of vs) (Ok v) ≡ few_of (vs ++ v ∷ [])
one_more vs v =
    elim (leb (length vs) 40) as (λ b. leb (length vs) 40 ≡ b
    → (cond b (Ok vs) (Err TooManyRows) >>= λ ns. few_of (ns ++ v ∷ []))
    ≡ few_of (vs ++ v ∷ [])) [
      | true ↦ λ e. refl
      | false ↦ λ e.
          let longer : leb (length (vs ++ v ∷ [])) 40
          ≡ false = grind (arith, nat_tests, length-append {A = ℕ}) in
          sym (ap (λ b. cond b (Ok (vs ++ v ∷ [])) (Err TooManyRows)) longer)
    ] refl

joined : (vs : List ℕ) (v : ℕ) (r : Result (List ℕ) Cause)
    → (r >>= λ ws. few_of ((vs ++ v ∷ []) ++ ws))
    ≡ (r >>= (λ ws. Ok (v ∷ ws)) >>= λ ws. few_of (vs ++ ws))
joined vs v (Ok ws) = ap few_of (append_assoc vs (v ∷ []) ws)
joined vs v (Err cause) = refl

-- numbers that follow those of a list, the first of which was read as r
abbrev ListedMore : ℕ → ℕ → List Number → List ℕ → Result ℕ Cause → Type 0
ListedMore low high ns vs r =
    with_numbers low high (with_number (few_of vs) r) ns
    ≡ ((r >>= (λ v. all_within low high ns >>= λ ws. Ok (v ∷ ws))) >>= λ ws. few_of (vs ++ ws))

listed_more : (low high : ℕ) (ns : List Number) (vs : List ℕ)
    → with_numbers low high (few_of vs) ns ≡ (all_within low high ns >>= λ ws. few_of (vs ++ ws))
listed_more low high [] vs = sym (ap few_of (append-nil vs))
listed_more low high (n ∷ ns) vs = at (in_or_out low high n)
    (λ v. listed_more low high ns (vs ++ v ∷ [])) where
      at : InOrOut (within low high n)
          → ((v : ℕ) → with_numbers low high (few_of (vs ++ v ∷ [])) ns
          ≡ (all_within low high ns >>= λ ws. few_of ((vs ++ v ∷ []) ++ ws)))
          → ListedMore low high ns vs (within low high n)
      at (inl f) rest = subst (ListedMore low high ns vs) (sym f.1)
          (ap (λ l. with_numbers low high l ns) (one_more vs f.0) ∙ rest f.0
          ∙ joined vs f.0 (all_within low high ns))
      at (inr e) rest = subst (ListedMore low high ns vs) (sym e) (out_of_range low high ns)

pub list_read : (low high : ℕ) (o : Option (List Number)) (list : Result (List ℕ) Cause)
    → option_map (with_numbers low high (Ok [])) o ≡ Some list
    → (ok_or o BadNumber >>= λ ns. Ok (few_within low high ns)) ≡ Ok list
list_read low high (Some ns) list e = let same = listed_more low high ns [] in cc
list_read low high None list e = cc

pub list_bad : (low high : ℕ) (o : Option (List Number))
    → option_map (with_numbers low high (Ok [])) o ≡ None
    → (ok_or o BadNumber >>= λ ns. Ok (few_within low high ns)) ≡ Err BadNumber
list_bad low high (Some ns) e = cc
list_bad low high None e = refl

-- a list has a number if one was read
some_of_few : (v : ℕ) (r : Result (List ℕ) Cause)
    → some_listed (r >>= (λ vs. Ok (v ∷ vs)) >>= few_of) ≡ Ok (r >>= (λ vs. Ok (v ∷ vs)) >>= few_of)
some_of_few v (Ok vs) =
    elim (leb (length (v ∷ vs)) 40) as
    (λ b. some_listed (cond b (Ok (v ∷ vs)) (Err TooManyRows))
    ≡ Ok (cond b (Ok (v ∷ vs)) (Err TooManyRows))) [ true ↦ refl | false ↦ refl ]
some_of_few v (Err cause) = refl

is_some : (n : Number) (ns : List Number) → some_of (n ∷ ns) ≡ Ok (n ∷ ns)
is_some n ns = let more : ltb 0 (length (n ∷ ns))
    ≡ true = grind (arith, nat_tests) in ap (λ b. cond b (Ok (n ∷ ns)) (Err BadNumber)) more

some_read : (low high : ℕ) (ns : List Number)
    → some_listed (few_within low high ns) ≡ (some_of ns >>= λ ms. Ok (few_within low high ms))
some_read low high [] = refl
some_read low high (n ∷ ns) =
    elim (within low high n) as
    (λ r. some_listed ((r >>= (λ v. all_within low high ns >>= λ vs. Ok (v ∷ vs))) >>= few_of)
    ≡ Ok ((r >>= (λ v. all_within low high ns >>= λ vs. Ok (v ∷ vs))) >>= few_of)) [
      | Ok v ↦ some_of_few v (all_within low high ns)
      | Err cause ↦ refl
    ]
    ∙ sym (ap (λ r. r >>= λ ms. Ok (few_within low high ms)) (is_some n ns))

-- the numbers from a 0 on, and at the end of the line
pub zero_read : (low high : ℕ) (list : Result (List ℕ) Cause) (f : List ℕ)
    (fs ahead : List (List ℕ)) (n : Number) → ahead ≡ f ∷ fs → Some n ≡ number_of_field f
    → true ≡ is_zero n
    → option_map (with_numbers low high list) (numbers_to_zero ahead) ≡ Some list
zero_read low high list f fs ahead n first spells zero =
    ap (λ xs. option_map (with_numbers low high list) (numbers_to_zero xs)) first
    ∙ ap (λ o. option_map (with_numbers low high list) (before_zero o (numbers_to_zero fs)))
    (sym spells)
    ∙ ap (λ b. option_map (with_numbers low high list)
    (cond b (Some []) (option_map (λ ns. n ∷ ns) (numbers_to_zero fs)))) (sym zero)

-- A row of the ways in the order in which it is read.

module _ {A B : Type 0} where
  same_after : (r : Result A Cause) (f g : A → Result B Cause) → ((x : A) → f x ≡ g x)
      → (r >>= f) ≡ (r >>= g)
  same_after (Ok x) f g same = same x
  same_after (Err cause) f g same = refl

module _ {A B C : Type 0} where
  made_first : (r : Result A Cause) (h : A → B) (f : B → Result C Cause)
      → ((r >>= λ x. Ok (h x)) >>= f) ≡ (r >>= λ x. f (h x))
  made_first (Ok x) h f = refl
  made_first (Err cause) h f = refl

module _ {A : Type 0} where
  few_last : (low high : ℕ) (ns : List Number) (f : List ℕ → Result A Cause)
      → (few_within low high ns >>= f) ≡ (all_within low high ns >>= λ all. few_of all >>= f)
  few_last low high ns f =
      elim (all_within low high ns) as
      (λ r. ((r >>= few_of) >>= f) ≡ (r >>= λ all. few_of all >>= f))
      [ Ok all ↦ refl | Err cause ↦ refl ]

  some_first : (low high : ℕ) (ns : List Number) (f : Result (List ℕ) Cause → Result A Cause)
      → (some_listed (few_within low high ns) >>= f)
      ≡ (some_of ns >>= λ ms. f (few_within low high ms))
  some_first low high ns f = ap (λ r. r >>= f) (some_read low high ns)
      ∙ made_first (some_of ns) (few_within low high) f

-- the numbers of the place and the target, and then the motions
abbrev pub way_with : Number → Number → Result (List ℕ) Cause → Result (ℕ × Going) Cause
way_with x y some = within 1 300 x >>= λ place. within 0 999999 y >>= λ target. some >>= λ motions.
    Ok (place, record { target = target; motions = motions })

abbrev pub way_read : List ℕ → Result (ℕ × Going) Cause
way_read line =
    number_or_cause line >>= λ x. number_or_cause x.1 >>= λ y. list_within 1 999 y.1 >>= λ list.
    some_listed list >>= way_with x.0 y.0

pub way_row_read : (line : List ℕ) → way_row line ≡ way_read line
unfolding way_row
way_row_read line =
    same_after (number_or_cause line) _ _ (λ x. same_after (number_or_cause x.1) _ _ (λ y.
    same_after (list_in y.1) _ _ (λ ns.
    same_after (some_of ns) _ _
    (λ ms. same_after (within 1 300 x.0) _ _
    (λ place. same_after (within 0 999999 y.0) _ _ (λ target.
    sym (few_last 1 999 ms
    (λ motions. Ok (place, record { target = target; motions = motions }))))))
    ∙ sym (some_first 1 999 ns (way_with x.0 y.0)))
    ∙ sym (made_first (list_in y.1) (few_within 1 999)
    (λ list. some_listed list >>= way_with x.0 y.0))))
