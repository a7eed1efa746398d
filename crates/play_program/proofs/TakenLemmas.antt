-- The first file of an input among those that wait.
use Rattle.std.proofs.Common.{cond, sym, ap, refl, ◌∙◌, ◌≡◌, ◌<◌, ◌+◌, ℕ, zero, suc, Bool, true}
use Rattle.std.proofs.Common.{false, List, [], ◌∷◌, length, map, Option, Some, None, arith, get_or}
use Rattle.std.proofs.Common.{nat_lt, inl, inr}
use Rattle.std.specs.List.{position, position_or_len, remove}
use Rattle.std.specs.Prelude.{is_some}
use Rattle.std.proofs.lemmas.Bool.{cases_lt, false≢true}
use Rattle.std.proofs.lemmas.Bool.Decides.{nat_tests}
use Rattle.play_command.specs.declared.line.Input.{Input}
use Rattle.play_program.specs.Files.{is_same_input}
use Rattle.play_program.specs.Sources.{Entry, IsTakenFrom, waiting_entry}
use Rattle.play_program.specs.declared.sources.WaitingFile.{WaitingFile}

module _ {F : Type 0} (bytes_of : List ℕ → Option (List ℕ)) (left : F → Option (List ℕ))
    (from : Input) where
  abbrev is_of : WaitingFile F → Bool
  is_of file = is_same_input file.input from

  abbrev entries : List (WaitingFile F) → List Entry
  entries files = map (waiting_entry bytes_of left) files

  -- there is none
  pub IsTakenFrom-none : (files : List (WaitingFile F)) → position is_of files ≡ None
      → IsTakenFrom from (entries files) (entries files) None
  IsTakenFrom-none [] none = (refl, refl)
  IsTakenFrom-none (x ∷ xs) none = go (is_of x) refl (IsTakenFrom-none xs)
    where
      go : (here : Bool) → is_of x ≡ here
          → (position is_of xs ≡ None → IsTakenFrom from (entries xs) (entries xs) None)
          → IsTakenFrom from (entries (x ∷ xs)) (entries (x ∷ xs)) None
      go true e later =
          let t : nat_lt 0 (suc (length xs)) ≡ true = grind (arith, nat_tests) in
          let shown : position is_of (x ∷ xs)
          ≡ cond (nat_lt 0 (suc (length xs))) (Some 0) None = rw e refl in
          let bad : Some 0 ≡ None = sym (rw t at shown) ∙ none in
          absurd (false≢true (sym (ap is_some bad)))
      go false e later =
          let n = position_or_len is_of xs in
          elim (cases_lt n (length xs)) [
            | inl under ↦
                let t : nat_lt (1 + n) (suc (length xs)) ≡ true = grind (arith, nat_tests) in
                let shown : position is_of (x ∷ xs)
                ≡ cond (nat_lt (1 + n) (suc (length xs))) (Some (1 + n)) None = rw e refl in
                let bad : Some (1 + n) ≡ None = sym (rw t at shown) ∙ none in
                absurd (false≢true (sym (ap is_some bad)))
            | inr over ↦
                let t : nat_lt n (length xs) ≡ false = grind (arith, nat_tests) in
                let rest : position is_of xs ≡ None = rw t refl in
                let taken = later rest in
                rw e (taken.0, ap (λ l. waiting_entry bytes_of left x ∷ l) taken.1)
          ]

  -- it is at this place
  pub IsTakenFrom-at : (files : List (WaitingFile F)) (i : ℕ) (d : WaitingFile F) → i < length files
      → is_of (get_or files i d) ≡ true → ((k : ℕ) → k < i → is_of (get_or files k d) ≡ false)
      → IsTakenFrom from (entries files) (entries (remove files i))
      (Some (waiting_entry bytes_of left (get_or files i d)))
  IsTakenFrom-at [] i d inside hit before = absurd (omega arith)
  IsTakenFrom-at (x ∷ xs) zero d inside hit before = rw hit (refl, refl)
  IsTakenFrom-at (x ∷ xs) (suc i) d inside hit before =
      let first : is_of x ≡ false = before 0 (omega arith) in
      let taken =
      IsTakenFrom-at xs i d (omega arith) hit (λ k low. before (suc k) (omega arith)) in
      rw first (taken.0, ap (λ l. waiting_entry bytes_of left x ∷ l) taken.1)
