-- Lines for what numbers name are read back, each by its number.
use Rattle.std.proofs.Common.{◌≡◌, ℕ, suc, zero, ◌+◌, ◌<◌, ◌≤◌, Bool, true, false, List, ◌++◌, refl}
use Rattle.std.proofs.Common.{sym, ap, ◌∙◌, arith, append_assoc, add-one, subst, ◌⊎◌, inl, inr}
use Rattle.std.specs.Fmt.{decimal}
use Rattle.std.proofs.lemmas.Bool.{cases_lt}
use Rattle.std.proofs.lemmas.List.{append_cancel_left, append-nil}
use Rattle.play_state_text.specs.Things.{entry, text_up_to}
use Rattle.play_state_text.specs.Within.{IsWide, IsUpTo}
use Rattle.play_state_text.proofs.Reading.{GoesOn, number_read}

up_or_last : {P : ℕ → Type 0} (last n : ℕ) → IsUpTo (suc last) n
    → ((m : ℕ) → IsUpTo last m → P m) → P (suc last) → P n
up_or_last {P = P} last n up before here = choose (cases_lt last n)
  where
    choose : (last < n) ⊎ (n ≤ last) → P n
    choose (inl more) = let is : suc last ≡ n = omega (arith, more, up.1) in subst P is here
    choose (inr less) = before n (up.0, less)

module _ (name : List ℕ) where
  -- no line of a number up to this one begins the text
  abbrev pub IsPast : ℕ → List ℕ → Type 0
  IsPast last text = (number : ℕ) (more : List ℕ) → number ≤ last
      → GoesOn more → text ≡ name ++ (decimal number ++ more) → ⊥

  -- a line that is written begins the text
  pub line_first : (n : ℕ) (rest s : List ℕ)
      → (name ++ (decimal n ++ rest)) ++ s ≡ name ++ (decimal n ++ (rest ++ s))
  line_first n rest s =
      append_assoc name (decimal n ++ rest) s
      ∙ ap (λ t. name ++ t) (append_assoc (decimal n) rest s)

  later : (n k : ℕ) (rest : List ℕ) → IsWide n → k < n → GoesOn rest
      → IsPast k (name ++ (decimal n ++ rest))
  later n k rest h less on m more within goes e =
      let text = append_cancel_left name _ _ e in
      let both = number_read n m rest more h (omega (arith, h, less, within)) on goes text in
      absurd (omega (arith, both.0, less, within))

  fewer : (n k : ℕ) (s : List ℕ) → k ≤ n → IsPast n s → IsPast k s
  fewer n k s less past m more within goes e = past m more (omega (arith, less, within)) goes e

  past_entry : (b : Bool) (k : ℕ) (rest s : List ℕ) → IsWide (suc k) → GoesOn (rest ++ s)
      → IsPast (suc k) s → IsPast k (entry name b (suc k) rest ++ s)
  past_entry true k rest s h on past m more within goes e =
      fewer (suc k) k s (omega arith) past m more within goes e
  past_entry false k rest s h on past m more within goes e =
      later (suc k) k (rest ++ s) h (omega arith) on m more within goes
      (sym (line_first (suc k) rest s) ∙ e)

  -- of one number
  one_read : (n : ℕ) (b d : Bool) (x y s t : List ℕ) (Same : Type 0)
      → (b ≡ true → d ≡ true → Same)
      → ((u v : List ℕ) → x ++ u ≡ y ++ v → Same × (u ≡ v))
      → GoesOn (x ++ s) → GoesOn (y ++ t)
      → IsPast n s → IsPast n t → entry name b n x ++ s ≡ entry name d n y ++ t
      → Same × (s ≡ t)
  one_read n true true x y s t Same out told g h p q e = (out refl refl, e)
  one_read n true false x y s t Same out told g h p q e =
      absurd (p n (y ++ t) (omega arith) h (e ∙ line_first n y t))
  one_read n false true x y s t Same out told g h p q e =
      absurd (q n (x ++ s) (omega arith) g (sym e ∙ line_first n x s))
  one_read n false false x y s t Same out told g h p q e =
      let lines = sym (line_first n x s) ∙ (e ∙ line_first n y t) in
      let numbers = append_cancel_left name _ _ lines in
      told s t (append_cancel_left (decimal n) _ _ numbers)

  -- what follows a number goes on, with anything after it
  abbrev pub GoOn : (ℕ → List ℕ) → Type 0
  GoOn x = (n : ℕ) (u : List ℕ) → GoesOn (x n ++ u)

  module _ (b d : ℕ → Bool) (x y : ℕ → List ℕ) (Same : ℕ → Type 0) where
    -- what both texts leave out is the same, and so is what equal lines say
    abbrev pub TellsEach : ℕ → Type 0
    TellsEach last = (n : ℕ) → IsUpTo last n
        → (b n ≡ true → d n ≡ true → Same n)
        × ((u v : List ℕ) → x n ++ u ≡ y n ++ v → Same n × (u ≡ v))

    pub entries_read : (last : ℕ) (s t : List ℕ) → IsWide last → GoOn x → GoOn y → TellsEach last
        → IsPast last s → IsPast last t
        → text_up_to (λ n. entry name (b n) n (x n)) last ++ s
        ≡ text_up_to (λ n. entry name (d n) n (y n)) last ++ t
        → ((n : ℕ) → IsUpTo last n → Same n) × (s ≡ t)
    unfolding text_up_to
    entries_read zero s t h g k tells p q e = (λ n up. absurd (omega (arith, up.0, up.1)), e)
    entries_read (suc last) s t h g k tells p q e =
        let line : ℕ → List ℕ = λ n. entry name (b n) n (x n) in
        let other : ℕ → List ℕ = λ n. entry name (d n) n (y n) in
        let lines = sym (append_assoc (text_up_to line last) (line (suc last)) s)
        ∙ (e ∙ append_assoc (text_up_to other last) (other (suc last)) t) in
        let before = entries_read last (line (suc last) ++ s) (other (suc last) ++ t)
        (omega (arith, h)) g k (λ n up. tells n (up.0, omega (arith, up.1)))
        (past_entry (b (suc last)) last (x (suc last)) s h (g (suc last) s) p)
        (past_entry (d (suc last)) last (y (suc last)) t h (k (suc last) t) q) lines in
        let told = tells (suc last) (omega arith, omega arith) in
        let here = one_read (suc last) (b (suc last)) (d (suc last)) (x (suc last)) (y (suc last))
        s t (Same (suc last)) told.0 told.1 (g (suc last) s) (k (suc last) t) p q before.1 in
        (λ n up. up_or_last last n up before.0 here.0, here.1)

-- ---- how lines are written, one after another

pub no_lines : (f : ℕ → List ℕ) (start : List ℕ) → start ≡ start ++ text_up_to f 0
unfolding text_up_to
no_lines f start = sym (append-nil start)

pub one_line : (f : ℕ → List ℕ) (before number : ℕ) (start old now : List ℕ)
    → old ≡ start ++ text_up_to f before → number ≡ before + 1 → now ≡ old ++ f number
    → now ≡ start ++ text_up_to f (before + 1)
unfolding text_up_to
one_line f before number start old now so_far is more =
    let same : number ≡ suc before = omega (arith, is) in
    let whole : now ≡ (start ++ text_up_to f before) ++ f (suc before) =
    more ∙ (ap (λ t. t ++ f number) so_far
    ∙ ap (λ n. (start ++ text_up_to f before) ++ f n) same) in
    rw add-one (whole ∙ append_assoc start (text_up_to f before) (f (suc before)))
