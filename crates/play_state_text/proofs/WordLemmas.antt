-- A number is read back although a word follows it, and the same number has the same word.
use Rattle.std.proofs.Common.{◌≡◌, ℕ, Bool, true, false, cond, List, [], ◌++◌, Option, Some, None}
use Rattle.std.proofs.Common.{refl, sym, ap, ◌∙◌, ◌+◌, append_assoc}
use Rattle.std.specs.Prelude.{codes, nat_lt}
use Rattle.std.proofs.lemmas.Bool.{false≢true}
use Rattle.std.proofs.lemmas.List.{append_cancel_left}
use Rattle.base_lines.specs.Numbers.{LAST_ACTION}
use Rattle.data_rows.specs.Rows.{OBJECT_WORDS, ACTION_WORDS}
use Rattle.cave_data.specs.CaveView.{CaveView, first_word}
use Rattle.std.specs.Fmt.{decimal}
use Rattle.play_state_text.specs.Within.{IsVerbWithin, IsWide}
use Rattle.play_state_text.specs.Words.{after_blank, word_of_object, word_of_verb, named_object}
use Rattle.play_state_text.specs.Words.{named_line, verb_line}
use Rattle.play_state_text.proofs.LineLemmas.{words_read}
use Rattle.play_state_text.proofs.Reading.{GoesOn, differ, number_read}

-- what follows a number goes on, even with a word before it
abbrev pub Beside : (ℕ → List ℕ) → Type 0
Beside word = (n : ℕ) (u : List ℕ) → GoesOn u → GoesOn (word n ++ u)

blank_goes_on : (word : Option (List ℕ)) (u : List ℕ) → GoesOn u → GoesOn (after_blank word ++ u)
blank_goes_on None u goes = goes
blank_goes_on (Some word) u goes = refl

pub object_beside : (cave : CaveView) → Beside (word_of_object cave)
unfolding word_of_object
object_beside cave n u goes = blank_goes_on (first_word cave.words (OBJECT_WORDS + n)) u goes

verb_beside : (cave : CaveView) → Beside (word_of_verb cave)
unfolding word_of_verb
verb_beside cave n u goes =
    let word = first_word cave.words (ACTION_WORDS + n) in
    chosen (nat_lt LAST_ACTION n) (after_blank word) (blank_goes_on word u goes)
  where
    chosen : (b : Bool) (word : List ℕ) → GoesOn (word ++ u) → GoesOn (cond b [] word ++ u)
    chosen true word beside = goes
    chosen false word beside = beside

-- the same numbers, and the same after their words
beside_read : (word : ℕ → List ℕ) → Beside word
    → (m n : ℕ) (s t : List ℕ) → IsWide m → IsWide n → GoesOn s → GoesOn t
    → decimal m ++ (word m ++ s) ≡ decimal n ++ (word n ++ t) → (m ≡ n) × (s ≡ t)
beside_read word beside m n s t hm hn g h e =
    let number =
    number_read m n (word m ++ s) (word n ++ t) hm hn (beside m s g) (beside n t h) e in (
      number.0,
      append_cancel_left (word m) s t (number.1 ∙ ap (λ k. word k ++ t) (sym number.0)),
    )

pub object_read : (cave : CaveView) (m n : ℕ) (s t : List ℕ) → IsWide m → IsWide n → GoesOn s
    → GoesOn t → named_object cave m ++ s ≡ named_object cave n ++ t → (m ≡ n) × (s ≡ t)
unfolding named_object
object_read cave m n s t hm hn g h e =
    beside_read (word_of_object cave) (object_beside cave) m n s t hm hn g h
    (sym (append_assoc (decimal m) (word_of_object cave m) s)
    ∙ (e ∙ append_assoc (decimal n) (word_of_object cave n) t))

-- lines
beside_line_read : (word : ℕ → List ℕ) → Beside word
    → (name : List ℕ) (m n : ℕ) (s t : List ℕ) → IsWide m → IsWide n
    → named_line name (decimal m ++ word m) ++ s ≡ named_line name (decimal n ++ word n) ++ t
    → (m ≡ n) × (s ≡ t)
beside_line_read word beside name m n s t hm hn e =
    let words = words_read name (decimal m ++ word m) (decimal n ++ word n) s t e in
    let split : (k : ℕ) (u : List ℕ) → ((decimal k ++ word k) ++ codes "\n") ++ u
    ≡ decimal k ++ (word k ++ (codes "\n" ++ u)) =
    λ k u. append_assoc (decimal k ++ word k) (codes "\n") u
    ∙ append_assoc (decimal k) (word k) (codes "\n" ++ u) in
    let number =
    beside_read word beside m n (codes "\n" ++ s) (codes "\n" ++ t) hm hn refl refl
    (sym (split m s) ∙ (words ∙ split n t)) in
    (number.0, append_cancel_left (codes "\n") s t number.1)

pub object_line_read : (cave : CaveView) (name : List ℕ) (m n : ℕ) (s t : List ℕ) → IsWide m
    → IsWide n → named_line name (named_object cave m) ++ s ≡ named_line name (named_object cave n) ++ t
    → (m ≡ n) × (s ≡ t)
unfolding named_object
object_line_read cave name m n s t hm hn e =
    beside_line_read (word_of_object cave) (object_beside cave) name m n s t hm hn e

pub verb_line_read : (cave : CaveView) (p q : Option ℕ) (s t : List ℕ) → IsVerbWithin p
    → IsVerbWithin q → verb_line cave p ++ s ≡ verb_line cave q ++ t → (p ≡ q) × (s ≡ t)
unfolding named_line
verb_line_read cave None None s t hp hq e =
    (refl, append_cancel_left (codes "half command none\n") s t e)
verb_line_read cave (Some m) (Some n) s t hp hq e =
    let number =
    beside_line_read (word_of_verb cave) (verb_beside cave) (codes "half verb") m n s t hp hq e in
    (λ i. Some (number.0 i), number.1)
verb_line_read cave _ _ s t hp hq e = absurd (false≢true (differ 5 _ _ e))
