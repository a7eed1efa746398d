-- A line is read back by its words.
use Rattle.std.proofs.Common.{◌≡◌, ℕ, ℤ, Bool, List, [], ◌++◌, refl}
use Rattle.std.specs.Fmt.{decimal, signed_decimal}
use Rattle.std.specs.Prelude.{codes}
use Rattle.std.proofs.lemmas.List.{append_cancel_left}
use Rattle.play_state_text.specs.Within.{IsWide, IsSigned}
use Rattle.play_state_text.specs.Words.{named_line, yes_or_no}
use Rattle.play_state_text.proofs.Reading.{after_name, answer_step, number_step, signed_step}

-- what a line has after its name and a blank
pub words_read : (name x y s t : List ℕ) → named_line name x ++ s ≡ named_line name y ++ t
    → (x ++ codes "\n") ++ s ≡ (y ++ codes "\n") ++ t
unfolding named_line
words_read name x y s t e =
    after_name (codes " ") (x ++ codes "\n") (y ++ codes "\n") s t (after_name name _ _ s t e)

pub number_line_read : (name : List ℕ) (m n : ℕ) (s t : List ℕ) → IsWide m → IsWide n
    → named_line name (decimal m) ++ s ≡ named_line name (decimal n) ++ t → (m ≡ n) × (s ≡ t)
number_line_read name m n s t hm hn e =
    let words = words_read name (decimal m) (decimal n) s t e in
    let number = number_step [] m n (codes "\n") (codes "\n") s t hm hn refl refl words in
    (number.0, append_cancel_left (codes "\n") s t number.1)

pub signed_line_read : (name : List ℕ) (m n : ℤ) (s t : List ℕ) → IsSigned m → IsSigned n
    → named_line name (signed_decimal m) ++ s ≡ named_line name (signed_decimal n) ++ t → (m ≡ n) × (s ≡ t)
signed_line_read name m n s t hm hn e =
    let words = words_read name (signed_decimal m) (signed_decimal n) s t e in
    let number = signed_step [] m n (codes "\n") (codes "\n") s t hm hn refl refl words in
    (number.0, append_cancel_left (codes "\n") s t number.1)

pub answer_line_read : (name : List ℕ) (a b : Bool) (s t : List ℕ)
    → named_line name (yes_or_no a) ++ s ≡ named_line name (yes_or_no b) ++ t → (a ≡ b) × (s ≡ t)
answer_line_read name a b s t e =
    let words = words_read name (yes_or_no a) (yes_or_no b) s t e in
    let answer = answer_step [] a b (codes "\n") (codes "\n") s t words in
    (answer.0, append_cancel_left (codes "\n") s t answer.1)
