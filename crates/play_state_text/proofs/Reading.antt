-- A number is read back from a text that goes on after it with something that isn't a digit.
use Rattle.std.proofs.Common.{◌≡◌, ℕ, suc, ℤ, pos, negsuc, ◌<◌, Bool, true, false, List, [], ◌∷◌}
use Rattle.std.proofs.Common.{◌++◌, refl, sym, ap, ◌∙◌, arith, append_assoc, length, get_or}
use Rattle.std.specs.Prelude.{⊤, ◌==◌, ◌&&◌, ◌||◌, codes}
use Rattle.std.proofs.lemmas.List.{append_cancel_left}
use Rattle.play_state_text.specs.Words.{yes_or_no}
use Rattle.std.specs.Char.{is_ascii_digit}
use Rattle.std.specs.Str.{all_ascii_digits}
use Rattle.std.specs.Fmt.{decimal, signed_decimal}
use Rattle.std.proofs.lemmas.Bool.{false≢true}
use Rattle.std.proofs.lemmas.Fmt.{decimal_injective, signed_decimal_injective, digits_decimal}
use Rattle.std.proofs.lemmas.Fmt.{decimal_nonempty}
use Rattle.std.proofs.lemmas.Str.Parse.{numerals_by_value, tells_all_ascii_digits}
use Rattle.play_state_text.specs.Within.{IsWide, IsSigned}

-- a byte of which numbers consist
abbrev pub is_number_byte : ℕ → Bool
is_number_byte byte = is_ascii_digit byte || byte == 45

abbrev AreNumberBytes : List ℕ → Type 0
AreNumberBytes [] = ⊤
AreNumberBytes (byte ∷ bytes) = (is_number_byte byte ≡ true) × AreNumberBytes bytes

-- a text begins with another byte
abbrev pub GoesOn : List ℕ → Type 0
GoesOn [] = ⊥
GoesOn (byte ∷ bytes) = is_number_byte byte ≡ false

apart : (xs ys s t : List ℕ) → AreNumberBytes xs → AreNumberBytes ys → GoesOn s → GoesOn t
    → xs ++ s ≡ ys ++ t → (xs ≡ ys) × (s ≡ t)
apart [] [] s t m n g h e = (refl, e)
apart [] (y ∷ ys) [] t m n g h e = absurd g
apart [] (y ∷ ys) (c ∷ s) t m n g h e =
    let same : c ≡ y = cc in
    absurd (false≢true (sym g ∙ (ap is_number_byte same ∙ n.0)))
apart (x ∷ xs) [] s [] m n g h e = absurd h
apart (x ∷ xs) [] s (c ∷ t) m n g h e =
    let same : c ≡ x = cc in
    absurd (false≢true (sym h ∙ (ap is_number_byte same ∙ m.0)))
apart (x ∷ xs) (y ∷ ys) s t m n g h e =
    let first : x ≡ y = cc in
    let others : xs ++ s ≡ ys ++ t = cc in
    let rest = apart xs ys s t m.1 n.1 g h others in
    (λ i. first i ∷ rest.0 i, rest.1)

pub both_true : (a b : Bool) → (a && b) ≡ true → (a ≡ true) × (b ≡ true)
both_true true b e = (refl, e)
both_true false b e = absurd (false≢true e)

number_bytes : (bytes : List ℕ) → all_ascii_digits bytes ≡ true → AreNumberBytes bytes
number_bytes [] h = tt
number_bytes (byte ∷ bytes) h =
    let both = both_true (is_ascii_digit byte) (all_ascii_digits bytes) h in
    (ap (λ x. x || byte == 45) both.0, number_bytes bytes both.1)

decimal_bytes : (n : ℕ) → IsWide n → AreNumberBytes (decimal n)
decimal_bytes n h =
    number_bytes (decimal n) (digits_decimal (numerals_by_value _ tells_all_ascii_digits) n h)

signed_bytes : (z : ℤ) → IsSigned z → AreNumberBytes (signed_decimal z)
signed_bytes (pos n) h = decimal_bytes n (omega (arith, h))
signed_bytes (negsuc n) h = (refl, decimal_bytes (suc n) (omega (arith, h)))

-- the same numbers, and the same after them
pub number_read : (m n : ℕ) (s t : List ℕ) → IsWide m → IsWide n → GoesOn s → GoesOn t
    → decimal m ++ s ≡ decimal n ++ t → (m ≡ n) × (s ≡ t)
number_read m n s t hm hn g h e =
    let both = apart (decimal m) (decimal n) s t (decimal_bytes m hm) (decimal_bytes n hn) g h e in
    (decimal_injective m n hm hn both.0, both.1)

pub signed_read : (y z : ℤ) (s t : List ℕ) → IsSigned y → IsSigned z → GoesOn s → GoesOn t
    → signed_decimal y ++ s ≡ signed_decimal z ++ t → (y ≡ z) × (s ≡ t)
signed_read y z s t hy hz g h e =
    let both =
    apart (signed_decimal y) (signed_decimal z) s t (signed_bytes y hy) (signed_bytes z hz) g h e in
    (signed_decimal_injective y z hy hz both.0, both.1)

-- texts differ if they have different bytes at an index
pub differ : (k : ℕ) (x y : List ℕ) → x ≡ y
    → (get_or x k 0 == get_or y k 0) ≡ (get_or y k 0 == get_or y k 0)
differ k x y e = ap (λ l. get_or l k 0 == get_or y k 0) e

-- a number begins with a byte of its own kind
pub number_first : (n byte : ℕ) (s t : List ℕ) → IsWide n → is_number_byte byte ≡ false
    → decimal n ++ s ≡ byte ∷ t → ⊥
number_first n byte s t h other e =
    first (decimal n) (decimal_bytes n h) (decimal_nonempty n h) e
  where
    first : (xs : List ℕ) → AreNumberBytes xs → 0 < length xs → xs ++ s ≡ byte ∷ t → ⊥
    first [] m some e = omega (arith, some)
    first (x ∷ xs) m some e =
        let same : byte ≡ x = cc in false≢true (sym other ∙ (ap is_number_byte same ∙ m.0))

-- ---- a part with what follows it

pub peel : (x y xs ys s t : List ℕ) → (x ++ xs) ++ s ≡ (y ++ ys) ++ t
    → x ++ (xs ++ s) ≡ y ++ (ys ++ t)
peel x y xs ys s t e = sym (append_assoc x xs s) ∙ (e ∙ append_assoc y ys t)

-- what follows the same name
pub after_name : (name x y s t : List ℕ) → (name ++ x) ++ s ≡ (name ++ y) ++ t → x ++ s ≡ y ++ t
after_name name x y s t e = append_cancel_left name _ _ (peel name name x y s t e)

-- a number after the same name
pub number_step : (name : List ℕ) (m n : ℕ) (x y s t : List ℕ) → IsWide m → IsWide n
    → GoesOn (x ++ s) → GoesOn (y ++ t)
    → (name ++ (decimal m ++ x)) ++ s ≡ (name ++ (decimal n ++ y)) ++ t
    → (m ≡ n) × (x ++ s ≡ y ++ t)
number_step name m n x y s t hm hn g h e =
    number_read m n (x ++ s) (y ++ t) hm hn g h
    (peel (decimal m) (decimal n) x y s t (after_name name _ _ s t e))

pub signed_step : (name : List ℕ) (m n : ℤ) (x y s t : List ℕ) → IsSigned m → IsSigned n
    → GoesOn (x ++ s) → GoesOn (y ++ t)
    → (name ++ (signed_decimal m ++ x)) ++ s ≡ (name ++ (signed_decimal n ++ y)) ++ t
    → (m ≡ n) × (x ++ s ≡ y ++ t)
signed_step name m n x y s t hm hn g h e =
    signed_read m n (x ++ s) (y ++ t) hm hn g h
    (peel (signed_decimal m) (signed_decimal n) x y s t (after_name name _ _ s t e))

-- an answer by yes or no after the same name
pub answer_step : (name : List ℕ) (a b : Bool) (x y s t : List ℕ)
    → (name ++ (yes_or_no a ++ x)) ++ s ≡ (name ++ (yes_or_no b ++ y)) ++ t
    → (a ≡ b) × (x ++ s ≡ y ++ t)
answer_step name true true x y s t e =
    (refl, append_cancel_left (codes "yes") _ _ (after_name name _ _ s t e))
answer_step name false false x y s t e =
    (refl, append_cancel_left (codes "no") _ _ (after_name name _ _ s t e))
answer_step name true false x y s t e =
    absurd (false≢true (differ 0 _ _ (after_name name _ _ s t e)))
answer_step name false true x y s t e =
    absurd (false≢true (differ 0 _ _ (after_name name _ _ s t e)))
