-- Texts without a line feed, and texts of one line.
use Rattle.std.proofs.Common.{◌≡◌, ℕ, zero, suc, ◌+◌, ◌/◌, ◌%◌, Bool, true, false, cond, List, []}
use Rattle.std.proofs.Common.{◌∷◌, ◌++◌, length, refl, ap, ◌∙◌, arith}
use Rattle.std.specs.Prelude.{◌==◌, ◌&&◌, not, nat_lt, codes}
use Rattle.std.specs.Fmt.{decimal, digit_glyph, digits, digits_onto}
use Rattle.std.specs.List.{flat_map}
use Rattle.std.proofs.lemmas.Bool.{and_from, false≢true, ne_eqb}
use Rattle.std.proofs.lemmas.List.Folds.{list_all-append}
use Rattle.map_ways.specs.Labels.{LINE_FEED, escape_of, is_control, label_of, is_one_line}
use Rattle.map_ways.specs.Labels.{is_within_line}
use Rattle.map_ways.proofs.Bytes.{IsOther, by_bytes}

line_test : (is_feed : Bool) (before line : List ℕ) → (not is_feed && is_within_line before) ≡ true
    → (is_within_line before ≡ true → is_one_line (before ++ line) ≡ is_one_line line)
    → cond is_feed (length (before ++ line) == 0) (is_one_line (before ++ line)) ≡ is_one_line line
line_test true before line within later = absurd (false≢true within)
line_test false before line within later = later within

-- a line goes on after what has no line feed
pub line_after : (before line : List ℕ) → is_within_line before ≡ true
    → is_one_line (before ++ line) ≡ is_one_line line
line_after [] line within = refl
line_after (byte ∷ before) line within =
    line_test (byte == LINE_FEED) before line within (line_after before line)

pub both_within : (before after : List ℕ) → is_within_line before ≡ true
    → is_within_line after ≡ true
    → is_within_line (before ++ after) ≡ true
both_within before after first second =
    list_all-append (λ byte. not (byte == LINE_FEED)) before after
    ∙ and_from (is_within_line before) (is_within_line after) first second

glyph_test : (is_digit : Bool) (d : ℕ) → (cond is_digit (48 + d) (87 + d) == LINE_FEED) ≡ false
glyph_test true d = ne_eqb (48 + d) 10 (λ e. omega arith)
glyph_test false d = ne_eqb (87 + d) 10 (λ e. omega arith)

more_within : (d : ℕ) (digits : List ℕ) → is_within_line digits ≡ true
    → is_within_line (digit_glyph false d ∷ digits) ≡ true
more_within d digits within =
    ap (λ b. not b && is_within_line digits) (glyph_test (nat_lt d 10) d) ∙ within

digits_test : (is_last : Bool) (one more : List ℕ) → is_within_line one ≡ true
    → is_within_line more ≡ true → is_within_line (cond is_last one more) ≡ true
digits_test true one more first second = first
digits_test false one more first second = second

digits_within : (most n : ℕ) (digits : List ℕ) → is_within_line digits ≡ true
    → is_within_line (digits_onto most 10 false n digits) ≡ true
digits_within zero n digits within = within
digits_within (suc most) n digits within =
    let one = digit_glyph false (n % 10) ∷ digits in
    let here = more_within (n % 10) digits within in
    digits_test (n / 10 == 0) one (digits_onto most 10 false (n / 10) one) here
    (digits_within most (n / 10) one here)

pub decimal_within : (n : ℕ) → is_within_line (decimal n) ≡ true
unfolding digits
decimal_within n = digits_within 64 n [] refl

abbrev EscapeIsWithin : ℕ → Type 0
EscapeIsWithin byte = is_within_line (escape_of byte) ≡ true

other_within : (byte : ℕ) → IsOther byte → (is : Bool) → is_control byte ≡ is
    → EscapeIsWithin byte
unfolding escape_of
other_within byte other true control =
    rw (other.quote, other.backslash, other.feed, other.ampersand, control) refl
other_within byte other false control =
    rw (other.quote, other.backslash, other.feed, other.ampersand, control, other.feed) refl

byte_within : (byte : ℕ) → EscapeIsWithin byte
unfolding escape_of
byte_within =
    by_bytes EscapeIsWithin refl refl refl refl
    (λ byte other. other_within byte other (is_control byte) refl)

escapes_within : (text : List ℕ) → is_within_line (flat_map escape_of text) ≡ true
escapes_within [] = refl
escapes_within (byte ∷ text) =
    both_within (escape_of byte) (flat_map escape_of text) (byte_within byte) (escapes_within text)

pub label_within : (text : List ℕ) → is_within_line (label_of text) ≡ true
label_within text =
    both_within (flat_map escape_of text) (codes "\"") (escapes_within text) refl
