-- A string reads back as its text.
use Rattle.std.proofs.Common.{◌≡◌, ℕ, ◌+◌, ◌*◌, ◌/◌, ◌%◌, ◌<◌, ◌≤◌, Bool, true, false, cond}
use Rattle.std.proofs.Common.{List, [], ◌∷◌, ◌++◌, refl, sym, subst, ap, ◌∙◌, append_assoc, arith}
use Rattle.std.specs.Prelude.{◌==◌, nat_lt}
use Rattle.std.specs.Fmt.{digit_glyph}
use Rattle.std.specs.List.{flat_map}
use Rattle.std.proofs.lemmas.Bool.{eqb-true, le-ltb, lt-ltb, ltb-false, ltb-true}
use Rattle.play_walk.specs.Json.{AtByte, BACKSLASH, LINE_FEED, QUOTE, StringsReadBack, TAB, after_byte}
use Rattle.play_walk.specs.Json.{is_printed, number_of_digit, string_escape, text_of_string}

-- ---- numbers

digit_test : (is_low : Bool) (d : ℕ) → nat_lt d 10 ≡ is_low
    → number_of_digit (cond is_low (48 + d) (87 + d)) ≡ d
digit_test true d is =
    let low : d < 10 = ltb-true d 10 is in
    let is_low : nat_lt (48 + d) 58 ≡ true = lt-ltb (48 + d) 58 (omega arith) in
    rw is_low (omega arith)
digit_test false d is =
    let high : 10 ≤ d = ltb-false d 10 is in
    let is_high : nat_lt (87 + d) 58 ≡ false = le-ltb (87 + d) 58 (omega arith) in
    rw is_high (omega arith)

digit_back : (d : ℕ) → number_of_digit (digit_glyph false d) ≡ d
digit_back d = digit_test (nat_lt d 10) d refl

two_digits : (byte high low : ℕ) → high ≡ byte / 16 → low ≡ byte % 16
    → 16 * (0 + high) + low ≡ byte
two_digits byte high low first second = omega arith

number_back : (byte : ℕ)
    → 16 * (0 + number_of_digit (digit_glyph false (byte / 16)))
    + number_of_digit (digit_glyph false (byte % 16))
    ≡ byte
number_back byte =
    two_digits byte (number_of_digit (digit_glyph false (byte / 16)))
    (number_of_digit (digit_glyph false (byte % 16))) (digit_back (byte / 16))
    (digit_back (byte % 16))

-- ---- bytes

-- the byte reads back, before any text that follows
abbrev ReadsBack : List ℕ → ℕ → Type 0
ReadsBack rest byte =
    text_of_string AtByte (string_escape byte ++ rest) ≡ after_byte byte (text_of_string AtByte rest)

known : (rest : List ℕ) (byte at : ℕ) → (byte == at) ≡ true → ReadsBack rest at
    → ReadsBack rest byte
known rest byte at is back = subst (ReadsBack rest) (sym (eqb-true byte at is)) back

byte_test : (rest : List ℕ) (byte : ℕ) (is_quote is_slash is_feed is_tab is_plain : Bool)
    → (byte == QUOTE) ≡ is_quote → (byte == BACKSLASH) ≡ is_slash
    → (byte == LINE_FEED) ≡ is_feed → (byte == TAB) ≡ is_tab → is_printed byte ≡ is_plain
    → ReadsBack rest byte
unfolding string_escape
byte_test rest byte true is_slash is_feed is_tab is_plain quote slash feed tab plain =
    known rest byte QUOTE quote refl
byte_test rest byte false true is_feed is_tab is_plain quote slash feed tab plain =
    known rest byte BACKSLASH slash refl
byte_test rest byte false false true is_tab is_plain quote slash feed tab plain =
    known rest byte LINE_FEED feed refl
byte_test rest byte false false false true is_plain quote slash feed tab plain =
    known rest byte TAB tab refl
byte_test rest byte false false false false true quote slash feed tab plain =
    rw (quote, slash, feed, tab, plain, quote, slash) refl
byte_test rest byte false false false false false quote slash feed tab plain =
    rw (quote, slash, feed, tab, plain)
    (ap (λ n. after_byte n (text_of_string AtByte rest)) (number_back byte))

byte_back : (rest : List ℕ) (byte : ℕ) → ReadsBack rest byte
byte_back rest byte =
    byte_test rest byte (byte == QUOTE) (byte == BACKSLASH) (byte == LINE_FEED) (byte == TAB)
    (is_printed byte) refl refl refl refl refl

pub strings_read_back : StringsReadBack
strings_read_back [] rest = refl
strings_read_back (byte ∷ text) rest =
    let left = flat_map string_escape text in
    ap (text_of_string AtByte) (append_assoc (string_escape byte) left (QUOTE ∷ rest))
    ∙ byte_back (left ++ QUOTE ∷ rest) byte
    ∙ ap (after_byte byte) (strings_read_back text rest)
