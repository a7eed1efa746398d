-- A first line whose bytes may all stand in a log, up to the line feed that ends it.
use Rattle.std.proofs.Common.{◌≡◌, ℕ, suc, ◌+◌, ◌-◌, ◌<◌, Bool, true, false, cond, ◌==◌, List, []}
use Rattle.std.proofs.Common.{◌∷◌, Some, length, take, drop, get_or, slice_index, refl, sym, ap}
use Rattle.std.proofs.Common.{◌∙◌, arith, IsTrue, nat_lt, not}
use Rattle.std.specs.List.{list_all, position_or_len, prefix_len, slice_get}
use Rattle.std.specs.Str.Lines.{lines, strip_carriage_return}
use Rattle.std.proofs.lemmas.Bool.{and_parts, false≢true, ne_eqb}
use Rattle.std.proofs.lemmas.List.Folds.{length-prefix_len, list_all_at}
use Rattle.std.proofs.lemmas.List.{take_rest}
use Rattle.std.proofs.lemmas.Option.{slice_get-get_or, slice_get_within}
use Rattle.base_lines.specs.Limits.{MAX_LINE_BYTES}
use Rattle.base_lines.proofs.FirstLines.{lines_ended}
use Rattle.base_lines.specs.Line.{is_line, is_line_byte, is_printable}

-- a line that a log may have has only bytes that are allowed
pub good_bytes : (line : List ℕ) → is_line line ≡ true → list_all is_line_byte line ≡ true
unfolding is_line
good_bytes line good =
    (and_parts (not (nat_lt MAX_LINE_BYTES (length line))) (list_all is_line_byte line) good).1

no_control : (byte control : ℕ) → is_line_byte control ≡ false → is_line_byte byte ≡ true
    → (byte == control) ≡ false
no_control byte control bad good =
    ne_eqb byte control (λ is. false≢true (sym bad ∙ sym (ap is_line_byte is) ∙ good))

-- the leading good bytes are good
good_prefix : (text : List ℕ) → list_all is_line_byte (take (prefix_len is_line_byte text) text)
    ≡ true
good_prefix [] = refl
good_prefix (byte ∷ text) = at (good_prefix text) (is_line_byte byte) refl where
  at : list_all is_line_byte (take (prefix_len is_line_byte text) text) ≡ true → (good : Bool)
      → is_line_byte byte ≡ good
      → list_all is_line_byte (take (cond good (1 + prefix_len is_line_byte text) 0) (byte ∷ text))
      ≡ true
  at rest true is =
      let n = prefix_len is_line_byte text in
      let next : 1 + n ≡ suc n = omega arith in
      rw next (rw is rest)
  at rest false is = refl

-- a line feed after the leading good bytes is the first
feed_after_good : (text : List ℕ) → slice_get text (prefix_len is_line_byte text) ≡ Some 10
    → prefix_len is_line_byte text ≡ position_or_len (λ b. b == 10) text
feed_after_good [] ends = refl
feed_after_good (byte ∷ text) ends = at (feed_after_good text) (is_line_byte byte) refl ends where
  at : (slice_get text (prefix_len is_line_byte text) ≡ Some 10
      → prefix_len is_line_byte text ≡ position_or_len (λ b. b == 10) text)
      → (good : Bool) → is_line_byte byte ≡ good
      → slice_get (byte ∷ text) (cond good (1 + prefix_len is_line_byte text) 0) ≡ Some 10
      → cond good (1 + prefix_len is_line_byte text) 0
      ≡ position_or_len (λ b. b == 10) (byte ∷ text)
  at rest true is ends =
      let n = prefix_len is_line_byte text in
      let next : 1 + n ≡ suc n = omega arith in
      let later = sym (ap (slice_get (byte ∷ text)) next) ∙ ends in
      let other = no_control byte 10 refl is in
      rw other (ap (λ n. 1 + n) (rest later))
  at rest false is ends = let feed : byte ≡ 10 = cc in rw feed refl

-- good bytes have no carriage return at their end
stripped : (line : List ℕ) → list_all is_line_byte line ≡ true → strip_carriage_return line ≡ line
stripped [] good = refl
stripped (byte ∷ line) good =
    let last = length (byte ∷ line) - 1 in
    let within : last < length (byte ∷ line) = omega arith in
    let fine : is_line_byte (slice_index (byte ∷ line) last) ≡ true = at _ refl within in
    let other = no_control (slice_index (byte ∷ line) last) 13 refl fine in
    ap (λ b. cond b (take last (byte ∷ line)) (byte ∷ line)) other where
      at : (b : Bool) → is_line_byte (slice_index (byte ∷ line) (length (byte ∷ line) - 1)) ≡ b
          → length (byte ∷ line) - 1 < length (byte ∷ line) → b ≡ true
      at true is within = refl
      at false is within =
          absurd (false≢true (sym (list_all_at is_line_byte (byte ∷ line) _ 0 within is) ∙ good))

good_line_ended : (text : List ℕ) (len : ℕ) → len ≡ prefix_len is_line_byte text
    → slice_get text len ≡ Some 10
    → lines text ≡ take len text ∷ lines (drop (len + 1) text)
good_line_ended text len is ends =
    let first : len ≡ position_or_len (λ b. b == 10) text =
    is ∙ feed_after_good text (ap (slice_get text) (sym is) ∙ ends) in
    let good : list_all is_line_byte (take len text) ≡ true =
    ap (λ n. list_all is_line_byte (take n text)) is ∙ good_prefix text in
    lines_ended text len first (slice_get_within text len 10 ends)
    ∙ ap (λ line. line ∷ lines (drop (len + 1) text)) (stripped (take len text) good)

good_line : (text : List ℕ) (len : ℕ) → len ≡ prefix_len is_line_byte text
    → nat_lt MAX_LINE_BYTES len ≡ false → IsTrue (is_line (take len text))
unfolding is_line
good_line text len is short =
    let good : list_all is_line_byte (take len text) ≡ true =
    ap (λ n. list_all is_line_byte (take n text)) is ∙ good_prefix text in
    let size : length (take len text) ≡ len =
    ap (λ n. length (take n text)) is ∙ length-prefix_len is_line_byte text ∙ sym is in
    rw size (rw short (rw good refl))

-- printable bytes up to a line feed are exactly the leading good ones
printable_up_to_feed : (text : List ℕ)
    → slice_get text (prefix_len is_printable text) ≡ Some 10
    → prefix_len is_printable text ≡ prefix_len is_line_byte text
printable_up_to_feed [] ends = refl
printable_up_to_feed (byte ∷ text) ends =
    at (printable_up_to_feed text) (is_printable byte) refl ends where
      at : (slice_get text (prefix_len is_printable text) ≡ Some 10
          → prefix_len is_printable text ≡ prefix_len is_line_byte text)
          → (is : Bool) → is_printable byte ≡ is
          → slice_get (byte ∷ text) (cond is (1 + prefix_len is_printable text) 0) ≡ Some 10
          → cond is (1 + prefix_len is_printable text) 0 ≡ prefix_len is_line_byte (byte ∷ text)
      at rest true is ends =
          let n = prefix_len is_printable text in
          let next : 1 + n ≡ suc n = omega arith in
          let later = sym (ap (slice_get (byte ∷ text)) next) ∙ ends in
          let good : is_line_byte byte ≡ true = rw is refl in
          rw good (ap (λ n. 1 + n) (rest later))
      at rest false is ends = let feed : byte ≡ 10 = cc in rw feed refl

printable_len : (text : List ℕ) (len : ℕ) → len ≡ prefix_len is_printable text
    → slice_get text len ≡ Some 10 → len ≡ prefix_len is_line_byte text
printable_len text len is ends =
    is ∙ printable_up_to_feed text (ap (slice_get text) (sym is) ∙ ends)

pub printable_line_ended : (text : List ℕ) (len : ℕ) → len ≡ prefix_len is_printable text
    → slice_get text len ≡ Some 10
    → lines text ≡ take len text ∷ lines (drop (len + 1) text)
printable_line_ended text len is ends =
    good_line_ended text len (printable_len text len is ends) ends

pub printable_line : (text : List ℕ) (len : ℕ) → len ≡ prefix_len is_printable text
    → slice_get text len ≡ Some 10 → nat_lt MAX_LINE_BYTES len ≡ false
    → IsTrue (is_line (take len text))
printable_line text len is ends short =
    good_line text len (printable_len text len is ends) short

pub ends_at : (text : List ℕ) (len : ℕ) → len < length text → get_or text len 0 ≡ 10
    → slice_get text len ≡ Some 10
ends_at text len within is = slice_get-get_or text len 0 within ∙ ap (λ b. Some b) is

pub ruleset good_lines = (printable_line_ended, printable_line, ends_at, take_rest)
