use Rattle.std.proofs.Common.{◌≡◌, ℕ, Bool, true, false, cond, List, [], ◌∷◌, ◌++◌, take, drop}
use Rattle.std.proofs.Common.{length, Option, Some, None, codes, IsTrue, ◌&&◌, ◌≤◌, nat_lt, nat_le}
use Rattle.std.proofs.Common.{bytes_eq, refl, sym, subst, ◌∙◌, arith}
use Rattle.std.specs.List.{list_all}
use Rattle.std.proofs.lemmas.Bool.{and_parts, false≢true}
use Rattle.std.proofs.lemmas.Bool.Decides.{nat_tests}
use Rattle.std.proofs.lemmas.List.{append-nil, take-append-drop}
use Rattle.std.proofs.lemmas.List.Folds.{list_all-append}
use Rattle.std.proofs.lemmas.Slice.Eq.{bytes_eq-Decides}
use Rattle.std.proofs.Math.Bool.{and-false}
use Rattle.base_lines.specs.Limits.{MAX_DIGITS, MAX_SEED}
use Rattle.base_lines.proofs.Prefixes.{prefix_while-append-after_prefix, list_all-prefix_while}
use Rattle.base_lines.proofs.Prefixes.{after_prefix-append, prefix_while-append}
use Rattle.base_lines.specs.Bytes.{is_blank, is_all_blank, is_digit, prefix_while, after_prefix}
use Rattle.base_lines.specs.Bytes.{number_of}
use Rattle.base_lines.specs.LogLine.{IsLogLine, IsSeedLine, log_line, is_comment, seed_of, seed_in}
use Rattle.base_lines.specs.LogLine.{seed_or_input}
use Rattle.base_lines.specs.declared.log_line.LogLine.{LogLine}
use Rattle.base_lines.specs.declared.log_line.LogLine.TheVariants.{Comment, Blank, Seed, Input}

not_true : (b : Bool) → ¬ IsTrue b → b ≡ false
not_true b untrue = false_if b refl untrue
  where
    false_if : (value : Bool) → b ≡ value → ¬ IsTrue b → b ≡ false
    false_if true is refuted = absurd (refuted is)
    false_if false is _ = is

blank_no_digit : (byte : ℕ) → IsTrue (is_blank byte) → is_digit byte ≡ false
blank_no_digit byte blank = grind (arith, nat_tests)

no_digit_in_front : (after : List ℕ) → IsTrue (list_all is_blank after)
    → prefix_while is_digit after ≡ []
no_digit_in_front [] blank = refl
no_digit_in_front (byte ∷ bytes) blank =
    let other = blank_no_digit byte (and_parts (is_blank byte) (list_all is_blank bytes) blank).0 in
    rw other refl

all_after_digits : (after : List ℕ) → IsTrue (list_all is_blank after)
    → after_prefix is_digit after ≡ after
all_after_digits [] blank = refl
all_after_digits (byte ∷ bytes) blank =
    let other = blank_no_digit byte (and_parts (is_blank byte) (list_all is_blank bytes) blank).0 in
    rw other refl

-- what makes digits and the bytes after them the end of a seed line
record EndsSeedLine (digits after : List ℕ) (seed : ℕ) : Type 0 where
  pub some_digits : 1 ≤ length digits
  pub few_digits : length digits ≤ MAX_DIGITS
  pub blank_after : IsTrue (list_all is_blank after)
  pub value : number_of digits ≡ seed
  pub in_range : seed ≤ MAX_SEED

seed_in-from_end : (digits after : List ℕ) (seed : ℕ) → EndsSeedLine digits after seed
    → seed_in digits after ≡ Some seed
unfolding seed_in
seed_in-from_end digits after seed is =
    let some : nat_lt 0 (length digits) ≡ true = grind (arith, nat_tests, is.some_digits) in
    let few : nat_le (length digits) MAX_DIGITS ≡ true = grind (arith, nat_tests, is.few_digits) in
    let blank = is.blank_after in
    let value = is.value in
    let small : nat_le seed MAX_SEED ≡ true = grind (arith, nat_tests, is.in_range) in
    rw (value, some, few, blank, small) refl

end_from_seed_in : (digits after : List ℕ) (seed : ℕ) → seed_in digits after ≡ Some seed
    → EndsSeedLine digits after seed
unfolding seed_in
end_from_seed_in digits after seed is =
    ends (nat_lt 0 (length digits) && nat_le (length digits) MAX_DIGITS && list_all is_blank after
    && nat_le (number_of digits) MAX_SEED) refl is
  where
    ends : (all : Bool)
        → (nat_lt 0 (length digits) && nat_le (length digits) MAX_DIGITS && list_all is_blank after
        && nat_le (number_of digits) MAX_SEED) ≡ all
        → cond all (Some (number_of digits)) None ≡ Some seed → EndsSeedLine digits after seed
    ends false e h = cc
    ends true e h =
        let small =
        and_parts (nat_lt 0 (length digits) && nat_le (length digits) MAX_DIGITS
        && list_all is_blank after) (nat_le (number_of digits) MAX_SEED) e in
        let blank =
        and_parts (nat_lt 0 (length digits) && nat_le (length digits) MAX_DIGITS)
        (list_all is_blank after) small.0 in
        let count =
        and_parts (nat_lt 0 (length digits)) (nat_le (length digits) MAX_DIGITS) blank.0 in
        let value : number_of digits ≡ seed = cc in
        record {
          some_digits = grind (arith, nat_tests, count.0);
          few_digits = grind (arith, nat_tests, count.1);
          blank_after = blank.1;
          value = value;
          in_range = grind (arith, nat_tests, small.1, value);
        }

seed_of-from_line : (line : List ℕ) (seed : ℕ) → IsSeedLine line seed → seed_of line ≡ Some seed
unfolding seed_of
seed_of-from_line line seed is =
    let parts = is.parts in
    let word : after_prefix is_blank line ≡ codes "seed " ++ (is.digits ++ is.after) =
    rw parts
    (after_prefix-append is_blank is.before (codes "seed " ++ (is.digits ++ is.after))
    is.blank_before) in
    let front : prefix_while is_digit (is.digits ++ is.after) ≡ is.digits =
    prefix_while-append is_digit is.digits is.after is.all_digits
    ∙ rw (no_digit_in_front is.after is.blank_after) (append-nil is.digits) in
    let back : after_prefix is_digit (is.digits ++ is.after) ≡ is.after =
    after_prefix-append is_digit is.digits is.after is.all_digits
    ∙ all_after_digits is.after is.blank_after in
    let end =
    seed_in-from_end is.digits is.after seed
    (record {
      some_digits = is.some_digits;
      few_digits = is.few_digits;
      blank_after = is.blank_after;
      value = is.value;
      in_range = is.in_range;
    }) in
    rw (word, front, back) end

line_from_word : (line rest : List ℕ) (seed : ℕ) → prefix_while is_blank line ++ rest ≡ line
    → (named : Bool) → bytes_eq (take 5 rest) (codes "seed ") ≡ named
    → cond named
    (seed_in (prefix_while is_digit (drop 5 rest)) (after_prefix is_digit (drop 5 rest))) None
    ≡ Some seed → IsSeedLine line seed
line_from_word line rest seed joins false e h = cc
line_from_word line rest seed joins true e h =
    let end =
    end_from_seed_in (prefix_while is_digit (drop 5 rest)) (after_prefix is_digit (drop 5 rest))
    seed h in
    let word : take 5 rest ≡ codes "seed " = (bytes_eq-Decides (take 5 rest) (codes "seed ")).0 e in
    let split : codes "seed " ++ drop 5 rest ≡ rest =
    subst (λ (front : List ℕ). front ++ drop 5 rest ≡ rest) word (take-append-drop 5 rest) in
    let whole : codes "seed "
    ++ (prefix_while is_digit (drop 5 rest) ++ after_prefix is_digit (drop 5 rest)) ≡ rest =
    rw prefix_while-append-after_prefix split in
    record {
      before = prefix_while is_blank line;
      digits = prefix_while is_digit (drop 5 rest);
      after = after_prefix is_digit (drop 5 rest);
      parts = sym (rw whole joins);
      blank_before = list_all-prefix_while is_blank line;
      all_digits = list_all-prefix_while is_digit (drop 5 rest);
      blank_after = end.blank_after;
      some_digits = end.some_digits;
      few_digits = end.few_digits;
      value = end.value;
      in_range = end.in_range;
    }

IsSeedLine-from_seed_of : (line : List ℕ) (seed : ℕ) → seed_of line ≡ Some seed
    → IsSeedLine line seed
unfolding seed_of
IsSeedLine-from_seed_of line seed is =
    line_from_word line (after_prefix is_blank line) seed
    (prefix_while-append-after_prefix is_blank line) _ refl is

blank_no_comment : (line : List ℕ) → IsTrue (is_all_blank line) → is_comment line ≡ false
blank_no_comment [] blank = refl
blank_no_comment (byte ∷ bytes) blank =
    grind (arith, nat_tests, and_parts (is_blank byte) (list_all is_blank bytes) blank)

word_no_comment : (before rest : List ℕ) → IsTrue (list_all is_blank before)
    → is_comment (before ++ 115 ∷ rest) ≡ false
word_no_comment [] rest blank = refl
word_no_comment (byte ∷ bytes) rest blank =
    grind (arith, nat_tests, and_parts (is_blank byte) (list_all is_blank bytes) blank)

seed_no_comment : (line : List ℕ) (seed : ℕ) → IsSeedLine line seed → is_comment line ≡ false
seed_no_comment line seed is =
    let parts = is.parts in rw parts (word_no_comment is.before _ is.blank_before)

word_not_blank : (before rest : List ℕ) → is_all_blank (before ++ 115 ∷ rest) ≡ false
word_not_blank before rest = list_all-append is_blank before (115 ∷ rest)
    ∙ and-false (list_all is_blank before)

seed_not_blank : (line : List ℕ) (seed : ℕ) → IsSeedLine line seed → is_all_blank line ≡ false
seed_not_blank line seed is = let parts = is.parts in rw parts (word_not_blank is.before _)

kind_holds : (line : List ℕ) (comment blank : Bool) (seed : Option ℕ) → is_comment line ≡ comment
    → is_all_blank line ≡ blank → seed_of line ≡ seed
    → IsLogLine line (cond comment Comment (cond blank Blank (seed_or_input seed)))
kind_holds line true blank seed c b s = c
kind_holds line false true seed c b s = b
kind_holds line false false (Some seed) c b s = IsSeedLine-from_seed_of line seed s
kind_holds line false false None c b s = (
  λ is. false≢true (sym c ∙ is),
  λ is. false≢true (sym b ∙ is),
  λ seed is. let e =
      seed_of-from_line line seed is in cc,
)

-- the line is what it is reported to be
pub IsLogLine-log_line : (line : List ℕ) → IsLogLine line (log_line line)
unfolding log_line
IsLogLine-log_line line =
    kind_holds line (is_comment line) (is_all_blank line) (seed_of line) refl refl refl

no_seed : (line : List ℕ) (found : Option ℕ) → seed_of line ≡ found
    → ((seed : ℕ) → ¬ IsSeedLine line seed) → found ≡ None
no_seed line None is none = refl
no_seed line (Some seed) is none = absurd (none seed (IsSeedLine-from_seed_of line seed is))

-- and it is nothing else
pub log_line-only : (line : List ℕ) (kind : LogLine) → IsLogLine line kind → kind ≡ log_line line
unfolding log_line
log_line-only line Comment is = rw is refl
log_line-only line Blank is = let c = blank_no_comment line is in rw (c, is) refl
log_line-only line (Seed seed) is =
    let c = seed_no_comment line seed is in let b = seed_not_blank line seed is in
    let s = seed_of-from_line line seed is in rw (c, b, s) refl
log_line-only line Input is =
    let c = not_true _ is.0 in let b = not_true _ is.1 in
    let s = no_seed line (seed_of line) refl is.2 in rw (c, b, s) refl

pub ruleset kinds = (IsLogLine-log_line, log_line-only)
