-- The line of a change is read as that change, and may be in a script.
use Rattle.std.proofs.Common.{◌≡◌, ℕ, ◌≤◌, List, [], ◌∷◌, ◌++◌, codes, IsTrue}
use Rattle.std.proofs.Common.{sym, ap, ◌∙◌, refl, arith, append-nil, true}
use Rattle.std.specs.Prelude.{◌&&◌}
use Rattle.std.specs.Fmt.{decimal}
use Rattle.std.specs.List.{list_all}
use Rattle.std.proofs.lemmas.Bool.Decides.{nat_tests}
use Rattle.std.proofs.lemmas.Bool.{and_parts}
use Rattle.std.proofs.lemmas.List.Folds.{list_all-append}
use Rattle.base_lines.specs.Bytes.{is_digit}
use Rattle.base_lines.specs.Line.{is_line_byte}
use Rattle.replay_edits.specs.Edit.{Change, inserts, deletes, own_line, replaces, reseeds}
use Rattle.replay_scripts.specs.Line.{IsNumbered, Spells}
use Rattle.replay_scripts.specs.ScriptText.{change_line, number_in}
use Rattle.replay_scripts.proofs.Numerals.{all_digits, few_digits, some_digits, value}
use Rattle.replay_scripts.proofs.Texts.{IsTextLine}

pub numbered : (word line : List ℕ) (n : ℕ) (rest : List ℕ) → n ≤ 4294967295
    → line ≡ word ++ 32 ∷ (decimal n ++ rest) → IsNumbered word line n rest
numbered word line n rest fits parts = record {
  blank = 32;
  digits = decimal n;
  parts = parts;
  is_blank_byte = refl;
  all_digits = all_digits n fits;
  some_digits = some_digits n fits;
  few_digits = few_digits n fits;
  value = value n fits;
}

abbrev pub guard_line : ℕ → List ℕ → List ℕ
guard_line place line = codes "expect " ++ (decimal place ++ (codes " " ++ line))

pub line_spells : (change : Change) → number_in change ≤ 4294967295
    → Spells (change_line change) change
line_spells (inserts place line) fits = (
  32 ∷ line,
  numbered (codes "insert") _ place (32 ∷ line) fits refl,
  (refl, refl),
)
line_spells (deletes place) fits = (
  [],
  numbered (codes "delete") _ place [] fits
      (ap (λ d. codes "delete " ++ d) (sym (append-nil (decimal place)))),
  refl,
)
line_spells (replaces place line) fits = (
  32 ∷ line,
  numbered (codes "replace") _ place (32 ∷ line) fits refl,
  (refl, refl),
)
line_spells (reseeds seed) fits = (
  [],
  numbered (codes "seed") _ seed [] fits
      (ap (λ d. codes "seed " ++ d) (sym (append-nil (decimal seed)))),
  refl,
)

-- ---- their bytes

all_pass : (xs ys : List ℕ) → list_all is_line_byte xs ≡ true → list_all is_line_byte ys ≡ true
    → list_all is_line_byte (xs ++ ys) ≡ true
all_pass xs ys first second =
    list_all-append is_line_byte xs ys ∙ ap (λ b. b && list_all is_line_byte ys) first ∙ second

digits_stand : (digits : List ℕ) → IsTrue (list_all is_digit digits)
    → list_all is_line_byte digits ≡ true
digits_stand [] all = refl
digits_stand (digit ∷ digits) all =
    let both = and_parts (is_digit digit) (list_all is_digit digits) all in
    let here : is_line_byte digit ≡ true = grind (arith, nat_tests, both.0) in
    rw here (digits_stand digits both.1)

number_stands : (n : ℕ) → n ≤ 4294967295 → list_all is_line_byte (decimal n) ≡ true
number_stands n fits = digits_stand (decimal n) (all_digits n fits)

pub text_stands : (word line : List ℕ) (n : ℕ) → n ≤ 4294967295 → list_all is_line_byte word ≡ true
    → list_all is_line_byte line ≡ true
    → list_all is_line_byte (word ++ (decimal n ++ line)) ≡ true
text_stands word line n fits first last =
    all_pass word (decimal n ++ line) first
    (all_pass (decimal n) line (number_stands n fits) last)

pub line_stands : (change : Change) → number_in change ≤ 4294967295
    → list_all is_line_byte (own_line change) ≡ true → IsTextLine (change_line change)
line_stands (inserts place line) fits bytes =
    text_stands (codes "insert ") (32 ∷ line) place fits refl bytes
line_stands (deletes place) fits bytes =
    all_pass (codes "delete ") (decimal place) refl
    (number_stands place fits)
line_stands (replaces place line) fits bytes =
    text_stands (codes "replace ") (32 ∷ line) place fits refl bytes
line_stands (reseeds seed) fits bytes =
    all_pass (codes "seed ") (decimal seed) refl
    (number_stands seed fits)
