-- What reading does with a line of a database at its position is what the bytes of the line say.
use Rattle.std.proofs.Common.{◌≡◌, ℕ, Bool, true, false, cond, ◌==◌, List, ◌∷◌, Option}
use Rattle.std.proofs.Common.{Some, None, option_map, refl, ap, subst, ◌∙◌}
use Rattle.std.proofs.lemmas.Bool.{eqb-true}
use Rattle.base_lines.specs.Bytes.{is_all_blank}
use Rattle.data_rows.specs.declared.error.Section.{Section}
use Rattle.data_rows.specs.declared.number.Number.{Number}
use Rattle.data_rows.specs.declared.number.Number.TheVariants.{Natural, Negative}
use Rattle.data_rows.specs.declared.position.Position.{Position}
use Rattle.data_rows.specs.declared.position.Position.TheVariants.{Outside, Inside, After}
use Rattle.data_rows.specs.Fields.{number_at}
use Rattle.data_rows.specs.Rows.{Entry}
use Rattle.data_rows.specs.Grammar.{section_of, position_after_number}
use Rattle.data_rows.specs.Grammar.{heading_at, position_after_heading, is_minus_one, closes}
use Rattle.data_rows.specs.RowParts.{BeginsWithNumber, BeginsWithNumbers, number_then}
use Rattle.data_rows.specs.RowGrammar.{IsRow, in_1, in_2, in_3, in_4, in_5, in_6, in_7, in_8, in_9}
use Rattle.data_rows.specs.RowGrammar.{in_10, in_11, in_12}
use Rattle.data_rows.specs.DatabaseGrammar.{section_number, IsLineOfNumber}
use Rattle.data_rows.proofs.PartLemmas.{number_at-begins, begins-number_at}
use Rattle.data_rows.proofs.ReadParts.{nonblank-field}

-- ---- a line that begins with a number

pub nonblank_line : (n : Number) (line : List ℕ) → IsLineOfNumber n line
    → is_all_blank line ≡ false
nonblank_line n line (rest, is) = nonblank-field line is.field rest is.begins

pub first_number : (n : Number) (line : List ℕ) → IsLineOfNumber n line
    → (rest : List ℕ) × (number_at line ≡ Some (n, rest))
first_number n line (rest, is) = (rest, number_at-begins line n rest is)

-- ---- the end of a section

pub closes-minus_one : (line : List ℕ) → IsLineOfNumber (Negative 1) line → closes line ≡ true
unfolding closes
closes-minus_one line is = ap is_minus_one (first_number (Negative 1) line is).1

pub closes-natural : (n : ℕ) (line : List ℕ) → IsLineOfNumber (Natural n) line
    → closes line ≡ false
unfolding closes
closes-natural n line is = ap is_minus_one (first_number (Natural n) line is).1

pub minus_one-closes : (line : List ℕ) → closes line ≡ true → IsLineOfNumber (Negative 1) line
unfolding closes
minus_one-closes line is = at (number_at line) refl is where
  at : (o : Option (Number × List ℕ)) → number_at line ≡ o → is_minus_one o ≡ true
      → IsLineOfNumber (Negative 1) line
  at None e h = cc
  at (Some (Natural n, rest)) e h = cc
  at (Some (Negative n, rest)) e h = (
    rest,
    subst (λ m. BeginsWithNumber line (Negative m) rest) (eqb-true n 1 h)
        (begins-number_at line (Negative n) rest e),
  )

-- ---- the heading of a section, and the end

section_of-number : (s : Section) → position_after_number (section_number s) ≡ Some (Inside s)
section_of-number Section.LongTexts = refl
section_of-number Section.ShortTexts = refl
section_of-number Section.Travel = refl
section_of-number Section.Words = refl
section_of-number Section.Objects = refl
section_of-number Section.Messages = refl
section_of-number Section.Placements = refl
section_of-number Section.Defaults = refl
section_of-number Section.Conditions = refl
section_of-number Section.Classes = refl
section_of-number Section.Hints = refl
section_of-number Section.Magic = refl

pub heading-section : (s : Section) (line : List ℕ)
    → IsLineOfNumber (Natural (section_number s)) line
    → position_after_heading line ≡ Some (Inside s)
unfolding position_after_heading
heading-section s line is =
    ap heading_at (first_number (Natural (section_number s)) line is).1 ∙ section_of-number s

pub heading-end : (line : List ℕ) → IsLineOfNumber (Natural 0) line
    → position_after_heading line ≡ Some After
unfolding position_after_heading
heading-end line is = ap heading_at (first_number (Natural 0) line is).1

-- the number is that of this section, or of a later one
by_number : (n k : ℕ) (s t : Section) (later : Option Section) → k ≡ section_number s
    → (later ≡ Some t → n ≡ section_number t) → cond (n == k) (Some s) later ≡ Some t
    → n ≡ section_number t
by_number n k s t later is others found = at (n == k) refl found where
  at : (b : Bool) → (n == k) ≡ b → cond b (Some s) later ≡ Some t → n ≡ section_number t
  at true e h =
      let same : s ≡ t = cc in
      eqb-true n k e ∙ is ∙ ap section_number same
  at false e h = others h

number-section : (n : ℕ) (t : Section) → section_of n ≡ Some t → n ≡ section_number t
number-section n t =
    by_number n 1 Section.LongTexts t _ refl (by_number n 2 Section.ShortTexts t _ refl
    (by_number n 3 Section.Travel t _ refl (by_number n 4 Section.Words t _ refl
    (by_number n 5 Section.Objects t _ refl (by_number n 6 Section.Messages t _ refl
    (by_number n 7 Section.Placements t _ refl (by_number n 8 Section.Defaults t _ refl
    (by_number n 9 Section.Conditions t _ refl (by_number n 10 Section.Classes t _ refl
    (by_number n 11 Section.Hints t _ refl (by_number n 12 Section.Magic t None refl
    (λ none. cc))))))))))))

-- what a line outside every section opens
abbrev pub Opens : List ℕ → Position → Type 0
Opens line Outside = ⊥
Opens line (Inside s) = IsLineOfNumber (Natural (section_number s)) line
Opens line After = IsLineOfNumber (Natural 0) line

opens_section : (n : ℕ) (line rest : List ℕ) (position : Position)
    → BeginsWithNumber line (Natural n) rest → option_map Inside (section_of n) ≡ Some position
    → Opens line position
opens_section n line rest position begins is = at (section_of n) refl is where
  at : (o : Option Section) → section_of n ≡ o → option_map Inside o ≡ Some position
      → Opens line position
  at None e h = cc
  at (Some s) e h =
      let same : Inside s ≡ position = cc in
      subst (Opens line) same
      (rest, subst (λ m. BeginsWithNumber line (Natural m) rest) (number-section n s e) begins)

opens_number : (n : ℕ) (line rest : List ℕ) (position : Position)
    → BeginsWithNumber line (Natural n) rest → position_after_number n ≡ Some position
    → Opens line position
opens_number n line rest position begins is = at (n == 0) refl is where
  at : (b : Bool) → (n == 0) ≡ b
      → cond b (Some After) (option_map Inside (section_of n)) ≡ Some position
      → Opens line position
  at true e h =
      let same : After ≡ position = cc in
      subst (Opens line) same
      (rest, subst (λ m. BeginsWithNumber line (Natural m) rest) (eqb-true n 0 e) begins)
  at false e h = opens_section n line rest position begins h

pub opens-heading : (line : List ℕ) (position : Position)
    → position_after_heading line ≡ Some position → Opens line position
unfolding position_after_heading
opens-heading line position is = at (number_at line) refl is where
  at : (o : Option (Number × List ℕ)) → number_at line ≡ o → heading_at o ≡ Some position
      → Opens line position
  at None e h = cc
  at (Some (Natural n, rest)) e h =
      opens_number n line rest position (begins-number_at line (Natural n) rest e) h
  at (Some (Negative n, rest)) e h = cc

-- ---- a row

first_of : (n : Number) (ns : List Number) (line last : List ℕ)
    → BeginsWithNumbers line (n ∷ ns) last → IsLineOfNumber n line
first_of n ns line last (number_then {rest = rest} begins later) = (rest, begins)

-- a row begins with a number that isn't negative
pub begins-row : (s : Section) (line : List ℕ) (entry : Entry) → IsRow s line entry
    → (n : ℕ) × IsLineOfNumber (Natural n) line
begins-row s line entry (in_1 {row = row} is) = (row.number, (is.rest, is.number))
begins-row s line entry (in_2 {row = row} is) = (row.number, (is.rest, is.number))
begins-row s line entry (in_3 {place = place} is few) =
    (place, first_of (Natural place) _ line is.rest is.numbers)
begins-row s line entry (in_4 {entry = word} is) = (word.number, (is.rest, is.number))
begins-row s line entry (in_5 {row = row} is) = (row.number, (is.rest, is.number))
begins-row s line entry (in_6 {row = row} is) = (row.number, (is.rest, is.number))
begins-row s line entry (in_7 {object = object} is) = (object, (is.after_object, is.begins))
begins-row s line entry (in_8 {action = action} is) =
    (action, first_of (Natural action) _ line is.ignored is.numbers)
begins-row s line entry (in_9 {bit = bit} is few) = (bit, (is.rest, is.number))
begins-row s line entry (in_10 {row = row} is) = (row.number, (is.rest, is.number))
begins-row s line entry (in_11 {number = number} is) =
    (number, first_of (Natural number) _ line is.ignored is.numbers)
begins-row s line entry (in_12 {row = row} is) = (row.number, (is.rest, is.number))
