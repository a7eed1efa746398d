-- A line whose first number has no minus sign closes no section.
use Rattle.std.proofs.Common.{◌≡◌, ℕ, Bool, true, false, cond, ◌==◌, nat_eq, List, [], ◌∷◌, Option}
use Rattle.std.proofs.Common.{Some, None, option_map, refl, arith}
use Rattle.std.specs.List.{starts_with}
use Rattle.std.proofs.lemmas.Bool.Decides.{nat_tests}
use Rattle.base_lines.specs.Bytes.{is_nonblank}
use Rattle.data_rows.specs.Fields.{after_blanks, after_field, field, natural, number_of_field}
use Rattle.data_rows.specs.Fields.{number_at}
use Rattle.data_rows.specs.Grammar.{closes, is_minus_one}
use Rattle.data_rows.specs.declared.number.Number.TheVariants.{Natural}

-- whether these bytes begin with a number that is -1
abbrev begins_with_minus_one : List ℕ → Bool
begins_with_minus_one bytes =
    is_minus_one (option_map (λ n. (n, after_field bytes)) (number_of_field (field bytes)))

natural-no_minus : (rest : List ℕ) (n : Option ℕ)
    → is_minus_one (option_map (λ n. (n, rest)) (option_map Natural n)) ≡ false
natural-no_minus rest None = refl
natural-no_minus rest (Some n) = refl

no_minus : (byte : ℕ) (bytes : List ℕ) → (byte == 45) ≡ false
    → begins_with_minus_one (byte ∷ bytes) ≡ false
unfolding number_of_field
no_minus byte bytes other =
    by (is_nonblank byte) where
      by : (nonblank : Bool)
          → is_minus_one (option_map (λ n. (n, after_field (byte ∷ bytes)))
          (number_of_field (cond nonblank (byte ∷ field bytes) []))) ≡ false
      by false = refl
      by true = rw other (natural-no_minus _ (natural (byte ∷ field bytes)))

unsigned_start : (bytes : List ℕ) → starts_with nat_eq bytes (45 ∷ []) ≡ false
    → begins_with_minus_one bytes ≡ false
unfolding number_of_field
unsigned_start [] other = refl
unsigned_start (byte ∷ bytes) other = no_minus byte bytes (grind (arith, nat_tests, other))

pub unsigned : (line : List ℕ) → starts_with nat_eq (after_blanks line) (45 ∷ []) ≡ false
    → closes line ≡ false
unfolding closes number_at
unsigned line other = unsigned_start (after_blanks line) other
