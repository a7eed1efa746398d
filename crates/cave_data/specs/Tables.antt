-- Tables as they are while a database is read.
use Rattle.std.specs.Prelude.{◌≡◌, ℕ, ◌+◌, ◌≤◌, ◌^◌, Bool, false, ◌==◌, if◌then◌else◌, List, []}
use Rattle.std.specs.Prelude.{◌∷◌, ◌++◌, Option, Some, None, unwrap_or, bit_or, refl}
use Rattle.std.specs.Coded.{Coded, code_by, coded×, coded_ℕ, coded_list, coded_option}
use Rattle.std.specs.Ordering.{nat_cmp}
use Rattle.std.specs.FinMap as map
use Rattle.data_rows.specs.Rows.{Going, TextLine}
use Rattle.cave_data.specs.CaveView.{Texts, texts_code, going_code}
use Rattle.cave_data.specs.Texts.{line_text}

-- texts, and the number of the last line
pub record TextsSoFar : Type 0 where
  pub texts : Texts
  pub last : Option ℕ

-- ways out of places, and how many there are
pub record WaysSoFar : Type 0 where
  pub ways : map.FinMap nat_cmp (List Going)
  pub count : ℕ

abbrev pub texts_so_far_code : Coded TextsSoFar
texts_so_far_code =
    code_by (Texts × Option ℕ) (coded× texts_code (coded_option coded_ℕ)) (λ t. (t.texts, t.last))
    (λ p. record { texts = p.0; last = p.1 }) (λ _. refl)

abbrev pub ways_so_far_code : Coded WaysSoFar
ways_so_far_code =
    code_by (map.FinMap nat_cmp (List Going) × ℕ)
    (coded× (map.code coded_ℕ (coded_list going_code)) coded_ℕ) (λ t. (t.ways, t.count))
    (λ p. record { ways = p.0; count = p.1 }) (λ _. refl)

abbrev pub is_same_number : Option ℕ → ℕ → Bool
is_same_number None n = false
is_same_number (Some m) n = m == n

-- the text to which a line with this number is added
abbrev pub text_to_extend : TextsSoFar → ℕ → List ℕ
text_to_extend t number =
    if is_same_number t.last number then unwrap_or (map.get t.texts number) [] else []

unfoldable pub with_line : TextsSoFar → TextLine → TextsSoFar
with_line t line =
    record {
      texts = map.insert t.texts line.number (text_to_extend t line.number ++ line_text line);
      last = Some line.number;
    }

unfoldable pub with_way : WaysSoFar → ℕ → Going → WaysSoFar
with_way t place going =
    record {
      ways = map.insert t.ways place (unwrap_or (map.get t.ways place) [] ++ going ∷ []);
      count = t.count + 1;
    }

-- no number from this one on has a value
abbrev pub IsAbove : {X : Type 0} → ℕ → map.FinMap nat_cmp X → Type 0
IsAbove end m = (n : ℕ) → end ≤ n → map.get m n ≡ None

unfoldable pub mark_bit : ℕ → map.FinMap nat_cmp ℕ → ℕ → map.FinMap nat_cmp ℕ
mark_bit bit m place = map.insert m place (bit_or (unwrap_or (map.get m place) 0) (2 ^ bit))
