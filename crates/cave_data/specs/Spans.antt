-- Texts in a store of bytes, each known by its span.
use Rattle.std.specs.Prelude.{◌≡◌, ℕ, ◌+◌, ◌≤◌, IfSome, List, length, take, drop, Option}
use Rattle.cave_data.specs.declared.span.TextSpan.{TextSpan}
use Rattle.cave_data.specs.declared.span.NumberedSpan.{NumberedSpan}
use Rattle.data_rows.specs.Rows.{WordEntry}
use Rattle.cave_data.specs.CaveView.{ClassEntry}
use Rattle.cave_data.specs.Slots.{slot}

-- the text that a span refers to
abbrev pub text_of_span : List ℕ → TextSpan → List ℕ
text_of_span bytes span = take span.len (drop span.start bytes)

-- a span ends within the bytes
abbrev pub IsSpanWithin : List ℕ → TextSpan → Type 0
IsSpanWithin bytes span = span.start + span.len ≤ length bytes

-- a span ends where the bytes end
abbrev pub IsLast : List ℕ → TextSpan → Type 0
IsLast bytes span = span.start + span.len ≡ length bytes

-- a span goes from a place to the end of the bytes
pub record IsFrom (bytes : List ℕ) (start : ℕ) (span : TextSpan) : Type 0 where
  pub start_is : span.start ≡ start
  pub last : IsLast bytes span

-- each span in a table by number ends within the bytes
abbrev pub AreWithin : List ℕ → List (Option TextSpan) → Type 0
AreWithin bytes spans = (n : ℕ) → IfSome (slot spans n) (IsSpanWithin bytes)

-- the span of the last number ends where the bytes end
abbrev pub LastEnds : List ℕ → List (Option TextSpan) → Option ℕ → Type 0
LastEnds bytes spans last = IfSome last (λ n. IfSome (slot spans n) (IsLast bytes))

-- a span with a number ends within the bytes
abbrev pub RowWithin : List ℕ → NumberedSpan → Type 0
RowWithin bytes row = IsSpanWithin bytes row.span

-- a word and its number
abbrev pub word_of_span : List ℕ → NumberedSpan → WordEntry
word_of_span bytes row = record { number = row.number; word = text_of_span bytes row.span }

-- a class whose bound is the number
abbrev pub class_of_span : List ℕ → NumberedSpan → ClassEntry
class_of_span bytes row = record { bound = row.number; text = text_of_span bytes row.span }
