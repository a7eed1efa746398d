-- Texts by number in a store: how they change when a line is added.
use Rattle.std.proofs.Common.{◌≡◌, ◌⊎◌, inl, inr, ℕ, ◌≤◌, Bool, true, false, cond, List, [], ◌∷◌}
use Rattle.std.proofs.Common.{◌++◌, length, drop, Option, Some, None, IfSome, option_map, unwrap_or}
use Rattle.std.proofs.Common.{refl, sym, ap, subst, ◌∙◌, arith}
use Rattle.std.proofs.lemmas.Bool.{cases_eq}
use Rattle.std.proofs.lemmas.Bool.Decides.{nat_tests}
use Rattle.std.proofs.lemmas.List.{length-append, drop-append-le}
use Rattle.std.proofs.Math.Seq.{drop-length}
use Rattle.std.specs.FinMap as fin
use Rattle.cave_data.specs.declared.span.TextSpan.{TextSpan}
use Rattle.cave_data.specs.Slots.{slot, by_number, SameSlots, ChangesSlot}
use Rattle.cave_data.specs.Spans.{text_of_span, IsSpanWithin, IsLast, IsFrom, AreWithin, LastEnds}
use Rattle.cave_data.specs.Tables.{with_line, is_same_number}
use Rattle.cave_data.proofs.SlotLemmas.{get-by_number}
use Rattle.cave_data.proofs.SlotChanges.{by_number-put, by_number-shows}
use Rattle.cave_data.proofs.SpanLemmas.{text_of_span-append, text_of_span-from, within_more}

if_within_more : (old new : List ℕ) (o : Option TextSpan) → length old ≤ length new
    → IfSome o (IsSpanWithin old) → IfSome o (IsSpanWithin new)
if_within_more old new None grows h = tt
if_within_more old new (Some span) grows h = within_more old new span grows h

pub texts_within : (old new : List ℕ) (spans : List (Option TextSpan)) → length old ≤ length new
    → AreWithin old spans → AreWithin new spans
texts_within old new spans grows h n = if_within_more old new (slot spans n) grows (h n)

pub texts_same : (bytes : List ℕ) (old new : List (Option TextSpan)) → SameSlots old new
    → AreWithin bytes old → AreWithin bytes new
texts_same bytes old new same h n =
    subst (λ (o : Option TextSpan). IfSome o (IsSpanWithin bytes)) (sym (same n)) (h n)

pub texts_put : (bytes : List ℕ) (old new : List (Option TextSpan)) (number : ℕ) (span : TextSpan)
    → ChangesSlot old new number (Some span) → AreWithin bytes old → IsLast bytes span
    → AreWithin bytes new
texts_put bytes old new number span put h last n = at (cases_eq n number) where
  at : (n ≡ number) ⊎ (n ≡ number → ⊥) → IfSome (slot new n) (IsSpanWithin bytes)
  at (inl same) =
      let ends : IsSpanWithin bytes span = omega arith in
      subst (λ k. IfSome (slot new k) (IsSpanWithin bytes)) (sym same)
      (subst (λ (o : Option TextSpan). IfSome o (IsSpanWithin bytes)) (sym put.changed) ends)
  at (inr other) =
      subst (λ (o : Option TextSpan). IfSome o (IsSpanWithin bytes)) (sym (put.others n other))
      (h n)

pub last_put : (bytes : List ℕ) (old new : List (Option TextSpan)) (number : ℕ) (span : TextSpan)
    → ChangesSlot old new number (Some span) → IsLast bytes span → LastEnds bytes new (Some number)
last_put bytes old new number span put last =
    subst (λ (o : Option TextSpan). IfSome o (IsLast bytes)) (sym put.changed) last

-- the last text goes to the end
last_ends : (bytes : List ℕ) (spans : List (Option TextSpan)) (last : Option ℕ) (number : ℕ)
    → LastEnds bytes spans last → is_same_number last number ≡ true
    → IfSome (slot spans number) (IsLast bytes)
last_ends bytes spans None number h e = let no : ⊥ = cc in absurd no
last_ends bytes spans (Some m) number h e =
    let same : m ≡ number = grind (arith, nat_tests) in
    subst (λ n. IfSome (slot spans n) (IsLast bytes)) same h

-- a text that is continued is the one at the end of the store
record Starts (bytes : List ℕ) (start : ℕ) (text : List ℕ) : Type 0 where
  within : start ≤ length bytes
  shows : drop start bytes ≡ text

starts_at : (bytes : List ℕ) (b : Bool) (o : Option TextSpan) → (b ≡ true → IfSome o (IsLast bytes))
    → Starts bytes
    (cond b (unwrap_or (option_map (λ (s : TextSpan). s.start) o) (length bytes))
    (length bytes)) (cond b (unwrap_or (option_map (text_of_span bytes) o) []) [])
starts_at bytes false o h = record { within = omega arith; shows = drop-length bytes }
starts_at bytes true None h = record { within = omega arith; shows = drop-length bytes }
starts_at bytes true (Some span) h =
    let last : IsLast bytes span = h refl in
    let within : span.start ≤ length bytes = omega arith in
    record {
      within = within;
      shows = sym (text_of_span-from bytes span.start span within
          (record { start_is = refl; last = last }));
    }

kept : (bytes more : List ℕ) (o : Option TextSpan) → IfSome o (IsSpanWithin bytes)
    → option_map (text_of_span (bytes ++ more)) o ≡ option_map (text_of_span bytes) o
kept bytes more None h = refl
kept bytes more (Some span) h = ap Some (text_of_span-append bytes more span h)

-- a line is added once its bytes are, and the span of the text that it continues goes to the end
pub line_added : (bytes new line : List ℕ) (spans put : List (Option TextSpan)) (last : Option ℕ)
    (number start : ℕ) (span : TextSpan) → AreWithin bytes spans → LastEnds bytes spans last
    → start ≡ cond (is_same_number last number)
    (unwrap_or (option_map (λ (s : TextSpan). s.start) (slot spans number)) (length bytes))
    (length bytes)
    → new ≡ bytes ++ (line ++ 10 ∷ []) → IsFrom new start span
    → ChangesSlot spans put number (Some span)
    → record { texts = by_number (text_of_span new) put; last = Some number }
    ≡ with_line (record { texts = by_number (text_of_span bytes) spans; last = last })
    (record { number = number; text = line })
unfolding with_line
line_added bytes new line spans put last number start span within ends at is from change =
    let text : List ℕ = line ++ 10 ∷ [] in
    let starts =
    starts_at bytes (is_same_number last number) (slot spans number)
    (last_ends bytes spans last number ends) in
    let inside : start ≤ length bytes = subst (λ n. n ≤ length bytes) (sym at) starts.within in
    let before : drop start bytes
    ≡ cond (is_same_number last number)
    (unwrap_or (fin.get (by_number (text_of_span bytes) spans) number) []) [] =
    ap (λ n. drop n bytes) at ∙ starts.shows
    ∙ ap (λ (o : Option (List ℕ)). cond (is_same_number last number) (unwrap_or o []) [])
    (sym (get-by_number (text_of_span bytes) spans number)) in
    let inside_new : start ≤ length new = omega (arith, ap length is, length-append bytes text) in
    let whole : text_of_span new span ≡ drop start bytes ++ text =
    text_of_span-from new start span inside_new from ∙ ap (drop start) is
    ∙ drop-append-le start bytes text inside in
    let others : by_number (text_of_span new) spans ≡ by_number (text_of_span bytes) spans =
    by_number-shows (text_of_span new) (text_of_span bytes) spans
    (λ n. ap (λ (b : List ℕ). option_map (text_of_span b) (slot spans n)) is
    ∙ kept bytes text (slot spans n) (within n)) in
    ap (λ m. record { texts = m; last = Some number })
    (by_number-put (text_of_span new) spans put number span change
    ∙ ap (λ m. fin.insert m number (text_of_span new span)) others
    ∙ ap (fin.insert (by_number (text_of_span bytes) spans) number)
    (whole ∙ ap (λ (t : List ℕ). t ++ text) before))
