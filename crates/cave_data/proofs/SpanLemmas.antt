-- Texts in a store that grows.
use Rattle.std.proofs.Common.{◌≡◌, ℕ, ◌≤◌, List, [], ◌∷◌, ◌++◌, length, take, drop, map, refl, ap}
use Rattle.std.proofs.Common.{subst, ◌∙◌, arith}
use Rattle.std.specs.List.{All}
use Rattle.std.proofs.lemmas.List.{length-append, length-drop, take-append-le, drop-append-le}
use Rattle.std.proofs.lemmas.List.{map-append}
use Rattle.std.proofs.lemmas.List.Elements.{All-tail, All-weaker, All-push}
use Rattle.std.proofs.Math.Seq.{take-length, drop-append_seam}
use Rattle.data_rows.specs.Rows.{WordEntry}
use Rattle.cave_data.specs.CaveView.{ClassEntry}
use Rattle.cave_data.specs.declared.span.TextSpan.{TextSpan}
use Rattle.cave_data.specs.declared.span.NumberedSpan.{NumberedSpan}
use Rattle.cave_data.specs.Spans.{text_of_span, IsSpanWithin, IsLast, IsFrom, RowWithin}
use Rattle.cave_data.specs.Spans.{word_of_span, class_of_span}

-- more bytes at the end leave a text as it was
pub text_of_span-append : (bytes more : List ℕ) (span : TextSpan) → IsSpanWithin bytes span
    → text_of_span (bytes ++ more) span ≡ text_of_span bytes span
text_of_span-append bytes more span h =
    let start : span.start ≤ length bytes = omega arith in
    let len : span.len ≤ length (drop span.start bytes) =
    omega (arith, length-drop span.start bytes) in
    ap (take span.len) (drop-append-le span.start bytes more start)
    ∙ take-append-le span.len (drop span.start bytes) more len

-- a text that goes to the end
pub text_of_span-from : (bytes : List ℕ) (start : ℕ) (span : TextSpan) → start ≤ length bytes
    → IsFrom bytes start span → text_of_span bytes span ≡ drop start bytes
text_of_span-from bytes start span h from =
    let first = from.start_is in
    let last = from.last in
    let len : span.len ≡ length (drop start bytes) = omega (arith, length-drop start bytes) in
    ap (λ s. take span.len (drop s bytes)) first ∙ ap (λ n. take n (drop start bytes)) len
    ∙ take-length (drop start bytes)

-- bytes that are added as a text of their own
pub text_of_span-new : (bytes more : List ℕ) (span : TextSpan)
    → IsFrom (bytes ++ more) (length bytes) span
    → text_of_span (bytes ++ more) span ≡ more
text_of_span-new bytes more span from =
    let h : length bytes ≤ length (bytes ++ more) = omega (arith, length-append bytes more) in
    text_of_span-from (bytes ++ more) (length bytes) span h from ∙ drop-append_seam bytes more

pub within_more : (old new : List ℕ) (span : TextSpan) → length old ≤ length new
    → IsSpanWithin old span
    → IsSpanWithin new span
within_more old new span grows h = omega arith

-- Rows of spans.

pub rows_within : (old new : List ℕ) (rows : List NumberedSpan) → length old ≤ length new
    → All (RowWithin old) rows → All (RowWithin new) rows
rows_within old new rows grows h =
    All-weaker (RowWithin old) (RowWithin new) (λ row. within_more old new row.span grows) rows h

pub rows_pushed : (old new : List ℕ) (rows : List NumberedSpan) (row : NumberedSpan)
    → length old ≤ length new → All (RowWithin old) rows → IsLast new row.span
    → All (RowWithin new) (rows ++ row ∷ [])
rows_pushed old new rows row grows h last =
    All-push (RowWithin new) rows row (rows_within old new rows grows h) (omega arith)

words_kept : (bytes more : List ℕ) (rows : List NumberedSpan) → All (RowWithin bytes) rows
    → map (word_of_span (bytes ++ more)) rows ≡ map (word_of_span bytes) rows
words_kept bytes more [] h = refl
words_kept bytes more (row ∷ rows) h =
    let here : text_of_span (bytes ++ more) row.span ≡ text_of_span bytes row.span =
    text_of_span-append bytes more row.span (h 0 row (omega arith)) in
    let later : map (word_of_span (bytes ++ more)) rows ≡ map (word_of_span bytes) rows =
    words_kept bytes more rows (All-tail (RowWithin bytes) row rows h) in
    ap (λ (t : List ℕ). record { number = row.number; word = t }
    ∷ map (word_of_span (bytes ++ more)) rows) here
    ∙ ap (λ (ws : List WordEntry). word_of_span bytes row ∷ ws) later

-- a word is added once its bytes and its row are
pub word_added : (bytes word new : List ℕ) (rows : List NumberedSpan) (number : ℕ) (span : TextSpan)
    → All (RowWithin bytes) rows → new ≡ bytes ++ word → IsFrom new (length bytes) span
    → map (word_of_span new) (rows ++ record { number = number; span = span } ∷ [])
    ≡ map (word_of_span bytes) rows ++ record { number = number; word = word } ∷ []
word_added bytes word new rows number span h is from =
    let from_there : IsFrom (bytes ++ word) (length bytes) span =
    subst (λ (b : List ℕ). IsFrom b (length bytes) span) is from in
    ap (λ (b : List ℕ). map (word_of_span b) (rows ++ record { number = number; span = span } ∷ []))
    is
    ∙ map-append (word_of_span (bytes ++ word)) rows (record { number = number; span = span } ∷ [])
    ∙ ap (λ (ws : List WordEntry). ws
    ++ record { number = number; word = text_of_span (bytes ++ word) span } ∷ [])
    (words_kept bytes word rows h)
    ∙ ap (λ (t : List ℕ). map (word_of_span bytes) rows ++ record { number = number; word = t }
    ∷ []) (text_of_span-new bytes word span from_there)

classes_kept : (bytes more : List ℕ) (rows : List NumberedSpan) → All (RowWithin bytes) rows
    → map (class_of_span (bytes ++ more)) rows ≡ map (class_of_span bytes) rows
classes_kept bytes more [] h = refl
classes_kept bytes more (row ∷ rows) h =
    let here : text_of_span (bytes ++ more) row.span ≡ text_of_span bytes row.span =
    text_of_span-append bytes more row.span (h 0 row (omega arith)) in
    let later : map (class_of_span (bytes ++ more)) rows ≡ map (class_of_span bytes) rows =
    classes_kept bytes more rows (All-tail (RowWithin bytes) row rows h) in
    ap (λ (t : List ℕ). record { bound = row.number; text = t }
    ∷ map (class_of_span (bytes ++ more)) rows) here
    ∙ ap (λ (cs : List ClassEntry). class_of_span bytes row ∷ cs) later

-- a class is added once its bytes and its row are
pub class_added : (bytes text new : List ℕ) (rows : List NumberedSpan) (bound : ℕ) (span : TextSpan)
    → All (RowWithin bytes) rows → new ≡ bytes ++ text → IsFrom new (length bytes) span
    → map (class_of_span new) (rows ++ record { number = bound; span = span } ∷ [])
    ≡ map (class_of_span bytes) rows ++ record { bound = bound; text = text } ∷ []
class_added bytes text new rows bound span h is from =
    let from_there : IsFrom (bytes ++ text) (length bytes) span =
    subst (λ (b : List ℕ). IsFrom b (length bytes) span) is from in
    ap (λ (b : List ℕ). map (class_of_span b)
    (rows ++ record { number = bound; span = span } ∷ [])) is
    ∙ map-append (class_of_span (bytes ++ text)) rows (record { number = bound; span = span } ∷ [])
    ∙ ap (λ (cs : List ClassEntry). cs
    ++ record { bound = bound; text = text_of_span (bytes ++ text) span } ∷ [])
    (classes_kept bytes text rows h)
    ∙ ap (λ (t : List ℕ). map (class_of_span bytes) rows ++ record { bound = bound; text = t } ∷ [])
    (text_of_span-new bytes text span from_there)
