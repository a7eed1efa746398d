-- Looking for the class of a score.
use Rattle.std.proofs.Common.{◌≡◌, ℕ, ◌+◌, ◌-◌, ◌<◌, ◌≤◌, false, cond, leb, ltb, List, length, map}
use Rattle.std.proofs.Common.{drop, get_or, Some, sym, ap, subst, ◌∙◌, arith}
use Rattle.std.proofs.lemmas.Bool.{le-leb}
use Rattle.std.proofs.lemmas.Bool.Decides.{nat_tests}
use Rattle.std.proofs.lemmas.List.{at_drop_more, length-drop, length-map, get_or-map}
use Rattle.cave_data.specs.declared.span.NumberedSpan.{NumberedSpan}
use Rattle.cave_data.specs.CaveView.{ClassEntry, Rated, class_from}
use Rattle.cave_data.specs.Printing.{printed_text, printed_class}
use Rattle.cave_data.specs.Spans.{text_of_span, class_of_span}

followed : (n count rest : ℕ) → n < count → rest ≡ count - (n + 1) → ltb 0 rest ≡ ltb (n + 1) count
followed n count rest h e = grind (arith, nat_tests)

-- the row at a place is the class of the score, or those after it are searched
class_here : (rows : List ClassEntry) (n score : ℕ) (d : ClassEntry) → n < length rows
    → class_from (n + 1) score (drop n rows)
    ≡ cond (leb score (get_or rows n d).bound)
    (Some (record {
      row = n + 1;
      bound = (get_or rows n d).bound;
      text = (get_or rows n d).text;
      is_followed = ltb (n + 1) (length rows);
    }))
    (class_from (n + 1 + 1) score (drop (n + 1) rows))
class_here rows n score d h =
    let behind : length (drop (n + 1) rows) ≡ length rows - (n + 1) = length-drop (n + 1) rows in
    at_drop_more (λ (xs : List ClassEntry). class_from (n + 1) score xs) rows n d h
    ∙ ap (λ b. cond (leb score (get_or rows n d).bound)
    (Some (record {
      row = n + 1;
      bound = (get_or rows n d).bound;
      text = (get_or rows n d).text;
      is_followed = b;
    })) (class_from (n + 1 + 1) score (drop (n + 1) rows)))
    (followed n (length rows) _ h behind)

-- the classes of rows in a store, with their texts as they are printed
abbrev pub shown_in : List ℕ → List NumberedSpan → List ClassEntry
shown_in bytes rows = map printed_class (map (class_of_span bytes) rows)

abbrev rated_row : List ℕ → NumberedSpan → ℕ → ℕ → Rated
rated_row bytes row n count =
    record {
      row = n + 1;
      bound = row.number;
      text = printed_text (text_of_span bytes row.span);
      is_followed = ltb (n + 1) count;
    }

class_row : (bytes : List ℕ) (rows : List NumberedSpan) (n score : ℕ) (d : NumberedSpan)
    → n < length rows
    → class_from (n + 1) score (drop n (shown_in bytes rows))
    ≡ cond (leb score (get_or rows n d).number)
    (Some (rated_row bytes (get_or rows n d) n (length rows)))
    (class_from (n + 1 + 1) score (drop (n + 1) (shown_in bytes rows)))
class_row bytes rows n score d h =
    let e : ClassEntry = printed_class (class_of_span bytes d) in
    let long : length (shown_in bytes rows) ≡ length rows =
    length-map (map (class_of_span bytes) rows) printed_class
    ∙ length-map rows (class_of_span bytes) in
    let short : length (map (class_of_span bytes) rows) ≡ length rows =
    length-map rows (class_of_span bytes) in
    let within : n < length (map (class_of_span bytes) rows) = omega arith in
    let within_shown : n < length (shown_in bytes rows) = omega arith in
    let at : get_or (shown_in bytes rows) n e
    ≡ printed_class (class_of_span bytes (get_or rows n d)) =
    get_or-map printed_class (map (class_of_span bytes) rows) n (class_of_span bytes d) e within
    ∙ ap printed_class (get_or-map (class_of_span bytes) rows n d (class_of_span bytes d) h) in
    class_here (shown_in bytes rows) n score e within_shown
    ∙ ap (λ (c : ClassEntry). cond (leb score c.bound)
    (Some (record {
      row = n + 1;
      bound = c.bound;
      text = c.text;
      is_followed = ltb (n + 1) (length (shown_in bytes rows));
    }))
    (class_from (n + 1 + 1) score (drop (n + 1) (shown_in bytes rows)))) at
    ∙ ap (λ k. cond (leb score (get_or rows n d).number)
    (Some (rated_row bytes (get_or rows n d) n k))
    (class_from (n + 1 + 1) score (drop (n + 1) (shown_in bytes rows)))) long

-- if the bound of a row is not below the score, its class is that of the score
pub class_found : (bytes text : List ℕ) (items rows : List NumberedSpan) (n score count : ℕ)
    (d : NumberedSpan) → items ≡ rows → n < length items → score ≤ (get_or items n d).number
    → text ≡ printed_text (text_of_span bytes (get_or items n d).span) → count ≡ length items
    → Some (record {
      row = n + 1;
      bound = (get_or items n d).number;
      text = text;
      is_followed = ltb (n + 1) count;
    }) ≡ class_from (n + 1) score (drop n (shown_in bytes rows))
class_found bytes text items rows n score count d is h low shows counts =
    ap (λ (t : List ℕ).
    Some (record {
      row = n + 1;
      bound = (get_or items n d).number;
      text = t;
      is_followed = ltb (n + 1) count;
    })) shows
    ∙ ap (λ k. Some (rated_row bytes (get_or items n d) n k)) counts
    ∙ sym (class_row bytes items n score d h
    ∙ ap (λ b. cond b (Some (rated_row bytes (get_or items n d) n (length items)))
    (class_from (n + 1 + 1) score (drop (n + 1) (shown_in bytes items))))
    (le-leb score (get_or items n d).number low))
    ∙ ap (λ (xs : List NumberedSpan). class_from (n + 1) score (drop n (shown_in bytes xs))) is

-- a row whose bound is below the score is passed
pub class_passed : (bytes : List ℕ) (items rows : List NumberedSpan) (n score : ℕ)
    (d : NumberedSpan) → items ≡ rows → n < length items → (get_or items n d).number < score
    → class_from (n + 1 + 1) score (drop (n + 1) (shown_in bytes rows))
    ≡ class_from (n + 1) score (drop n (shown_in bytes rows))
class_passed bytes items rows n score d is h high =
    let no : leb score (get_or items n d).number ≡ false = grind (arith, nat_tests) in
    let here : class_from (n + 1) score (drop n (shown_in bytes items))
    ≡ class_from (n + 1 + 1) score (drop (n + 1) (shown_in bytes items)) =
    class_row bytes items n score d h
    ∙ ap (λ b. cond b (Some (rated_row bytes (get_or items n d) n (length items)))
    (class_from (n + 1 + 1) score (drop (n + 1) (shown_in bytes items)))) no in
    subst (λ (xs : List NumberedSpan).
    class_from (n + 1 + 1) score (drop (n + 1) (shown_in bytes xs))
    ≡ class_from (n + 1) score (drop n (shown_in bytes xs))) is (sym here)
