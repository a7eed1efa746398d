-- The place nearest to another at which a log has a text.
use Rattle.std.proofs.Common.{◌≡◌, ℕ, ◌+◌, ◌<◌, ◌≤◌, Bool, true, false, List, [], ◌∷◌, ◌++◌, length}
use Rattle.std.proofs.Common.{Option, None, Some, refl, sym, ap, subst, ◌∙◌, arith, inl, inr, zero}
use Rattle.std.proofs.Common.{suc, drop, append_assoc, append-nil}
use Rattle.std.specs.Prelude.{◌⊎◌, bytes_eq, if◌then◌else◌, nat_lt, slice_get}
use Rattle.std.proofs.lemmas.List.{drop_all, drop_more, length-append}
use Rattle.std.proofs.lemmas.Option.{slice_get-get_or, slice_get_within}
use Rattle.std.specs.Option.{option_map_or}
use Rattle.std.proofs.lemmas.Bool.Decides.{nat_tests}
use Rattle.std.proofs.lemmas.Slice.Eq.{bytes_eq-Decides}
use Rattle.base_lines.specs.Line.{is_line}
use Rattle.play_edits.specs.Laws.{IsWhere, NearestLinesAreNamed}
use Rattle.play_edits.specs.Refusal.{IsNearest, IsNearestAt, IsNowhere, distance, expected_by}
use Rattle.play_edits.specs.Refusal.{expected_line, found_with, nearer, nearest, nearest_from}
use Rattle.play_edits.specs.declared.refusal.ExpectedLine.TheVariants.{Impossible}

-- ---- a text is at a place of a log with one more line

abbrev IsAt : List (List ℕ) → List ℕ → ℕ → Type 0
IsAt log text at = slice_get log at ≡ Some text

before : (log : List (List ℕ)) (line text : List ℕ) (at : ℕ) → IsAt log text at
    → IsAt (log ++ line ∷ []) text at
before [] line text at is = cc
before (first ∷ log) line text zero is = is
before (first ∷ log) line text (suc at) is = before log line text at is

last : (log : List (List ℕ)) (line : List ℕ) → IsAt (log ++ line ∷ []) line (length log)
last [] line = refl
last (first ∷ log) line = last log line

split : (log : List (List ℕ)) (line text : List ℕ) (at : ℕ) → IsAt (log ++ line ∷ []) text at
    → IsAt log text at ⊎ ((at ≡ length log) × (line ≡ text))
split [] line text zero is = inr (refl, cc)
split [] line text (suc at) is = cc
split (first ∷ log) line text zero is = inl is
split (first ∷ log) line text (suc at) is = elim (split log line text at is) [
  | inl there ↦ inl there
  | inr (here, same) ↦ inr (ap suc here, same)
]

-- ---- one more line

module _ (place : ℕ) (text : List ℕ) (log : List (List ℕ)) where
  -- it reads otherwise
  another_text : (line : List ℕ) → (line ≡ text → ⊥) → (found : Option ℕ)
      → IsNearest place text log found → IsNearest place text (log ++ line ∷ []) found
  another_text line other None none = λ at is. elim (split log line text at is) [
    | inl there ↦ none at there
    | inr (here, same) ↦ other same
  ]
  another_text line other (Some found) is = record {
    there = before log line text found is.there;
    closest = λ at at_is. elim (split log line text at at_is) [
      | inl there ↦ is.closest at there
      | inr (here, same) ↦ absurd (other same)
    ];
    first = λ at at_is. elim (split log line text at at_is) [
      | inl there ↦ is.first at there
      | inr (here, same) ↦ absurd (other same)
    ];
  }

  -- no place before had the text
  only_line : IsNowhere text log → IsNearestAt place text (log ++ text ∷ []) (length log)
  only_line none = record {
    there = last log text;
    closest = λ at is. elim (split log text text at is) [
      | inl there ↦ absurd (none at there)
      | inr (here, same) ↦ let e = here in omega arith
    ];
    first = λ at is below. elim (split log text text at is) [
      | inl there ↦ absurd (none at there)
      | inr (here, same) ↦ let e = here in absurd (omega arith)
    ];
  }

  -- it is nearer than the place that was found
  nearer_line : (found : ℕ) → IsNearestAt place text log found
      → distance (length log) place < distance found place
      → IsNearestAt place text (log ++ text ∷ []) (length log)
  nearer_line found is closer = record {
    there = last log text;
    closest = λ at at_is. elim (split log text text at at_is) [
      | inl there ↦ let far = is.closest at there in omega (arith, far, closer)
      | inr (here, same) ↦ let e = here in omega arith
    ];
    first = λ at at_is below. elim (split log text text at at_is) [
      | inl there ↦ let far = is.closest at there in omega (arith, far, closer)
      | inr (here, same) ↦ let e = here in absurd (omega arith)
    ];
  }

  -- it isn't
  farther_line : (found : ℕ) → IsNearestAt place text log found
      → distance found place ≤ distance (length log) place
      → IsNearestAt place text (log ++ text ∷ []) found
  farther_line found is far = record {
    there = before log text text found is.there;
    closest = λ at at_is. elim (split log text text at at_is) [
      | inl there ↦ is.closest at there
      | inr (here, same) ↦ subst (λ n. distance found place ≤ distance n place) (sym here) far
    ];
    first = λ at at_is below. elim (split log text text at at_is) [
      | inl there ↦ is.first at there below
      | inr (here, same) ↦
          let within = slice_get_within log found text is.there in
          let e = here in absurd (omega arith)
    ];
  }

  this_line : (found : Option ℕ) → IsNearest place text log found
      → IsNearest place text (log ++ text ∷ []) (nearer place found (length log))
  this_line None none = only_line none
  this_line (Some found) is =
      by_test (nat_lt (distance (length log) place) (distance found place)) refl
    where
      by_test : (closer : Bool)
          → nat_lt (distance (length log) place) (distance found place) ≡ closer
          → IsNearest place text (log ++ text ∷ [])
          (if closer then Some (length log) else Some found)
      by_test true test = nearer_line found is (grind (arith, nat_tests, test))
      by_test false test = farther_line found is (grind (arith, nat_tests, test))

  pub one_more_line : (line : List ℕ) (found : Option ℕ) → IsNearest place text log found
      → IsNearest place text (log ++ line ∷ []) (found_with place text found (length log) line)
  one_more_line line found is = by_test (bytes_eq line text) refl
    where
      by_test : (same : Bool) → bytes_eq line text ≡ same
          → IsNearest place text (log ++ line ∷ [])
          (if same then nearer place found (length log) else found)
      by_test true test =
          let reads : line ≡ text = (bytes_eq-Decides line text).0 test in
          subst (λ l. IsNearest place text (log ++ l ∷ []) (nearer place found (length log)))
          (sym reads) (this_line found is)
      by_test false test =
          another_text line (λ reads.
          let both : true ≡ false = sym ((bytes_eq-Decides line text).1 reads) ∙ test in cc) found
          is

-- ---- line by line

module _ (place : ℕ) (text : List ℕ) (log : List (List ℕ)) (at : ℕ) where
  -- the line at a place, and those after it
  pub nearest-more : (found : Option ℕ) → at < length log
      → nearest_from place text at found (drop at log)
      ≡ nearest_from place text (at + 1)
      (option_map_or (found_with place text found at) (slice_get log at) found) (drop (at + 1) log)
  nearest-more found inside =
      ap (λ some. nearest_from place text at found some) (drop_more log at [] inside)
      ∙ ap (λ line. nearest_from place text (at + 1)
      (option_map_or (found_with place text found at) line found) (drop (at + 1) log))
      (sym (slice_get-get_or log at [] inside))

  pub nearest-end : (found : Option ℕ) → length log ≤ at
      → nearest_from place text at found (drop at log) ≡ found
  nearest-end found past =
      ap (λ some. nearest_from place text at found some) (drop_all at log past)

-- ---- the whole log

nearest_after : (place : ℕ) (text : List ℕ) (log lines : List (List ℕ)) (at : ℕ)
    (found : Option ℕ) → at ≡ length log → IsNearest place text log found
    → IsNearest place text (log ++ lines) (nearest_from place text at found lines)
nearest_after place text log [] at found counted is =
    subst (λ l. IsNearest place text l found) (sym (append-nil log)) is
nearest_after place text log (line ∷ lines) at found counted is =
    let more : at + 1 ≡ length (log ++ line ∷ []) =
    ap (λ n. n + 1) counted ∙ sym (length-append log (line ∷ [])) in
    subst (λ l. IsNearest place text l (nearest_from place text at found (line ∷ lines)))
    (append_assoc log (line ∷ []) lines)
    (nearest_after place text (log ++ line ∷ []) lines (at + 1)
    (found_with place text found at line) more
    (subst (λ n. IsNearest place text (log ++ line ∷ []) (found_with place text found n line))
    (sym counted) (one_more_line place text log line found is)))

pub the_nearest : (place : ℕ) (text : List ℕ) (log : List (List ℕ))
    → IsNearest place text log (nearest place text log)
the_nearest place text log = nearest_after place text [] log 0 None refl (λ at is. cc)

pub nearest_lines_are_named : NearestLinesAreNamed
unfolding expected_line
nearest_lines_are_named guard log = by_line (is_line guard.text) refl
  where
    by_place : (found : Option ℕ) → IsNearest guard.place guard.text log found
        → IsWhere guard log (expected_by guard.text found)
    by_place None none = (refl, none)
    by_place (Some at) is = (refl, is)

    by_line : (good : Bool) → is_line guard.text ≡ good
        → IsWhere guard log (if good then expected_by guard.text
        (nearest guard.place guard.text log) else Impossible)
    by_line false is = is
    by_line true is =
        by_place (nearest guard.place guard.text log)
        (the_nearest guard.place guard.text log)
