-- What a table of texts holds is the last run of each number.
use Rattle.std.proofs.Common.{◌≡◌, ◌⊎◌, inl, inr, ℕ, true, false, cond, eqb, List, [], ◌∷◌, ◌++◌}
use Rattle.std.proofs.Common.{reverse, fold, Option, Some, None, option_map, unwrap_or, refl, sym}
use Rattle.std.proofs.Common.{ap, ◌∙◌}
use Rattle.std.specs.List.{flat_map}
use Rattle.std.specs.Ordering.{nat_cmp, eq_by_cmp}
use Rattle.std.specs.Cmp.{nat_cmp_total}
use Rattle.std.specs.FinMap as map
use Rattle.std.proofs.lemmas.Bool.{cases_eq, eq-eqb, ne_eqb}
use Rattle.std.proofs.lemmas.List.{append-nil}
use Rattle.std.proofs.lemmas.Grind.{flat_map-append}
use Rattle.data_rows.specs.Rows.{TextLine}
use Rattle.cave_data.specs.Printing.{printed_text}
use Rattle.cave_data.specs.Texts.{line_text, nonempty, same_run, first_lines_of, run_text}
use Rattle.cave_data.specs.Texts.{text_of_number}
use Rattle.cave_data.specs.Tables.{TextsSoFar, with_line, text_to_extend, is_same_number}
use Rattle.cave_data.specs.Steps.{no_texts}
use Rattle.cave_data.proofs.FoldLemmas.{fold_back, fold-reversed, reverse-cons}
use Rattle.cave_data.proofs.SlotChanges.{same_key, other_key}

abbrev last_number : List TextLine → Option ℕ
last_number [] = None
last_number (line ∷ lines) = Some line.number

-- the table of lines that are given from the last to the first
record TextsAre (lines : List TextLine) (t : TextsSoFar) : Type 0 where
  last : t.last ≡ last_number lines
  texts : (n : ℕ) → map.get t.texts n ≡ option_map run_text (nonempty (first_lines_of n lines))

run_text-cons : (line : TextLine) (run : List TextLine)
    → run_text (line ∷ run) ≡ run_text run ++ line_text line
run_text-cons line run =
    ap (flat_map line_text) (reverse-cons line run)
    ∙ flat_map-append line_text (reverse run) (line ∷ [])
    ∙ ap (λ (t : List ℕ). run_text run ++ t) (append-nil (line_text line))

started_is : (lines : List TextLine) (t : TextsSoFar) (n : ℕ) → TextsAre lines t
    → text_to_extend t n ≡ run_text (same_run n lines)
started_is [] t n are =
    ap (λ last. cond (is_same_number last n) (unwrap_or (map.get t.texts n) []) []) are.last
started_is (line ∷ lines) t n are =
    ap (λ last. cond (is_same_number last n) (unwrap_or (map.get t.texts n) []) []) are.last
    ∙ ap (λ o. cond (eqb line.number n) (unwrap_or o []) []) (are.texts n)
    ∙ elim (eqb line.number n) as
    (λ b. cond b
    (unwrap_or
    (option_map run_text (nonempty (cond b (line ∷ same_run n lines) (first_lines_of n lines))))
    []) [] ≡ run_text (cond b (line ∷ same_run n lines) [])) [ true ↦ refl | false ↦ refl ]

line_more : (lines : List TextLine) (line : TextLine) (t : TextsSoFar) → TextsAre lines t
    → TextsAre (line ∷ lines) (with_line t line)
unfolding with_line
line_more lines line t are = record {
  last = refl;
  texts = λ n. map.get-insert nat_cmp_total t.texts line.number
      (text_to_extend t line.number ++ line_text line) n ∙ at n (cases_eq n line.number);
} where
  same : (n : ℕ) → n ≡ line.number
      → Some (text_to_extend t line.number ++ line_text line)
      ≡ option_map run_text (nonempty (line ∷ same_run n lines))
  same n e = ap (λ m. Some (text_to_extend t m ++ line_text line)) (sym e)
      ∙ ap (λ (text : List ℕ). Some (text ++ line_text line)) (started_is lines t n are)
      ∙ ap Some (sym (run_text-cons line (same_run n lines)))

  at : (n : ℕ) → (n ≡ line.number) ⊎ (n ≡ line.number → ⊥)
      → cond (eq_by_cmp nat_cmp n line.number)
      (Some (text_to_extend t line.number ++ line_text line)) (map.get t.texts n)
      ≡ option_map run_text
      (nonempty (cond (eqb line.number n) (line ∷ same_run n lines) (first_lines_of n lines)))
  at n (inl e) =
      ap (λ b. cond b (Some (text_to_extend t line.number ++ line_text line)) (map.get t.texts n))
      (same_key n line.number e) ∙ same n e
      ∙ ap (λ b.
      option_map run_text
      (nonempty (cond b (line ∷ same_run n lines) (first_lines_of n lines))))
      (sym (eq-eqb line.number n (sym e)))
  at n (inr ne) =
      ap (λ b. cond b (Some (text_to_extend t line.number ++ line_text line)) (map.get t.texts n))
      (other_key n line.number ne) ∙ are.texts n
      ∙ ap (λ b.
      option_map run_text
      (nonempty (cond b (line ∷ same_run n lines) (first_lines_of n lines))))
      (sym (ne_eqb line.number n (λ e. ne (sym e))))

texts_are : (lines : List TextLine) → TextsAre lines (fold_back with_line no_texts lines)
texts_are [] = record { last = refl; texts = λ n. map.get-empty nat_cmp n }
texts_are (line ∷ lines) =
    line_more lines line (fold_back with_line no_texts lines) (texts_are lines)

shown_twice : (o : Option (List TextLine))
    → option_map printed_text (option_map run_text o)
    ≡ option_map (λ run. printed_text (run_text run)) o
shown_twice None = refl
shown_twice (Some run) = refl

pub texts_after : (lines : List TextLine) (n : ℕ)
    → option_map printed_text (map.get (fold with_line no_texts lines).texts n)
    ≡ text_of_number n lines
unfolding text_of_number
texts_after lines n =
    ap (λ t. option_map printed_text (map.get t.texts n)) (fold-reversed with_line no_texts lines)
    ∙ ap (option_map printed_text) ((texts_are (reverse lines)).texts n)
    ∙ shown_twice (nonempty (first_lines_of n (reverse lines)))
