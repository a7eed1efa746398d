-- A line changes the tables of the lines before it to those of the lines up to it, or is at fault.
use Rattle.std.proofs.Common.{◌≡◌, ℕ, Bool, true, false, cond, List, [], ◌∷◌, ◌++◌, fold, Option}
use Rattle.std.proofs.Common.{Some, None, option_to_list, is_some, unwrap_or, Result, Ok, Err, refl}
use Rattle.std.proofs.Common.{sym, ap, ◌∙◌}
use Rattle.std.specs.Option.{option_or}
use Rattle.std.specs.Result.{result_ok, result_err}
use Rattle.std.proofs.lemmas.List.{append_assoc, append-nil}
use Rattle.std.proofs.lemmas.List.Sums.{fold_push}
use Rattle.data_rows.specs.declared.error.Cause.{Cause}
use Rattle.data_rows.specs.declared.error.Cause.TheVariants.{BadSection}
use Rattle.data_rows.specs.declared.error.Section.{Section}
use Rattle.data_rows.specs.declared.position.Position.{Position}
use Rattle.data_rows.specs.declared.position.Position.TheVariants.{Outside, Inside, After}
use Rattle.cave_data.specs.declared.reader.Tables.{Tables}
use Rattle.cave_data.specs.declared.reader.DatabaseReader.{DatabaseReader}
use Rattle.base_lines.specs.Bytes.{is_all_blank}
use Rattle.data_rows.specs.Rows.{◌>>=◌, Entry, entry_in}
use Rattle.data_rows.specs.Grammar.{position_after_heading, closes, position_after_row}
use Rattle.data_rows.specs.Grammar.{position_after_line, position_after, entry_here, entry_at}
use Rattle.data_rows.specs.Grammar.{entries_from, entries}
use Rattle.cave_data.specs.Steps.{shape_here, shape_cause, limit_cause, first_limit, line_cause}
use Rattle.cave_data.specs.Steps.{with_entry, no_tables, tables_of, unless_cause, admit, row_step}
use Rattle.cave_data.specs.Steps.{into_position, advance_in, advance}
use Rattle.cave_data.proofs.PartLemmas.{limit_after}

-- the reader after rows
abbrev reader_at : Position → List Entry → DatabaseReader
reader_at position rows = record { position = position; tables = tables_of rows }

abbrev moved : Position → Tables → Result DatabaseReader Cause
moved position t = Ok (record { position = position; tables = t })

no_more : (rows : List Entry) → tables_of rows ≡ tables_of (rows ++ [])
no_more rows = ap tables_of (sym (append-nil rows))

admitted : (position : Position) (rows : List Entry) (e : Entry)
    → (admit (tables_of rows) e >>= moved position)
    ≡ unless_cause (limit_cause rows e) (reader_at position (rows ++ e ∷ []))
admitted position rows e =
    ap (λ c. unless_cause c (with_entry (tables_of rows) e) >>= moved position) (limit_after rows e)
    ∙ at (limit_cause rows e)
    ∙ ap (λ t. unless_cause (limit_cause rows e)
    (let r : DatabaseReader = record { position = position; tables = t } in r))
    (sym (fold_push with_entry no_tables rows e)) where
      at : (c : Option Cause)
          → (unless_cause c (with_entry (tables_of rows) e) >>= moved position)
          ≡ unless_cause {X = DatabaseReader} c
          (record { position = position; tables = with_entry (tables_of rows) e })
      at None = refl
      at (Some cause) = refl

row_here : (s : Section) (rows : List Entry) (read : Result Entry Cause)
    → ((read >>= λ e. admit (tables_of rows) e) >>= moved (Inside s))
    ≡ unless_cause
    (option_or (result_err read) (first_limit rows (option_to_list (result_ok read))))
    (reader_at (Inside s) (rows ++ option_to_list (result_ok read)))
row_here s rows (Ok e) = admitted (Inside s) rows e
row_here s rows (Err cause) = refl

here : (position : Position) (rows : List Entry) (line : List ℕ)
    → advance_in (reader_at position rows) position line
    ≡ unless_cause
    (option_or (shape_here position line) (first_limit rows (entry_here position line)))
    (reader_at (position_after_row position line) (rows ++ entry_here position line))
unfolding row_step
here Outside rows line = at (position_after_heading line) where
  at : (o : Option Position)
      → into_position (reader_at Outside rows) o
      ≡ unless_cause (option_or (cond (is_some o) None (Some BadSection)) None)
      (reader_at (unwrap_or o Outside) (rows ++ []))
  at None = refl
  at (Some position) = ap (moved position) (no_more rows)
here (Inside s) rows line = at (closes line) where
  at : (b : Bool)
      → cond b (Ok (reader_at Outside rows))
      ((entry_in s line >>= λ e. admit (tables_of rows) e) >>= moved (Inside s))
      ≡ unless_cause
      (option_or (cond b None (result_err (entry_in s line)))
      (first_limit rows (cond b [] (option_to_list (result_ok (entry_in s line))))))
      (reader_at (cond b Outside (Inside s))
      (rows ++ cond b [] (option_to_list (result_ok (entry_in s line)))))
  at true = ap (moved Outside) (no_more rows)
  at false = row_here s rows (entry_in s line)
here After rows line = ap (moved After) (no_more rows)

at_line : (position : Position) (rows : List Entry) (line : List ℕ)
    → advance (reader_at position rows) line
    ≡ unless_cause
    (option_or (shape_cause position line) (first_limit rows (entry_at position line)))
    (reader_at (position_after_line position line) (rows ++ entry_at position line))
unfolding advance shape_cause entry_at position_after_line
at_line position rows line = at (is_all_blank line) where
  at : (b : Bool)
      → cond b (Ok (reader_at position rows)) (advance_in (reader_at position rows) position line)
      ≡ unless_cause
      (option_or (cond b None (shape_here position line))
      (first_limit rows (cond b [] (entry_here position line))))
      (reader_at (cond b position (position_after_row position line))
      (rows ++ cond b [] (entry_here position line)))
  at true = ap (moved position) (no_more rows)
  at false = here position rows line

pub entries-append : (position : Position) (before lines : List (List ℕ))
    → entries_from position (before ++ lines) ≡ entries_from position before
    ++ entries_from (fold position_after_line position before) lines
entries-append position [] lines = refl
entries-append position (line ∷ before) lines =
    ap (λ es. entry_at position line ++ es)
    (entries-append (position_after_line position line) before lines)
    ∙ sym (append_assoc (entry_at position line)
    (entries_from (position_after_line position line) before)
    (entries_from (fold position_after_line (position_after_line position line) before) lines))

pub entries_push : (before : List (List ℕ)) (line : List ℕ)
    → entries (before ++ line ∷ []) ≡ entries before ++ entry_at (position_after before) line
entries_push before line = entries-append Outside before (line ∷ [])
    ∙ ap (λ es. entries before ++ es) (append-nil (entry_at (position_after before) line))

-- the reader after lines
abbrev pub reader_after : List (List ℕ) → DatabaseReader
reader_after before = reader_at (position_after before) (entries before)

pub advance-reader_after : (before : List (List ℕ)) (line : List ℕ)
    → advance (reader_after before) line
    ≡ unless_cause (line_cause before line) (reader_after (before ++ line ∷ []))
unfolding line_cause
advance-reader_after before line =
    at_line (position_after before) (entries before) line
    ∙ ap (λ r.
    unless_cause
    (option_or (shape_cause (position_after before) line)
    (first_limit (entries before) (entry_at (position_after before) line))) r)
    (ap (λ position. reader_at position (entries before ++ entry_at (position_after before) line))
    (sym (fold_push position_after_line Outside before line))
    ∙ ap (λ es. reader_at (position_after (before ++ line ∷ [])) es)
    (sym (entries_push before line)))
