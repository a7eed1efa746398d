-- Lines have rows, or bindings, exactly if no line has a cause.
use Rattle.std.proofs.Common.{◌≡◌, ℕ, Bool, true, false, cond, List, [], ◌∷◌, ◌++◌, Option}
use Rattle.std.proofs.Common.{Some, None, is_some, option_map, Result, Ok, suc, length}
use Rattle.std.proofs.Common.{Err, IsTrue, refl, sym, ap, subst, ◌∙◌}
use Rattle.std.specs.Option.{option_or}
use Rattle.std.specs.Result.{result_err}
use Rattle.std.proofs.lemmas.List.{append_assoc}
use Rattle.std.proofs.lemmas.List.Sums.{fold_push}
use Rattle.data_rows.specs.declared.error.Cause.{Cause}
use Rattle.data_rows.specs.declared.error.Cause.TheVariants.{BadSection, NoEnd}
use Rattle.data_rows.specs.declared.error.CaveError.{CaveError}
use Rattle.data_rows.specs.declared.error.Section.{Section}
use Rattle.data_rows.specs.declared.number.Number.TheVariants.{Natural, Negative}
use Rattle.data_rows.specs.declared.position.Position.{Position}
use Rattle.data_rows.specs.declared.position.Position.TheVariants.{Outside, Inside, After}
use Rattle.base_lines.specs.Bytes.{is_all_blank}
use Rattle.data_rows.specs.Rows.{Entry, entry_in}
use Rattle.data_rows.specs.Grammar.{position_after_heading, closes, position_after_line}
use Rattle.data_rows.specs.Grammar.{position_after, entry_at, entries_from, entries}
use Rattle.data_rows.specs.RowGrammar.{IsRow}
use Rattle.data_rows.specs.DatabaseGrammar.{section_number, IsLineOfNumber, HasRows, blank_line}
use Rattle.data_rows.specs.DatabaseGrammar.{section_opens, row_line, section_ends, database_ends}
use Rattle.data_rows.proofs.LineLemmas.{nonblank_line, closes-minus_one, closes-natural}
use Rattle.data_rows.proofs.LineLemmas.{minus_one-closes, heading-section, heading-end, Opens}
use Rattle.data_rows.proofs.LineLemmas.{opens-heading, begins-row}
use Rattle.data_rows.proofs.RowLemmas.{entry-read, read-entry}
use Rattle.cave_data.specs.Steps.{shape_here, shape_cause, first_limit, line_cause}
use Rattle.cave_data.specs.Steps.{fault_after, is_after, site_of_fault, first_fault}
use Rattle.cave_data.specs.Database.{AreValidTogether}
use Rattle.cave_data.proofs.StepLemmas.{entries_push}
use Rattle.cave_data.proofs.RightLemmas.{neither, some_less, first_fine}

-- ---- what a line does

-- At this position a line has no cause, leads to that one, and is these rows.
pub record Does (position : Position) (line : List ℕ) (next : Position) (es : List Entry)
    : Type 0 where
  pub shape : shape_cause position line ≡ None
  pub leads : position_after_line position line ≡ next
  pub adds : entry_at position line ≡ es

blank_does : (position : Position) (line : List ℕ) → IsTrue (is_all_blank line)
    → Does position line position []
unfolding shape_cause position_after_line entry_at
blank_does position line blank = record {
  shape = rw blank refl;
  leads = rw blank refl;
  adds = rw blank refl;
}

opening_does : (s : Section) (line : List ℕ) → IsLineOfNumber (Natural (section_number s)) line
    → Does Outside line (Inside s) []
unfolding shape_cause position_after_line entry_at
opening_does s line is =
    let some = nonblank_line (Natural (section_number s)) line is in
    let opens = heading-section s line is in
    record {
      shape = rw (some, opens) refl;
      leads = rw (some, opens) refl;
      adds = rw some refl;
    }

end_does : (line : List ℕ) → IsLineOfNumber (Natural 0) line → Does Outside line After []
unfolding shape_cause position_after_line entry_at
end_does line is =
    let some = nonblank_line (Natural 0) line is in
    let ends = heading-end line is in
    record {
      shape = rw (some, ends) refl;
      leads = rw (some, ends) refl;
      adds = rw some refl;
    }

closing_does : (s : Section) (line : List ℕ) → IsLineOfNumber (Negative 1) line
    → Does (Inside s) line Outside []
unfolding shape_cause position_after_line entry_at
closing_does s line is =
    let some = nonblank_line (Negative 1) line is in
    let closed = closes-minus_one line is in
    record {
      shape = rw (some, closed) refl;
      leads = rw (some, closed) refl;
      adds = rw (some, closed) refl;
    }

row_does : (s : Section) (line : List ℕ) (row : Entry) → IsRow s line row
    → Does (Inside s) line (Inside s) (row ∷ [])
unfolding shape_cause position_after_line entry_at
row_does s line row is =
    let begins = begins-row s line row is in
    let some = nonblank_line (Natural begins.0) line begins.1 in
    let open_still = closes-natural begins.0 line begins.1 in
    let read = entry-read s line row is in
    record {
      shape = rw (some, open_still, read) refl;
      leads = rw (some, open_still) refl;
      adds = rw (some, open_still, read) refl;
    }

after_does : (line : List ℕ) → Does After line After []
unfolding shape_cause position_after_line entry_at
after_does line = at (is_all_blank line) refl where
  at : (b : Bool) → is_all_blank line ≡ b → Does After line After []
  at true blank = record { shape = rw blank refl; leads = rw blank refl; adds = rw blank refl }
  at false some = record { shape = rw some refl; leads = rw some refl; adds = rw some refl }

-- ---- lines that have rows

no_rows_after : (lines : List (List ℕ)) → entries_from After lines ≡ []
no_rows_after [] = refl
no_rows_after (line ∷ lines) =
    let does = after_does line in
    let adds = does.adds in
    let leads = does.leads in
    rw (adds, leads) (no_rows_after lines)

rows_then : (position : Position) (line : List ℕ) (next : Position) (es : List Entry)
    (lines : List (List ℕ)) (rest : List Entry) → Does position line next es
    → entries_from next lines ≡ rest → entries_from position (line ∷ lines) ≡ es ++ rest
rows_then position line next es lines rest does later =
    let adds = does.adds in
    let leads = does.leads in
    rw (adds, leads, later) refl

-- the rows that lines have are the ones that are read
pub rows_known : (position : Position) (lines : List (List ℕ)) (rows : List Entry)
    → HasRows position lines rows → entries_from position lines ≡ rows
rows_known position lines rows
    (blank_line {line = line} {lines = later} blank has) =
    rows_then position line position [] later rows (blank_does position line blank)
    (rows_known position later rows has)
rows_known position lines rows (section_opens {s = s} {line = line} {lines = later} is has) =
    rows_then Outside line (Inside s) [] later rows (opening_does s line is)
    (rows_known (Inside s) later rows has)
rows_known position lines rows
    (row_line {s = s} {line = line} {row = row} {lines = later} {rows = rest} is has) =
    rows_then (Inside s) line (Inside s) (row ∷ []) later rest (row_does s line row is)
    (rows_known (Inside s) later rest has)
rows_known position lines rows (section_ends {s = s} {line = line} {lines = later} is has) =
    rows_then (Inside s) line Outside [] later rows (closing_does s line is)
    (rows_known Outside later rows has)
rows_known position lines rows (database_ends {line = line} {lines = later} is) =
    rows_then Outside line After [] later [] (end_does line is) (no_rows_after later)

line_then : (before : List (List ℕ)) (line : List ℕ) (lines : List (List ℕ)) (position : Position)
    (next : Position) (es rest : List Entry) → Does position line next es
    → position_after before ≡ position → AreValidTogether (entries before ++ (es ++ rest))
    → (position_after (before ++ line ∷ []) ≡ next
    → AreValidTogether (entries (before ++ line ∷ []) ++ rest)
    → first_fault (before ++ line ∷ []) lines ≡ None) → first_fault before (line ∷ lines) ≡ None
unfolding line_cause
line_then before line lines position next es rest does here may later =
    let may_so_far : AreValidTogether ((entries before ++ es) ++ rest) =
    subst AreValidTogether (sym (append_assoc (entries before) es rest)) may in
    let shape : shape_cause (position_after before) line ≡ None =
    ap (λ p. shape_cause p line) here ∙ does.shape in
    let adds : entry_at (position_after before) line ≡ es =
    ap (λ p. entry_at p line) here ∙ does.adds in
    let limit : first_limit (entries before) (entry_at (position_after before) line) ≡ None =
    ap (first_limit (entries before)) adds
    ∙ first_fine (entries before) es (some_less (entries before ++ es) rest may_so_far) in
    let cause : line_cause before line ≡ None =
    ap (λ o. option_or o (first_limit (entries before) (entry_at (position_after before) line)))
    shape ∙ limit in
    let leads : position_after (before ++ line ∷ []) ≡ next =
    fold_push position_after_line Outside before line
    ∙ ap (λ p. position_after_line p line) here ∙ does.leads in
    let rows : entries before ++ es ≡ entries (before ++ line ∷ []) =
    sym (entries_push before line ∙ ap (λ xs. entries before ++ xs) adds) in
    ap (λ o. option_or (option_map (fault_after before) o)
    (first_fault (before ++ line ∷ []) lines)) cause
    ∙ later leads (subst (λ xs. AreValidTogether (xs ++ rest)) rows may_so_far)

faultless_after : (before lines : List (List ℕ)) → position_after before ≡ After
    → AreValidTogether (entries before ++ []) → first_fault before lines ≡ None
faultless_after before [] here may =
    ap (λ p. cond (is_after p) None (Some (record {
      cause = NoEnd;
      line = suc (length before);
      site = site_of_fault p;
    }))) here
faultless_after before (line ∷ lines) here may =
    line_then before line lines After After [] [] (after_does line) here may
    (λ leads more. faultless_after (before ++ line ∷ []) lines leads more)

-- lines with rows that are valid together have no fault
pub rows_faultless : (position : Position) (lines : List (List ℕ)) (rows : List Entry)
    → HasRows position lines rows → (before : List (List ℕ)) → position_after before ≡ position
    → AreValidTogether (entries before ++ rows) → first_fault before lines ≡ None
rows_faultless position lines rows (blank_line {line = line} {lines = later} blank has) before here
    may =
    line_then before line later position position [] rows (blank_does position line blank) here may
    (λ leads more. rows_faultless position later rows has (before ++ line ∷ []) leads more)
rows_faultless position lines rows (section_opens {s = s} {line = line} {lines = later} is has)
    before here may =
    line_then before line later Outside (Inside s) [] rows (opening_does s line is) here may
    (λ leads more. rows_faultless (Inside s) later rows has (before ++ line ∷ []) leads more)
rows_faultless position lines rows
    (row_line {s = s} {line = line} {row = row} {lines = later} {rows = rest} is has) before here
    may =
    line_then before line later (Inside s) (Inside s) (row ∷ []) rest (row_does s line row is) here
    may (λ leads more. rows_faultless (Inside s) later rest has (before ++ line ∷ []) leads more)
rows_faultless position lines rows (section_ends {s = s} {line = line} {lines = later} is has)
    before here may =
    line_then before line later (Inside s) Outside [] rows (closing_does s line is) here may
    (λ leads more. rows_faultless Outside later rows has (before ++ line ∷ []) leads more)
rows_faultless position lines rows (database_ends {line = line} {lines = later} is) before here
    may =
    line_then before line later Outside After [] [] (end_does line is) here may
    (λ leads more. faultless_after (before ++ line ∷ []) later leads more)

-- ---- lines without a fault

-- the rows of lines from a position on; lines after the end have no rows
abbrev pub RowsFrom : Position → List (List ℕ) → List Entry → Type 0
RowsFrom Outside lines rows = HasRows Outside lines rows
RowsFrom (Inside s) lines rows = HasRows (Inside s) lines rows
RowsFrom After lines rows = rows ≡ []

-- What a line does, and what that adds to the rows of the lines that follow it.
pub record Goes (position : Position) (line : List ℕ) : Type 0 where
  pub next : Position
  pub es : List Entry
  pub does : Does position line next es
  pub grows : (lines : List (List ℕ)) (rest : List Entry) → RowsFrom next lines rest
      → RowsFrom position (line ∷ lines) (es ++ rest)

blank_goes : (position : Position) (line : List ℕ) → IsTrue (is_all_blank line)
    → Goes position line
blank_goes position line blank = record {
  next = position;
  es = [];
  does = blank_does position line blank;
  grows = at position;
} where
  at : (p : Position) (lines : List (List ℕ)) (rest : List Entry) → RowsFrom p lines rest
      → RowsFrom p (line ∷ lines) rest
  at Outside lines rest has = blank_line blank has
  at (Inside s) lines rest has = blank_line blank has
  at After lines rest has = has

opens_goes : (line : List ℕ) (position : Position) → Opens line position → Goes Outside line
opens_goes line Outside is = absurd is
opens_goes line (Inside s) is = record {
  next = Inside s;
  es = [];
  does = opening_does s line is;
  grows = λ lines rest has. section_opens is has;
}
opens_goes line After is = record {
  next = After;
  es = [];
  does = end_does line is;
  grows = λ lines rest has. subst (HasRows Outside (line ∷ lines)) (sym has) (database_ends is);
}

heading_goes : (line : List ℕ) (o : Option Position) → position_after_heading line ≡ o
    → cond (is_some o) None (Some BadSection) ≡ None → Goes Outside line
heading_goes line None is e = cc
heading_goes line (Some position) is e =
    opens_goes line position (opens-heading line position is)

row_goes : (s : Section) (line : List ℕ) (r : Result Entry Cause) → entry_in s line ≡ r
    → result_err r ≡ None → Goes (Inside s) line
row_goes s line (Ok row) is e =
    let row_is = read-entry s line row is in
    record {
      next = Inside s;
      es = row ∷ [];
      does = row_does s line row row_is;
      grows = λ lines rest has. row_line row_is has;
    }
row_goes s line (Err cause) is e = cc

inside_goes : (s : Section) (line : List ℕ) (b : Bool) → closes line ≡ b
    → cond b None (result_err (entry_in s line)) ≡ None → Goes (Inside s) line
inside_goes s line true is e =
    let ends = minus_one-closes line is in
    record {
      next = Outside;
      es = [];
      does = closing_does s line ends;
      grows = λ lines rest has. section_ends ends has;
    }
inside_goes s line false is e = row_goes s line (entry_in s line) refl e

goes_here : (position : Position) (line : List ℕ) → shape_here position line ≡ None
    → Goes position line
goes_here Outside line e = heading_goes line (position_after_heading line) refl e
goes_here (Inside s) line e = inside_goes s line (closes line) refl e
goes_here After line e = record {
  next = After;
  es = [];
  does = after_does line;
  grows = λ lines rest has. has;
}

pub goes : (position : Position) (line : List ℕ) → shape_cause position line ≡ None
    → Goes position line
unfolding shape_cause
goes position line e = at (is_all_blank line) refl e where
  at : (b : Bool) → is_all_blank line ≡ b → cond b None (shape_here position line) ≡ None
      → Goes position line
  at true blank h = blank_goes position line blank
  at false some h = goes_here position line h

at_end : (p : Position) (x : CaveError) → cond (is_after p) None (Some x) ≡ None → p ≡ After
at_end Outside x e = cc
at_end (Inside s) x e = cc
at_end After x e = refl

pub no_cause : (o : Option Cause) (tell : Cause → CaveError) (rest : Option CaveError)
    → option_or (option_map tell o) rest ≡ None → (o ≡ None) × (rest ≡ None)
no_cause None tell rest e = (refl, e)
no_cause (Some cause) tell rest e = cc

faultless_rows_from : (before lines : List (List ℕ)) → first_fault before lines ≡ None
    → RowsFrom (position_after before) lines (entries_from (position_after before) lines)
unfolding line_cause
faultless_rows_from before [] e =
    subst (λ p. RowsFrom p [] []) (sym (at_end (position_after before) _ e)) refl
faultless_rows_from before (line ∷ lines) e =
    let parts = no_cause (line_cause before line) (fault_after before) _ e in
    let shape =
    (neither (shape_cause (position_after before) line)
    (first_limit (entries before) (entry_at (position_after before) line)) parts.0).0 in
    let here = goes (position_after before) line shape in
    let later = faultless_rows_from (before ++ line ∷ []) lines parts.1 in
    let leads : position_after (before ++ line ∷ []) ≡ here.next =
    fold_push position_after_line Outside before line ∙ here.does.leads in
    subst (RowsFrom (position_after before) (line ∷ lines))
    (sym (rows_then (position_after before) line here.next here.es lines
    (entries_from here.next lines) here.does refl))
    (here.grows lines (entries_from here.next lines)
    (subst (λ p. RowsFrom p lines (entries_from p lines)) leads later))

-- lines without a fault have the rows that are read
pub faultless_rows : (lines : List (List ℕ)) → first_fault [] lines ≡ None
    → HasRows Outside lines (entries lines)
faultless_rows lines e = faultless_rows_from [] lines e
