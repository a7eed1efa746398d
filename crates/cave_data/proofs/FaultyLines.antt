-- The first fault of lines is that of the first line after which they can't become a database.
use Rattle.std.proofs.Common.{◌≡◌, ℕ, cond, List, [], ◌∷◌, ◌++◌, Option, Some, None}
use Rattle.std.proofs.Common.{option_map, refl, sym, ap, subst, ◌∙◌}
use Rattle.std.specs.Option.{option_or, IfSome}
use Rattle.std.proofs.lemmas.List.{append_assoc}
use Rattle.std.proofs.lemmas.List.Sums.{fold_push}
use Rattle.data_rows.specs.declared.error.Cause.{Cause}
use Rattle.data_rows.specs.declared.error.Cause.TheVariants.{NoEnd}
use Rattle.data_rows.specs.declared.error.CaveError.{CaveError}
use Rattle.data_rows.specs.declared.position.Position.{Position}
use Rattle.data_rows.specs.declared.position.Position.TheVariants.{Outside, Inside, After}
use Rattle.data_rows.specs.Rows.{Entry}
use Rattle.data_rows.specs.Grammar.{position_after_line, position_after, entry_at, entries}
use Rattle.data_rows.specs.DatabaseGrammar.{HasRows, blank_line, section_opens, row_line}
use Rattle.data_rows.specs.DatabaseGrammar.{section_ends, database_ends}
use Rattle.cave_data.specs.Database.{AreValidTogether}
use Rattle.cave_data.specs.Steps.{shape_cause, first_limit, line_cause, fault_after}
use Rattle.cave_data.specs.Steps.{is_after, first_fault}
use Rattle.cave_data.specs.Faults.{BeginDatabase, IsNextCause, IsFirstFault}
use Rattle.cave_data.proofs.StepLemmas.{entries_push}
use Rattle.cave_data.proofs.RightLemmas.{neither, line_together, none_together}
use Rattle.cave_data.proofs.GrammarLemmas.{RowsFrom, goes}
use Rattle.cave_data.proofs.LineCauses.{tells_lowest}

-- lines that go on from where these lead are those of a database with them
abbrev LeadOn : List (List ℕ) → Type 0
LeadOn before = (later : List (List ℕ)) (more : List Entry)
    → RowsFrom (position_after before) later more
    → HasRows Outside (before ++ later) (entries before ++ more)

lead_further : (before : List (List ℕ)) (line : List ℕ)
    → shape_cause (position_after before) line ≡ None → LeadOn before
    → LeadOn (before ++ line ∷ [])
lead_further before line fine lead later more has =
    let here = goes (position_after before) line fine in
    let leads : position_after (before ++ line ∷ []) ≡ here.next =
    fold_push position_after_line Outside before line ∙ here.does.leads in
    let rows : entries before ++ (here.es ++ more) ≡ entries (before ++ line ∷ []) ++ more =
    sym (ap (λ es. es ++ more)
    (entries_push before line ∙ ap (λ es. entries before ++ es) here.does.adds)
    ∙ append_assoc (entries before) here.es more) in
    subst (λ ls. HasRows Outside ls (entries (before ++ line ∷ []) ++ more))
    (sym (append_assoc before (line ∷ []) later))
    (subst (HasRows Outside (before ++ line ∷ later)) rows
    (lead (line ∷ later) (here.es ++ more)
    (here.grows later more (subst (λ p. RowsFrom p later more) leads has))))

none_after : (position : Position) (lines : List (List ℕ)) (rows : List Entry)
    → HasRows position lines rows → position ≡ After → ⊥
none_after position lines rows (blank_line {lines = later} blank has) e =
    none_after position later rows has e
none_after position lines rows (section_opens is has) e = cc
none_after position lines rows (row_line is has) e = cc
none_after position lines rows (section_ends is has) e = cc
none_after position lines rows (database_ends is) e = cc

rows_from : (position : Position) (lines : List (List ℕ)) (rows : List Entry)
    → HasRows position lines rows → RowsFrom position lines rows
rows_from Outside lines rows has = has
rows_from (Inside s) lines rows has = has
rows_from After lines rows has = absurd (none_after After lines rows has refl)

begin_database : (before : List (List ℕ)) → LeadOn before → AreValidTogether (entries before)
    → BeginDatabase before (position_after before) (entries before)
begin_database before lead together = record {
  go_on = λ later more has.
      lead later more (rows_from (position_after before) later more has);
  together = together;
}

next_fault : (before rest : List (List ℕ)) (cause : Cause) → LeadOn before
    → AreValidTogether (entries before)
    → IsNextCause (entries before) (position_after before) rest cause
    → IsFirstFault (before ++ rest) (fault_after before cause)
next_fault before rest cause lead together is = record {
  before = before;
  rest = rest;
  parts = refl;
  position = position_after before;
  rows = entries before;
  begin = begin_database before lead together;
  cause = is;
  line = refl;
  site = refl;
}

no_end : (rows : List Entry) (position : Position) (x e : CaveError)
    → cond (is_after position) None (Some x) ≡ Some e
    → IsNextCause rows position [] NoEnd × (x ≡ e)
no_end rows Outside x e is = (refl, cc)
no_end rows (Inside s) x e is = (refl, cc)
no_end rows After x e is = cc

no_shape_cause : (before : List (List ℕ)) (line : List ℕ) → line_cause before line ≡ None
    → shape_cause (position_after before) line ≡ None
unfolding line_cause
no_shape_cause before line fine =
    (neither (shape_cause (position_after before) line)
    (first_limit (entries before) (entry_at (position_after before) line)) fine).0

first_is : (before ls : List (List ℕ)) (e : CaveError) → first_fault before ls ≡ Some e
    → LeadOn before → AreValidTogether (entries before) → IsFirstFault (before ++ ls) e
first_is before [] e is lead together =
    let end = no_end (entries before) (position_after before) (fault_after before NoEnd) e is in
    subst (IsFirstFault (before ++ [])) end.1 (next_fault before [] NoEnd lead together end.0)
first_is before (line ∷ ls) e is lead together = at (line_cause before line) refl is
    (λ fine found. first_is (before ++ line ∷ []) ls e found
    (lead_further before line (no_shape_cause before line fine) lead)
    (line_together before line fine together)) where
      at : (o : Option Cause) → line_cause before line ≡ o
          → option_or (option_map (fault_after before) o) (first_fault (before ++ line ∷ []) ls)
          ≡ Some e
          → (line_cause before line ≡ None → first_fault (before ++ line ∷ []) ls ≡ Some e
          → IsFirstFault ((before ++ line ∷ []) ++ ls) e)
          → IsFirstFault (before ++ line ∷ ls) e
      at (Some cause) h found later =
          let same : fault_after before cause ≡ e = cc in
          subst (IsFirstFault (before ++ line ∷ ls)) same
          (next_fault before (line ∷ ls) cause lead together (tells_lowest before line cause h))
      at None h found later =
          subst (λ xs. IsFirstFault xs e) (append_assoc before (line ∷ []) ls) (later h found)

-- the fault that is reported of a database is its first by the grammar
pub fault_is_first : (ls : List (List ℕ)) → IfSome (first_fault [] ls) (IsFirstFault ls)
fault_is_first ls = at (first_fault [] ls) refl where
  at : (o : Option CaveError) → first_fault [] ls ≡ o → IfSome o (IsFirstFault ls)
  at (Some e) is = first_is [] ls e is (λ later more has. has) none_together
  at None is = tt
