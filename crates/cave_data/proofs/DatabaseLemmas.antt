-- Reading a database line by line: what holds after each line, and which fault is reported.
use Rattle.std.proofs.Common.{◌≡◌, inl, inr, ℕ, suc, ◌+◌, ◌<◌, ◌≤◌, false, cond, List, [], ◌∷◌}
use Rattle.std.proofs.Common.{◌++◌, length, Option, Some, None, option_map, Ok, Err, refl, sym, ap}
use Rattle.std.proofs.Common.{◌∙◌, arith}
use Rattle.std.specs.Option.{option_or}
use Rattle.std.specs.Str.Lines.{lines}
use Rattle.std.proofs.lemmas.List.{append_assoc, append-nil, length-append}
use Rattle.data_rows.specs.declared.error.Cause.{Cause}
use Rattle.data_rows.specs.declared.error.Cause.TheVariants.{Memory, TooLarge, BadSection}
use Rattle.data_rows.specs.declared.error.Cause.TheVariants.{BadNumber, OutOfRange, NoEnd}
use Rattle.data_rows.specs.declared.error.Cause.TheVariants.{TooManyRows, BadBinding, UnknownRole}
use Rattle.data_rows.specs.declared.position.Position.TheVariants.{Outside, After}
use Rattle.cave_data.specs.declared.reader.DatabaseReader.{DatabaseReader}
use Rattle.cave_data.specs.Faults.{FaultIs, error_at}
use Rattle.data_rows.specs.Answers.{Fails}
use Rattle.data_rows.specs.Grammar.{position_after, entries}
use Rattle.cave_data.specs.Steps.{line_cause, first_fault, fault_after, end_fault, is_after}
use Rattle.cave_data.specs.Steps.{site_of_fault, tables_of, no_tables, unless_cause, advance}
use Rattle.cave_data.proofs.StepLemmas.{reader_after, advance-reader_after}

pub record ReadSoFar (database rest : List ℕ) (count : ℕ) (reader : DatabaseReader) : Type 0 where
  pub before : List (List ℕ)
  pub number : length before ≡ count
  pub behind : reader ≡ reader_after before
  pub fault : first_fault before (lines rest) ≡ first_fault [] (lines database)
  pub all : before ++ lines rest ≡ lines database
  pub room : count + length rest ≤ length database

pub read_none : (database : List ℕ)
    → ReadSoFar database database 0 (record { position = Outside; tables = no_tables })
read_none database =
    record {
      before = [];
      number = refl;
      behind = refl;
      fault = refl;
      all = refl;
      room = omega arith;
    }

-- the first line after others has the fault, or the rest has it
fault_first : (before : List (List ℕ)) (line : List ℕ) (later : List (List ℕ)) (o : Option Cause)
    → line_cause before line ≡ o
    → first_fault before (line ∷ later)
    ≡ option_or (option_map (fault_after before) o) (first_fault (before ++ line ∷ []) later)
fault_first before line later o e =
    ap (λ c. option_or (option_map (fault_after before) c)
    (first_fault (before ++ line ∷ []) later)) e

pub allowed_ok : {X : Type 0} (o : Option Cause) (x y : X) → unless_cause o x ≡ Ok y
    → (o ≡ None) × (x ≡ y)
allowed_ok None x y e = (refl, grind arith)
allowed_ok (Some cause) x y e = cc

pub allowed_err : {X : Type 0} (o : Option Cause) (x : X) (cause : Cause)
    → unless_cause o x ≡ Err cause → o ≡ Some cause
allowed_err None x cause e = cc
allowed_err (Some c) x cause e = cc

module _ {database rest line : List ℕ} {count : ℕ} {reader : DatabaseReader} (after : List ℕ)
    (first : lines rest ≡ line ∷ lines after) (so_far : ReadSoFar database rest count reader) where
  step : advance reader line
      ≡ unless_cause (line_cause so_far.before line) (reader_after (so_far.before ++ line ∷ []))
  step = ap (λ r. advance r line) so_far.behind ∙ advance-reader_after so_far.before line

  pub read_more : (next : DatabaseReader) → advance reader line ≡ Ok next
      → length after < length rest → ReadSoFar database after (count + 1) next
  read_more next e shorter =
      let right =
      allowed_ok (line_cause so_far.before line) (reader_after (so_far.before ++ line ∷ []))
      next (sym step ∙ e) in
      record {
        before = so_far.before ++ line ∷ [];
        number = length-append so_far.before (line ∷ []) ∙ ap (λ n. n + 1) so_far.number;
        behind = sym right.1;
        fault = sym (fault_first so_far.before line (lines after) None right.0)
            ∙ ap (first_fault so_far.before) (sym first) ∙ so_far.fault;
        all = append_assoc so_far.before (line ∷ []) (lines after)
            ∙ ap (λ ls. so_far.before ++ ls) (sym first) ∙ so_far.all;
        room = let r = so_far.room in omega arith;
      }

  at_fault : (cause : Cause) → line_cause so_far.before line ≡ Some cause
      → first_fault [] (lines database)
      ≡ Some (record { cause = cause; line = count + 1; site = site_of_fault reader.position })
  at_fault cause e =
      let n : suc (length so_far.before) ≡ count + 1 = omega (arith, so_far.number) in
      sym so_far.fault ∙ ap (first_fault so_far.before) first
      ∙ fault_first so_far.before line (lines after) (Some cause) e
      ∙ ap (λ k.
      Some (record {
        cause = cause;
        line = k;
        site = site_of_fault (position_after so_far.before);
      })) n
      ∙ ap (λ r. Some (record { cause = cause; line = count + 1; site = site_of_fault r.position }))
      (sym so_far.behind)

  pub read_fault : (cause : Cause) → Fails cause (advance reader line)
      → FaultIs (error_at cause (count + 1) (site_of_fault reader.position))
      (first_fault [] (lines database))
  read_fault Memory e = inl refl
  read_fault TooLarge e = inr (at_fault TooLarge (allowed_err _ _ TooLarge (sym step ∙ e)))
  read_fault BadSection e = inr (at_fault BadSection (allowed_err _ _ BadSection (sym step ∙ e)))
  read_fault BadNumber e = inr (at_fault BadNumber (allowed_err _ _ BadNumber (sym step ∙ e)))
  read_fault OutOfRange e = inr (at_fault OutOfRange (allowed_err _ _ OutOfRange (sym step ∙ e)))
  read_fault NoEnd e = inr (at_fault NoEnd (allowed_err _ _ NoEnd (sym step ∙ e)))
  read_fault TooManyRows e = inr (at_fault TooManyRows (allowed_err _ _ TooManyRows (sym step ∙ e)))
  read_fault (BadBinding flaw) e =
      inr (at_fault (BadBinding flaw) (allowed_err _ _ (BadBinding flaw) (sym step ∙ e)))
  read_fault UnknownRole e = inr (at_fault UnknownRole (allowed_err _ _ UnknownRole (sym step ∙ e)))

-- the lines are at an end
module _ {database rest : List ℕ} {count : ℕ} {reader : DatabaseReader} (none : lines rest ≡ [])
    (so_far : ReadSoFar database rest count reader) where
  at_end : first_fault [] (lines database) ≡ end_fault so_far.before
  at_end = sym so_far.fault ∙ ap (first_fault so_far.before) none

  whole : so_far.before ≡ lines database
  whole = sym (append-nil so_far.before) ∙ ap (λ ls. so_far.before ++ ls) (sym none) ∙ so_far.all

  pub read_right : reader.position ≡ After → first_fault [] (lines database) ≡ None
  read_right e =
      at_end ∙ ap (λ p. cond (is_after p) None
      (Some (record {
        cause = NoEnd;
        line = suc (length so_far.before);
        site = site_of_fault p;
      }))) (ap (λ r. r.position) (sym so_far.behind) ∙ e)

  pub read_found : reader.tables ≡ tables_of (entries (lines database))
  read_found = ap (λ r. r.tables) so_far.behind ∙ ap (λ ls. tables_of (entries ls)) whole

  pub read_unended : is_after reader.position ≡ false
      → FaultIs (error_at NoEnd (count + 1) (site_of_fault reader.position))
      (first_fault [] (lines database))
  read_unended e =
      let n : suc (length so_far.before) ≡ count + 1 = omega (arith, so_far.number) in
      inr (at_end
      ∙ ap (λ p. cond (is_after p) None
      (Some (record {
        cause = NoEnd;
        line = suc (length so_far.before);
        site = site_of_fault p;
      }))) (ap (λ r. r.position) (sym so_far.behind))
      ∙ ap (λ b.
      cond b None
      (Some (record {
        cause = NoEnd;
        line = suc (length so_far.before);
        site = site_of_fault reader.position;
      }))) e
      ∙ ap (λ k. Some (record { cause = NoEnd; line = k; site = site_of_fault reader.position })) n)
