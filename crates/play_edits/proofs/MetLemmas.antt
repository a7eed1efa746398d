-- The guards of what is kept are met.
use Rattle.std.proofs.Common.{◌≡◌, ℕ, ◌+◌, ◌<◌, Bool, true, false, List, [], ◌∷◌, take, ◌++◌}
use Rattle.std.proofs.Common.{length, map, drop, get_or, Option, None, Some, sym, ap, ◌∙◌, refl}
use Rattle.std.proofs.Common.{arith, append_assoc, append-nil}
use Rattle.std.specs.Prelude.{slice_get, option_map, Result, Ok, Err, IfOk}
use Rattle.std.specs.List.{zip}
use Rattle.std.proofs.lemmas.List.{get_or-map, length-append, length-map, take_more}
use Rattle.std.proofs.Math.Seq.{take-append_seam}
use Rattle.replay_edits.specs.Edit.{Change, change_of, changes_of, deletes, inserts, log_after}
use Rattle.replay_edits.specs.Edit.{replaces, reseeds}
use Rattle.replay_edits.specs.declared.edit.Edit.{Edit}
use Rattle.replay_edits.specs.Faults.{log_after_all}
use Rattle.replay_edits.proofs.Groups.{changes_of-drop}
use Rattle.replay_scripts.specs.Script.{Expectation}
use Rattle.replay_scripts.specs.ScriptText.{Back, backs_in, guards_at, guards_from, line_after}
use Rattle.replay_scripts.specs.ScriptText.{number_in, spelled_item}
use Rattle.replay_scripts.specs.declared.script_text.BackEdit.{BackEdit}
use Rattle.std.specs.Global.{Vec}
use Rattle.replay_edits.specs.LineText.{LineText}
use Rattle.play_edits.specs.Refusal.{first_unmet}
use Rattle.play_edits.specs.Undo.{backs_by, expected_at, expected_lines, expecting, lines_in}
use Rattle.play_edits.specs.Undo.{with_guards, without_guard}
use Rattle.play_edits.proofs.GuardLemmas.{unmet-IsMet}

expected_there : (change : Change) (log : List (List ℕ)) (line : List ℕ)
    → expected_at change log ≡ Some line → slice_get log (number_in change) ≡ Some line
expected_there (inserts place text) log line is = is
expected_there (deletes place) log line is = is
expected_there (replaces place text) log line is = is
expected_there (reseeds seed) log line is = cc

-- the guard of a change, if it has one, and the others
met_then : (changes : List Change) (log : List (List ℕ)) (number after place : ℕ)
    (expected : Option (List ℕ)) (more : List Expectation)
    → ((line : List ℕ) → expected ≡ Some line
    → slice_get (log_after_all (take after changes) log) place ≡ Some line)
    → first_unmet changes more log ≡ None
    → first_unmet changes (guards_at number after place expected ++ more) log ≡ None
met_then changes log number after place None more there rest = rest
met_then changes log number after place (Some line) more there rest =
    let guard : Expectation =
    record { line = number; place = place; text = line; after = after } in
    rw (unmet-IsMet changes log guard (λ free. there line refl)) rest

log_after_all-more : (changes : List Change) (change : Change) (log : List (List ℕ))
    → log_after_all (changes ++ change ∷ []) log ≡ log_after change (log_after_all changes log)
log_after_all-more [] change log = refl
log_after_all-more (first ∷ changes) change log =
    log_after_all-more changes change (log_after first log)

met_from : (number : ℕ) (before changes : List Change) (log : List (List ℕ))
    → first_unmet (before ++ changes) (guards_from number (length before)
    (with_guards changes (log_after_all before log))) log ≡ None
met_from number before [] log = refl
met_from number before (change ∷ changes) log =
    let now = log_after_all before log in
    let place = number_in change in
    let expected = expected_at change now in
    let next = line_after number expected + 1 in
    let first : take (length before) (before ++ change ∷ changes) ≡ before =
    take-append_seam before (change ∷ changes) in
    let rest = met_from next (before ++ change ∷ []) changes log in
    let more = rw (
      append_assoc before (change ∷ []) changes,
      length-append before (change ∷ []),
      log_after_all-more before change log,
    ) at rest in
    met_then (before ++ change ∷ changes) log number (length before) place expected
    (guards_from next (length before + 1) (with_guards changes (log_after change now)))
    (λ line is. ap (λ some. slice_get (log_after_all some log) place) first
    ∙ expected_there change now line is) more

-- the line that is expected for one more edit
pub expected-more : (edits : List Edit) (log : List (List ℕ)) (i : ℕ) (edit : Edit)
    (old new whole : List (Option (List ℕ))) → i < length edits → edit ≡ get_or edits i edit
    → new ≡ old ++ expected_at (change_of edit) (log_after_all (take i (changes_of edits)) log) ∷ []
    → old ++ expected_lines (changes_of (drop i edits))
    (log_after_all (take i (changes_of edits)) log) ≡ whole
    → new ++ expected_lines (changes_of (drop (i + 1) edits))
    (log_after_all (take (i + 1) (changes_of edits)) log) ≡ whole
expected-more edits log i edit old new whole inside read grown so_far =
    let changes = changes_of edits in
    let change = change_of edit in
    let now = log_after_all (take i changes) log in
    let rest = changes_of (drop (i + 1) edits) in
    let line = expected_at change now in
    let m = length-map edits change_of in
    let here = get_or-map change_of edits i edit change inside ∙ ap change_of (sym read) in
    let next : log_after_all (take (i + 1) changes) log ≡ log_after change now =
    ap (λ some. log_after_all some log) (take_more changes i change (omega arith)
    ∙ ap (λ c. take i changes ++ c ∷ []) here)
    ∙ log_after_all-more (take i changes) change log in
    ap (λ b. b ++ expected_lines rest (log_after_all (take (i + 1) changes) log)) grown
    ∙ append_assoc old (line ∷ []) (expected_lines rest (log_after_all (take (i + 1) changes) log))
    ∙ ap (λ l. old ++ line ∷ expected_lines rest l) next
    ∙ ap (λ some. old ++ expected_lines some now) (sym (changes_of-drop edits i edit inside read))
    ∙ so_far

-- edits, each with the line expected at its place
pub expecting-zip : (edits : List Edit) (lines : List (Option LineText))
    → backs_in (map (λ p. record { edit = p.0; expected = p.1 }) (zip edits lines))
    ≡ expecting (changes_of edits) (lines_in lines)
expecting-zip [] lines = refl
expecting-zip (edit ∷ edits) [] = refl
expecting-zip (edit ∷ edits) (line ∷ lines) = ap
    (λ backs. record {
      change = change_of edit;
      expected = option_map (λ line. line.items) line;
    } ∷ backs) (expecting-zip edits lines)

-- edits without a guard
pub without_guards-map : (edits : List Edit)
    → backs_in (map (λ edit. record { edit = edit; expected = None }) edits)
    ≡ map without_guard (changes_of edits)
without_guards-map [] = refl
without_guards-map (edit ∷ edits) =
    ap (λ backs. record { change = change_of edit; expected = None } ∷ backs)
    (without_guards-map edits)

-- what is made of edits, if memory suffices
pub backs_made : {E : Type 0} (r : Result (Vec BackEdit) E) (made : List BackEdit)
    (said : List Back) → IfOk r (λ backs. backs.items ≡ made) → backs_in made ≡ said
    → IfOk r (λ backs. backs_in backs.items ≡ said)
backs_made (Ok backs) made said is same = ap backs_in is ∙ same
backs_made (Err refused) made said is same = tt

unguarded_from : (number after : ℕ) (changes : List Change)
    → guards_from number after (map without_guard changes) ≡ []
unguarded_from number after [] = refl
unguarded_from number after (change ∷ changes) =
    unguarded_from (number + 1) (after + 1) changes

pub guards_met : (guarded : Bool) (number : ℕ) (changes : List Change) (log : List (List ℕ))
    → (let item = spelled_item number (backs_by guarded changes log) in
    first_unmet changes item.guards log ≡ None)
guards_met false number [] log = refl
guards_met false number (change ∷ []) log = refl
guards_met false number (first ∷ second ∷ more) log =
    rw (unguarded_from (number + 1) 0 (first ∷ second ∷ more)) refl
guards_met true number [] log = refl
guards_met true number (change ∷ []) log =
    let guard = guards_at number 0 (number_in change) (expected_at change log) in
    rw (← append-nil guard) (met_from number [] (change ∷ []) log)
guards_met true number (first ∷ second ∷ more) log =
    met_from (number + 1) [] (first ∷ second ∷ more) log
