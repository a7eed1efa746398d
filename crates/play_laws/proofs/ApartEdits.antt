-- Two changes apart from each other may be made in either order.
use Rattle.std.proofs.Common.{◌≡◌, ℕ, ◌+◌, ◌-◌, ◌*◌, ◌<◌, ◌≤◌, ◌&&◌, ◌≢◌, inl, inr, List, length}
use Rattle.std.proofs.Common.{insert, remove, refl, sym, ap, ap₂, ◌∙◌, arith, Bool, true, false}
use Rattle.std.proofs.Common.{cond, ltb, leb, Option, Some, None, IsTrue}
use Rattle.std.proofs.lemmas.Bool.{cases_order, ltb-true, ltb-false, le-ltb, lt-leb}
use Rattle.std.proofs.lemmas.List.{length-set}
use Rattle.std.proofs.lemmas.List.Edits.{length-insert, length-remove}
use Rattle.base_lines.specs.Limits.{MAX_LOG_LINES}
use Rattle.replay_edits.proofs.Inverses.{delete_within, insert_within, replace_within}
use Rattle.replay_edits.specs.declared.fault.EditFault.{EditFault}
use Rattle.replay_edits.specs.declared.fault.EditFault.TheVariants.{LogFull}
use Rattle.replay_edits.specs.Edit.{Game, game_of, Change, inserts, deletes, replaces, reseeds}
use Rattle.replay_edits.specs.Edit.{log_after, seed_after, apply_all}
use Rattle.replay_edits.specs.Faults.{fault_of, fault_of_all, first_of_two}
use Rattle.play_laws.specs.ApartEdits.{AreApart, ApartEditsCommute, adds_line, gap_before}
use Rattle.play_laws.specs.ApartEdits.{line_itself, one_by_one, shifted_place, shifted_by}
use Rattle.play_laws.specs.ApartEdits.{touched_by}
use Rattle.play_laws.proofs.ApartLogs.{place_of, rank, same_before}

-- ---- the logs

place_inside : (change : Change) (log : List (List ℕ)) → fault_of change log ≡ None
    → place_of change ≤ length log
place_inside (inserts place line) log free = (insert_within place line log free).0
place_inside (deletes place) log free = let below = delete_within place log free in omega arith
place_inside (replaces place line) log free =
    let below = (replace_within place line log free).0 in
    omega arith
place_inside (reseeds seed) log free = omega arith

-- a change of lines, and not of the seed
abbrev IsOfLines : Change → Type 0
IsOfLines (inserts place line) = Unit {0}
IsOfLines (deletes place) = Unit {0}
IsOfLines (replaces place line) = Unit {0}
IsOfLines (reseeds seed) = ⊥

gaps_differ : (one other : ℕ) → ¬ (gap_before one ≡ gap_before other) → ¬ (2 * one ≡ 2 * other)
gaps_differ one other apart same = let e : one ≡ other = omega arith in apart (ap gap_before e)

lines_differ : (one other : ℕ) → ¬ (line_itself one ≡ line_itself other)
    → ¬ (2 * one + 1 ≡ 2 * other + 1)
lines_differ one other apart same = let e : one ≡ other = omega arith in apart (ap line_itself e)

odd_and_even : (one other : ℕ) → ¬ (2 * one ≡ 2 * other + 1)
odd_and_even one other same = omega arith

-- changes of lines that are apart have different ranks
ranks_differ : (one other : Change) → IsOfLines one → IsOfLines other → AreApart one other
    → ¬ (rank one ≡ rank other)
ranks_differ (reseeds seed) other none is apart = absurd none
ranks_differ one (reseeds seed) is none apart = absurd none
ranks_differ (inserts at line) (inserts place text) is also apart = gaps_differ at place apart
ranks_differ (inserts at line) (deletes place) is also apart = odd_and_even at place
ranks_differ (inserts at line) (replaces place text) is also apart = odd_and_even at place
ranks_differ (deletes at) (inserts place text) is also apart =
    λ same. odd_and_even place at (sym same)
ranks_differ (deletes at) (deletes place) is also apart = lines_differ at place apart
ranks_differ (deletes at) (replaces place text) is also apart = lines_differ at place apart
ranks_differ (replaces at line) (inserts place text) is also apart =
    λ same. odd_and_even place at (sym same)
ranks_differ (replaces at line) (deletes place) is also apart = lines_differ at place apart
ranks_differ (replaces at line) (replaces place text) is also apart = lines_differ at place apart

lines_same : (one other : Change) (log : List (List ℕ)) → IsOfLines one → IsOfLines other
    → AreApart one other → place_of one ≤ length log → place_of other ≤ length log
    → log_after (shifted_by one other) (log_after one log)
    ≡ log_after (shifted_by other one) (log_after other log)
lines_same one other log is also apart inside inside' =
    elim (cases_order (rank one) (rank other)) [
      | inl same ↦ absurd (ranks_differ one other is also apart same)
      | inr different ↦ elim different [
        | inl before ↦ same_before one other log before inside'
        | inr behind ↦ sym (same_before other one log behind inside)
      ]
    ]

seed_shifts_none : (seed : ℕ) (other : Change) → shifted_by (reseeds seed) other ≡ other
seed_shifts_none seed (inserts place line) = refl
seed_shifts_none seed (deletes place) = refl
seed_shifts_none seed (replaces place line) = refl
seed_shifts_none seed (reseeds new) = refl

-- both orders leave the same log
logs_same : (one other : Change) (log : List (List ℕ)) → AreApart one other
    → place_of one ≤ length log → place_of other ≤ length log
    → log_after (shifted_by one other) (log_after one log)
    ≡ log_after (shifted_by other one) (log_after other log)
logs_same (reseeds seed) other log apart inside inside' =
    ap (λ change. log_after change log) (seed_shifts_none seed other)
logs_same one (reseeds seed) log apart inside inside' =
    sym (ap (λ change. log_after change log) (seed_shifts_none seed one))
logs_same one other log apart inside inside' =
    lines_same one other log tt tt apart inside inside'

-- ---- the seeds

seed_after-shifted : (first second : Change) (seed : ℕ)
    → seed_after (shifted_by first second) seed ≡ seed_after second seed
seed_after-shifted first (inserts place line) seed = refl
seed_after-shifted first (deletes place) seed = refl
seed_after-shifted first (replaces place line) seed = refl
seed_after-shifted first (reseeds new) seed = refl

seeds_same : (one other : Change) (seed : ℕ) → AreApart one other
    → seed_after other (seed_after one seed) ≡ seed_after one (seed_after other seed)
seeds_same (inserts place line) other seed apart = refl
seeds_same (deletes place) other seed apart = refl
seeds_same (replaces place line) other seed apart = refl
seeds_same (reseeds new) (inserts place line) seed apart = refl
seeds_same (reseeds new) (deletes place) seed apart = refl
seeds_same (reseeds new) (replaces place line) seed apart = refl
seeds_same (reseeds new) (reseeds more) seed apart = absurd (apart refl)

games_same : (one other : Change) (game : Game) → AreApart one other
    → place_of one ≤ length game.log → place_of other ≤ length game.log
    → apply_all (one_by_one one other) game ≡ apply_all (one_by_one other one) game
games_same one other game apart inside inside' =
    ap₂ game_of
    (seed_after-shifted one other (seed_after one game.seed) ∙ seeds_same one other game.seed apart
    ∙ sym (seed_after-shifted other one (seed_after other game.seed)))
    (logs_same one other game.log apart inside inside')

-- ---- the faults

-- a gap of a log is one of it after a change
gap_fits : (first : Change) (place : ℕ) (log : List (List ℕ)) → fault_of first log ≡ None
    → place ≤ length log → shifted_place first place ≤ length (log_after first log)
gap_fits (inserts at line) place log free inside = by_test (leb at place) refl
  where
    by_test : (before : Bool) → leb at place ≡ before
        → cond before (place + 1) place ≤ length (insert log at line)
    by_test before is =
        let longer = length-insert log at line (insert_within at line log free).0 in
        elim before as (λ b. cond b (place + 1) place ≤ length (insert log at line)) [
          | true ↦ omega arith
          | false ↦ omega arith
        ]
gap_fits (deletes at) place log free inside = by_test (ltb at place) refl
  where
    by_test : (before : Bool) → ltb at place ≡ before
        → cond before (place - 1) place ≤ length (remove log at)
    by_test true is =
        let below = delete_within at log free in
        let shorter = length-remove log at below in
        omega arith
    by_test false is =
        let below = delete_within at log free in
        let shorter = length-remove log at below in
        let behind = ltb-false at place is in
        omega arith
gap_fits (replaces at line) place log free inside =
    let same = length-set log at line in omega arith
gap_fits (reseeds seed) place log free inside = inside

-- a line of a log that a change doesn't touch is one of it after the change
line_fits : (first : Change) (place : ℕ) (log : List (List ℕ)) → fault_of first log ≡ None
    → ¬ (touched_by first ≡ line_itself place) → place < length log
    → shifted_place first place < length (log_after first log)
line_fits (inserts at line) place log free apart inside = by_test (leb at place)
  where
    by_test : (before : Bool) → cond before (place + 1) place < length (insert log at line)
    by_test true =
        let longer = length-insert log at line (insert_within at line log free).0 in omega arith
    by_test false =
        let longer = length-insert log at line (insert_within at line log free).0 in omega arith
line_fits (deletes at) place log free apart inside = by_test (ltb at place) refl
  where
    by_test : (before : Bool) → ltb at place ≡ before
        → cond before (place - 1) place < length (remove log at)
    by_test true is =
        let ahead = ltb-true at place is in
        let below = delete_within at log free in
        let shorter = length-remove log at below in
        omega arith
    by_test false is =
        let below = delete_within at log free in
        let shorter = length-remove log at below in
        let behind = ltb-false at place is in
        let other : at ≢ place = λ same. apart (ap line_itself same) in
        omega arith
line_fits (replaces at line) place log free apart inside =
    let same = length-set log at line in omega arith
line_fits (reseeds seed) place log free apart inside = inside

-- the fault that the second of two changes meets after the first, if the log accepts each
abbrev second_fault : Bool → Bool → ℕ → Option EditFault
second_fault one other lines =
    cond (other && (one && leb MAX_LOG_LINES (lines + 1))) (Some LogFull) None

insert_fault : (first : Change) (place : ℕ) (line : List ℕ) (log : List (List ℕ))
    → fault_of first log ≡ None → fault_of (inserts place line) log ≡ None
    → fault_of (inserts (shifted_place first place) line) (log_after first log)
    ≡ second_fault (adds_line first) true (length log)
insert_fault first place line log free free' =
    let said = insert_within place line log free' in
    let fits = le-ltb (length (log_after first log)) (shifted_place first place)
    (gap_fits first place log free said.0) in
    rw (fits, said.1) (by_kind first free said.2)
  where
    by_kind : (change : Change) → fault_of change log ≡ None → length log < MAX_LOG_LINES
        → cond (leb MAX_LOG_LINES (length (log_after change log))) (Some LogFull) None
        ≡ second_fault (adds_line change) true (length log)
    by_kind (inserts at text) is room =
        ap (λ lines. cond (leb MAX_LOG_LINES lines) (Some LogFull) None)
        (length-insert log at text (insert_within at text log is).0)
    by_kind (deletes at) is room =
        let shorter = length-remove log at (delete_within at log is) in
        rw (lt-leb MAX_LOG_LINES (length (remove log at)) (omega arith)) refl
    by_kind (replaces at text) is room =
        rw (length-set log at text, lt-leb MAX_LOG_LINES (length log) room) refl
    by_kind (reseeds seed) is room = rw (lt-leb MAX_LOG_LINES (length log) room) refl

fault_of-shifted : (first second : Change) (log : List (List ℕ)) → fault_of first log ≡ None
    → fault_of second log ≡ None → AreApart first second
    → fault_of (shifted_by first second) (log_after first log)
    ≡ second_fault (adds_line first) (adds_line second) (length log)
fault_of-shifted first (inserts place line) log free free' apart =
    insert_fault first place line log free free'
fault_of-shifted first (deletes place) log free free' apart =
    let fits = line_fits first place log free apart (delete_within place log free') in
    rw (lt-leb (length (log_after first log)) (shifted_place first place) fits) refl
fault_of-shifted first (replaces place line) log free free' apart =
    let said = replace_within place line log free' in
    let fits = line_fits first place log free apart said.0 in
    rw (lt-leb (length (log_after first log)) (shifted_place first place) fits, said.1) refl
fault_of-shifted first (reseeds seed) log free free' apart = free'

second_fault-same : (one other : Bool) (lines : ℕ)
    → second_fault one other lines ≡ second_fault other one lines
second_fault-same true true lines = refl
second_fault-same true false lines = refl
second_fault-same false true lines = refl
second_fault-same false false lines = refl

no_second_fault : (one other : Bool) (lines : ℕ)
    → (IsTrue one → IsTrue other → lines + 2 ≤ MAX_LOG_LINES) → second_fault one other lines ≡ None
no_second_fault true true lines room =
    let fits = room refl refl in
    rw (lt-leb MAX_LOG_LINES (lines + 1) (omega arith)) refl
no_second_fault true false lines room = refl
no_second_fault false true lines room = refl
no_second_fault false false lines room = refl

faults_are : (one other : Change) (log : List (List ℕ)) → fault_of one log ≡ None
    → fault_of other log ≡ None → AreApart one other
    → fault_of_all (one_by_one one other) log 0
    ≡ first_of_two (second_fault (adds_line one) (adds_line other) (length log)) 1 None
faults_are one other log free free' apart =
    rw (free, fault_of-shifted one other log free free' apart) refl

pub apart_edits_commute : ApartEditsCommute
apart_edits_commute one other game free free' apart =
    let log = game.log in
    let one_first = faults_are one other log free free' apart in
    let other_first = faults_are other one log free' free (λ same. apart (sym same)) in
    record {
      same = games_same one other game apart (place_inside one log free)
          (place_inside other log free');
      alike = one_first
          ∙ ap (λ fault. first_of_two fault 1 None)
          (second_fault-same (adds_line one) (adds_line other) (length log))
          ∙ sym other_first;
      accepted = λ room. one_first
          ∙ ap (λ fault. first_of_two fault 1 None)
          (no_second_fault (adds_line one) (adds_line other) (length log) room);
    }
