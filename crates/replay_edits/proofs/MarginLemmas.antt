-- What changes of a log leave alone.
use Rattle.std.proofs.Common.{◌≡◌, ℕ, ◌+◌, ◌<◌, ◌≤◌, List, [], ◌∷◌, length, refl, arith, None}
use Rattle.std.proofs.lemmas.List.{length-map}
use Rattle.replay_edits.specs.LineText.{LineText}
use Rattle.replay_edits.specs.declared.margins.Margins.{Margins}
use Rattle.replay_edits.specs.declared.edit.Edit.{Edit}
use Rattle.replay_edits.specs.Edit.{log_of, Game, Change, change_of, changes_of, inserts, deletes}
use Rattle.replay_edits.specs.Edit.{replaces, reseeds, log_after, apply, apply_all, margins_after}
use Rattle.replay_edits.specs.Edit.{margins_after_all, margins_of}
use Rattle.replay_edits.specs.Faults.{fault_of, fault_of_all}
use Rattle.replay_edits.specs.Leaves.{LeavesAlone, LeaveAlone}
use Rattle.replay_edits.proofs.Lines.{length-log_of}
use Rattle.replay_edits.proofs.Inverses.{IsFree, IsFree-from_none, insert_within, delete_within}
use Rattle.replay_edits.proofs.Inverses.{replace_within}

pub record IsNarrower (margins wide : Margins) : Type 0 where
  pub head : margins.head ≤ wide.head
  pub tail : margins.tail ≤ wide.tail

narrower_then : (a b c : Margins) → IsNarrower a b → IsNarrower b c → IsNarrower a c
narrower_then a b c x y =
    let h = x.head in let t = x.tail in let h' = y.head in let t' = y.tail in
    record { head = omega arith; tail = omega arith }

after_narrower : (change : Change) (lines : ℕ) (margins : Margins)
    → IsNarrower (margins_after change lines margins) margins
after_narrower (inserts place line) lines margins =
    record { head = omega arith; tail = omega arith }
after_narrower (deletes place) lines margins = record { head = omega arith; tail = omega arith }
after_narrower (replaces place line) lines margins =
    record { head = omega arith; tail = omega arith }
after_narrower (reseeds seed) lines margins = record { head = omega arith; tail = omega arith }

pub after_all_narrower : (changes : List Change) (log : List (List ℕ)) (margins : Margins)
    → IsNarrower (margins_after_all changes log margins) margins
after_all_narrower [] log margins = record { head = omega arith; tail = omega arith }
after_all_narrower (change ∷ changes) log margins =
    narrower_then
    (margins_after_all changes (log_after change log)
    (margins_after change (length log) margins)) (margins_after change (length log) margins)
    margins
    (after_all_narrower changes (log_after change log) (margins_after change (length log) margins))
    (after_narrower change (length log) margins)

-- a change that meets no fault leaves alone what is narrower than its margins
leaves_after : (change : Change) (log : List (List ℕ)) (margins narrow : Margins)
    → fault_of change log ≡ None → IsNarrower narrow (margins_after change (length log) margins)
    → LeavesAlone change (length log) narrow.head narrow.tail
leaves_after (inserts place line) log margins narrow free inner =
    let within = (insert_within place line log free).0 in
    let h = inner.head in let t = inner.tail in
    (omega arith, omega arith)
leaves_after (deletes place) log margins narrow free inner =
    let below = delete_within place log free in
    let h = inner.head in let t = inner.tail in
    (omega arith, omega arith)
leaves_after (replaces place line) log margins narrow free inner =
    let below = (replace_within place line log free).0 in
    let h = inner.head in let t = inner.tail in
    (omega arith, omega arith)
leaves_after (reseeds seed) log margins narrow free inner = let h = inner.head in omega arith

pub leave_alone : (changes : List Change) (log : List (List ℕ)) (margins : Margins)
    → IsFree changes log → LeaveAlone changes log (margins_after_all changes log margins)
leave_alone [] log margins free = tt
leave_alone (change ∷ changes) log margins free =
    let next = margins_after change (length log) margins in (
      leaves_after change log margins (margins_after_all changes (log_after change log) next) free.0
          (after_all_narrower changes (log_after change log) next),
      leave_alone changes (log_after change log) next free.1,
    )

-- if there is a prefix, the seed stays
pub seed_stays : (changes : List Change) (game : Game) (margins : Margins)
    → LeaveAlone changes game.log margins → 0 < margins.head
    → (apply_all changes game).seed ≡ game.seed
seed_stays [] game margins alone prefix = refl
seed_stays (inserts place line ∷ changes) game margins alone prefix =
    seed_stays changes (apply (inserts place line) game) margins alone.1 prefix
seed_stays (deletes place ∷ changes) game margins alone prefix =
    seed_stays changes (apply (deletes place) game) margins alone.1 prefix
seed_stays (replaces place line ∷ changes) game margins alone prefix =
    seed_stays changes (apply (replaces place line) game) margins alone.1 prefix
seed_stays (reseeds seed ∷ changes) game margins alone prefix =
    absurd (let none = alone.0 in omega arith)

-- prefix and end of a log that changes leave alone
pub margins_fits : (changes : List Change) (log : List (List ℕ)) → 0 < length changes
    → IsFree changes log
    → (margins_of changes log).head + (margins_of changes log).tail ≤ length log
margins_fits [] log some free = absurd (omega arith)
margins_fits (inserts place line ∷ changes) log some free =
    let alone =
    (leave_alone (inserts place line ∷ changes) log
    (record { head = length log; tail = length log })
    free).0 in let h = alone.0 in let t = alone.1 in omega arith
margins_fits (deletes place ∷ changes) log some free =
    let alone =
    (leave_alone (deletes place ∷ changes) log (record { head = length log; tail = length log })
    free).0 in let h = alone.0 in let t = alone.1 in omega arith
margins_fits (replaces place line ∷ changes) log some free =
    let alone =
    (leave_alone (replaces place line ∷ changes) log
    (record { head = length log; tail = length log })
    free).0 in let h = alone.0 in let t = alone.1 in omega arith
margins_fits (reseeds seed ∷ changes) log some free =
    let alone =
    (leave_alone (reseeds seed ∷ changes) log (record { head = length log; tail = length log })
    free).0 in
    let inner =
    (after_all_narrower (reseeds seed ∷ changes) log
    (record { head = length log; tail = length log })).tail in
    omega arith

-- the prefix and the end that edits leave alone fit into the log
pub margins_of_edits : (edits : List Edit) (log : List LineText) (margins : Margins)
    → 0 < length edits → fault_of_all (changes_of edits) (log_of log) 0 ≡ None
    → margins ≡ margins_of (changes_of edits) (log_of log)
    → margins.head + margins.tail ≤ length log
margins_of_edits edits log margins some free is_margins =
    let n = length-log_of log in
    let m = length-map edits change_of in
    let fits =
    margins_fits (changes_of edits) (log_of log) (omega arith)
    (IsFree-from_none (changes_of edits) (log_of log) 0 free) in
    rw is_margins (omega arith)
