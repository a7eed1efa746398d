use Rattle.std.proofs.Common.{◌≡◌, ℕ, ◌+◌, ◌-◌, ◌<◌, ◌≤◌, List, length, ap, ◌∙◌, refl, sym, arith}
use Rattle.std.proofs.Common.{Option, subst}
use Rattle.std.specs.Prelude.{vec_len, vec_capacity}
use Rattle.std.proofs.lemmas.List.{length-map}
use Rattle.replay_edits.specs.LineText.{LineText}
use Rattle.replay_edits.specs.declared.edit.Edit.{Edit}
use Rattle.replay_edits.specs.declared.fault.GroupFault.{GroupFault}
use Rattle.replay_edits.specs.declared.margins.Margins.{Margins}
use Rattle.replay_edits.specs.declared.outcome.EditOutcome.{EditOutcome}
use Rattle.replay_edits.specs.declared.plan.Plan.{Plan}
use Rattle.cave_replay.specs.declared.ready_edits.ReadyEdits.{ReadyEdits}
use Rattle.replay_edits.specs.Edit.{Game, log_of, game_of, IsGame, Change, change_of, changes_of}
use Rattle.replay_edits.specs.Edit.{apply_all, inverses_of}
use Rattle.replay_edits.specs.Outcome.{IsOutcome}
use Rattle.replay_edits.specs.Faults.{group_fault, log_after_all, IsPlan}
use Rattle.cave_replay.specs.ReadyEdits.{new_game, log_after_edits, MayMove, AreEditsOf, IsReady}
use Rattle.replay_edits.proofs.Inverses.{IsFree-from_none, log-apply_all, group_free, group_some}
use Rattle.replay_edits.proofs.Lines.{length-log_of}
use Rattle.cave_replay.proofs.ReadyLemmas.{shift_of, good_of}
use Rattle.replay_edits.proofs.MarginLemmas.{after_all_narrower, margins_fits}
use Rattle.cave_replay.proofs.ready_edits.prepare.Goals as goal

-- what is left alone at the end is within the log
tail_within : {changes : List Change} (log : List LineText) {fault : Option GroupFault}
    {plan : Plan}
    → IsPlan changes (log_of log) fault plan → plan.margins.tail ≤ length log
tail_within {changes} log planned =
    let n = length-log_of log in
    let all = length (log_of log) in
    let narrow =
    (after_all_narrower changes (log_of log) (record { head = all; tail = all })).tail in
    rw planned.margins (omega arith)

-- edits that were planned and whose outcome was found
edits_of : {changes : List Change} (log : List LineText) (seed left : ℕ) {plan : Plan}
    (ready : ReadyEdits)
    → IsPlan changes (log_of log) (group_fault changes (log_of log) left) plan
    → MayMove ready
    → new_game ready (log_of log) ≡ apply_all changes (game_of seed (log_of log))
    → changes_of ready.inverse.items ≡ inverses_of changes (game_of seed (log_of log))
    → ready.head ≡ plan.margins.head → ready.rest ≡ length log - plan.margins.tail
    → AreEditsOf changes seed log ready
edits_of {changes} log seed left {plan} ready planned moves game inverse head rest =
    let n = length-log_of log in
    let accepted = (group_free changes (log_of log) left planned.free).0 in
    let fits =
    margins_fits changes (log_of log) (group_some changes (log_of log) left planned.free)
    (IsFree-from_none changes (log_of log) 0 accepted) in
    let head_is = head ∙ ap (λ (s : Margins). s.head) planned.margins in
    let within = tail_within log planned in
    let whole : ready.rest + plan.margins.tail ≡ length log = omega arith in
    let behind = rw planned.margins at whole in
    record {
      accepted = accepted;
      moves = moves;
      game = game;
      inverse = inverse;
      ordered = omega arith;
      head = head_is;
      tail = behind;
    }

-- the log that they leave
log_is : {changes : List Change} (log : List LineText) (seed : ℕ) (ready : ReadyEdits)
    → AreEditsOf changes seed log ready
    → log_after_edits ready (log_of log) ≡ log_after_all changes (log_of log)
log_is {changes} log seed ready edits =
    ap (λ (x : Game). x.log) edits.game ∙ log-apply_all changes (game_of seed (log_of log))

-- such edits are ready
ready_of : {changes : List Change} (log : List LineText) (seed : ℕ) {fault : Option GroupFault}
    {plan : Plan} (ready : ReadyEdits) → IsPlan changes (log_of log) fault plan
    → AreEditsOf changes seed log ready → ready.lines ≡ plan.lines
    → IsGame (game_of seed (log_of log)) → IsReady seed log ready
ready_of log seed ready planned edits lines good = record {
  moves = edits.moves;
  lines = lines ∙ planned.lines ∙ ap length (sym (log_is log seed ready edits));
  ordered = edits.ordered;
  within = let tail = edits.tail in omega arith;
  shift = shift_of edits;
  good = good_of edits good;
}

-- and the meter has room for what they leave
fits_of : {changes : List Change} (log : List LineText) (seed left : ℕ) {plan : Plan}
    (ready : ReadyEdits)
    → IsPlan changes (log_of log) (group_fault changes (log_of log) left) plan
    → AreEditsOf changes seed log ready
    → length (log_after_edits ready (log_of log)) ≤ left
fits_of {changes} log seed left ready planned edits =
    rw (log_is log seed ready edits) (group_free changes (log_of log) left planned.free).1

some_edits : (edits : List Edit) → 0 < length (changes_of edits) → 0 < length edits
some_edits edits some = let n = length-map edits change_of in omega arith

-- an outcome, by the number of lines
outcome_at : (changes : List Change) (seed : ℕ) (log : List (List ℕ)) (head tail : ℕ)
    (outcome : EditOutcome) {count lines : ℕ} → count ≡ lines
    → IsOutcome changes seed log head (lines - tail) outcome
    → IsOutcome changes seed log head (count - tail) outcome
outcome_at changes seed log head tail outcome same made =
    subst (λ n. IsOutcome changes seed log head (n - tail) outcome) (sym same) made

pub overflow_sub-result : goal.overflow_sub-result
overflow_sub-result c =
    let log = c.args.log.now.items in
    let planned =
    c.in_ok-plan.ensures (log_of log) (length-log_of log ∙ sym c.len-lines.ensures.len) in
    omega (arith, tail_within c.args.log.now.items planned, c.len-lines.ensures.len)

pub find_outcome-requires : goal.find_outcome-requires
find_outcome-requires c =
    let log = log_of c.args.log.now.items in
    let changes = changes_of c.args.edits.now in
    let planned =
    c.in_ok-plan.ensures log (length-log_of c.args.log.now.items ∙ sym c.len-lines.ensures.len) in
    record {
      some = some_edits c.args.edits.now (group_some changes log c.args.left planned.free);
      free = (group_free changes log c.args.left planned.free).0;
      margins = planned.margins;
    }

pub returns-clause-none : goal.returns-clause-none
returns-clause-none c =
    let log = c.args.log.now.items in
    (c.in_ok-plan.ensures (log_of log) (length-log_of log ∙ sym c.len-lines.ensures.len)).free

pub returns-clause-edits : goal.returns-clause-edits
returns-clause-edits c =
    let log = c.args.log.now.items in
    let planned =
    c.in_ok-plan.ensures (log_of log) (length-log_of log ∙ sym c.len-lines.ensures.len) in
    let outcome = outcome_at (changes_of c.args.edits.now) c.args.seed (log_of c.args.log.now.items)
    c.in_ok-plan.plan.margins.head c.in_ok-plan.plan.margins.tail c.in_ok-outcome.outcome
    c.len-lines.ensures.len c.in_ok-outcome.ensures in
    let room : vec_len c.in_ok-outcome.outcome.lines ≤ vec_capacity c.in_ok-room.room =
    omega (arith, c.in_ok-room.ensures.exact, c.in_ok-room.ensures.capacity) in
    edits_of c.args.log.now.items c.args.seed c.args.left _ planned
    (record { rising = outcome.rising; empty = c.in_ok-room.ensures.items; room = room })
    outcome.game outcome.inverse refl
    (ap (λ n. n - c.in_ok-plan.plan.margins.tail) c.len-lines.ensures.len)

pub returns-clause-ready : goal.returns-clause-ready
returns-clause-ready c =
    let log = c.args.log.now.items in
    let planned =
    c.in_ok-plan.ensures (log_of log) (length-log_of log ∙ sym c.len-lines.ensures.len) in
    let outcome = outcome_at (changes_of c.args.edits.now) c.args.seed (log_of c.args.log.now.items)
    c.in_ok-plan.plan.margins.head c.in_ok-plan.plan.margins.tail c.in_ok-outcome.outcome
    c.len-lines.ensures.len c.in_ok-outcome.ensures in
    let room : vec_len c.in_ok-outcome.outcome.lines ≤ vec_capacity c.in_ok-room.room =
    omega (arith, c.in_ok-room.ensures.exact, c.in_ok-room.ensures.capacity) in
    ready_of c.args.log.now.items c.args.seed _ planned
    (edits_of c.args.log.now.items c.args.seed c.args.left _ planned
    (record { rising = outcome.rising; empty = c.in_ok-room.ensures.items; room = room })
    outcome.game outcome.inverse refl
    (ap (λ n. n - c.in_ok-plan.plan.margins.tail) c.len-lines.ensures.len))
    refl c.requires.game

pub returns-clause-room : goal.returns-clause-room
returns-clause-room c =
    let log = c.args.log.now.items in
    let planned =
    c.in_ok-plan.ensures (log_of log) (length-log_of log ∙ sym c.len-lines.ensures.len) in
    let outcome = outcome_at (changes_of c.args.edits.now) c.args.seed (log_of c.args.log.now.items)
    c.in_ok-plan.plan.margins.head c.in_ok-plan.plan.margins.tail c.in_ok-outcome.outcome
    c.len-lines.ensures.len c.in_ok-outcome.ensures in
    let room : vec_len c.in_ok-outcome.outcome.lines ≤ vec_capacity c.in_ok-room.room =
    omega (arith, c.in_ok-room.ensures.exact, c.in_ok-room.ensures.capacity) in
    let ready : ReadyEdits = record {
      seed = c.in_ok-outcome.outcome.seed;
      lines = c.in_ok-plan.plan.lines;
      head = c.in_ok-plan.plan.margins.head;
      rest = c.len-lines.result - c.in_ok-plan.plan.margins.tail;
      middle = c.in_ok-outcome.outcome.lines;
      room = c.in_ok-room.room;
      inverse = c.in_ok-outcome.outcome.inverse;
    } in
    fits_of c.args.log.now.items c.args.seed c.args.left ready planned
    (edits_of c.args.log.now.items c.args.seed c.args.left ready planned
    (record { rising = outcome.rising; empty = c.in_ok-room.ensures.items; room = room })
    outcome.game outcome.inverse refl
    (ap (λ n. n - c.in_ok-plan.plan.margins.tail) c.len-lines.ensures.len))
