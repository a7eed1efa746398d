-- What is known of a changed game before it is replayed.
use Rattle.std.proofs.Common.{◌≡◌, ℕ, ◌+◌, ◌-◌, ◌<◌, ◌≤◌, Bool, true, false, cond, ltb, List, []}
use Rattle.std.proofs.Common.{◌∷◌, length, refl, ap, ◌∙◌, arith, Option, Some, None}
use Rattle.std.specs.Prelude.{MatchOption}
use Rattle.std.specs.Option.{option_map}
use Rattle.replay_edits.specs.LineText.{LineText}
use Rattle.replay_checkpoints.specs.Spacing.{IsSpaced}
use Rattle.cave_replay.specs.declared.ready_edits.ReadyEdits.{ReadyEdits}
use Rattle.cave_replay.specs.Play.{MachineRules}
use Rattle.replay_edits.specs.Edit.{log_of, Game, game_of, IsGame, Change, log_after, margins_of}
use Rattle.cave_replay.specs.ReadyEdits.{new_game, IsReady, AreEditsOf}
use Rattle.replay_edits.specs.Faults.{fault_of, first_of_two, or_group_meter_full}
use Rattle.replay_edits.specs.Faults.{or_edit_meter_full, group_fault, edit_fault}
use Rattle.replay_edits.specs.declared.fault.EditFault.{EditFault}
use Rattle.replay_edits.specs.declared.fault.EditFault.TheVariants.{MeterFull}
use Rattle.replay_edits.specs.declared.fault.GroupFault.{GroupFault}
use Rattle.cave_replay.specs.Replay.{IsShift, Revision, HasMet, IsWithinBound}
use Rattle.cave_replay.specs.Report.{AreStepsBounded}
use Rattle.replay_edits.proofs.LogAfterLemmas.{stays_after_all}
use Rattle.replay_edits.proofs.Inverses.{IsFree-from_none, IsGame-apply_all, log-apply_all}
use Rattle.replay_edits.proofs.Lines.{length-log_of}
use Rattle.replay_edits.proofs.MarginLemmas.{leave_alone, seed_stays}
use Rattle.cave_replay.proofs.Revisions.{HasCheckpoints, HasEndAt}

-- the revision of a game by ready edits
abbrev pub revision_by : {S T : Type 0} → MachineRules S T → ℕ → List LineText → ReadyEdits
    → Revision S T
revision_by rules seed log ready = record {
  rules = rules;
  old = game_of seed (log_of log);
  new = new_game ready (log_of log);
  head = ready.head;
  tail = length log - ready.rest;
}

-- the checkpoints of the play of the game are those of the revision
pub checkpoints_of : {S T : Type 0} (rules : MachineRules S T) {seed : ℕ} {log : List LineText}
    {ready : ReadyEdits} {every : ℕ} {checkpoints : List ℕ} {lines : ℕ} → IsReady seed log ready
    → 0 < every → lines ≡ length (log_of log) → IsSpaced every checkpoints lines
    → HasCheckpoints (revision_by rules seed log ready) every checkpoints
checkpoints_of rules is_ready some lines spaced =
    record { some = some; shift = is_ready.shift; spacing = rw (← lines) spaced }

-- where the end that the edits leave alone begins
pub end_of : {S T : Type 0} (rules : MachineRules S T) {seed : ℕ} {log : List LineText}
    {ready : ReadyEdits} {place : ℕ} → IsReady seed log ready
    → place + (length log - ready.rest) ≡ ready.lines
    → HasEndAt (revision_by rules seed log ready) ready.rest place
end_of rules {log} is_ready new =
    let n = length-log_of log in
    let within = is_ready.within in
    record { old_is = omega arith; new_is = new ∙ is_ready.lines }

pub shift_of : {changes : List Change} {seed : ℕ} {log : List LineText} {ready : ReadyEdits}
    → AreEditsOf changes seed log ready
    → IsShift (game_of seed (log_of log)) (new_game ready (log_of log)) ready.head
    (length log - ready.rest)
shift_of {changes} {seed} {log} {ready} edits =
    let n = length-log_of log in
    let margins = margins_of changes (log_of log) in
    let ordered = edits.ordered in
    let head = edits.head in
    let tail = edits.tail in
    let alone =
    leave_alone changes (log_of log)
    (record { head = length (log_of log); tail = length (log_of log) })
    (IsFree-from_none changes (log_of log) 0 edits.accepted) in
    let stays = stays_after_all changes (log_of log) margins alone (omega arith) in
    let e : length log - ready.rest ≡ margins.tail = omega arith in
    let within = stays.within in
    let new = ap (λ (x : Game). x.log) edits.game
    ∙ log-apply_all changes (game_of seed (log_of log)) in
    rw (new, e, head) (record {
      within_old = omega arith;
      within_new = within;
      prefix = stays.prefix;
      rest = stays.rest;
      seed = λ prefix. ap (λ (x : Game). x.seed) edits.game
          ∙ seed_stays changes (game_of seed (log_of log)) margins alone prefix;
    })

pub good_of : {changes : List Change} {seed : ℕ} {log : List LineText} {ready : ReadyEdits}
    → AreEditsOf changes seed log ready → IsGame (game_of seed (log_of log))
    → IsGame (new_game ready (log_of log))
good_of {changes} {seed} {log} edits good =
    rw edits.game (IsGame-apply_all changes (game_of seed (log_of log)) good
    (IsFree-from_none changes (log_of log) 0 edits.accepted))

-- a meter that doesn't rise is within every bound
pub no_steps : {S T F : Type 0} (rules : MachineRules S T) (changes : List Change) (old : Game)
    (every : ℕ)
    (fault : Option F) (count : ℕ) → AreStepsBounded rules changes old every fault count count
no_steps rules changes old every None count =
    (omega arith, record { agreement = λ place agrees. omega arith; end = omega arith })
no_steps rules changes old every (Some fault) count = refl

-- the steps of a replay, by its changes
pub steps_within : {S T F : Type 0} (rules : MachineRules S T) {changes : List Change} {seed : ℕ}
    {log : List LineText} {ready : ReadyEdits} (every : ℕ) (fault : Option F) (before after : ℕ)
    → AreEditsOf changes seed log ready → fault ≡ None → before ≤ after
    → IsWithinBound (revision_by rules seed log ready) every (after - before)
    → AreStepsBounded rules changes (game_of seed (log_of log)) every fault before after
steps_within rules {changes} {log} {ready} every fault before after edits none risen bounded =
    let tail : length log - ready.rest ≡ (margins_of changes (log_of log)).tail =
    omega (arith, edits.tail) in
    rw none (risen, rw (← edits.game, ← edits.head, ← tail) bounded)

pub match_map : {X Y : Type 0} (f : X → Y) (o : Option X) (P : Type 0) (y : Y)
    → MatchOption o P (λ x. f x ≡ y) → MatchOption (option_map f o) P (λ z. z ≡ y)
match_map f None P y m = m
match_map f (Some x) P y m = m

pub met_at_end : {S T : Type 0} (revision : Revision S T) (checkpoints : List ℕ) (met : Option ℕ)
    (next end end' : ℕ) → end ≡ end'
    → HasMet revision checkpoints next end met → HasMet revision checkpoints next end' met
met_at_end revision checkpoints None next end end' same m =
    record { at_end = m.at_end ∙ same; unmet = m.unmet }
met_at_end revision checkpoints (Some index) next end end' same m = m

abbrev full_meter : GroupFault
full_meter = record { cause = MeterFull; at = 0 }

alone_full : {S T : Type 0} (rules : MachineRules S T) (changes : List Change) (old : Game)
    (every before after : ℕ) (b : Bool)
    → AreStepsBounded rules changes old every (cond b (Some full_meter) None) before after
    → AreStepsBounded rules changes old every (cond b (Some MeterFull) None) before after
alone_full rules changes old every before after true h = h
alone_full rules changes old every before after false h = h

class_alone : {S T : Type 0} (rules : MachineRules S T) (change : Change) (old : Game)
    (every left before after : ℕ) (fault : Option EditFault)
    → AreStepsBounded rules (change ∷ []) old every
    (or_group_meter_full (first_of_two fault 0 None) (log_after change old.log) left) before after
    → AreStepsBounded rules (change ∷ []) old every
    (or_edit_meter_full fault (log_after change old.log) left)
    before after
class_alone rules change old every left before after (Some fault) bounded = bounded
class_alone rules change old every left before after None bounded =
    alone_full rules (change ∷ []) old every before after
    (ltb left (length (log_after change old.log))) bounded

-- the steps of one change, as those of its group
pub bounded_alone : {S T : Type 0} (rules : MachineRules S T) (change : Change) (old : Game)
    (every left before after : ℕ)
    → AreStepsBounded rules (change ∷ []) old every (group_fault (change ∷ []) old.log left) before
    after
    → AreStepsBounded rules (change ∷ []) old every (edit_fault change old.log left) before after
bounded_alone rules change old every left before after bounded =
    class_alone rules change old every left before after (fault_of change old.log) bounded
