use Rattle.std.proofs.Common.{◌≡◌, drop, map}
use Rattle.replay_edits.specs.Draft.{IsDraft, made_in}
use Rattle.replay_edits.specs.Edit.{changes_of, log_of}
use Rattle.replay_scripts.specs.Views.{expectation_in}
use Rattle.play_edits.specs.Refusal.{first_unmet}
use Rattle.play_edits.proofs.guards.first_unmet.Given as goal

-- the guards before are met
abbrev pub invariant-loop-guard : goal.invariant-loop-guard
invariant-loop-guard l = record {
  met : first_unmet (changes_of l.edits) (map expectation_in (drop l.guard-index l.guards))
      (log_of l.log.items)
      ≡ first_unmet (changes_of l.edits) (map expectation_in l.guards) (log_of l.log.items);
  draft : IsDraft l.free l.log.items (made_in l.draft) l.draft;
}
