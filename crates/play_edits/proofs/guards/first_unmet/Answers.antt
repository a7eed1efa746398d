use Rattle.std.proofs.Common.{◌≤◌, take, sym, ◌∙◌, arith}
use Rattle.std.proofs.lemmas.List.{length-take-le}
use Rattle.replay_edits.specs.Edit.{changes_of, log_of}
use Rattle.replay_scripts.specs.Views.{expectation_in}
use Rattle.play_edits.proofs.GuardLemmas.{draft_own, first_unmet-here, first_unmet-more}
use Rattle.play_edits.proofs.GuardLemmas.{free_changes, log_reached, unmet-past, unmet-reached}
use Rattle.play_edits.proofs.GuardLemmas.{within_edits}
use Rattle.replay_edits.proofs.Lines.{length-log_of}
use Rattle.play_edits.proofs.guards.first_unmet.Goals as goal
use Rattle.play_edits.proofs.guards.first_unmet.Goals.{else-after-free}
use Rattle.play_edits.proofs.guards.first_unmet.Goals.{then-after-free+in_ok-move_to+in_default}

pub slice_bounds-free-end : goal.slice_bounds-free-end
slice_bounds-free-end c =
    let edits = c.args.edits.now in
    let kept = c.args.log.now.items in
    let counted =
    c.free_count.ensures (log_of kept) (length-log_of kept ∙ sym c.len.ensures.len) in
    sym (length-take-le c.free_count.result edits
    (within_edits edits (log_of c.args.log.now.items) c.free_count.result counted))

pub new-requires : goal.new-requires
new-requires c =
    let kept = c.args.log.now.items in
    let counted =
    c.free_count.ensures (log_of kept) (length-log_of kept ∙ sym c.len.ensures.len) in
    free_changes c.args.edits.now (log_of c.args.log.now.items) c.free_count.result counted

pub returns-in-Some : goal.returns-in-Some
returns-in-Some c =
    let edits = c.args.edits.now in
    let log = log_of c.args.log.now.items in
    let counted =
    c.free_count.ensures log (length-log_of c.args.log.now.items ∙ sym c.len.ensures.len) in
    let guard = expectation_in c.guard-item.result in
    let free = length-take-le c.free_count.result edits
    (within_edits edits log c.free_count.result counted) in
    let now = log_reached edits c.args.log.now.items c.free_count.result c.min-after.result
    c.move_to.new.draft c.in_ok-move_to.ensures in
    let reached : c.min-after.result ≤ c.free_count.result =
    omega (arith, c.if-after-free.true, free) in
    let is = unmet-reached edits log c.free_count.result counted guard c.min-after.result
    c.min-after.ensures reached _ now in
    let found = is ∙ sym c.other_line_now.ensures ∙ c.in-Some.is in
    sym (sym c.loop-guard.invariant.met
    ∙ first_unmet-here (changes_of edits) log c.args.guards.now c.loop-guard.guard-index
    c.guard-item.result c.in-Some.refused c.loop-guard-test.true c.guard-item.is found)

pub loop-guard-preserved : goal.loop-guard-preserved
loop-guard-preserved c =
    let edits = c.args.edits.now in
    let log = log_of c.args.log.now.items in
    let counted =
    c.free_count.ensures log (length-log_of c.args.log.now.items ∙ sym c.len.ensures.len) in
    let guard = expectation_in c.guard-item.result in
    let free = length-take-le c.free_count.result edits
    (within_edits edits log c.free_count.result counted) in
    let before = c.loop-guard.invariant in
    let more = first_unmet-more (changes_of edits) log c.args.guards.now
    c.loop-guard.guard-index c.guard-item.result c.loop-guard-test.true c.guard-item.is in
    elim c.if-after-free.branch [
      | then-after-free+in_ok-move_to+in_default w ↦
          let now = log_reached edits c.args.log.now.items c.free_count.result c.min-after.result
          w.move_to.new.draft w.in_ok-move_to.ensures in
          let reached : c.min-after.result ≤ c.free_count.result =
          omega (arith, w.if-after-free.true, free) in
          let is = unmet-reached edits log c.free_count.result counted guard c.min-after.result
          c.min-after.ensures reached _ now in
          record {
            met = more (is ∙ sym w.other_line_now.ensures ∙ w.in_default.is) ∙ before.met;
            draft = rw w.draft-is (draft_own (take c.free_count.result edits) c.args.log.now.items
                c.min-after.result w.move_to.new.draft w.in_ok-move_to.ensures);
          }
      | else-after-free w ↦
          record {
            met = more (unmet-past edits log c.free_count.result counted guard c.min-after.result
                c.min-after.ensures (omega (arith, w.if-after-free.false, free))) ∙ before.met;
            draft = rw w.draft-is before.draft;
          }
    ]
