use Rattle.std.proofs.Common.{Some, refl, sym, ap, ◌∙◌, length}
use Rattle.std.specs.Prelude.{slice_get}
use Rattle.replay_scripts.specs.Views.{expectation_in}
use Rattle.play_edits.specs.Refusal.{expected_line, log_in}
use Rattle.play_edits.proofs.GuardLemmas.{line_meets}
use Rattle.play_edits.proofs.guards.other_line_now.Goals as goal

pub returns-then-is_line_of : goal.returns-then-is_line_of
returns-then-is_line_of c =
    let guard = expectation_in c.args.guard.now in
    let now = log_in c.args.draft.now in
    sym (line_meets guard (expected_line guard now) (length now) (slice_get now guard.place)
    (sym c.line-line.ensures ∙ c.if-is_line_of.ensures.0 refl ∙ ap Some c.deref.ensures))

pub other_line-requires : goal.other_line-requires
other_line-requires c =
    λ same. let yes = c.if-is_line_of.ensures.1 (same ∙ ap Some (sym c.deref.ensures)) in cc

pub returns : goal.returns
returns c =
    c.other_line.ensures
    ∙ rw (c.expected_line-expected.ensures, c.lines.ensures, c.line-line.ensures) refl
