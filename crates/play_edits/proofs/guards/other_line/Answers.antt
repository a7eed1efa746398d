use Rattle.std.proofs.Common.{◌≡◌, Some, sym, ap, ◌∙◌, option_map}
use Rattle.replay_scripts.specs.Views.{expectation_in}
use Rattle.play_edits.specs.Refusal.{other_line}
use Rattle.play_edits.proofs.GuardLemmas.{differs}
use Rattle.play_edits.proofs.guards.other_line.Goals as goal

pub returns-in-Some : goal.returns-in-Some
returns-in-Some c =
    let guard = expectation_in c.args.guard.now in
    let there = ap (option_map (λ line. line.now)) c.in-Some.is in
    let other : ¬ (Some c.in-Some.line.now ≡ Some c.args.guard.now.text.items) =
    λ same. c.requires (there ∙ same) in
    rw c.of.ensures
    (sym (differs guard c.args.expected c.args.lines c.in-Some.line.now other)
    ∙ ap (λ line. other_line guard c.args.expected c.args.lines line) (sym there))
