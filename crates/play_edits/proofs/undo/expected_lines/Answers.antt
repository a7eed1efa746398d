use Rattle.std.proofs.Common.{◌≡◌, [], ◌∷◌, ◌++◌, take, refl, ap, ◌∙◌}
use Rattle.std.specs.Prelude.{option_map}
use Rattle.std.proofs.lemmas.List.{map-append}
use Rattle.replay_edits.specs.Draft.{edits_in, log_before, made_in}
use Rattle.replay_edits.specs.Edit.{change_of, changes_of, log_of}
use Rattle.replay_edits.specs.Faults.{log_after_all}
use Rattle.replay_edits.specs.LineText.{LineText}
use Rattle.play_edits.specs.Undo.{expected_at, lines_in}
use Rattle.play_edits.proofs.MetLemmas.{expected-more}
use Rattle.play_edits.proofs.undo.expected_lines.Goals as goal

pub loop-edit-preserved : goal.loop-edit-preserved
loop-edit-preserved c =
    let edits = c.args.edits.now in
    let log = log_of c.args.log.now.items in
    let at = c.loop-edit.edit-index in
    let edit = c.edit-item.result in
    let before = c.loop-edit.invariant in
    let draft = c.loop-edit.draft in
    let old = lines_in c.loop-edit.lines.items in
    let same_log : log_after_all (take (made_in draft) (changes_of (edits_in draft)))
    (log_of (log_before draft)) ≡ log_after_all (take at (changes_of edits)) log =
    rw (before.draft.made_is, before.draft.edits_are, before.draft.log_is) refl in
    let there = c.in_ok-expected_line.ensures ∙ ap (expected_at (change_of edit)) same_log in
    let grown = ap lines_in c.in_ok-push.ensures.items
    ∙ map-append (option_map (λ (line : LineText). line.items)) c.loop-edit.lines.items _
    ∙ ap (λ line. old ++ line ∷ []) there in
    record {
      expected = expected-more edits log at edit old _ _ c.loop-edit-test.true c.edit-item.is grown
          before.expected;
      draft = rw (before.draft.edits_are, before.draft.log_is, before.draft.made_is)
          at c.in_ok-make_next.ensures;
    }
