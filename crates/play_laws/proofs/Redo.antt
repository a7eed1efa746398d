-- Edits that were taken back are done again.
use Rattle.std.proofs.Common.{◌≡◌, ℕ, Bool, true, false, List, [], refl, sym, ap, ap₂, Some, subst}
use Rattle.std.proofs.Common.{◌∙◌}
use Rattle.std.specs.Str.Lines.{lines}
use Rattle.cave_data.specs.CaveView.{CaveView}
use Rattle.play_laws.proofs.BytesLemmas.{by_lines, bytes_undone, ends_stay, lines_printed}
use Rattle.play_laws.proofs.BytesLemmas.{lines_undone, text_lines}
use Rattle.cave_play.proofs.ScriptLemmas.{same_items}
use Rattle.cave_play.proofs.AcceptedLogs.{IsGame-accepted}
use Rattle.play_laws.specs.Bytes.{EndsAlike}
use Rattle.play_edits.specs.Views.{IsEndedEdit, IsUndo}
use Rattle.play_edits.specs.Ends.{printed_text, with_line_ends, ends_in, first_end, is_unended}
use Rattle.play_edits.specs.Edits.{ending_refusal}
use Rattle.play_command.specs.declared.views.EditView.TheVariants as asked
use Rattle.play_edits.proofs.EndLemmas.{unended-closed}
use Rattle.play_edits.proofs.EditLemmas.{IsGame-after_all}
use Rattle.play_edits.specs.Items.{game_after_items}
use Rattle.play_edits.specs.declared.ends.LineEnd.{LineEnd}
use Rattle.play_edits.specs.declared.ends.LineEnd.TheVariants.{Feed}
use Rattle.replay_edits.specs.Edit.{Game, IsGame, game_of}
use Rattle.replay_scripts.specs.Guards.{IsScriptBy}
use Rattle.play_laws.specs.Redo.{RedoGivesTheEdits}

-- the ends of an edited log
edited_ends : (cave : CaveView) (every : ℕ) (log script edited : List ℕ) (seed played : ℕ)
    (guarded : Bool) → IsGame (game_of seed (lines log)) → EndsAlike log
    → IsEndedEdit asked.Log cave every log seed guarded script played edited
    → edited ≡ with_line_ends (first_end (first_end Feed (ends_in script)) (ends_in log))
    (is_unended log) [] (lines edited)
edited_ends cave every log script edited seed played guarded good (end, unended, alike) edit =
    let items = edit.edit.items in
    let game = game_of seed (lines log) in
    let usual = first_end (first_end Feed (ends_in script)) (ends_in log) in
    edit.printed
    ∙ ap (λ ends. printed_text (Some asked.Log) ends edit.text)
    (ends_stay end unended items game log script (lines log) (text_lines (lines log) good.lines)
    alike)
    ∙ ap (with_line_ends usual (is_unended log) [])
    (edit.edit.written.reads_back
    ∙ sym (lines_printed cave every log script edited seed played guarded good edit))

-- if no line feed ends such a text, none ended the log
still_unended : (usual : LineEnd) (unended : Bool) (edited : List ℕ) (text : List (List ℕ))
    → edited ≡ with_line_ends usual unended [] text → is_unended edited ≡ true → unended ≡ true
still_unended usual true edited text is unclosed = refl
still_unended usual false edited text is unclosed =
    let closed : false ≡ true = sym (ap is_unended is ∙ unended-closed usual text) ∙ unclosed in
    closed

pub redo_gives_the_edits : RedoGivesTheEdits
redo_gives_the_edits cave every log script edited undo back redo again seed next first second third
    fourth fifth guarded free fits edits taking seeds taken retaking redone =
    let game = game_of seed (lines log) in
    let good = IsGame-accepted log seed free fits in
    let items = edits.edit.items in
    let after = game_after_items items game in
    let there = game_of next (lines edited) in
    let now : there ≡ after = ap₂ game_of seeds
    (lines_printed cave every log script edited seed first guarded good edits) in
    let good_there : IsGame there = subst IsGame (sym now) (IsGame-after_all items game good) in
    let spells = same_items guarded script taking.edit.items items taking.edit.spelled
    edits.edit.spelled in
    let undone : IsUndo guarded items game taking.text =
    subst (λ some. IsUndo guarded some game taking.text) spells taking.edit.written in
    let backs = undone.backs in
    let spelled : IsScriptBy guarded undo backs =
    by_lines guarded taking.text undo backs
    (sym (lines_undone cave every log script undo seed second guarded good taking))
    undone.spelled in
    let taken_is = same_items guarded undo taken.edit.items backs taken.edit.spelled spelled in
    let retaken_is =
    same_items guarded undo retaking.edit.items backs retaking.edit.spelled spelled in
    let left : game_after_items taken.edit.items there ≡ game =
    ap₂ game_after_items taken_is now ∙ undone.back in
    let from : game_after_items retaking.edit.items there ≡ game =
    ap₂ game_after_items retaken_is now ∙ undone.back in
    let back_is : lines back ≡ lines log =
    lines_printed cave every edited undo back next third guarded good_there taken
    ∙ ap (λ (g : Game). g.log) left in
    let begun : game_of seed (lines back) ≡ game = ap (game_of seed) back_is in
    let redos = retaking.edit.written.backs in
    let respelled : IsScriptBy guarded redo redos =
    by_lines guarded retaking.text redo redos
    (sym (lines_undone cave every edited undo redo next fourth guarded good_there retaking))
    retaking.edit.written.spelled in
    let redone_is =
    same_items guarded redo redone.edit.items redos redone.edit.spelled respelled in
    let same : game_after_items redone.edit.items game ≡ after =
    ap₂ game_after_items redone_is (sym from) ∙ retaking.edit.written.back ∙ now in
    let printed : lines again ≡ (game_after_items redone.edit.items game).log =
    lines_printed cave every back redo again seed fifth guarded (subst IsGame (sym begun) good)
    redone
    ∙ ap (λ g. (game_after_items redone.edit.items g).log) begun in (
      back_is,
      record {
        accepted = ap₂ (ending_refusal true) redone_is (sym from)
            ∙ retaking.edit.written.accepted;
        same = same;
        lines_are = printed ∙ ap (λ (g : Game). g.log) same
            ∙ sym (lines_printed cave every log script edited seed first guarded good edits);
      },
      λ alike restored.
          let usual = first_end (first_end Feed (ends_in script)) (ends_in log) in
          let is = edited_ends cave every log script edited seed first guarded good alike edits in
          bytes_undone cave every edited undo back redo again next seed third fourth fifth guarded
          good_there (usual, is_unended log, is) taken retaking
          (sym (ap (λ (g : Game). g.seed) left))
          (λ unclosed. ap is_unended restored ∙ still_unended usual (is_unended log) edited
          (lines edited) is unclosed)
          redone,
    )
