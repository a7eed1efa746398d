-- If all guards are met, a run is the same with blank lines in their place.
use Rattle.std.proofs.Common.{◌≡◌, ◌∙◌, ℕ, Bool, true, false, List, [], ◌∷◌, ◌++◌, All, Option}
use Rattle.std.proofs.Common.{Some, None, Ok, refl, sym, ap, ap₂, subst}
use Rattle.std.specs.Prelude.{◌↔◌}
use Rattle.std.proofs.lemmas.List.Elements.{All-cons, All-nil}
use Rattle.std.specs.Str.Lines.{lines}
use Rattle.cave_data.specs.CaveView.{CaveView}
use Rattle.cave_play.proofs.ScriptLemmas.{script_by-spelled}
use Rattle.cave_play.specs.Output.{IsSideReport, IsEdited}
use Rattle.play_edits.specs.Ends.{printed_text, ends_after_items, ends_by, log_ends, ends_in}
use Rattle.play_edits.specs.Ends.{is_unended}
use Rattle.play_edits.specs.Views.{IsEndedEdit, refusals_of, seed_after, IsEditOf, IsLogOf}
use Rattle.play_edits.specs.Views.{IsViewOf}
use Rattle.play_laws.specs.GuardLaws.{AreMet, HasNoGuard, NoGuardsNoOtherOutput}
use Rattle.play_laws.specs.GuardLaws.{NoGuardsNoOtherScript}
use Rattle.play_edits.specs.Edits.{ending_refusal}
use Rattle.play_command.specs.Asked.{edit_view_of}
use Rattle.play_command.specs.declared.views.ReportView.{ReportView}
use Rattle.play_command.specs.declared.views.ReportView.TheVariants.{Reports, Table}
use Rattle.play_command.specs.declared.line.Editing.{Editing}
use Rattle.play_command.specs.declared.views.EditView.{EditView}
use Rattle.play_edits.specs.Items.{game_after_items}
use Rattle.play_edits.specs.Outcome.{AreOutcomes, ItemOutcome}
use Rattle.play_machine.specs.FinalState.{final_state_text, score_text}
use Rattle.play_machine.specs.Moments.{steps_text, walk_text}
use Rattle.play_machine.specs.Transcript.{play_text}
use Rattle.replay_edits.specs.Edit.{Game, game_of}
use Rattle.replay_scripts.proofs.Grammar.{script_of-only}
use Rattle.replay_scripts.proofs.GuardedGrammar.{IsScriptBy-script_by}
use Rattle.replay_scripts.specs.Guards.{IsScriptBy, script_by, unguarded, unguarded_items}
use Rattle.replay_scripts.specs.Guards.{unguarded_line}
use Rattle.replay_scripts.specs.Line.{expected_in, number_after_word}
use Rattle.replay_scripts.specs.Script.{Applied, IsScript}
use Rattle.play_laws.proofs.MetItems.{GiveTheSame, give_the_same, outcomes_from, outcomes_to}
use Rattle.play_laws.proofs.MetItems.{turned}
use Rattle.play_laws.specs.GuardLaws.{IsBlanked, MetGuardsNoOtherRun, PrintsItSo}

-- ---- what is printed

view_by : (view : EditView) (cave : CaveView) (game : Game) (guarded : Bool)
    (one other : List Applied) (outcomes : List ItemOutcome) (text : List ℕ)
    → GiveTheSame cave game one other → IsViewOf view cave game guarded one outcomes text
    → IsViewOf view cave game guarded other outcomes text
view_by EditView.Transcript cave game guarded one other outcomes text same is =
    is ∙ ap₂ (λ told after. told ++ play_text cave after) same.reported same.games
view_by EditView.Play cave game guarded one other outcomes text same is =
    is ∙ ap (play_text cave) same.games
view_by EditView.Log cave game guarded one other outcomes text same is =
    subst (λ after. IsLogOf after text) same.games is
view_by EditView.Undo cave game guarded one other outcomes text same is = record {
  written = is.written ∙ same.undone guarded;
  backs = is.backs;
  spelled = is.spelled;
  accepted = ap (ending_refusal true is.backs) (sym same.games) ∙ is.accepted;
  back = ap (game_after_items is.backs) (sym same.games) ∙ is.back;
}
view_by EditView.Guarded cave game guarded one other outcomes text same is = record {
  written = is.written ∙ same.guarded;
  again = is.again;
  spelled = is.spelled;
  accepted = is.accepted;
  same = is.same ∙ same.games;
}
view_by EditView.Reports cave game guarded one other outcomes text same is =
    is ∙ same.accounted outcomes
view_by EditView.Table cave game guarded one other outcomes text same is = is ∙ same.listed outcomes
view_by EditView.Steps cave game guarded one other outcomes text same is =
    is ∙ ap (steps_text cave) same.games
view_by EditView.Walk cave game guarded one other outcomes text same is =
    is ∙ ap (walk_text cave) same.games
view_by EditView.Score cave game guarded one other outcomes text same is =
    is ∙ ap (score_text cave) same.games
view_by EditView.FinalState cave game guarded one other outcomes text same is =
    is ∙ ap (final_state_text cave) same.games

-- one script edits the log as another does
edit_by : (view : EditView) (cave : CaveView) (every : ℕ) (log script next output : List ℕ)
    (seed played : ℕ) (other : List Applied)
    → (is : IsEndedEdit view cave every log seed true script played output)
    → IsScriptBy true next other → ends_in script ≡ ends_in next
    → GiveTheSame cave (game_of seed (lines log)) is.edit.items other
    → AreOutcomes cave every other (game_of seed (lines log)) is.edit.checkpoints is.edit.outcomes
    → IsEndedEdit view cave every log seed true next played output
edit_by view cave every log script next output seed played other is spelled ends same came =
    let game = game_of seed (lines log) in
    let edit = is.edit in
    let made : IsEditOf view cave every game true next played is.text = record {
      items = other;
      spelled = spelled;
      checkpoints = edit.checkpoints;
      spaced = edit.spaced;
      outcomes = edit.outcomes;
      came = came;
      played_is = edit.played_is;
      written = view_by view cave game true edit.items other edit.outcomes is.text same
          edit.written;
    } in record {
      text = is.text;
      edit = made;
      printed = is.printed ∙ ap (λ ends. printed_text (Some view) ends is.text)
          (same.ended (log_ends log script)
          ∙ ap (λ some. ends_after_items other game (ends_by (ends_in log) (is_unended log) some))
          ends);
    }

-- ---- the script with blank lines

abbrev IsUnguarded : List ℕ → Type 0
IsUnguarded line = expected_in line ≡ None

no_guard_left : (line : List ℕ) (found : Option (ℕ × List ℕ)) → expected_in line ≡ found
    → IsUnguarded (unguarded_line found line)
unfolding expected_in number_after_word
no_guard_left line (Some expected) is = refl
no_guard_left line None is = is

none_left : (whole : List (List ℕ)) → All IsUnguarded (unguarded whole)
none_left [] = All-nil IsUnguarded
none_left (line ∷ whole) =
    All-cons IsUnguarded (unguarded_line (expected_in line) line) (unguarded whole)
    (no_guard_left line (expected_in line) refl) (none_left whole)

module _ (no_other_script : NoGuardsNoOtherScript) (script blanked : List ℕ) (items : List Applied)
    (blank : IsBlanked script blanked) (read : script_by true script ≡ Ok items) where
  unguarded_now : HasNoGuard blanked
  unguarded_now = subst (All IsUnguarded) (sym blank.lines_are) (none_left (lines script))

  spelled_now : IsScript 1 (lines blanked) (unguarded_items items)
  spelled_now =
      subst (λ all. IsScript 1 all (unguarded_items items)) (sym blank.lines_are)
      (IsScriptBy-script_by true script items read).1

  read_now : (guarded : Bool) → script_by guarded blanked ≡ Ok (unguarded_items items)
  read_now false = script_of-only blanked (unguarded_items items) spelled_now
  read_now true = no_other_script blanked unguarded_now
      ∙ script_of-only blanked (unguarded_items items) spelled_now

  module _ (view : EditView) (cave : CaveView) (every : ℕ) (log output : List ℕ) (seed played : ℕ)
      (met : AreMet items (game_of seed (lines log))) where
    same_now : GiveTheSame cave (game_of seed (lines log)) items (unguarded_items items)
    same_now = give_the_same cave items (game_of seed (lines log)) met

    to_blanked : IsEndedEdit view cave every log seed true script played output
        → IsEndedEdit view cave every log seed true blanked played output
    to_blanked is =
        let game = game_of seed (lines log) in
        let here : is.edit.items ≡ items =
        let found = script_by-spelled true script is.edit.items is.edit.spelled in cc in
        edit_by view cave every log script blanked output seed played (unguarded_items items) is
        (IsScriptBy-script_by true blanked (unguarded_items items) (read_now true))
        (sym blank.ends_are)
        (subst (λ some. GiveTheSame cave game some (unguarded_items items)) (sym here) same_now)
        (outcomes_to cave every items game is.edit.checkpoints is.edit.outcomes met
        (subst (λ some. AreOutcomes cave every some game is.edit.checkpoints is.edit.outcomes) here
        is.edit.came))

    from_blanked : IsEndedEdit view cave every log seed true blanked played output
        → IsEndedEdit view cave every log seed true script played output
    from_blanked is =
        let game = game_of seed (lines log) in
        let here : is.edit.items ≡ unguarded_items items =
        let found = script_by-spelled true blanked is.edit.items is.edit.spelled in
        let again = read_now true in
        cc in
        edit_by view cave every log blanked script output seed played items is
        (IsScriptBy-script_by true script items read) blank.ends_are
        (subst (λ some. GiveTheSame cave game some items) (sym here)
        (turned cave game items (unguarded_items items) same_now))
        (outcomes_from cave every items game is.edit.checkpoints is.edit.outcomes met
        (subst (λ some. AreOutcomes cave every some game is.edit.checkpoints is.edit.outcomes) here
        is.edit.came))

    ended_so : (guarded : Bool) → NoGuardsNoOtherOutput → PrintsItSo view guarded
        → IsEndedEdit view cave every log seed true script played output
        ↔ IsEndedEdit view cave every log seed guarded blanked played output
    ended_so true no_other free = (to_blanked, from_blanked)
    ended_so false no_other free =
        let plain = no_other view cave every log blanked output seed played free unguarded_now in
        (λ is. plain.0 (to_blanked is), λ is. from_blanked (plain.1 is))

    refusals_so : (guarded : Bool)
        → refusals_of (game_of seed (lines log)) (script_by true script)
        ≡ refusals_of (game_of seed (lines log)) (script_by guarded blanked)
    refusals_so guarded =
        ap (refusals_of (game_of seed (lines log))) read ∙ same_now.refused
        ∙ sym (ap (refusals_of (game_of seed (lines log))) (read_now guarded))

    seeds_so : (guarded : Bool) → seed_after (game_of seed (lines log)) (script_by true script)
        ≡ seed_after (game_of seed (lines log)) (script_by guarded blanked)
    seeds_so guarded =
        ap (seed_after (game_of seed (lines log))) read
        ∙ ap (λ (after : Game). after.seed) same_now.games
        ∙ sym (ap (seed_after (game_of seed (lines log))) (read_now guarded))

-- a report has no guards
report_free : (view : ReportView) (guarded : Bool) → PrintsItSo (edit_view_of view) guarded
report_free Reports true = tt
report_free Reports false = tt
report_free Table true = tt
report_free Table false = tt

module _ (no_other_script : NoGuardsNoOtherScript) (no_other : NoGuardsNoOtherOutput)
    (database bindings log script blanked : List ℕ) (editing : Editing) (guarded : Bool)
    (items : List Applied) (blank : IsBlanked script blanked)
    (read : script_by true script ≡ Ok items)
    (met : AreMet items (game_of editing.seed (lines log))) where
  edited_so : (view : EditView) (played : ℕ) (output : List ℕ) → PrintsItSo view guarded
      → IsEdited database bindings log script (record editing { view = view; guarded = true })
      played output
      ↔ IsEdited database bindings log blanked
      (record editing { view = view; guarded = guarded }) played output
  edited_so view played output free =
      let both = λ (cave : CaveView). ended_so no_other_script script blanked items blank read view
      cave editing.every log output editing.seed played met guarded no_other free in (
        λ (cave, reads, is). (cave, reads, (both cave).0 is),
        λ (cave, reads, is). (cave, reads, (both cave).1 is),
      )

  side_so : (report : Option ReportView) (played : ℕ) (text : List ℕ)
      → IsSideReport report database bindings log script (record editing { guarded = true }) played
      text
      ↔ IsSideReport report database bindings log blanked
      (record editing { guarded = guarded }) played text
  side_so None played text = (λ is. is, λ is. is)
  side_so (Some view) played text =
      edited_so (edit_view_of view) played text (report_free view guarded)

pub met_guards_no_other_run : NoGuardsNoOtherScript → NoGuardsNoOtherOutput → MetGuardsNoOtherRun
met_guards_no_other_run no_other_script no_other database bindings log script blanked editing
    guarded report run output items blank read met free =
    let edited = edited_so no_other_script no_other database bindings log script blanked editing
    guarded items blank read met editing.view run.played output free in
    let side = side_so no_other_script no_other database bindings log script blanked editing guarded
    items blank read met report run.played run.report.items in
    let refused = λ (cave : CaveView). refusals_so no_other_script script blanked items blank read
    editing.view cave editing.every log output editing.seed run.played met guarded in
    let seeds = λ (cave : CaveView). seeds_so no_other_script script blanked items blank read
    editing.view cave editing.every log output editing.seed run.played met guarded in (
      λ (is, refusals, told, seed).
          (edited.0 is, refusals ∙ refused is.0, side.0 told, seed ∙ seeds is.0),
      λ (is, refusals, told, seed).
          (edited.1 is, refusals ∙ sym (refused is.0), side.1 told, seed ∙ sym (seeds is.0)),
    )
