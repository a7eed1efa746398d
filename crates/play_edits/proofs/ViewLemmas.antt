-- What is written of items, by the view, and what is made of a log by the items of a script.
use Rattle.std.proofs.Common.{◌≡◌, ℕ, List, length, None, Ok, Option, Some, ap, sym, ◌∙◌}
use Rattle.std.proofs.Common.{refl, append-nil, option_map, Bool, [], ◌∷◌, ◌++◌}
use Rattle.std.specs.Str.Lines.{lines}
use Rattle.cave_data.specs.CaveView.{CaveView}
use Rattle.play_edits.specs.Views.{IsMadeOf, IsSideReportOf, refusals_of, seed_after, IsEditOf}
use Rattle.play_edits.specs.Views.{IsViewOf}
use Rattle.cave_replay.specs.Session.{SessionView}
use Rattle.cave_world.specs.declared.state.State.{State}
use Rattle.play_command.specs.Asked.{edit_view_of}
use Rattle.play_command.specs.declared.views.ReportView.{ReportView}
use Rattle.play_command.specs.declared.line.Editing.{Editing}
use Rattle.play_command.specs.declared.views.EditView.{EditView}
use Rattle.play_command.specs.declared.views.EditView.TheVariants.{Transcript, Play, Log, Reports}
use Rattle.play_command.specs.declared.views.EditView.TheVariants.{Steps, Score, FinalState, Table}
use Rattle.play_command.specs.declared.views.EditView.TheVariants.{Undo, Guarded, Walk}
use Rattle.play_edits.specs.Edits.{IsMade}
use Rattle.play_edits.specs.Ends.{EndsOfLog, printed_text}
use Rattle.play_edits.specs.ItemWatch.{text_of_item, view_text}
use Rattle.play_edits.specs.Undo.{undo_text}
use Rattle.play_edits.specs.declared.items.MadeEdit.{MadeEdit}
use Rattle.play_machine.specs.Machine.{Piece}
use Rattle.play_machine.specs.declared.machine.CaveMachine.{CaveMachine}
use Rattle.replay_checkpoints.specs.Spacing.{IsSpaced}
use Rattle.replay_edits.specs.Edit.{IsGame, Game}
use Rattle.replay_scripts.specs.Guards.{IsScriptBy, script_by}
use Rattle.replay_scripts.specs.Script.{Applied}
use Rattle.play_edits.proofs.GuardedLemmas.{guarded-whole, told-guarded}
use Rattle.play_edits.proofs.UndoLemmas.{undo-whole}
use Rattle.cave_replay.proofs.LogTextLemmas.{reads_back}
use Rattle.cave_replay.specs.LogText.{log_text}
use Rattle.play_edits.proofs.EditLemmas.{item_refusal-outcome, IsGame-after_all}
use Rattle.play_edits.specs.Accounts.{text_of_items}
use Rattle.play_edits.specs.Items.{game_after_item, game_after_items, item_report, reports}
use Rattle.play_edits.specs.Outcome.{AreOutcomes, ItemOutcome}
use Rattle.play_tables.specs.ItemRow.{item_head_row}
use Rattle.play_machine.specs.FinalState.{final_state_text, score_text}
use Rattle.play_machine.specs.Moments.{steps_text, walk_text}
use Rattle.play_machine.specs.Transcript.{play_text}

-- what is written of items for a transcript are their reports
told-reports : (cave : CaveView) (every : ℕ) (items : List Applied) (game : Game)
    (checkpoints : List ℕ) (outcomes : List ItemOutcome)
    → AreOutcomes cave every items game checkpoints outcomes
    → text_of_items (text_of_item (Some Transcript) cave) items game outcomes ≡ reports items game
unfolding item_report
told-reports cave every [] game checkpoints outcomes came = refl
told-reports cave every (item ∷ items) game checkpoints [] came = absurd came
told-reports cave every (item ∷ items) game checkpoints (outcome ∷ outcomes)
    (is, (after, left, others)) =
    rw (
      item_refusal-outcome cave every item game checkpoints outcome is,
      told-reports cave every items (game_after_item item game) after outcomes others,
    ) refl

-- and for a log, just a play or a state, nothing is written of them
pub told-nothing : (tell : Applied → Game → ItemOutcome → List ℕ)
    → ((item : Applied) (game : Game) (outcome : ItemOutcome) → tell item game outcome ≡ [])
    → (items : List Applied) (game : Game) (outcomes : List ItemOutcome)
    → text_of_items tell items game outcomes ≡ []
told-nothing tell none [] game outcomes = refl
told-nothing tell none (item ∷ items) game [] = refl
told-nothing tell none (item ∷ items) game (outcome ∷ outcomes) =
    rw (none item game outcome) (told-nothing tell none items (game_after_item item game) outcomes)

-- what is written of items, and then what is written after them, is what the view asks for
module _ (cave : CaveView) (every : ℕ) (items : List Applied) (game : Game) (guarded : Bool)
    (opened : List ℕ) (outcomes : List ItemOutcome)
    (came : AreOutcomes cave every items game opened outcomes) (good : IsGame game) where
  abbrev after : Game
  after = game_after_items items game

  nothing : (view : EditView)
      → ((item : Applied) (game : Game) (outcome : ItemOutcome)
      → text_of_item (Some view) cave item game outcome ≡ []) → (end : List ℕ)
      → text_of_items (text_of_item (Some view) cave) items game outcomes ++ end ≡ end
  nothing view none end =
      ap (λ t. t ++ end) (told-nothing (text_of_item (Some view) cave) none items game outcomes)

  pub told-whole : (view : EditView) (text : List ℕ)
      → text ≡ view_text (Some view) guarded cave items game outcomes
      → IsViewOf view cave game guarded items outcomes text
  told-whole Transcript text is =
      is
      ∙ ap (λ t. t ++ play_text cave after)
      (told-reports cave every items game opened outcomes came)
  told-whole Play text is = is ∙ nothing Play (λ _ _ _. refl) (play_text cave after)
  told-whole Steps text is = is ∙ nothing Steps (λ _ _ _. refl) (steps_text cave after)
  told-whole Walk text is = is ∙ nothing Walk (λ _ _ _. refl) (walk_text cave after)
  told-whole Score text is = is ∙ nothing Score (λ _ _ _. refl) (score_text cave after)
  told-whole FinalState text is =
      is ∙ nothing FinalState (λ _ _ _. refl) (final_state_text cave after)
  told-whole Log text is =
      let written = is ∙ nothing Log (λ _ _ _. refl) (log_text after.log) in
      record {
        written = written;
        reads_back = ap lines written
            ∙ reads_back after.log (IsGame-after_all items game good).lines;
      }
  told-whole Reports text is = is
  told-whole Table text is = is ∙ ap (λ t. item_head_row ++ t) (append-nil _)
  told-whole Guarded text is =
      guarded-whole items game text good
      (is ∙ append-nil _ ∙ told-guarded cave every items game opened outcomes came)
  told-whole Undo text is =
      undo-whole guarded items game text good
      (is ∙ nothing Undo (λ _ _ _. refl) (undo_text guarded items game))

-- a report has the ends that it was written with
pub report-printed : (report : Option ReportView) (ends : EndsOfLog) (text : List ℕ)
    → printed_text (option_map edit_view_of report) ends text ≡ text
report-printed None ends text = refl
report-printed (Some ReportView.Reports) ends text = refl
report-printed (Some ReportView.Table) ends text = refl

-- of the items of a script that were applied to what a session held
module _ (old : SessionView CaveMachine Piece State) (editing : Editing) (script : List ℕ)
    (items : List Applied) (spelled : IsScriptBy editing.guarded script items)
    (read : script_by editing.guarded script ≡ Ok items)
    (spaced : IsSpaced old.every old.checkpoints (length old.game.log)) (good : IsGame old.game)
    (report : Option ReportView) (ends : EndsOfLog) (made : MadeEdit)
    (is : IsMade editing report items old ends made)
  where
    abbrev cave : CaveView
    cave = old.machine.rules.cave.now

    text_made : (view : EditView) (text : List ℕ)
        → text ≡ view_text (Some view) editing.guarded cave items old.game is.outcomes
        → IsEditOf view cave old.every old.game editing.guarded script made.run.played text
    text_made view text told = record {
      items = items;
      spelled = spelled;
      checkpoints = old.checkpoints;
      spaced = spaced;
      outcomes = is.outcomes;
      came = is.came;
      played_is = is.played;
      written = told-whole cave old.every items old.game editing.guarded old.checkpoints
          is.outcomes is.came good view text told;
    }

    report_made : (beside : Option ReportView) (text : List ℕ)
        → text ≡ view_text (option_map edit_view_of beside) editing.guarded cave items old.game
        is.outcomes
        → IsSideReportOf beside cave old.every old.game editing.guarded script made.run.played text
    report_made None text told =
        told ∙ append-nil _
        ∙ told-nothing (text_of_item None cave) (λ _ _ _. refl) items old.game is.outcomes
    report_made (Some view) text told = text_made (edit_view_of view) text told

    pub log_made : IsMadeOf editing.view report cave old.every old.game editing.guarded script ends
        made
    unfolding text_made
    log_made = (
      record {
        text = view_text (Some editing.view) editing.guarded cave items old.game is.outcomes;
        edit = text_made editing.view _ refl;
        printed = is.text;
      },
      is.refused ∙ ap (refusals_of old.game) (sym read),
      report_made report made.run.report.items is.reported,
      is.seed ∙ ap (seed_after old.game) (sym read),
    )
