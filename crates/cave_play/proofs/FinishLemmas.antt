-- What a run makes of what edits made, and what is judged of that.
use Rattle.std.proofs.Common.{◌≡◌, ℕ, Bool, List, length, Some, None, Ok, Err, ap, sym, ◌∙◌, refl}
use Rattle.std.proofs.Common.{[], ◌∷◌, subst, inl, inr, ◌++◌, Result, Option, option_map}
use Rattle.std.specs.Str.Lines.{lines}
use Rattle.cave_data.specs.CaveView.{CaveView}
use Rattle.play_command.specs.declared.views.EditView.{EditView}
use Rattle.play_command.specs.declared.line.Editing.{Editing}
use Rattle.play_command.specs.declared.views.ReportView.{ReportView}
use Rattle.play_edits.specs.Outcome.{ItemOutcome}
use Rattle.replay_edits.specs.Edit.{Game, game_of}
use Rattle.play_edits.specs.Ends.{EndsOfLog, log_ends, ends_after_items, printed_text}
use Rattle.replay_scripts.specs.Script.{Applied}
use Rattle.replay_scripts.specs.declared.fault.ScriptRefusal.{ScriptRefusal}
use Rattle.std.specs.Prelude.{option_and_then}
use Rattle.std.specs.Result.{result_ok}
use Rattle.cave_play.specs.Stages.{bytes_to_read, size_fault}
use Rattle.cave_play.specs.Stages.{first_decided, strict_stage, Stage, log_stage, script_stage}
use Rattle.cave_play.specs.Stages.{size_stage, Judges}
use Rattle.play_edits.specs.Views.{IsViewOf, IsMadeOf, IsSideReportOf}
use Rattle.cave_play.specs.declared.fault.PlayFault.{PlayFault}
use Rattle.cave_play.specs.declared.output.Reported.{Reported}
use Rattle.replay_scripts.specs.Guards.{script_by}
use Rattle.play_edits.specs.Edits.{ending_refusal}
use Rattle.cave_play.proofs.StageLemmas.{first_decided-one, IsFoundIn-first, IsFoundIn-later}
use Rattle.cave_play.proofs.StageLemmas.{first_decided-later}
use Rattle.cave_data.specs.Reads.{Reads}
use Rattle.cave_play.specs.Output.{FinishesEdit, IsEditRun, IsSideReport}
use Rattle.play_edits.specs.declared.items.EditRun.{EditRun}
use Rattle.play_edits.specs.declared.items.MadeEdit.{MadeEdit}
use Rattle.cave_play.proofs.ScriptLemmas.{script_by-spelled}
use Rattle.play_command.specs.declared.views.ReportView.TheVariants.{Reports, Table}

-- what is decided of items that are read
abbrev decided_of : (List Applied → Option PlayFault) → Result (List Applied) ScriptRefusal
    → Option PlayFault
decided_of decides read = option_and_then decides (result_ok read)

-- ---- items of a strict run

pub first_decided-strict : (strict : Bool) (game : Game) (guarded : Bool) (script : List ℕ)
    (items : List Applied) → script_by guarded script ≡ Ok items
    → ending_refusal strict items game ≡ None
    → first_decided (strict_stage strict game guarded script ∷ []) ≡ None
first_decided-strict strict game guarded script items spelled none =
    first_decided-one (strict_stage strict game guarded script)
    (ap (decided_of (λ items. option_map PlayFault.Refused (ending_refusal strict items game)))
    spelled
    ∙ ap (option_map PlayFault.Refused) none)

-- ---- the size of what is printed

size_read : (view : EditView) (ends : EndsOfLog) (text same output : List ℕ) → text ≡ same
    → output ≡ printed_text (Some view) ends text
    → size_fault view (length output) ≡ size_fault view (length (printed_text (Some view) ends same))
size_read view ends text same output text_is is =
    ap (λ t. size_fault view (length t)) (is ∙ ap (printed_text (Some view) ends) text_is)

-- what is printed has the size that is judged
size_printed : (view : EditView) (cave : CaveView) (game : Game) (guarded : Bool)
    (items : List Applied) (outcomes : List ItemOutcome) (ends : EndsOfLog) (text output : List ℕ)
    → IsViewOf view cave game guarded items outcomes text
    → output ≡ printed_text (Some view) (ends_after_items items game ends) text
    → size_fault view (length output)
    ≡ size_fault view (bytes_to_read view guarded items game ends)
size_printed EditView.Log cave game guarded items outcomes ends text output written is =
    size_read EditView.Log (ends_after_items items game ends) text _ output written.written is
size_printed EditView.Undo cave game guarded items outcomes ends text output written is =
    size_read EditView.Undo (ends_after_items items game ends) text _ output written.written is
size_printed EditView.Guarded cave game guarded items outcomes ends text output written is =
    size_read EditView.Guarded (ends_after_items items game ends) text _ output written.written is
size_printed EditView.Transcript cave game guarded items outcomes ends text output written is = refl
size_printed EditView.Play cave game guarded items outcomes ends text output written is = refl
size_printed EditView.Reports cave game guarded items outcomes ends text output written is = refl
size_printed EditView.Table cave game guarded items outcomes ends text output written is = refl
size_printed EditView.Steps cave game guarded items outcomes ends text output written is = refl
size_printed EditView.Walk cave game guarded items outcomes ends text output written is = refl
size_printed EditView.Score cave game guarded items outcomes ends text output written is = refl
size_printed EditView.FinalState cave game guarded items outcomes ends text output written is = refl

-- ---- what a run makes

-- a report beside a view is what the run that prints it alone prints
pub report_printed : (report : Option ReportView) (database bindings log script : List ℕ)
    (editing : Editing) (cave : CaveView) (played : ℕ) (text : List ℕ)
    → Reads database bindings cave
    → IsSideReportOf report cave editing.every (game_of editing.seed (lines log)) editing.guarded
    script played text
    → IsSideReport report database bindings log script editing played text
report_printed None database bindings log script editing cave played text reads is = is
report_printed (Some Reports) database bindings log script editing cave played text reads edit =
    (cave, reads, record { text = text; edit = edit; printed = refl })
report_printed (Some Table) database bindings log script editing cave played text reads edit =
    (cave, reads, record { text = text; edit = edit; printed = refl })

-- the stages of the log and of the script, and that of what is printed
abbrev pub of_edit : List ℕ → List ℕ → Editing → List Stage
of_edit log script editing =
    log_stage log ∷ script_stage editing.guarded script
    ∷ strict_stage editing.strict (game_of editing.seed (lines log)) editing.guarded script ∷ []

abbrev pub after_cave : List ℕ → List ℕ → Editing → List Stage
after_cave log script editing = of_edit log script editing ++ size_stage log script editing ∷ []

module _ (database bindings log script : List ℕ) (editing : Editing)
    (report : Option ReportView) (cave : CaveView) (reads : Reads database bindings cave) where
  -- what edits made in the cave
  abbrev IsRight : MadeEdit → Type 0
  IsRight made =
      IsMadeOf editing.view report cave editing.every (game_of editing.seed (lines log))
      editing.guarded script (log_ends log script) made

  -- and what the size of what is printed decides
  size_of : (made : MadeEdit) → IsRight made
      → size_fault editing.view (length made.text.items) ≡ (size_stage log script editing).decides
  size_of made (is, refused, side, seed) =
      size_printed editing.view cave (game_of editing.seed (lines log)) editing.guarded
      is.edit.items is.edit.outcomes (log_ends log script) is.text made.text.items is.edit.written
      is.printed
      ∙ ap (decided_of (λ items. size_fault editing.view (bytes_to_read editing.view editing.guarded
      items (game_of editing.seed (lines log)) (log_ends log script))))
      (sym (script_by-spelled editing.guarded script is.edit.items is.edit.spelled))

  -- what was made is what the run returns and prints
  IsEditRun-made : (made : MadeEdit) → IsRight made
      → IsEditRun database bindings log script editing report made.run made.text.items
  IsEditRun-made made (ended, refused, side, seed) = (
    (cave, reads, ended),
    refused,
    report_printed report database bindings log script editing cave made.run.played
        made.run.report.items reads side,
    seed,
  )

  pub Judges-finished : (made : Result MadeEdit PlayFault)
      (finished : Result (Reported EditRun) PlayFault)
      → Judges (of_edit log script editing) IsRight made
      → FinishesEdit editing.view made finished
      → Judges (after_cave log script editing)
      (λ whole. IsEditRun database bindings log script editing report whole.found whole.text.items)
      finished
  Judges-finished (Err found) finished judged is =
      subst (Judges (after_cave log script editing)
      (λ whole. IsEditRun database bindings log script editing report whole.found
      whole.text.items)) (sym is)
      (IsFoundIn-first (of_edit log script editing) (size_stage log script editing ∷ []) found
      judged)
  Judges-finished (Ok made) (Ok whole) (none, right) (same, small) = (
    first_decided-later (of_edit log script editing) (size_stage log script editing ∷ []) none
        ∙ first_decided-one (size_stage log script editing) (sym (size_of made right) ∙ small),
    subst (λ one. IsEditRun database bindings log script editing report one.found one.text.items)
        (sym same) (IsEditRun-made made right),
  )
  Judges-finished (Ok made) (Err found) (none, right) large =
      IsFoundIn-later (of_edit log script editing) (size_stage log script editing ∷ []) found none
      (inl (inr (sym (size_of made right) ∙ large)))
