-- What runs make, and what a run writes about a cave, a play in it, edits of a log, or two logs.
use Rattle.std.specs.Prelude.{◌≡◌, ℕ, List, ◌++◌, codes, ◌⊎◌, Bool, true, ◌∷◌, Option, Result, Ok}
use Rattle.std.specs.Prelude.{Err, None, Some, [], length, MatchResult, false, option_map}
use Rattle.std.specs.Prelude.{if◌then◌else◌}
use Rattle.std.specs.Fmt.{decimal}
use Rattle.std.specs.Option.{option_map_or}
use Rattle.std.specs.Str.Lines.{lines}
use Rattle.cave_data.specs.CaveView.{CaveView}
use Rattle.cave_data.specs.Reads.{Reads}
use Rattle.check_tables.specs.Bindings.{bindings_text}
use Rattle.check_tables.specs.Known.{entry_lines, known_entries, unknown, unmet_text}
use Rattle.check_tables.specs.Names.{names_table}
use Rattle.check_tables.specs.Unused.{unused_table}
use Rattle.check_tables.specs.Words.{words_table}
use Rattle.play_command.specs.declared.views.CheckView.{CheckView}
use Rattle.play_command.specs.declared.views.EditView.{EditView}
use Rattle.play_command.specs.declared.line.Editing.{Editing}
use Rattle.play_command.specs.declared.line.Input.{Input}
use Rattle.play_command.specs.declared.views.PlayView.{PlayView}
use Rattle.play_command.specs.declared.views.ReportView.{ReportView}
use Rattle.cave_play.specs.declared.two_logs.Compared.{Compared}
use Rattle.cave_play.specs.declared.fault.PlayFault.{PlayFault}
use Rattle.cave_play.specs.declared.judge.ReadCave.{ReadCave}
use Rattle.cave_play.specs.declared.output.Reported.{Reported}
use Rattle.cave_play.specs.declared.two_logs.WithCompared.{WithCompared}
use Rattle.replay_edits.specs.Edit.{Game, game_of}
use Rattle.turn_ends.specs.Score.{max_score_of}
use Rattle.play_machine.specs.FinalState.{final_state_text, score_text}
use Rattle.play_machine.specs.Moments.{steps_text, walk_text}
use Rattle.play_machine.specs.Transcript.{play_text}
use Rattle.check_doubts.specs.Doubts.{doubts}
use Rattle.check_doubts.specs.Known.{doubt_entry}
use Rattle.check_doubts.specs.Listing.{doubts_text}
use Rattle.check_doubts.specs.declared.flaw.Doubt.{Doubt}
use Rattle.check_doubts.specs.declared.listing.DoubtFiles.{DoubtFiles}
use Rattle.cave_play.specs.Sources.{InputTexts, Held, Leads}
use Rattle.cave_play.specs.Stages.{IsFoundIn, Judges, Leaves, doubts_stages}
use Rattle.cave_play.specs.Stages.{size_fault, if_large, judging_stage, Stage, edit_stages}
use Rattle.cave_play.specs.Stages.{log_stage, reading_stage, log_fault}
use Rattle.play_command.specs.Asked.{edit_view_of}
use Rattle.play_edits.specs.Views.{IsEndedEdit, refusals_by, seed_by}
use Rattle.play_edits.specs.declared.items.EditRun.{EditRun}
use Rattle.play_edits.specs.declared.items.MadeEdit.{MadeEdit}
use Rattle.std.specs.Global.{Vec}
use Rattle.replay_difference.specs.ScriptTo.{IsScriptTo}
use Rattle.replay_difference.specs.declared.script.ScriptForm.{ScriptForm}

-- ---- what is checked

-- what is said about the cave of a database and its bindings, by the view
abbrev pub check_text : CheckView → CaveView → List ℕ → List ℕ → List ℕ
check_text CheckView.Maximum cave database bindings =
    codes "cave ok, maximum " ++ (decimal (max_score_of cave) ++ codes "\n")
check_text CheckView.Bindings cave database bindings = bindings_text cave
check_text CheckView.Names cave database bindings = names_table cave
check_text CheckView.Unused cave database bindings = unused_table cave
check_text CheckView.Words cave database bindings = words_table cave
check_text CheckView.Known cave database bindings =
    entry_lines doubt_entry [] (doubts cave database bindings)

-- the output of a check of a database that is a cave
abbrev pub IsChecked : CheckView → List ℕ → List ℕ → List ℕ → Type 0
IsChecked view database bindings output = (cave : CaveView) × Reads database bindings cave
    × (output ≡ check_text view cave database bindings)

-- ---- what is played

-- what the view asks for of a play
abbrev pub play_view_text : PlayView → CaveView → Game → List ℕ
play_view_text PlayView.Transcript cave game = play_text cave game
play_view_text PlayView.Steps cave game = steps_text cave game
play_view_text PlayView.Walk cave game = walk_text cave game
play_view_text PlayView.Score cave game = score_text cave game
play_view_text PlayView.FinalState cave game = final_state_text cave game

-- the output is what the view asks for of playing the log in the cave of the database and its
-- bindings
abbrev pub IsPlayed : List ℕ → List ℕ → List ℕ → ℕ → PlayView → List ℕ → Type 0
IsPlayed database bindings log seed view output =
    (cave : CaveView) × Reads database bindings cave
    × (output ≡ play_view_text view cave (game_of seed (lines log)))

-- a cave was read from these texts, which are kept
pub record IsReadOf (database bindings : List ℕ) (read : ReadCave) : Type 0 where
  pub database_is : read.database.items ≡ database
  pub bindings_are : read.bindings.items ≡ bindings
  pub reads : Reads database bindings read.cave

-- ---- doubts

-- a strict run fails with the first doubt that is left
abbrev pub first_doubt : Bool → List Doubt → Option PlayFault
first_doubt true (first ∷ others) = Some (PlayFault.Doubt first)
first_doubt _ _ = None

-- these are the doubts that the list doesn't know, and what is said: which lines of the list no
-- doubt says, and then these doubts
pub record AreLeft (files : DoubtFiles) (list : List ℕ) (all : List Doubt)
    (left : Reported (Vec Doubt)) : Type 0 where
  pub found : left.found.items ≡ unknown doubt_entry (known_entries files.known.now list) all
  pub text : left.text.items
      ≡ unmet_text (known_entries files.known.now list) (codes "no doubt says this")
      (entry_lines doubt_entry [] all) ++ doubts_text files left.found.items

-- the same for the doubts of the cave of a database and its bindings
abbrev pub AreLeftIn : DoubtFiles → List ℕ → List ℕ → List ℕ → Reported (Vec Doubt) → Type 0
AreLeftIn files database bindings known left = (cave : CaveView) × Reads database bindings cave
    × AreLeft files known (doubts cave database bindings) left

-- the doubts were listed, and the fault of a strict run ends it
abbrev pub by_doubts : Bool → Result (Vec Doubt) PlayFault → Result (Unit {0}) PlayFault
by_doubts strict (Ok left) = option_map_or Err (first_doubt strict left.items) (Ok tt)
by_doubts strict (Err found) = Err found

-- what the run leaves: the list, also if it then fails with a doubt
abbrev pub RunsDoubts : Bool → DoubtFiles → InputTexts → Option (List ℕ) → Option (List ℕ)
    → Result (Unit {0}) PlayFault → Type 0
RunsDoubts strict files texts old new ended =
    (listed : Result (Vec Doubt) PlayFault) × (ended ≡ by_doubts strict listed)
    × Leaves PlayFault.Write
    (Judges (doubts_stages texts.database texts.bindings texts.known)
    (AreLeftIn files texts.database texts.bindings texts.known)) old new listed

-- ---- what is edited

-- this many lines were played, and the output is what the view asked for, when the script edits the
-- log in the cave of the database and its bindings
abbrev pub IsEdited : List ℕ → List ℕ → List ℕ → List ℕ → Editing → ℕ → List ℕ → Type 0
IsEdited database bindings log script editing played output =
    (cave : CaveView) × Reads database bindings cave
    × IsEndedEdit editing.view cave editing.every log editing.seed editing.guarded script played
    output

-- the report is what the edit prints if it prints that alone, with as many lines played
abbrev pub IsSideReport : Option ReportView → List ℕ → List ℕ → List ℕ → List ℕ → Editing → ℕ
    → List ℕ → Type 0
IsSideReport None database bindings log script editing played text = text ≡ []
IsSideReport (Some view) database bindings log script editing played text =
    IsEdited database bindings log script (record editing { view = edit_view_of view }) played text

-- the output is that of the edit, and what is returned says which items are refused, has the report,
-- if one is asked for, and the seed that is left
abbrev pub IsEditRun : List ℕ → List ℕ → List ℕ → List ℕ → Editing → Option ReportView → EditRun
    → List ℕ → Type 0
IsEditRun database bindings log script editing report run output =
    IsEdited database bindings log script editing run.played output
    × (run.refused.items ≡ refusals_by editing.guarded script (game_of editing.seed (lines log)))
    × IsSideReport report database bindings log script editing run.played run.report.items
    × (run.seed ≡ seed_by editing.guarded script (game_of editing.seed (lines log)))

-- what a run of edits over these texts makes
abbrev pub IsMadeEdit : InputTexts → Editing → Option ReportView → Reported EditRun → Type 0
IsMadeEdit texts editing report made =
    IsEditRun texts.database texts.bindings texts.log texts.script editing report made.found
    made.text.items

-- the run makes what edits made, unless the text is too large, or edits made nothing
abbrev pub FinishesEdit : EditView → Result MadeEdit PlayFault
    → Result (Reported EditRun) PlayFault → Type 0
FinishesEdit view (Err found) finished = finished ≡ Err found
FinishesEdit view (Ok made) finished = MatchResult finished
    (λ whole. (whole ≡ record { text = made.text; found = made.run })
    × (size_fault view (length made.text.items) ≡ None))
    (λ found. size_fault view (length made.text.items) ≡ Some found)

-- ---- two logs

-- the fault of the log that edits are to make
abbrev pub new_log_fault : PlayFault → PlayFault
new_log_fault (PlayFault.Log refused) = PlayFault.NewLog refused
new_log_fault found = found

abbrev pub new_log_stage : List ℕ → Stage
new_log_stage log = reading_stage Input.NewLog (option_map new_log_fault (log_fault log))

-- the old log is read and judged, and then the new one
abbrev pub two_logs_stages : List ℕ → List ℕ → List Stage
two_logs_stages old new = log_stage old ∷ new_log_stage new ∷ []

-- the script makes the new log of the old one, and has nothing if they have the same lines
abbrev pub IsDifferenceOf : ScriptForm → List ℕ → List ℕ → List ℕ → Type 0
IsDifferenceOf form old new script =
    IsScriptTo form script (lines old) (lines new) × (lines old ≡ lines new → script ≡ [])

-- the size of the script is judged last, since a run has to be able to read it
abbrev pub script_size_stage : List ℕ → Stage
script_size_stage script = judging_stage (if_large PlayFault.LargeScript (length script))

-- one of two logs is refused
abbrev pub AreRefused : {A : Type 0} → InputTexts → Result A PlayFault → Type 0
AreRefused texts made = (found : PlayFault) × (made ≡ Err found)
    × IsFoundIn (two_logs_stages texts.log texts.new_log) found

-- the script that is made of two logs
abbrev pub JudgesScript : ScriptForm → InputTexts → Result (Reported (Unit {0})) PlayFault → Type 0
JudgesScript form texts made = AreRefused texts made
    ⊎ ((script : List ℕ) × IsDifferenceOf form texts.log texts.new_log script
    × Judges (two_logs_stages texts.log texts.new_log ++ script_size_stage script ∷ [])
    (λ whole. whole.text.items ≡ script) made)

-- what a run leaves that writes it
abbrev pub RunsScript : ScriptForm → InputTexts → Option (List ℕ) → Option (List ℕ)
    → Result (Unit {0}) PlayFault → Type 0
RunsScript form texts old new ended = Leaves PlayFault.Write (JudgesScript form texts) old new ended

-- the script of the old log, which is kept
abbrev pub IsCompared : ScriptForm → List ℕ → List ℕ → Compared → Type 0
IsCompared form old new compared =
    (compared.log.items ≡ old) × IsDifferenceOf form old new compared.script.items

-- how the edits are written that a run makes one after another
abbrev pub form_of : Editing → ScriptForm
form_of editing = record { guarded = editing.guarded; grouped = false }

-- a log that was read, unless it was asked for, and its script, in the place of those that a run
-- has
abbrev pub with_compared : {I : Type 0} → (I → Held) → WithCompared I → Held
with_compared held with = record (held with.inputs.now) {
  logs = if with.is_read then [] else Some with.compared.now.log.items ∷ [];
  script = Some with.compared.now.script.items;
}

-- reading makes of the other inputs what it makes of them by themselves
abbrev pub ReadsWith : {I : Type 0} → (Input → I → I → Type 0) → Input → WithCompared I
    → WithCompared I → Type 0
ReadsWith reads from old new =
    (new.inputs.ghost_name ≡ old.inputs.ghost_name) × Leads reads old.inputs.now new.inputs.now

-- what is made of a log so that it becomes another: what the script makes of it that makes the new
-- log of the old one; or one of the logs is refused
abbrev pub JudgesEditTo : InputTexts → Editing → Option ReportView
    → Result (Reported EditRun) PlayFault → Type 0
JudgesEditTo texts editing report made = AreRefused texts made
    ⊎ ((script : List ℕ) × IsDifferenceOf (form_of editing) texts.log texts.new_log script
    × Judges (edit_stages texts.database texts.bindings texts.log script editing)
    (IsMadeEdit (record texts { script = script }) editing report) made)

-- what a run leaves that writes that
abbrev pub RunsEditTo : InputTexts → Editing → Option ReportView → Option (List ℕ) → Option (List ℕ)
    → Result EditRun PlayFault → Type 0
RunsEditTo texts editing report old new ended =
    Leaves PlayFault.Write (JudgesEditTo texts editing report) old new ended
