-- If no line of a script is a guard, it is read alike whether or not lines may be guards; if all
-- guards are met, it edits alike.
use Rattle.std.proofs.Common.{◌≡◌, ℕ, ◌+◌, Bool, true, false, List, [], ◌∷◌, All, None, Option, Ok}
use Rattle.std.proofs.Common.{Err, sym, ap, subst, ◌∙◌, refl}
use Rattle.std.specs.Prelude.{Result}
use Rattle.std.specs.Str.Lines.{lines}
use Rattle.std.proofs.lemmas.List.Elements.{All-head, All-tail}
use Rattle.cave_data.specs.CaveView.{CaveView}
use Rattle.play_command.specs.declared.views.EditView.{EditView}
use Rattle.play_edits.specs.Items.{game_after_item, game_after_items}
use Rattle.play_edits.specs.Outcome.{ItemOutcome}
use Rattle.play_edits.proofs.GuardLemmas.{guards_refuse_alone}
use Rattle.replay_edits.specs.Edit.{Game, game_of}
use Rattle.replay_scripts.specs.Guards.{IsScriptBy, read_guarded_from, script_by, unguarded_items}
use Rattle.replay_scripts.specs.Guards.{unguarded_line, with_expected}
use Rattle.replay_scripts.specs.Line.{expected_in, kind_of_script_line}
use Rattle.replay_scripts.specs.Script.{Applied, Expectation, IsScript, ScriptReading, onward}
use Rattle.replay_scripts.specs.Script.{read_from, reading_after_line}
use Rattle.replay_scripts.specs.declared.fault.ScriptRefusal.{ScriptRefusal}
use Rattle.replay_scripts.proofs.GuardedGrammar.{IsScriptBy-script_by}
use Rattle.play_edits.specs.Views.{IsEndedEdit, IsEditOf, IsViewOf}
use Rattle.play_laws.specs.GuardLaws.{AreMet, MetGuardsNoOtherLog, NoGuardsNoOtherOutput}
use Rattle.play_laws.specs.GuardLaws.{NoGuardsNoOtherScript, PrintsNoGuards}
use Rattle.play_laws.proofs.BytesLemmas.{lines_printed}
use Rattle.cave_play.proofs.ScriptLemmas.{same_items, script_by-spelled}
use Rattle.cave_play.proofs.AcceptedLogs.{IsGame-accepted}

abbrev IsUnguarded : List ℕ → Type 0
IsUnguarded line = expected_in line ≡ None

onward-same : (first second : List Applied → Option Applied → List Expectation
    → Result (List Applied) ScriptRefusal) (reading : Result ScriptReading ScriptRefusal)
    → ((items : List Applied) (group : Option Applied) (guards : List Expectation)
    → first items group guards ≡ second items group guards)
    → onward reading first ≡ onward reading second
onward-same first second (Ok now) same = same now.items now.open_group now.guards
onward-same first second (Err fault) same = refl

read-same : (number : ℕ) (whole : List (List ℕ)) (items : List Applied) (group : Option Applied)
    (guards : List Expectation) → All IsUnguarded whole
    → read_guarded_from number whole items group guards ≡ read_from number whole items group guards
read-same number [] items group guards none = refl
read-same number (line ∷ rest) items group guards none =
    ap (λ expected. onward (reading_after_line number
    (kind_of_script_line (unguarded_line expected line)) items group
    (with_expected number expected group guards)) (read_guarded_from (number + 1) rest))
    (All-head IsUnguarded line rest none)
    ∙ onward-same (read_guarded_from (number + 1) rest) (read_from (number + 1) rest)
    (reading_after_line number (kind_of_script_line line) items group guards)
    (λ some open_group more.
    read-same (number + 1) rest some open_group more (All-tail IsUnguarded line rest none))

pub no_guards_no_other_script : NoGuardsNoOtherScript
no_guards_no_other_script script none = read-same 1 (lines script) [] None [] none

other_view : (view : EditView) (cave : CaveView) (game : Game) (first second : Bool)
    (items : List Applied) (outcomes : List ItemOutcome) (text : List ℕ) → PrintsNoGuards view
    → IsViewOf view cave game first items outcomes text
    → IsViewOf view cave game second items outcomes text
other_view EditView.Transcript cave game first second items outcomes text free is = is
other_view EditView.Play cave game first second items outcomes text free is = is
other_view EditView.Log cave game first second items outcomes text free is = is
other_view EditView.Undo cave game first second items outcomes text free is = absurd free
other_view EditView.Guarded cave game first second items outcomes text free is = is
other_view EditView.Reports cave game first second items outcomes text free is = is
other_view EditView.Table cave game first second items outcomes text free is = is
other_view EditView.Steps cave game first second items outcomes text free is = is
other_view EditView.Walk cave game first second items outcomes text free is = is
other_view EditView.Score cave game first second items outcomes text free is = is
other_view EditView.FinalState cave game first second items outcomes text free is = is

other_edit : (view : EditView) (cave : CaveView) (every : ℕ) (log script output : List ℕ)
    (seed played : ℕ) (first second : Bool) → PrintsNoGuards view
    → script_by first script ≡ script_by second script
    → IsEndedEdit view cave every log seed first script played output
    → IsEndedEdit view cave every log seed second script played output
other_edit view cave every log script output seed played first second free same is =
    let edit = is.edit in
    let other : IsEditOf view cave every (game_of seed (lines log)) second script played is.text =
    record {
      items = edit.items;
      spelled = IsScriptBy-script_by second script edit.items
          (sym same ∙ script_by-spelled first script edit.items edit.spelled);
      checkpoints = edit.checkpoints;
      spaced = edit.spaced;
      outcomes = edit.outcomes;
      came = edit.came;
      played_is = edit.played_is;
      written = other_view view cave (game_of seed (lines log)) first second edit.items
          edit.outcomes is.text free edit.written;
    } in
    record { text = is.text; edit = other; printed = is.printed }

pub no_guards_no_other_output : NoGuardsNoOtherOutput
no_guards_no_other_output view cave every log script output seed played free none =
    let same = no_guards_no_other_script script none in (
      other_edit view cave every log script output seed played true false free same,
      other_edit view cave every log script output seed played false true free (sym same),
    )

-- ---- guards that are met

met_alike : (items : List Applied) (game : Game) → AreMet items game
    → game_after_items items game ≡ game_after_items (unguarded_items items) game
met_alike [] game met = refl
met_alike (item ∷ items) game (here, later) =
    let same = (guards_refuse_alone item game).0 here in
    met_alike items (game_after_item item game) later
    ∙ ap (game_after_items (unguarded_items items)) same

pub met_guards_no_other_log : MetGuardsNoOtherLog
met_guards_no_other_log cave every log script blanked one other seed played again free fits blank
    edit met second =
    let game = game_of seed (lines log) in
    let good = IsGame-accepted log seed free fits in
    let spelled : IsScriptBy false blanked (unguarded_items edit.edit.items) =
    subst (λ found. IsScript 1 found (unguarded_items edit.edit.items)) (sym blank)
    edit.edit.spelled.1 in
    let same =
    same_items false blanked (unguarded_items edit.edit.items) second.edit.items spelled
    second.edit.spelled in
    lines_printed cave every log script one seed played true good edit
    ∙ ap (λ (g : Game). g.log)
    (met_alike edit.edit.items game met ∙ ap (λ items. game_after_items items game) same)
    ∙ sym (lines_printed cave every log blanked other seed again false good second)
