use Rattle.cave_play.proofs.SourceLemmas.{goes_on, once, stays, same_script_after_log}
use Rattle.std.proofs.Common.{ap, ◌≡◌, ◌≤◌, ℕ, List, [], ◌∷◌, length, None, Ok, Err}
use Rattle.std.proofs.Common.{Option, subst, sym}
use Rattle.std.proofs.Common.{◌∙◌}
use Rattle.std.specs.Prelude.{⊤}
use Rattle.base_lines.specs.Limits.{MAX_INPUT_BYTES}
use Rattle.play_machine.specs.Machine.{HoldsGame}
use Rattle.cave_play.specs.Stages.{lines_fault, IsFoundIn, Judges, Stage, first_decided}
use Rattle.cave_play.specs.Stages.{judging_stage, log_stage, script_stage, strict_stage}
use Rattle.cave_play.specs.declared.fault.PlayFault.{PlayFault}
use Rattle.cave_play.proofs.JudgeLemmas.{IsFoundIn-log, IsFoundIn-opened, Judges-log}
use Rattle.cave_play.proofs.JudgeLemmas.{lines_fault-opened}
use Rattle.std.specs.Result.{result_from_control_flow}
use Rattle.std.specs.Str.Lines.{lines}
use Rattle.std.proofs.lemmas.Result.{err_from_is_err_and}
use Rattle.cave_data.specs.CaveView.{CaveView}
use Rattle.play_command.specs.declared.line.Editing.{Editing}
use Rattle.play_command.specs.declared.views.ReportView.{ReportView}
use Rattle.replay_edits.specs.Edit.{Game, IsGame, game_of}
use Rattle.play_edits.specs.Views.{IsMadeOf}
use Rattle.play_edits.specs.Ends.{log_ends}
use Rattle.play_edits.specs.declared.items.MadeEdit.{MadeEdit}
use Rattle.cave_play.specs.Sources.{next_log}
use Rattle.cave_play.proofs.InputLemmas.{Says-some}
use Rattle.cave_play.proofs.AcceptedLogs.{IsGame-accepted}
use Rattle.cave_play.proofs.StageLemmas.{IsFoundIn-first, IsFoundIn-memory, Judges-later}
use Rattle.cave_play.proofs.StageLemmas.{first_decided-alone, first_decided-one}
use Rattle.cave_play.proofs.run.edit_in_cave.Goals as goal

-- the stage of the items of the script
abbrev strict_of : Editing → List ℕ → List ℕ → Stage
strict_of editing moves edits =
    strict_stage editing.strict (game_of editing.seed (lines moves)) editing.guarded edits

-- what edits made is right for a cave, a distance of checkpoints, a game and the bytes of its log
abbrev right_in : Option ReportView → Editing → List ℕ → CaveView → ℕ → Game → List ℕ → MadeEdit
    → Type 0
right_in report editing edits cave every game log edited =
    IsMadeOf editing.view report cave every game editing.guarded edits (log_ends log edits) edited

-- a log that is judged by its lines
log_judged : {X : Type 0} (P : List (List ℕ) → X → Type 0) (moves text : List ℕ) (x : X)
    → text ≡ moves → length moves ≤ MAX_INPUT_BYTES
    → Judges (judging_stage (lines_fault (lines text)) ∷ []) (P (lines text)) (Ok x)
    → (first_decided (log_stage moves ∷ []) ≡ None) × P (lines moves) x
log_judged P moves text x same fits judged = Judges-log P moves text (Ok x) same fits judged

log_refused : (moves text : List ℕ) (found : PlayFault)
    → text ≡ moves → length moves ≤ MAX_INPUT_BYTES
    → IsFoundIn (judging_stage (lines_fault (lines text)) ∷ []) found
    → IsFoundIn (log_stage moves ∷ []) found
log_refused moves text found same fits refused =
    let P : List (List ℕ) → ℕ → Type 0 = λ log n. ⊤ in
    Judges-log P moves text (Err found) same fits refused

pub edit_session-made-requires-clause-game : goal.edit_session-made-requires-clause-game
edit_session-made-requires-clause-game g c =
    let (moves, said, read) = c.in_ok-bytes.ensures.read in
    let cave = c.new-machine.result.rules.cave.now in
    let text = lines c.deref.result.now in
    let is = c.branch-session.ensures ∙ ap result_from_control_flow c.in_ok-session.is in
    let none =
    lines_fault-opened c.args.editing.every text c.args.editing.seed _ _ c.requires.every_fits is
    c.open.ensures.faults in
    let opened : HoldsGame c.new-machine.result.rules.cave.now (game_of c.args.editing.seed text)
    c.in_ok-session.session = record {
      cave_is = ap (λ m. m.rules.cave.now) c.in_ok-session.ensures.kept.0;
      game_is = c.in_ok-session.ensures.game;
    } in
    let made =
    log_judged (λ log. HoldsGame cave (game_of c.args.editing.seed log)) moves c.deref.result.now
    c.in_ok-session.session (c.deref.ensures.value ∙ read.0) read.1
    (first_decided-one (judging_stage (lines_fault text)) none, opened) in
    let free = first_decided-alone (log_stage moves) made.0 in
    subst IsGame (sym made.1.game_is)
    (IsGame-accepted moves c.args.editing.seed free c.requires.seed_fits)

pub returns-in_err-lexicon : goal.returns-in_err-lexicon
returns-in_err-lexicon g c =
    let guarded = c.args.editing.guarded in
    let exit = err_from_is_err_and c.from_residual.result c.from_residual.ensures.1 in
    let (moves, said) = Says-some (next_log (g.I.Sources.held c.args.inputs.now).logs) in
    let (edits, others) = Says-some (g.I.Sources.held c.args.inputs.now).script in
    rw (exit.1, exit.2)
    (record {
      judged = (
        moves,
        edits,
        said,
        others,
        IsFoundIn-memory (log_stage moves ∷ script_stage guarded edits
            ∷ strict_of c.args.editing moves edits ∷ []),
      );
      leads = stays g.I.Sources.Reads _;
    })

pub returns-in_err-bytes : goal.returns-in_err-bytes
returns-in_err-bytes g c =
    let guarded = c.args.editing.guarded in
    let exit =
    err_from_is_err_and c.from_residual-in_err-bytes.result
    c.from_residual-in_err-bytes.ensures.1 in
    let (moves, said, refused) = c.in_err-bytes.ensures.read in
    let (edits, others) = Says-some (g.I.Sources.held c.args.inputs.now).script in
    rw (exit.1, exit.2)
    (record {
      judged = (
        moves,
        edits,
        said,
        others,
        IsFoundIn-first (log_stage moves ∷ [])
            (script_stage guarded edits ∷ strict_of c.args.editing moves edits ∷ []) _
            (IsFoundIn-log moves _ refused),
      );
      leads = once g.I.Sources.Reads _ _ _ c.in_err-bytes.ensures.reads;
    })

pub returns-in_err-session : goal.returns-in_err-session
returns-in_err-session g c =
    let guarded = c.args.editing.guarded in
    let exit =
    err_from_is_err_and c.from_residual-in_err-session.result
    c.from_residual-in_err-session.ensures.1 in
    let (moves, said, read) = c.in_ok-bytes.ensures.read in
    let (edits, others) = Says-some (g.I.Sources.held c.args.inputs.now).script in
    rw (exit.1, exit.2)
    (record {
      judged = (
        moves,
        edits,
        said,
        others,
        IsFoundIn-first (log_stage moves ∷ [])
            (script_stage guarded edits ∷ strict_of c.args.editing moves edits ∷ []) _
            (log_refused moves c.deref.result.now _ (c.deref.ensures.value ∙ read.0) read.1
            (IsFoundIn-opened c.args.editing.every (lines c.deref.result.now)
            c.args.editing.seed _ _ c.requires.seed_fits c.requires.every_fits
            (c.branch-session.ensures ∙ ap result_from_control_flow c.in_err-session.is)
            c.open.ensures.faults)),
      );
      leads = once g.I.Sources.Reads _ _ _ c.in_ok-bytes.ensures.reads;
    })

pub returns : goal.returns
returns g c =
    let guarded = c.args.editing.guarded in
    let (moves, said, read) = c.in_ok-bytes.ensures.read in
    let (edits, script, judges) = c.edit_session-made.ensures.judged in
    let others = same_script_after_log _ _ edits c.in_ok-bytes.ensures.taken script in
    let editing = c.args.editing in
    let cave = c.new-machine.result.rules.cave.now in
    let game = game_of editing.seed (lines moves) in
    let right = λ (cave : CaveView). right_in c.args.report editing edits cave editing.every game
    moves in
    let held = c.in_ok-session.session in
    let text = lines c.deref.result.now in
    let is = c.branch-session.ensures ∙ ap result_from_control_flow c.in_ok-session.is in
    let none =
    lines_fault-opened editing.every text editing.seed _ _ c.requires.every_fits is
    c.open.ensures.faults in
    let opened : HoldsGame c.new-machine.result.rules.cave.now (game_of c.args.editing.seed text)
    c.in_ok-session.session = record {
      cave_is = ap (λ m. m.rules.cave.now) c.in_ok-session.ensures.kept.0;
      game_is = c.in_ok-session.ensures.game;
    } in
    let made =
    log_judged (λ log. HoldsGame cave (game_of editing.seed log)) moves c.deref.result.now held
    (c.deref.ensures.value ∙ read.0) read.1
    (first_decided-one (judging_stage (lines_fault text)) none, opened) in
    let log = c.deref-2.result.now in
    let log_is = c.deref-2.ensures.value ∙ read.0 in
    let held_cave = held.machine.rules.cave.now in
    let held_right = right_in c.args.report editing edits held_cave held.every held.game log in
    let gives : (edited : MadeEdit) → held_right edited → right cave edited =
    λ edited is.
    rw (← made.1.game_is, ← log_is, ← c.in_ok-session.ensures.kept.1, ← made.1.cave_is) is in
    let strict = strict_of editing moves edits in
    let staged =
    subst (λ (game : Game). Judges (script_stage guarded edits
    ∷ strict_stage editing.strict game guarded edits ∷ []) held_right
    c.edit_session-made.result)
    made.1.game_is judges in
    let judged =
    Judges-later (log_stage moves ∷ []) (script_stage guarded edits ∷ strict ∷ []) held_right
    (right cave) _ made.0 gives staged in
    let here =
    λ (cave : CaveView). Judges (log_stage moves ∷ script_stage guarded edits ∷ strict ∷ [])
    (right cave)
    c.edit_session-made.result in
    record {
      judged = (moves, edits, said, others, subst here c.new-machine.ensures judged);
      leads = goes_on g.I.Sources.Reads _ _ _
          (once g.I.Sources.Reads _ _ _ c.in_ok-bytes.ensures.reads)
          c.edit_session-made.ensures.leads;
    }
