use Rattle.std.proofs.Common.{◌≡◌, [], ◌∷◌, None, ap, map, ◌∙◌, Some}
use Rattle.std.proofs.lemmas.Result.{IfOk-at_ok, MatchResult-at_ok, err_from_is_err_and}
use Rattle.replay_scripts.specs.Views.{applied_item, items_of}
use Rattle.play_edits.specs.Edits.{IsMade, ending_refusal}
use Rattle.play_edits.specs.Ends.{log_ends, shown_ends}
use Rattle.cave_play.specs.Stages.{script_stage, strict_stage}
use Rattle.play_edits.proofs.ViewLemmas.{log_made}
use Rattle.cave_play.proofs.StageLemmas.{IsFoundIn-first, IsFoundIn-memory, first_decided-later}
use Rattle.cave_play.proofs.FinishLemmas.{first_decided-strict}
use Rattle.cave_play.proofs.run.edit_session.Goals as goal

pub returns-in_err-read : goal.returns-in_err-read
returns-in_err-read g c =
    let guarded = c.args.editing.guarded in
    let exit = err_from_is_err_and c.from_residual.result c.from_residual.ensures.1 in
    let (edits, said, found) = c.in_err-read.ensures.judged in
    let strict =
    strict_stage c.args.editing.strict c.args.session.now.game guarded edits in
    rw (exit.1, exit.2)
    (record {
      judged = (
        edits,
        said,
        IsFoundIn-first (script_stage guarded edits ∷ []) (strict ∷ []) _ found,
      );
      leads = c.in_err-read.ensures.leads;
    })

pub returns-in_err-ends : goal.returns-in_err-ends
returns-in_err-ends g c =
    let guarded = c.args.editing.guarded in
    let exit =
    err_from_is_err_and c.from_residual-in_err-ends.result
    c.from_residual-in_err-ends.ensures.1 in
    let (edits, said, made) = c.in_ok-read.ensures.judged in
    let strict =
    strict_stage c.args.editing.strict c.args.session.now.game guarded edits in
    rw (exit.1, exit.2)
    (record {
      judged = (edits, said, IsFoundIn-memory (script_stage guarded edits ∷ strict ∷ []));
      leads = c.in_ok-read.ensures.leads;
    })

pub returns-in-Ok-clause-judged : goal.returns-in-Ok-clause-judged
returns-in-Ok-clause-judged g c =
    let editing = c.args.editing in
    let strict = editing.strict in
    let guarded = editing.guarded in
    let old = c.args.session.now in
    let made = c.in-Ok.made in
    let (edits, said, read) = c.in_ok-read.ensures.judged in
    let items = items_of c.in_ok-read.read.script.items in
    let all : map applied_item c.deref-2.result.now ≡ items =
    ap (map applied_item) c.deref-2.ensures.value in
    let opened : shown_ends c.in_ok-ends.ends ≡ log_ends c.args.log.now edits =
    c.in_ok-ends.ensures ∙ ap (log_ends c.args.log.now) (c.deref.ensures.value ∙ read.1.3) in
    let is : IsMade editing c.args.report items old (log_ends c.args.log.now edits) made =
    rw (← all, ← opened)
    (IfOk-at_ok (IsMade editing c.args.report (map applied_item c.deref-2.result.now) old
    (shown_ends c.in_ok-ends.ends)) c.in-Ok.is c.in_ok-made.ensures.made) in
    let refused = ending_refusal strict (map applied_item c.deref-2.result.now) old.game in
    let goes : ending_refusal strict items old.game ≡ None =
    rw (← all)
    (MatchResult-at_ok (λ _. refused ≡ None) (λ refusal. refused ≡ Some refusal) made c.in-Ok.is
    c.in_ok-made.ensures.refused) in
    let none =
    first_decided-later (script_stage guarded edits ∷ [])
    (strict_stage strict old.game guarded edits ∷ []) read.0
    ∙ first_decided-strict strict old.game guarded edits items read.1.2 goes in (
      edits,
      said,
      (
        none,
        log_made old editing edits items read.1.0 read.1.2 c.requires.spaced c.requires.game
            c.args.report (log_ends c.args.log.now edits) made is,
      ),
    )
