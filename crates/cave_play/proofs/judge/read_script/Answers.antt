use Rattle.cave_play.proofs.SourceLemmas.{once}
use Rattle.std.proofs.Common.{subst, sym, ap, ◌∙◌}
use Rattle.std.proofs.lemmas.Result.{err_from_is_err_and}
use Rattle.replay_scripts.specs.Guards.{IsScriptBy, script_by}
use Rattle.replay_scripts.specs.Views.{items_of}
use Rattle.cave_play.specs.Stages.{script_stage}
use Rattle.cave_play.proofs.ScriptLemmas.{few_items}
use Rattle.cave_play.proofs.StageLemmas.{first_decided-one}
use Rattle.cave_play.proofs.JudgeLemmas.{IsFoundIn-script, script_fault-none, IsFoundIn-refused}
use Rattle.cave_play.proofs.judge.read_script.Goals as goal

pub returns-in_err-text : goal.returns-in_err-text
returns-in_err-text g c =
    let exit = err_from_is_err_and c.from_residual.result c.from_residual.ensures.1 in
    let (bytes, said, refused) = c.in_err-text.ensures.read in
    rw (exit.1, exit.2)
    (record {
      judged = (bytes, said, IsFoundIn-script c.args.guarded bytes _ refused);
      leads = once g.I.Sources.Reads _ _ _ c.in_err-text.ensures.reads;
    })

pub returns : goal.returns
returns g c =
    let (bytes, said, read) = c.in_ok-text.ensures.read in
    let items = c.in_ok-script.script.items in
    let same = c.deref.ensures.value ∙ read.0 in
    let guarded = c.args.guarded in
    let is = ap (script_by guarded) (sym same) ∙ c.in_ok-script.ensures.script in
    let grammar = c.in_ok-script.ensures.grammar in
    let spelled = subst (λ t. IsScriptBy guarded t (items_of items)) same grammar in
    record {
      judged = (
        bytes,
        said,
        (
          first_decided-one (script_stage guarded bytes)
              (script_fault-none guarded bytes _ read.1 is),
          (
            spelled,
            few_items guarded items _ bytes grammar same read.1,
            is,
            read.0,
          ),
        ),
      );
      leads = once g.I.Sources.Reads _ _ _ c.in_ok-text.ensures.reads;
    }

pub returns-in_err-script : goal.returns-in_err-script
returns-in_err-script g c =
    let exit =
    err_from_is_err_and c.from_residual-in_err-script.result
    c.from_residual-in_err-script.ensures.1 in
    let (bytes, said, read) = c.in_ok-text.ensures.read in
    rw (exit.1, exit.2)
    (record {
      judged = (
        bytes,
        said,
        IsFoundIn-refused c.args.guarded bytes _ _ read.1
            (c.deref.ensures.value ∙ read.0) c.in_err-script.ensures.script,
      );
      leads = once g.I.Sources.Reads _ _ _ c.in_ok-text.ensures.reads;
    })
