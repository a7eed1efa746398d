use Rattle.cave_play.proofs.SourceLemmas.{once, goes_on, AreHeld-by, same_said, some_bytes}
use Rattle.cave_play.proofs.SourceLemmas.{said, texts_by}
use Rattle.std.proofs.Common.{[], ◌∷◌, ◌∙◌, ap}
use Rattle.std.proofs.lemmas.Result.{err_from_is_err_and}
use Rattle.cave_play.specs.Sources.{Held, next_log}
use Rattle.cave_play.specs.Stages.{cave_stages, doubts_stages, known_stage}
use Rattle.cave_play.proofs.DoubtLemmas.{AreLeftIn-read}
use Rattle.cave_play.proofs.JudgeLemmas.{IsFoundIn-known, first_decided-known}
use Rattle.cave_play.proofs.StageLemmas.{IsFoundIn-first, IsFoundIn-later, IsFoundIn-memory}
use Rattle.cave_play.proofs.StageLemmas.{first_decided-later}
use Rattle.cave_play.proofs.run.make_doubts.Goals as goal

pub returns-in_err-read : goal.returns-in_err-read
returns-in_err-read g c =
    let exit = err_from_is_err_and c.from_residual.result c.from_residual.ensures.1 in
    let held = g.I.Sources.held c.args.inputs.now in
    let (database, bindings, one, two, found) = c.in_err-read.ensures.judged in
    let known = known_stage (some_bytes held.known) in
    rw (exit.1, exit.2)
    (record {
      judged = (
        texts_by held database bindings,
        AreHeld-by held database bindings one two,
        IsFoundIn-first (cave_stages database bindings) (known ∷ []) _ found,
      );
      leads = c.in_err-read.ensures.leads;
    })

pub returns-in_err-listed : goal.returns-in_err-listed
returns-in_err-listed g c =
    let exit =
    err_from_is_err_and c.from_residual-in_err-listed.result
    c.from_residual-in_err-listed.ensures.1 in
    let held = g.I.Sources.held c.args.inputs.now in
    let (database, bindings, one, two, read) = c.in_ok-read.ensures.judged in
    let (known, four, refused) = c.in_err-listed.ensures.read in
    rw (exit.1, exit.2)
    (record {
      judged = (
        record (texts_by held database bindings) { known = known },
        record {
          database = one;
          bindings = two;
          log = said (next_log held.logs);
          new_log = said held.new_log;
          script = said held.script;
          known = same_said _ _ known (ap (λ (h : Held). h.known) c.in_ok-read.ensures.others) four;
        },
        IsFoundIn-later (cave_stages database bindings) (known_stage known ∷ []) _ read.0
            (IsFoundIn-known known _ refused),
      );
      leads = goes_on g.I.Sources.Reads _ _ _ c.in_ok-read.ensures.leads
          (once g.I.Sources.Reads _ _ _ c.in_err-listed.ensures.reads);
    })

pub returns-in_err-found : goal.returns-in_err-found
returns-in_err-found g c =
    let exit =
    err_from_is_err_and c.from_residual-in_err-found.result
    c.from_residual-in_err-found.ensures.1 in
    let held = g.I.Sources.held c.args.inputs.now in
    let (database, bindings, one, two, read) = c.in_ok-read.ensures.judged in
    rw (exit.1, exit.2)
    (record {
      judged = (
        texts_by held database bindings,
        AreHeld-by held database bindings one two,
        IsFoundIn-memory (doubts_stages database bindings (some_bytes held.known)),
      );
      leads = goes_on g.I.Sources.Reads _ _ _ c.in_ok-read.ensures.leads
          (once g.I.Sources.Reads _ _ _ c.in_ok-listed.ensures.reads);
    })

pub returns : goal.returns
returns g c =
    let held = g.I.Sources.held c.args.inputs.now in
    let (database, bindings, one, two, read) = c.in_ok-read.ensures.judged in
    let (known, four, is) = c.in_ok-listed.ensures.read in
    let decided =
    first_decided-later (cave_stages database bindings) (known_stage known ∷ []) read.0
    ∙ first_decided-known known is.1 in
    record {
      judged = (
        record (texts_by held database bindings) { known = known },
        record {
          database = one;
          bindings = two;
          log = said (next_log held.logs);
          new_log = said held.new_log;
          script = said held.script;
          known = same_said _ _ known (ap (λ (h : Held). h.known) c.in_ok-read.ensures.others) four;
        },
        (
          decided,
          AreLeftIn-read c.args.files.now database bindings known _ c.in_ok-read.read
              c.in_ok-found.found read.1 is.0 c.in_ok-found.ensures.left,
        ),
      );
      leads = goes_on g.I.Sources.Reads _ _ _ c.in_ok-read.ensures.leads
          (once g.I.Sources.Reads _ _ _ c.in_ok-listed.ensures.reads);
    }
