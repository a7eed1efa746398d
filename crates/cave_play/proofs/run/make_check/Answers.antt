use Rattle.std.proofs.lemmas.Result.{err_from_is_err_and}
use Rattle.cave_play.specs.Stages.{cave_stages}
use Rattle.cave_play.proofs.DoubtLemmas.{IsChecked-read}
use Rattle.cave_play.proofs.SourceLemmas.{AreHeld-by, texts_by}
use Rattle.cave_play.proofs.StageLemmas.{Judges-made}
use Rattle.cave_play.proofs.run.make_check.Goals as goal

pub returns-in_err-read : goal.returns-in_err-read
returns-in_err-read g c =
    let exit = err_from_is_err_and c.from_residual.result c.from_residual.ensures.1 in
    let held = g.I.Sources.held c.args.inputs.now in
    let (database, bindings, one, two, found) = c.in_err-read.ensures.judged in
    rw (exit.1, exit.2)
    (record {
      judged = (
        texts_by held database bindings,
        AreHeld-by held database bindings one two,
        found,
      );
      leads = c.in_err-read.ensures.leads;
    })

pub returns : goal.returns
returns g c =
    let held = g.I.Sources.held c.args.inputs.now in
    let (database, bindings, one, two, read) = c.in_ok-read.ensures.judged in
    record {
      judged = (
        texts_by held database bindings,
        AreHeld-by held database bindings one two,
        Judges-made (cave_stages database bindings) _ _ _ read.0
            (λ made told. IsChecked-read c.args.view database bindings made.text.items
            c.in_ok-read.read read.1 told)
            c.check_text-made.ensures.told,
      );
      leads = c.in_ok-read.ensures.leads;
    }
