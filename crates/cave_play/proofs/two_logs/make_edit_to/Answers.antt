use Rattle.cave_play.proofs.TwoLogLemmas.{leads_within}
use Rattle.cave_play.proofs.SourceLemmas.{goes_on, said, some_texts, texts_by}
use Rattle.std.proofs.Common.{ℕ, List, inl, inr, refl, rules, subst, sym, ◌∙◌}
use Rattle.std.proofs.lemmas.Result.{err_from_is_err_and}
use Rattle.cave_play.specs.Output.{IsMadeEdit, IsDifferenceOf, form_of}
use Rattle.cave_play.specs.Sources.{Says}
use Rattle.cave_play.specs.Stages.{Judges, edit_stages}
use Rattle.cave_play.proofs.two_logs.make_edit_to.Goals as goal

pub returns-in_err-compared : goal.returns-in_err-compared
returns-in_err-compared g c =
    let exit = err_from_is_err_and c.from_residual.result c.from_residual.ensures.1 in
    let held = g.I.Sources.held c.args.inputs.now in
    let (old, made, three, four, found) = c.in_err-compared.ensures.judged in
    rw (exit.1, exit.2)
    (record {
      judged = (
        record (some_texts held) { log = old; new_log = made },
        record {
          database = said held.cave;
          bindings = said held.bindings;
          log = three;
          new_log = four;
          script = said held.script;
          known = said held.known;
        },
        inl (_, refl, found),
      );
      leads = c.in_err-compared.ensures.leads;
    })

pub returns-clause-judged : goal.returns-clause-judged
returns-clause-judged g c =
    let held = g.I.Sources.held c.args.inputs.now in
    let (old, made, three, four, judged) = c.in_ok-compared.ensures.judged in
    let (kept, difference) = judged.1 in
    let (texts, are, edited) = c.make_edit.ensures.judged in
    let editing = c.args.editing in
    let report = c.args.report in
    let log_is = are.log ∙ kept in
    let script_is = are.script in
    let here =
    subst (λ (log : List ℕ). Judges
    (edit_stages texts.database texts.bindings log texts.script editing)
    (IsMadeEdit (record texts { log = log }) editing report) c.make_edit.result) log_is edited in (
      record (texts_by held texts.database texts.bindings) { log = old; new_log = made },
      record {
        database =
            subst (λ known. Says known texts.database) c.in_ok-compared.ensures.cave are.database;
        bindings =
            subst (λ known. Says known texts.bindings) c.in_ok-compared.ensures.bindings
            are.bindings;
        log = three;
        new_log = four;
        script = said held.script;
        known = said held.known;
      },
      inr (
        texts.script,
        subst (IsDifferenceOf (form_of editing) old made) (sym script_is) difference,
        here,
      ),
    )

pub returns-clause-leads : goal.returns-clause-leads
returns-clause-leads g c =
    let reads = g.I.Sources.Reads in
    let (name, made) = leads_within reads _ _ c.make_edit.ensures.leads in
    goes_on reads _ _ _ c.in_ok-compared.ensures.leads (search rules)
