use Rattle.cave_play.proofs.SourceLemmas.{goes_on, said, some_bytes}
use Rattle.std.proofs.Common.{[], ◌∷◌, inl, length, refl, sym, ap, subst, ◌∙◌}
use Rattle.std.proofs.lemmas.Result.{err_from_is_err_and}
use Rattle.std.specs.List.{AllZip}
use Rattle.cave_play.specs.Sources.{Says, Held}
use Rattle.cave_play.specs.Logs.{IsMadeReport, first_stages}
use Rattle.cave_play.specs.Stages.{known_stage}
use Rattle.cave_play.proofs.LogLemmas.{AllSay-some, JudgesLogs-also, JudgesLogs-behind}
use Rattle.cave_play.proofs.StageLemmas.{IsFoundIn-first}
use Rattle.play_command.specs.declared.views.CoverView.TheVariants.{Known, Rules, Said}
use Rattle.check_tables.specs.Known.{known_entries}
use Rattle.play_cover.specs.Plays.{IsCovered}
use Rattle.play_cover.proofs.Telling.{covered-reported}
use Rattle.play_cover.proofs.run.make_cover.Goals as goal

pub returns-in_err-known : goal.returns-in_err-known
returns-in_err-known g c =
    let exit = err_from_is_err_and c.from_residual.result c.from_residual.ensures.1 in
    let held = g.I.Sources.held c.args.inputs.now in
    let (list, three, found) = c.in_err-known.ensures.judged in
    let (moves, last) = AllSay-some held.logs in
    let stages =
    first_stages (some_bytes held.cave) (some_bytes held.bindings) c.args.asked.now.seed in
    rw (exit.1, exit.2)
    (record {
      judged = (
        some_bytes held.cave,
        some_bytes held.bindings,
        list,
        moves,
        said held.cave,
        said held.bindings,
        three,
        last,
        inl (refl, IsFoundIn-first (known_stage list ∷ []) stages _ found),
      );
      all = tt;
      leads = c.in_err-known.ensures.leads;
    })

pub make_report-requires : goal.make_report-requires
make_report-requires g c =
    c.requires ∙ sym (ap (λ (held : Held). length held.logs) c.in_ok-known.ensures.taken.others)

pub make_report-requires-in-Rules : goal.make_report-requires-in-Rules
make_report-requires-in-Rules g c =
    c.requires ∙ sym (ap (λ (held : Held). length held.logs) c.in_ok-known.ensures.taken.others)

pub make_report-requires-in-Known : goal.make_report-requires-in-Known
make_report-requires-in-Known g c =
    c.requires ∙ sym (ap (λ (held : Held). length held.logs) c.in_ok-known.ensures.taken.others)

pub returns-in-Said : goal.returns-in-Said
returns-in-Said g c =
    let others = c.in_ok-known.ensures.taken.others in
    let (list, three, known) = c.in_ok-known.ensures.judged in
    let (database, bindings, moves, one, two, last, made) = c.make_report.ensures.judged in
    let asked = c.args.asked.now in
    let stages = first_stages database bindings asked.seed in
    let listed = known_entries asked.known.now list in
    let also =
    JudgesLogs-also stages moves _
    (IsMadeReport (IsCovered database bindings listed moves asked.seed asked.view)) _
    (λ whole. covered-reported database bindings moves asked.seed asked.view
    (Said c.in-Said.view) listed _ whole.found whole.text.items c.in-Said.is known.1) made in
    record {
      judged = (
        database,
        bindings,
        list,
        moves,
        subst (λ k. Says k database) (ap (λ (held : Held). held.cave) others) one,
        subst (λ k. Says k bindings) (ap (λ (held : Held). held.bindings) others) two,
        three,
        subst (λ k. AllZip Says k moves) (ap (λ (held : Held). held.logs) others) last,
        JudgesLogs-behind (known_stage list ∷ []) stages moves _ _ known.0 also,
      );
      all = c.make_report.ensures.all;
      leads = goes_on g.I.Sources.Reads _ _ _ c.in_ok-known.ensures.leads
          c.make_report.ensures.leads;
    }

pub returns-in-Rules : goal.returns-in-Rules
returns-in-Rules g c =
    let others = c.in_ok-known.ensures.taken.others in
    let (list, three, known) = c.in_ok-known.ensures.judged in
    let (database, bindings, moves, one, two, last, made) = c.make_report-in-Rules.ensures.judged in
    let asked = c.args.asked.now in
    let stages = first_stages database bindings asked.seed in
    let listed = known_entries asked.known.now list in
    let also =
    JudgesLogs-also stages moves _
    (IsMadeReport (IsCovered database bindings listed moves asked.seed asked.view)) _
    (λ whole. covered-reported database bindings moves asked.seed asked.view
    Rules listed _ whole.found whole.text.items c.in-Rules.is known.1) made in
    record {
      judged = (
        database,
        bindings,
        list,
        moves,
        subst (λ k. Says k database) (ap (λ (held : Held). held.cave) others) one,
        subst (λ k. Says k bindings) (ap (λ (held : Held). held.bindings) others) two,
        three,
        subst (λ k. AllZip Says k moves) (ap (λ (held : Held). held.logs) others) last,
        JudgesLogs-behind (known_stage list ∷ []) stages moves _ _ known.0 also,
      );
      all = c.make_report-in-Rules.ensures.all;
      leads = goes_on g.I.Sources.Reads _ _ _ c.in_ok-known.ensures.leads
          c.make_report-in-Rules.ensures.leads;
    }

pub returns-in-Known : goal.returns-in-Known
returns-in-Known g c =
    let others = c.in_ok-known.ensures.taken.others in
    let (list, three, known) = c.in_ok-known.ensures.judged in
    let (database, bindings, moves, one, two, last, made) = c.make_report-in-Known.ensures.judged in
    let asked = c.args.asked.now in
    let stages = first_stages database bindings asked.seed in
    let listed = known_entries asked.known.now list in
    let also =
    JudgesLogs-also stages moves _
    (IsMadeReport (IsCovered database bindings listed moves asked.seed asked.view)) _
    (λ whole. covered-reported database bindings moves asked.seed asked.view
    Known listed _ whole.found whole.text.items c.in-Known.is known.1) made in
    record {
      judged = (
        database,
        bindings,
        list,
        moves,
        subst (λ k. Says k database) (ap (λ (held : Held). held.cave) others) one,
        subst (λ k. Says k bindings) (ap (λ (held : Held). held.bindings) others) two,
        three,
        subst (λ k. AllZip Says k moves) (ap (λ (held : Held). held.logs) others) last,
        JudgesLogs-behind (known_stage list ∷ []) stages moves _ _ known.0 also,
      );
      all = c.make_report-in-Known.ensures.all;
      leads = goes_on g.I.Sources.Reads _ _ _ c.in_ok-known.ensures.leads
          c.make_report-in-Known.ensures.leads;
    }
