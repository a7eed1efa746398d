use Rattle.cave_play.proofs.SourceLemmas.{goes_on}
use Rattle.std.proofs.Common.{[], inl, refl, ap, subst, ◌∙◌}
use Rattle.std.proofs.lemmas.Result.{err_from_is_err_and}
use Rattle.std.specs.List.{AllZip}
use Rattle.cave_play.specs.Sources.{Says}
use Rattle.cave_play.specs.Stages.{large_seed, cave_stages, first_decided}
use Rattle.cave_play.specs.Logs.{IsMadeReport, IsReported, first_stages, games_of}
use Rattle.cave_play.proofs.LogLemmas.{AllSay-some, JudgesLogs-also, JudgesLogs-behind}
use Rattle.cave_play.proofs.StageLemmas.{neither}
use Rattle.cave_play.proofs.logs.make_report.Goals as goal

pub returns-in_err-read : goal.returns-in_err-read
returns-in_err-read g c =
    let exit = err_from_is_err_and c.from_residual.result c.from_residual.ensures.1 in
    let (database, bindings, one, two, refused) = c.in_err-read.ensures.judged in
    let (moves, last) = AllSay-some (g.I.Sources.held c.args.inputs.now).logs in
    rw (exit.1, exit.2)
    (record {
      judged = (database, bindings, moves, one, two, last, inl (refl, refused));
      all = tt;
      leads = c.in_err-read.ensures.leads;
    })

pub report_in_cave-made-requires-clause-fits : goal.report_in_cave-made-requires-clause-fits
report_in_cave-made-requires-clause-fits g c =
    let (database, bindings, one, two, read) = c.in_ok-read.ensures.judged in
    (neither (large_seed c.args.seed) (first_decided (cave_stages database bindings)) read.0).0

pub returns : goal.returns
returns g c =
    let (database, bindings, one, two, read) = c.in_ok-read.ensures.judged in
    let (moves, last, made) = c.report_in_cave-made.ensures.judged in
    let there = c.in_ok-read.read in
    let notes = g.N.PlayNotes in
    let view = c.args.view.now in
    let played = games_of c.args.seed moves in
    let same = ap (λ d. notes.report_on d there.cave view played) read.1.database_is in
    let also = ap (λ d. notes.found_on d there.cave view played) read.1.database_is in
    let reported =
    JudgesLogs-also [] moves _
    (IsMadeReport
    (IsReported notes.report_on notes.found_on database bindings moves c.args.seed view)) _
    (λ whole told. (there.cave, read.1.reads, (told.0 ∙ same, told.1 ∙ also))) made in
    record {
      judged = (
        database,
        bindings,
        moves,
        one,
        two,
        subst (λ known. AllZip Says known moves) c.in_ok-read.ensures.logs last,
        JudgesLogs-behind (first_stages database bindings c.args.seed) [] moves _ _ read.0 reported,
      );
      all = c.report_in_cave-made.ensures.all;
      leads = goes_on g.I.Sources.Reads _ _ _ c.in_ok-read.ensures.leads
          c.report_in_cave-made.ensures.leads;
    }
