use Rattle.cave_play.proofs.SourceLemmas.{stays, said, some_bytes}
use Rattle.std.proofs.Common.{ap, inl, inr, refl}
use Rattle.std.proofs.lemmas.Result.{err_from_is_err_and}
use Rattle.cave_play.specs.Stages.{large_seed, cave_stages}
use Rattle.cave_play.specs.Sources.{Held}
use Rattle.cave_play.proofs.StageLemmas.{Judges-after}
use Rattle.cave_play.proofs.logs.read_for_logs.Goals as goal

pub returns-in_err-check_seed : goal.returns-in_err-check_seed
returns-in_err-check_seed g c =
    let exit = err_from_is_err_and c.from_residual.result c.from_residual.ensures.1 in
    let held = g.I.Sources.held c.args.inputs.now in
    rw (exit.1, exit.2)
    (record {
      judged = (
        some_bytes held.cave,
        some_bytes held.bindings,
        said held.cave,
        said held.bindings,
        inl (inr c.in_err-check_seed.ensures),
      );
      logs = refl;
      leads = stays g.I.Sources.Reads _;
    })

pub returns : goal.returns
returns g c =
    let (database, bindings, one, two, read) = c.read_cave.ensures.judged in
    record {
      judged = (
        database,
        bindings,
        one,
        two,
        Judges-after (large_seed c.args.seed) (cave_stages database bindings) _ _
            c.in_ok-check_seed.ensures read,
      );
      logs = ap (λ (held : Held). held.logs) c.read_cave.ensures.others;
      leads = c.read_cave.ensures.leads;
    }
