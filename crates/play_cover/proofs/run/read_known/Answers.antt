use Rattle.cave_play.proofs.SourceLemmas.{once}
use Rattle.std.proofs.Common.{[], ◌∷◌, ap, ◌∙◌}
use Rattle.std.proofs.lemmas.Result.{err_from_is_err_and}
use Rattle.cave_play.specs.Stages.{known_stage}
use Rattle.cave_play.proofs.JudgeLemmas.{IsFoundIn-known, first_decided-known}
use Rattle.cave_play.proofs.StageLemmas.{IsFoundIn-memory}
use Rattle.check_tables.specs.Known.{known_entries}
use Rattle.play_cover.proofs.run.read_known.Goals as goal

pub returns-in_err-list : goal.returns-in_err-list
returns-in_err-list g c =
    let exit = err_from_is_err_and c.from_residual.result c.from_residual.ensures.1 in
    let (list, said, refused) = c.in_err-list.ensures.read in
    rw (exit.1, exit.2)
    (record {
      judged = (list, said, IsFoundIn-known list _ refused);
      taken = c.in_err-list.ensures.taken;
      leads = once g.I.Sources.Reads _ _ _ c.in_err-list.ensures.reads;
    })

pub returns-in_err-known : goal.returns-in_err-known
returns-in_err-known g c =
    let exit =
    err_from_is_err_and c.from_residual-in_err-known.result
    c.from_residual-in_err-known.ensures.1 in
    let (list, said, is) = c.in_ok-list.ensures.read in
    rw (exit.1, exit.2)
    (record {
      judged = (list, said, IsFoundIn-memory (known_stage list ∷ []));
      taken = c.in_ok-list.ensures.taken;
      leads = once g.I.Sources.Reads _ _ _ c.in_ok-list.ensures.reads;
    })

pub returns : goal.returns
returns g c =
    let (list, said, is) = c.in_ok-list.ensures.read in
    record {
      judged = (
        list,
        said,
        (
          first_decided-known list is.1,
          c.in_ok-known.ensures
              ∙ ap (known_entries c.args.file.now) is.0,
        ),
      );
      taken = c.in_ok-list.ensures.taken;
      leads = once g.I.Sources.Reads _ _ _ c.in_ok-list.ensures.reads;
    }
