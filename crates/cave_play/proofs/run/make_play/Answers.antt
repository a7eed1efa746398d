use Rattle.cave_play.proofs.SourceLemmas.{goes_on, stays, AreHeld-by, AreHeld-some, same_said}
use Rattle.cave_play.proofs.SourceLemmas.{said, some_bytes, some_texts, texts_by}
use Rattle.std.proofs.Common.{[], ◌∷◌, ◌++◌, inl, inr, ap}
use Rattle.std.proofs.lemmas.Result.{err_from_is_err_and}
use Rattle.cave_play.specs.Stages.{large_seed, cave_stages, log_stage}
use Rattle.cave_play.specs.Sources.{Held, next_log}
use Rattle.cave_play.proofs.StageLemmas.{IsFoundIn-first, Judges-after, Judges-later}
use Rattle.cave_play.proofs.run.make_play.Goals as goal

pub returns-in_err-check_seed : goal.returns-in_err-check_seed
returns-in_err-check_seed g c =
    let exit = err_from_is_err_and c.from_residual.result c.from_residual.ensures.1 in
    let held = g.I.Sources.held c.args.inputs.now in
    rw (exit.1, exit.2)
    (record {
      judged = (
        some_texts held,
        AreHeld-some held,
        inl (inr c.in_err-check_seed.ensures),
      );
      leads = stays g.I.Sources.Reads _;
    })

pub returns-in_err-read : goal.returns-in_err-read
returns-in_err-read g c =
    let exit =
    err_from_is_err_and c.from_residual-in_err-read.result
    c.from_residual-in_err-read.ensures.1 in
    let held = g.I.Sources.held c.args.inputs.now in
    let (database, bindings, one, two, refused) = c.in_err-read.ensures.judged in
    let log = log_stage (some_bytes (next_log held.logs)) in
    rw (exit.1, exit.2)
    (record {
      judged = (
        texts_by held database bindings,
        AreHeld-by held database bindings one two,
        inr (
          c.in_ok-check_seed.ensures,
          IsFoundIn-first (cave_stages database bindings) (log ∷ []) _ refused,
        ),
      );
      leads = c.in_err-read.ensures.leads;
    })

pub returns : goal.returns
returns g c =
    let held = g.I.Sources.held c.args.inputs.now in
    let (database, bindings, one, two, read) = c.in_ok-read.ensures.judged in
    let (moves, three, played) = c.play_view_text-made.ensures.judged in
    let cave = cave_stages database bindings in
    let log = log_stage moves ∷ [] in
    record {
      judged = (
        record (texts_by held database bindings) { log = moves },
        record {
          database = one;
          bindings = two;
          log = same_said _ _ moves
              (ap (λ (h : Held). next_log h.logs) c.in_ok-read.ensures.others) three;
          new_log = said held.new_log;
          script = said held.script;
          known = said held.known;
        },
        Judges-after (large_seed c.args.seed) (cave ++ log) _ _ c.in_ok-check_seed.ensures
            (Judges-later cave log _ _ _ read.0
            (λ text is. (c.in_ok-read.read.cave, read.1.reads, is)) played),
      );
      leads = goes_on g.I.Sources.Reads _ _ _ c.in_ok-read.ensures.leads
          c.play_view_text-made.ensures.leads;
    }
