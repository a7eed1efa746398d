use Rattle.cave_play.proofs.SourceLemmas.{goes_on, stays, AreHeld-by, AreHeld-some, same_said}
use Rattle.cave_play.proofs.SourceLemmas.{said, some_texts, texts_by}
use Rattle.std.proofs.Common.{◌∷◌, ◌++◌, inl, inr, ap}
use Rattle.std.proofs.lemmas.Result.{err_from_is_err_and}
use Rattle.cave_play.specs.Stages.{every_fault, large_seed, cave_stages, judging_stage}
use Rattle.cave_play.proofs.FinishLemmas.{Judges-finished, after_cave}
use Rattle.cave_play.specs.Sources.{Held, next_log}
use Rattle.cave_play.proofs.StageLemmas.{IsFoundIn-first, Judges-after, Judges-later}
use Rattle.cave_play.proofs.run.make_edit.Goals as goal

pub returns-in_err-check_seed : goal.returns-in_err-check_seed
returns-in_err-check_seed g c =
    let exit = err_from_is_err_and c.from_residual.result c.from_residual.ensures.1 in
    let held = g.I.Sources.held c.args.inputs.now in
    rw (exit.1, exit.2)
    (record {
      judged = (
        some_texts held,
        AreHeld-some held,
        inl (inr c.in_err-check_seed.ensures),
      );
      leads = stays g.I.Sources.Reads _;
    })

pub returns-in_err-check_every : goal.returns-in_err-check_every
returns-in_err-check_every g c =
    let exit =
    err_from_is_err_and c.from_residual-in_err-check_every.result
    c.from_residual-in_err-check_every.ensures.1 in
    let held = g.I.Sources.held c.args.inputs.now in
    rw (exit.1, exit.2)
    (record {
      judged = (
        some_texts held,
        AreHeld-some held,
        inr (c.in_ok-check_seed.ensures, inl (inr c.in_err-check_every.ensures)),
      );
      leads = stays g.I.Sources.Reads _;
    })

pub returns-in_err-read : goal.returns-in_err-read
returns-in_err-read g c =
    let exit =
    err_from_is_err_and c.from_residual-in_err-read.result
    c.from_residual-in_err-read.ensures.1 in
    let held = g.I.Sources.held c.args.inputs.now in
    let (database, bindings, one, two, refused) = c.in_err-read.ensures.judged in
    let texts = texts_by held database bindings in
    let found =
    IsFoundIn-first (cave_stages database bindings)
    (after_cave texts.log texts.script c.args.editing) _ refused in
    rw (exit.1, exit.2)
    (record {
      judged = (
        texts,
        AreHeld-by held database bindings one two,
        inr (c.in_ok-check_seed.ensures, inr (c.in_ok-check_every.ensures, found)),
      );
      leads = c.in_err-read.ensures.leads;
    })

pub returns : goal.returns
returns g c =
    let held = g.I.Sources.held c.args.inputs.now in
    let (database, bindings, one, two, read) = c.in_ok-read.ensures.judged in
    let (moves, edits, three, four, made) = c.edit_in_cave-made.ensures.judged in
    let editing = c.args.editing in
    let others = c.in_ok-read.ensures.others in
    let cave = cave_stages database bindings in
    let later = after_cave moves edits editing in
    let every = judging_stage (every_fault editing.every) in
    let finished =
    Judges-finished database bindings moves edits editing c.args.report _ read.1.reads _ _ made
    c.finish_edit.ensures in
    record {
      judged = (
        record (texts_by held database bindings) { log = moves; script = edits },
        record {
          database = one;
          bindings = two;
          log = same_said _ _ moves (ap (λ (h : Held). next_log h.logs) others) three;
          new_log = said held.new_log;
          script = same_said _ _ edits (ap (λ (h : Held). h.script) others) four;
          known = said held.known;
        },
        Judges-after (large_seed editing.seed) (every ∷ cave ++ later) _ _
            c.in_ok-check_seed.ensures
            (Judges-after (every_fault editing.every) (cave ++ later) _ _
            c.in_ok-check_every.ensures
            (Judges-later cave later _ _ _ read.0 (λ text is. is) finished)),
      );
      leads = goes_on g.I.Sources.Reads _ _ _ c.in_ok-read.ensures.leads
          c.edit_in_cave-made.ensures.leads;
    }
