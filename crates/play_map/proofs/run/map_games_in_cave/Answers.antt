use Rattle.cave_play.proofs.SourceLemmas.{stays}
use Rattle.std.proofs.Common.{◌≡◌, [], ◌∷◌, inl, inr, refl}
use Rattle.std.proofs.lemmas.Result.{err_from_is_err_and}
use Rattle.cave_play.specs.Logs.{IsMadeReport, games_of}
use Rattle.cave_play.proofs.LogLemmas.{AllSay-some, JudgesLogs-also, JudgesLogs-behind}
use Rattle.cave_play.proofs.StageLemmas.{first_decided-one}
use Rattle.play_map.specs.Parts.{place_stage}
use Rattle.play_map.specs.Plays.{map_of_games}
use Rattle.play_map.proofs.run.map_games_in_cave.Goals as goal

pub returns-in_err-check_place : goal.returns-in_err-check_place
returns-in_err-check_place g c =
    let exit = err_from_is_err_and c.from_residual.result c.from_residual.ensures.1 in
    let (moves, last) = AllSay-some (g.I.Sources.held c.args.inputs.now).logs in
    rw (exit.1, exit.2)
    (record {
      judged = (moves, last, inl (refl, inl (inr c.in_err-check_place.ensures)));
      all = tt;
      leads = stays g.I.Sources.Reads _;
    })

pub returns : goal.returns
returns g c =
    let (moves, last, made) = c.report_in_cave.ensures.judged in
    let cave = c.args.read.now.cave in
    let stage = place_stage cave c.args.part in
    let drawn =
    JudgesLogs-also [] moves _
    (IsMadeReport (λ _ text. text ≡ map_of_games cave c.args.part (games_of c.args.seed moves))) _
    (λ whole told. told.0) made in
    record {
      judged = (
        moves,
        last,
        JudgesLogs-behind (stage ∷ []) [] moves _ _
            (first_decided-one stage c.in_ok-check_place.ensures) drawn,
      );
      all = c.report_in_cave.ensures.all;
      leads = c.report_in_cave.ensures.leads;
    }
