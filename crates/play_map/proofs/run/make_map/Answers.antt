use Rattle.cave_play.proofs.SourceLemmas.{goes_on}
use Rattle.std.proofs.Common.{◌≡◌, List, [], ◌∷◌, ◌++◌, Result, inl, refl, sym, subst, ℕ, ◌∙◌}
use Rattle.std.proofs.lemmas.Result.{err_from_is_err_and}
use Rattle.std.specs.List.{AllZip}
use Rattle.cave_play.specs.Sources.{Says}
use Rattle.cave_play.specs.Stages.{large_seed, Stage, cave_stages, first_decided}
use Rattle.cave_play.specs.Logs.{IsMadeReport, JudgesLogs, first_stages}
use Rattle.cave_play.specs.declared.logs.LogsFault.{LogsFault}
use Rattle.cave_play.proofs.LogLemmas.{AllSay-some, JudgesLogs-also, JudgesLogs-behind}
use Rattle.cave_play.proofs.StageLemmas.{IsFoundIn-first, neither}
use Rattle.play_map.specs.Parts.{place_stage}
use Rattle.play_map.specs.Plays.{IsMapped}
use Rattle.play_map.proofs.Noted.{map_of_logs}
use Rattle.play_map.proofs.run.make_map.Goals as goal

pub returns-in_err-read : goal.returns-in_err-read
returns-in_err-read g c =
    let exit = err_from_is_err_and c.from_residual.result c.from_residual.ensures.1 in
    let (database, bindings, one, two, refused) = c.in_err-read.ensures.judged in
    let (moves, last) = AllSay-some (g.I.Sources.held c.args.inputs.now).logs in
    let first = first_stages database bindings c.args.seed in
    rw (exit.1, exit.2)
    (record {
      judged = (
        database,
        bindings,
        moves,
        one,
        two,
        last,
        λ judges is. inl (refl, IsFoundIn-first first (judges ∷ []) _ refused),
      );
      all = tt;
      leads = c.in_err-read.ensures.leads;
    })

pub map_games_in_cave-made-requires-clause-fits : goal.map_games_in_cave-made-requires-clause-fits
map_games_in_cave-made-requires-clause-fits g c =
    let (database, bindings, one, two, read) = c.in_ok-read.ensures.judged in
    (neither (large_seed c.args.seed) (first_decided (cave_stages database bindings)) read.0).0

-- what is made after these stages, the last of which is this one
at_stage : {X : Type 0} (first : List Stage) (judges stage : Stage) (logs : List (List ℕ))
    (P : X → Type 0) (r : Result X LogsFault) → judges ≡ stage
    → JudgesLogs (first ++ stage ∷ []) logs P r → JudgesLogs (first ++ judges ∷ []) logs P r
at_stage first judges stage logs P r same made =
    subst (λ last. JudgesLogs (first ++ last ∷ []) logs P r) (sym same) made

pub returns : goal.returns
returns g c =
    let (database, bindings, one, two, read) = c.in_ok-read.ensures.judged in
    let (moves, last, made) = c.map_games_in_cave-made.ensures.judged in
    let there = c.in_ok-read.read in
    let part = c.args.part in
    let seed = c.args.seed in
    let first = first_stages database bindings seed in
    let stage = place_stage there.cave part in
    let mapped =
    JudgesLogs-also (stage ∷ []) moves _
    (IsMadeReport (λ _. IsMapped database bindings moves seed part)) _
    (λ whole is. (there.cave, read.1.reads, is ∙ map_of_logs there.cave moves seed part)) made in
    let all = JudgesLogs-behind first (stage ∷ []) moves _ _ read.0 mapped in
    record {
      judged = (
        database,
        bindings,
        moves,
        one,
        two,
        subst (λ known. AllZip Says known moves) c.in_ok-read.ensures.logs last,
        λ judges is. at_stage first judges stage moves _ _ (is there.cave read.1.reads) all,
      );
      all = c.map_games_in_cave-made.ensures.all;
      leads = goes_on g.I.Sources.Reads _ _ _ c.in_ok-read.ensures.leads
          c.map_games_in_cave-made.ensures.leads;
    }
