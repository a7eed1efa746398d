use Rattle.cave_play.proofs.SourceLemmas.{once}
use Rattle.std.proofs.Common.{List, ◌∙◌, ℕ}
use Rattle.std.proofs.lemmas.Result.{err_from_is_err_and}
use Rattle.std.specs.Prelude.{Ok, Err}
use Rattle.std.specs.Str.Lines.{lines}
use Rattle.replay_edits.specs.Edit.{game_of}
use Rattle.play_machine.specs.Moments.{noted_of}
use Rattle.play_machine.specs.Watch.{IsEndOf, NotesMore}
use Rattle.play_machine.specs.declared.course.PlayEnd.{PlayEnd}
use Rattle.cave_play.specs.Stages.{lines_fault, judging_stage}
use Rattle.cave_play.proofs.JudgeLemmas.{IsFoundIn-log, IsFoundIn-watched, Judges-log}
use Rattle.cave_play.proofs.JudgeLemmas.{lines_fault-watched}
use Rattle.cave_play.proofs.StageLemmas.{first_decided-one}
use Rattle.cave_play.proofs.judge.watch_play.Goals as goal

pub returns-in_err-log : goal.returns-in_err-log
returns-in_err-log g c =
    let exit = err_from_is_err_and c.from_residual.result c.from_residual.ensures.1 in
    let (bytes, said, refused) = c.in_err-log.ensures.read in
    rw (exit.1, exit.2)
    (record {
      judged = (bytes, said, IsFoundIn-log bytes _ refused);
      taken = c.in_err-log.ensures.taken;
      leads = once g.I.Sources.Reads _ _ _ c.in_err-log.ensures.reads;
    })

pub returns : goal.returns
returns g c =
    let (bytes, said, read) = c.in_ok-log.ensures.read in
    let watch = g.W.Watch in
    let cave = c.args.machine.rules.cave.now in
    let text = c.deref.result.now in
    let none = lines_fault-watched (lines text) c.args.seed c.in_ok-end.ensures.faults in
    record {
      judged = (
        bytes,
        said,
        Judges-log (λ (log : List (List ℕ)) (end : PlayEnd).
            NotesMore watch.HasNoted (noted_of watch.first_facts watch.facts cave
            (game_of c.args.seed log)) c.args.watch.now c.watch_log.new.watch
            × IsEndOf cave (game_of c.args.seed log) end) bytes
            text (Ok c.in_ok-end.end) (c.deref.ensures.value ∙ read.0) read.1 (
              first_decided-one (judging_stage (lines_fault (lines text))) none,
              (c.in_ok-end.ensures.noted, c.in_ok-end.ensures.end),
            ),
      );
      taken = c.in_ok-log.ensures.taken;
      leads = once g.I.Sources.Reads _ _ _ c.in_ok-log.ensures.reads;
    }

pub returns-in_err-end : goal.returns-in_err-end
returns-in_err-end g c =
    let exit =
    err_from_is_err_and c.from_residual-in_err-end.result
    c.from_residual-in_err-end.ensures.1 in
    let (bytes, said, read) = c.in_ok-log.ensures.read in
    let watch = g.W.Watch in
    let cave = c.args.machine.rules.cave.now in
    let text = c.deref.result.now in
    rw (exit.1, exit.2) (record {
      judged = (
        bytes,
        said,
        Judges-log (λ (log : List (List ℕ)) (end : PlayEnd).
            NotesMore watch.HasNoted (noted_of watch.first_facts watch.facts cave
            (game_of c.args.seed log)) c.args.watch.now c.watch_log.new.watch
            × IsEndOf cave (game_of c.args.seed log) end) bytes
            text (Err _) (c.deref.ensures.value ∙ read.0) read.1
            (IsFoundIn-watched (lines text) c.args.seed _ c.requires c.in_err-end.ensures.faults),
      );
      taken = c.in_ok-log.ensures.taken;
      leads = once g.I.Sources.Reads _ _ _ c.in_ok-log.ensures.reads;
    })
