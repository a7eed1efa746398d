use Rattle.cave_play.proofs.SourceLemmas.{goes_on, stays}
use Rattle.std.proofs.Common.{◌≡◌, ◌+◌, ◌<◌, ◌≤◌, ◌++◌, arith, length, sym, subst, ap, ◌∙◌, inl}
use Rattle.std.proofs.Common.{refl}
use Rattle.std.proofs.lemmas.List.{length-map}
use Rattle.std.proofs.lemmas.Result.{err_from_is_err_and}
use Rattle.std.specs.Str.Lines.{lines}
use Rattle.cave_play.specs.Sources.{Says}
use Rattle.replay_edits.specs.Edit.{game_of}
use Rattle.cave_play.specs.Logs.{games_of}
use Rattle.cave_play.proofs.LogLemmas.{AllSay-some, AllZip-length, log_right}
use Rattle.cave_play.proofs.LogProgress.{AreNotesOn, AreNotesOn-more, IsAt, IsAt-all, IsAt-first}
use Rattle.cave_play.proofs.LogProgress.{IsAt-more, IsAt-refused}
use Rattle.cave_play.proofs.logs.report_in_cave.Goals as goal

pub returns-in_err-lexicon : goal.returns-in_err-lexicon
returns-in_err-lexicon g c =
    let exit = err_from_is_err_and c.from_residual.result c.from_residual.ensures.1 in
    let known = AllSay-some (g.I.Sources.held c.args.inputs.now).logs in
    rw (exit.1, exit.2) (record {
      judged = (known.0, known.1, inl (refl, refl));
      all = tt;
      leads = stays g.I.Sources.Reads _;
    })

pub returns-in_err-notes : goal.returns-in_err-notes
returns-in_err-notes g c =
    let exit =
    err_from_is_err_and c.from_residual-in_err-notes.result
    c.from_residual-in_err-notes.ensures.1 in
    let known = AllSay-some (g.I.Sources.held c.args.inputs.now).logs in
    rw (exit.1, exit.2) (record {
      judged = (known.0, known.1, inl (refl, refl));
      all = tt;
      leads = stays g.I.Sources.Reads _;
    })

pub loop-place-init : goal.loop-place-init
loop-place-init g c =
    let watch = g.N.Watch in (
      IsAt-first (g.I.Sources.held c.args.inputs.now).logs
          (AreNotesOn watch.HasNoted watch.first_facts watch.facts
          c.new-machine.result.rules.cave.now) c.args.seed _ c.in_ok-notes.ensures,
      stays g.I.Sources.Reads _,
    )

pub returns-in-Err : goal.returns-in-Err
returns-in-Err g c =
    let (moves, said, decided) = c.in-Err.ensures.judged in
    let watch = g.N.Watch in
    let known = (g.I.Sources.held c.args.inputs.now).logs in
    let place = c.loop-place.place in
    let inside : place < length known = omega arith in
    record {
      judged =
          IsAt-refused known
          (AreNotesOn watch.HasNoted watch.first_facts watch.facts
          c.new-machine.result.rules.cave.now) c.args.seed place c.loop-place.notes moves inside
          (g.I.Sources.held c.loop-place.inputs).logs c.in-Err.fault said
          c.loop-place.invariant.0 decided;
      all = tt;
      leads = goes_on g.I.Sources.Reads _ _ _ c.loop-place.invariant.1 c.in-Err.ensures.leads;
    }

pub loop-place-preserved : goal.loop-place-preserved
loop-place-preserved g c =
    let (moves, said, noted) = c.in-Ok.ensures.judged in
    let watch = g.N.Watch in
    let cave = c.new-machine.result.rules.cave.now in
    let known = (g.I.Sources.held c.args.inputs.now).logs in
    let place = c.loop-place.place in
    let inside : place < length known = omega arith in
    let notes = AreNotesOn watch.HasNoted watch.first_facts watch.facts cave in
    let more =
    IsAt-more known notes c.args.seed place c.loop-place.notes moves inside
    (g.I.Sources.held c.loop-place.inputs).logs c.watch_play.new.watch said
    c.loop-place.invariant.0 (log_right moves noted.0)
    (AreNotesOn-more watch.HasNoted watch.first_facts watch.facts cave
    (game_of c.args.seed (lines moves)) c.loop-place.notes c.watch_play.new.watch noted.1.0) in (
      subst (IsAt known notes c.args.seed (place + 1) c.watch_play.new.watch)
          (sym c.in-Ok.ensures.taken.logs) more,
      goes_on g.I.Sources.Reads _ _ _ c.loop-place.invariant.1 c.in-Ok.ensures.leads,
    )

pub returns-in_err-found : goal.returns-in_err-found
returns-in_err-found g c =
    let exit =
    err_from_is_err_and c.from_residual-in_err-found.result
    c.from_residual-in_err-found.ensures.1 in
    let known = AllSay-some (g.I.Sources.held c.args.inputs.now).logs in
    rw (exit.1, exit.2) (record {
      judged = (known.0, known.1, inl (refl, refl));
      all = tt;
      leads = c.loop-place.invariant.1;
    })

pub returns : goal.returns
returns g c =
    let known = (g.I.Sources.held c.args.inputs.now).logs in
    let report_on = g.N.PlayNotes.report_on in
    let found_on = g.N.PlayNotes.found_on in
    let view = c.args.view.now in
    let watch = g.N.Watch in
    let past : length known ≤ c.loop-place.place = omega arith in
    let (moves, said, right, noted, empty) =
    IsAt-all known
    (AreNotesOn watch.HasNoted watch.first_facts watch.facts c.new-machine.result.rules.cave.now)
    c.args.seed c.loop-place.place c.loop-place.notes _ past c.loop-place.invariant.0 in
    let played = games_of c.args.seed moves in
    let many : c.args.logs ≡ length played =
    c.requires.many ∙ AllZip-length Says known moves said
    ∙ sym (length-map moves (λ log. game_of c.args.seed (lines log))) in
    let read = c.args.read.now in
    let here =
    subst (λ cave. AreNotesOn watch.HasNoted watch.first_facts watch.facts cave played
    c.loop-place.notes) c.new-machine.ensures noted in
    let pushed = c.in_ok-found.ensures played here many in
    let text =
    pushed.0
    ∙ ap (λ t. t ++ report_on c.deref.result.now read.cave view played) c.new-text.ensures.items
    ∙ ap (λ d. report_on d read.cave view played) c.deref.ensures.value in
    let found = pushed.1 ∙ ap (λ d. found_on d read.cave view played) c.deref.ensures.value in
    record {
      judged = (moves, said, (refl, right, (text, found)));
      all = empty;
      leads = c.loop-place.invariant.1;
    }
