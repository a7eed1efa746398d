use Rattle.std.proofs.Common.{◌≡◌, ◌+◌, ◌++◌, [], length, map, get_or, ap, sym, refl, ◌∙◌, arith}
use Rattle.std.proofs.Common.{rules}
use Rattle.std.specs.Iterator.Adapters.{enumerate_source, enumerate_count}
use Rattle.std.proofs.lemmas.Result.{on_ok_weaker}
use Rattle.play_machine.specs.Machine.{rendering_of}
use Rattle.turn_ends.specs.Score.{score_of, max_score_of}
use Rattle.play_machine.specs.Transcript.{play_text, last_line, ticks}
use Rattle.play_machine.proofs.TranscriptLemmas.{transcript-played, transcript_line-more}
use Rattle.play_machine.proofs.TranscriptLemmas.{told_from-end, counts-first, counts-others}
use Rattle.play_machine.proofs.transcript.push_play.Goals as goal

pub overflow_cast-place : goal.overflow_cast-place
overflow_cast-place c =
    let step = c.in-Some.ensures.steps in
    let left = c.loop-place.invariant.left in
    let some = ap length step.0 in
    omega (arith, step.1, left, some, c.lines-lines.ensures.game.few)

pub loop-place-preserved : goal.loop-place-preserved
loop-place-preserved c =
    let held = c.args.session.now in
    let step = c.in-Some.ensures.steps in
    let place = enumerate_count c.loop-place.place-iterator in
    let counts = enumerate_source c.loop-place.place-iterator in
    let here = c.loop-place.invariant in
    let piece = c.at.result.now in
    let pieces = c.pieces-pieces.ensures in
    let some = ap length step.0 in
    let left : enumerate_count c.next.new.self + length (enumerate_source c.next.new.self)
    ≡ length held.game.log = omega (arith, here.left, some, step.2) in
    let others = enumerate_source c.next.new.self in
    let next = enumerate_count c.next.new.self in
    let turns =
    counts-first counts others c.in-Some.turns (ticks held.ticks) place step.0 here.turns in
    record {
      may_go_on = search (rules, left, c.lines-lines.ensures.game.few);
      ends = tt;
      left = left;
      turns = λ k below. counts-others counts others c.in-Some.turns (ticks held.ticks) place step.0
          here.turns next k step.2 below;
      told = rw step.2
          (transcript_line-more (rendering_of c.cave-cave.result.now) (λ piece. piece.items) place
          c.in-Some.turns held.game.log held.pieces held.ticks c.line-line.result.now piece _ _
          (last_line (score_of c.cave-cave.result.now held.state)
          (max_score_of c.cave-cave.result.now) (ticks held.ticks (length held.game.log)))
          _ (omega (arith, some, here.left)) (ap length (sym pieces.pieces) ∙ pieces.each)
          (c.line-line.ensures.line ∙ ap (λ p. get_or held.game.log p []) step.1)
          (c.at.ensures ∙ ap (λ ps. get_or ps c.in-Some.place piece) pieces.pieces
          ∙ ap (λ p. get_or held.pieces p piece) step.1) turns
          here.told (search rules));
    }

pub returns : goal.returns
returns c =
    let held = c.args.session.now in
    let old = c.args.text.now.items in
    let cave = c.cave-cave.result.now in
    let place = enumerate_count c.loop-place.place-iterator in
    let pieces = map (λ piece. piece.items) held.pieces in
    let none = ap length c.in-None.ensures.steps.0.0 in
    let same = sym c.cave-cave.ensures in
    let cave_is = c.cave-cave.ensures ∙ ap (λ m. m.rules.cave.now) c.machine-machine.ensures in
    let ended =
    told_from-end (rendering_of cave) held.ticks place held.game.log pieces
    (omega (arith, none, c.loop-place.invariant.left)) in
    let played =
    transcript-played cave _ held.game _ pieces held.ticks
    _ (sym cave_is) c.opening.ensures.plays in
    let end =
    last_line (score_of cave held.state) (max_score_of cave)
    (ticks held.ticks (length held.game.log)) in
    let whole = ap (λ t. c.loop-place.text.items ++ (t ++ end)) (sym ended)
    ∙ c.loop-place.invariant.told
    ∙ ap (λ t. old ++ t) (played ∙ ap (λ k. play_text k held.game) cave_is) in
    let turns : c.ticks.result ≡ ticks held.ticks (length held.game.log) = c.ticks.ensures
    ∙ ap (ticks held.ticks) c.lines-lines.ensures.lines in
    let score = c.score-score.ensures.value ∙ ap (λ k. score_of k c.state.result.now) same
    ∙ ap (score_of cave) c.state.ensures.state in
    let most = c.max_score.ensures ∙ ap max_score_of same in
    let told_end : last_line c.score-score.result c.max_score.result c.ticks.result ≡ end =
    rw (score, most, turns) refl in
    on_ok_weaker c.push_last_line.result
    (λ told. told ∙ ap (λ t. c.loop-place.text.items ++ t) told_end ∙ whole)
    c.push_last_line.ensures
