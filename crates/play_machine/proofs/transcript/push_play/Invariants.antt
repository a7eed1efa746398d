-- What was written so far, followed by the lines from here on, is the transcript; the remaining
-- counts are those of these lines.
use Rattle.std.proofs.Common.{◌≡◌, ℕ, ◌+◌, ◌<◌, ◌++◌, length, map}
use Rattle.std.specs.Prelude.{slice_index}
use Rattle.std.specs.Iterator.Adapters.{enumerate_source, enumerate_count}
use Rattle.play_machine.specs.Machine.{rendering_of}
use Rattle.play_machine.specs.Transcript.{last_line, ticks, transcript}
use Rattle.turn_ends.specs.Score.{score_of, max_score_of}
use Rattle.play_machine.proofs.TranscriptLemmas.{told_from}
use Rattle.play_machine.proofs.transcript.push_play.Given as goal

abbrev pub invariant-loop-place : goal.invariant-loop-place
invariant-loop-place l =
    let held = l.session in
    let place = enumerate_count l.place-iterator in
    let counts = enumerate_source l.place-iterator in
    let pieces = map (λ piece. piece.items) held.pieces in
    record {
      may_go_on : (goal.iterator-loop-place).can_next l.place-iterator;
      ends : (goal.iterator-loop-place).is_finite l.place-iterator;
      left : place + length counts ≡ length held.game.log;
      turns : (k : ℕ) → k < length counts → slice_index counts k ≡ ticks held.ticks (place + k + 1);
      told : l.text.items
          ++ (told_from (rendering_of l.cave) held.ticks place held.game.log pieces
          ++ last_line (score_of l.cave held.state) (max_score_of l.cave)
          (ticks held.ticks (length held.game.log)))
          ≡ l.fn.text.items
          ++ transcript (rendering_of l.cave) held.opening.items held.game.log pieces held.ticks
          (score_of l.cave held.state) (max_score_of l.cave);
    }
