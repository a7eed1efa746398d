use Rattle.std.proofs.Common.{◌≡◌, ℕ, List, length, map, ap, ◌∙◌, refl, sym, arith}
use Rattle.std.specs.Prelude.{slice_index}
use Rattle.std.proofs.lemmas.List.{length-map}
use Rattle.replay_edits.specs.LineText.{LineText}
use Rattle.cave_replay.specs.declared.playthrough.Playthrough.{Playthrough}
use Rattle.cave_replay.specs.declared.ready_edits.ReadyEdits.{ReadyEdits}
use Rattle.replay_edits.specs.Edit.{Game, Change, changes_of, apply_all, inverses_of, log_of}
use Rattle.replay_edits.specs.Faults.{log_after_all}
use Rattle.cave_replay.specs.Play.{MachineRules}
use Rattle.cave_replay.specs.Playthrough.{kept_game, KeepsAll, KeepsPlay}
use Rattle.cave_replay.specs.Takeover.{IsWhole}
use Rattle.cave_replay.specs.ReadyEdits.{AreEditsOf, new_game}
use Rattle.replay_edits.proofs.Inverses.{IsFree-from_none, none_from_IsFree, log-apply_all}
use Rattle.replay_edits.proofs.Inverses.{apply_all-inverses_of, IsFree-inverses_of}
use Rattle.cave_replay.proofs.Joins.{map-splice}
use Rattle.replay_edits.proofs.Lines.{length-log_of}
use Rattle.cave_replay.proofs.Plays.{length-pieces, length-ticks}
use Rattle.cave_replay.proofs.TakeoverLemmas.{replay_of, kept_after, report_after, met_inside}
use Rattle.cave_replay.proofs.TakeoverLemmas.{stretch_ready, stretch_same, places_same, states_same}
use Rattle.cave_replay.proofs.TakeoverLemmas.{opened_text}
use Rattle.cave_replay.proofs.replay.edit_kept.Goals as goal

-- the new game of the edits, after room was reserved, is what the changes make of the old one
made_same : {Machine Kept Scratch State Piece Meter : Type 0}
    {changes : List Change} {seed : ℕ} {log : List LineText} {ready : ReadyEdits}
    {old roomy : Playthrough Machine Kept Scratch State Piece Meter}
    → AreEditsOf changes seed log ready → log ≡ old.log.items → seed ≡ old.seed
    → KeepsAll old roomy
    → new_game ready (kept_game roomy).log ≡ apply_all changes (kept_game old)
made_same {ready} edits log_is seed_is same =
    ap (λ l. new_game ready (log_of l)) (same.log ∙ sym log_is) ∙ edits.game
    ∙ rw (log_is, seed_is) refl

-- what is kept has a piece for each line, and ticks
whole_of : {Machine Kept Scratch State Piece Meter S T : Type 0} {meaning : State → S}
    {is_state : State → Type 0} {rules : MachineRules S T} (text : Piece → T)
    (kept : Playthrough Machine Kept Scratch State Piece Meter)
    → KeepsPlay meaning is_state text rules kept → IsWhole kept
whole_of text kept keeps =
    let n = length-log_of kept.log.items in
    let m = length-map kept.pieces.items text in
    let pieces = length-pieces keeps.plays in
    let ticks = length-ticks keeps.plays in
    let lines = keeps.lines in
    record { pieces = omega arith; ticked = omega arith; lines = omega arith }

pub take_over-inverse-requires-clause-whole : goal.take_over-inverse-requires-clause-whole
take_over-inverse-requires-clause-whole g c =
    let kept = c.args.kept.now in
    let same = c.make_room.ensures.same in
    let n = length-log_of kept.log.items in
    let m = length-map kept.pieces.items g.M.Machine.text in
    let plays = c.requires.kept.plays in
    let pieces = length-pieces plays in
    let ticks = length-ticks plays in
    let said = ap length same.pieces in
    let ticked = ap length same.ticked in
    let lines = ap length same.log in
    let all = c.requires.kept.lines in
    record {
      pieces = omega arith;
      ticked = omega arith;
      lines = omega (arith, same.lines);
    }

pub take_over-inverse-requires-clause-stretch : goal.take_over-inverse-requires-clause-stretch
take_over-inverse-requires-clause-stretch g c =
    let replay =
    replay_of c.requires.kept c.in_ok-rerun.ensures.edits c.places.ensures.spaced
    c.in_ok-rerun.ensures.rerun in
    let same = c.make_room.ensures.same in
    stretch_ready replay c.make_room.new.kept.checkpoints same.every same.lines same.places

pub returns-clause-kept : goal.returns-clause-kept
returns-clause-kept g c =
    let replay =
    replay_of c.requires.kept c.in_ok-rerun.ensures.edits c.places.ensures.spaced
    c.in_ok-rerun.ensures.rerun in
    let text = g.M.Machine.text in
    let kept = c.args.kept.now in
    let C = kept.checkpoints in
    let roomy = c.make_room.new.kept in
    let same = c.make_room.ensures.same in
    let edits = c.in_ok-rerun.ensures.edits in
    let played = c.in_ok-rerun.rerun.played in
    let at = c.in_ok-rerun.rerun.at in
    let after = c.take_over-inverse.new.kept in
    let done = c.take_over-inverse.ensures.taken in
    let stretch = stretch_same roomy.checkpoints C same.lines same.places played.met in
    let from = ap (λ x. slice_index x at) same.places in
    rw (done.game ∙ ap (λ l. new_game c.in_ok-rerun.rerun.ready (log_of l)) same.log)
    (kept_after replay (text after.opening) (map text after.pieces.items) after.ticked.each.items
    after.state after.checkpoints
    (opened_text text c.in_ok-rerun.rerun.opening after.opening roomy.opening kept.opening
    same.opening
    done.opening_is)
    (ap (map text) done.pieces
    ∙ map-splice text roomy.pieces.items played.pieces.items
    (slice_index roomy.checkpoints.places at) _ ∙ rw (same.pieces, stretch, from) refl)
    (done.ticked ∙ rw (same.ticked, stretch, from) refl)
    (done.state ∙ rw same.state refl)
    (done.every ∙ same.every)
    done.lines
    (done.places ∙ places_same roomy.checkpoints C same.places played.marks at played.met)
    (done.states
    ∙ states_same roomy.checkpoints C same.places same.states played.marks at played.met))

pub returns-clause-report : goal.returns-clause-report
returns-clause-report g c =
    let replay =
    replay_of c.requires.kept c.in_ok-rerun.ensures.edits c.places.ensures.spaced
    c.in_ok-rerun.ensures.rerun in
    rw (c.places.ensures.places, c.met_place-met.ensures, c.next-end.ensures.next)
    (report_after replay (changes_of c.args.edits.now) c.in_ok-rerun.ensures.edits.game refl refl)

pub make_room-requires : goal.make_room-requires
make_room-requires g c =
    let replay =
    replay_of c.requires.kept c.in_ok-rerun.ensures.edits c.places.ensures.spaced
    c.in_ok-rerun.ensures.rerun in
    let inside = met_inside replay in
    let kept = c.args.kept.now in
    let edits = c.in_ok-rerun.ensures.edits in
    record {
      among = replay.new_play.begun.among;
      passed = inside.0;
      met = inside.1;
      ordered = edits.ordered;
      within = omega (arith, edits.tail);
      whole = whole_of g.M.Machine.text kept c.requires.kept;
      forward = (stretch_ready replay kept.checkpoints refl refl refl).forward;
    }

pub returns-clause-game : goal.returns-clause-game
returns-clause-game g c =
    c.take_over-inverse.ensures.taken.game
    ∙ made_same c.in_ok-rerun.ensures.edits refl refl c.make_room.ensures.same

pub returns-clause-inverse : goal.returns-clause-inverse
returns-clause-inverse g c =
    let edits = c.in_ok-rerun.ensures.edits in
    let same = c.make_room.ensures.same in
    let done = c.take_over-inverse.ensures in
    let changes = changes_of c.args.edits.now in
    let old = kept_game c.args.kept.now in
    let free = IsFree-from_none changes old.log 0 edits.accepted in
    let game = done.taken.game ∙ made_same edits refl refl same in
    let inverse = done.inverse ∙ edits.inverse in
    let log_is = ap (λ (x : Game). x.log) game ∙ log-apply_all changes old in
    record {
      inverses = inverse;
      accepted = rw (inverse, log_is)
          (none_from_IsFree (inverses_of changes old) (log_after_all changes old.log) 0
          (IsFree-inverses_of changes old c.requires.kept.game_is free));
      back = rw (inverse, game) (apply_all-inverses_of changes old free);
    }

pub take_over-inverse-requires-clause-within : goal.take_over-inverse-requires-clause-within
take_over-inverse-requires-clause-within g c =
    let tail = c.in_ok-rerun.ensures.edits.tail in
    let lines = ap length c.make_room.ensures.same.log in
    omega arith
