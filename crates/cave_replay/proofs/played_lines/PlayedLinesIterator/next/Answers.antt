use Rattle.std.proofs.Common.{◌≡◌, [], None, length, sym, ap, ◌∙◌, rules}
use Rattle.replay_edits.specs.Edit.{log_of}
use Rattle.cave_replay.specs.PlayedRow.{rows_from}
use Rattle.cave_replay.proofs.PlayedRows.{no_pieces, no_ticks}
use Rattle.cave_replay.proofs.played_lines.PlayedLinesIterator.next.Goals as goal

pub returns-in_err-piece-clause-steps : goal.returns-in_err-piece-clause-steps
returns-in_err-piece-clause-steps g c =
    let held = c.self.inside in
    let steps = c.in_err-piece.ensures.steps in
    let none : c.from_residual-in_err-piece.result ≡ None = search rules in
    let before : c.args.self.now ≡ [] = sym c.self.view_is
    ∙ ap (λ ps. rows_from held.place held.ticks (log_of held.log) ps held.ticked) steps.0
    ∙ no_pieces held.place held.ticks (log_of held.log) held.ticked in
    rw none (
      before,
      ap (λ ps. rows_from held.place held.ticks (log_of c.next.new.self) ps held.ticked)
          steps.1
          ∙ no_pieces held.place held.ticks (log_of c.next.new.self) held.ticked,
    )

pub returns-in_err-ticked-clause-steps : goal.returns-in_err-ticked-clause-steps
returns-in_err-ticked-clause-steps g c =
    let held = c.self.inside in
    let steps = c.in_err-ticked.ensures.steps in
    let none : c.from_residual-in_err-ticked.result ≡ None = search rules in
    let before : c.args.self.now ≡ [] = sym c.self.view_is
    ∙ no_ticks held.place held.ticks (log_of held.log) held.pieces held.ticked
    (ap length steps.0) in
    rw none (
      before,
      no_ticks held.place held.ticks (log_of c.next.new.self) c.next-2.new.self c.next-3.new.self
          (ap length steps.1),
    )
