use Rattle.std.proofs.Common.{sym, ap, ◌∙◌}
use Rattle.replay_edits.specs.Edit.{game_of, inserts, replaces, line_at}
use Rattle.replay_edits.specs.Outcome.{lines_of}
use Rattle.replay_edits.proofs.OutcomeLemmas.{StaysIn, log_by-insert, log_by-remove, log_by-replace}
use Rattle.replay_edits.proofs.OutcomeLemmas.{line_at-log_by, AreNumbers-insert, AreNumbers-remove}
use Rattle.replay_edits.proofs.stock.Stock.make.Goals as goal

pub returns-in_ok-insert-in-Insert-clause-game : goal.returns-in_ok-insert-in-Insert-clause-game
returns-in_ok-insert-in-Insert-clause-game c =
    let stock = c.args.self.now in
    let stays : StaysIn stock =
    record { ordered = c.requires.ordered; within = c.requires.within } in
    let leaves = rw c.in-Insert.is at c.requires.leaves in
    let line = rw c.in-Insert.is at c.requires.line in
    rw (c.in-Insert.is, c.in_ok-insert-in-Insert.ensures)
    (ap (game_of c.args.game.now.seed)
    (log_by-insert stock c.args.game.now.numbers c.in-Insert.place c.args.own _ stays leaves.0
    leaves.1 line))

pub returns-in_ok-insert-in-Insert-clause-numbers :
    goal.returns-in_ok-insert-in-Insert-clause-numbers
returns-in_ok-insert-in-Insert-clause-numbers c =
    rw c.in_ok-insert-in-Insert.ensures
    (AreNumbers-insert c.args.self.now c.args.game.now.numbers _ c.args.own c.requires.numbers
    c.requires.own)

pub returns-in_ok-line-in-Delete-clause-game : goal.returns-in_ok-line-in-Delete-clause-game
returns-in_ok-line-in-Delete-clause-game c =
    let stock = c.args.self.now in
    let stays : StaysIn stock =
    record { ordered = c.requires.ordered; within = c.requires.within } in
    let leaves = rw c.in-Delete.is at c.requires.leaves in
    rw (c.in-Delete.is, c.remove-number.ensures.numbers)
    (ap (game_of c.args.game.now.seed)
    (log_by-remove stock c.args.game.now.numbers c.in-Delete.place stays leaves.0 leaves.1))

pub returns-in_ok-line-in-Delete-clause-inverse : goal.returns-in_ok-line-in-Delete-clause-inverse
returns-in_ok-line-in-Delete-clause-inverse c =
    let stock = c.args.self.now in
    let stays : StaysIn stock =
    record { ordered = c.requires.ordered; within = c.requires.within } in
    let leaves = rw c.in-Delete.is at c.requires.leaves in
    rw c.in-Delete.is
    (ap (inserts c.in-Delete.place)
    (c.in_ok-line-in-Delete.ensures.ok ∙ c.line.ensures
    ∙ ap (line_at (lines_of stock)) c.remove-number.ensures.number
    ∙ sym (line_at-log_by stock c.args.game.now.numbers c.in-Delete.place stays leaves.0
    leaves.1)))

pub returns-in_ok-line-in-Delete-clause-numbers : goal.returns-in_ok-line-in-Delete-clause-numbers
returns-in_ok-line-in-Delete-clause-numbers c =
    rw c.remove-number.ensures.numbers
    (AreNumbers-remove c.args.self.now c.args.game.now.numbers _ c.requires.numbers)

pub returns-in_ok-line-in-Replace-clause-game : goal.returns-in_ok-line-in-Replace-clause-game
returns-in_ok-line-in-Replace-clause-game c =
    let stock = c.args.self.now in
    let stays : StaysIn stock =
    record { ordered = c.requires.ordered; within = c.requires.within } in
    let leaves = rw c.in-Replace.is at c.requires.leaves in
    let line = rw c.in-Replace.is at c.requires.line in
    rw (c.in-Replace.is, c.replace-number.ensures.numbers)
    (ap (game_of c.args.game.now.seed)
    (log_by-replace stock c.args.game.now.numbers c.in-Replace.place c.args.own _ stays leaves.0
    leaves.1 line))

pub returns-in_ok-line-in-Replace-clause-inverse :
    goal.returns-in_ok-line-in-Replace-clause-inverse
returns-in_ok-line-in-Replace-clause-inverse c =
    let stock = c.args.self.now in
    let stays : StaysIn stock =
    record { ordered = c.requires.ordered; within = c.requires.within } in
    let leaves = rw c.in-Replace.is at c.requires.leaves in
    rw c.in-Replace.is
    (ap (replaces c.in-Replace.place)
    (c.in_ok-line-in-Replace.ensures.ok ∙ c.line-in-Replace.ensures
    ∙ ap (line_at (lines_of stock)) c.replace-number.ensures.number
    ∙ sym (line_at-log_by stock c.args.game.now.numbers c.in-Replace.place stays leaves.0
    leaves.1)))
