use Rattle.std.proofs.Common.{length, ap, ◌∙◌, sym, arith}
use Rattle.std.proofs.lemmas.List.{length-map}
use Rattle.replay_edits.proofs.Lines.{length-log_of}
use Rattle.cave_replay.proofs.Plays.{length-pieces, length-ticks}
use Rattle.cave_replay.proofs.session.Session.played_lines.Goals as goal

pub of-requires-clause-few : goal.of-requires-clause-few
of-requires-clause-few g c =
    let n = length-log_of c.self.inside.kept.log.items in
    let few = c.self.invariant.game_is.few in
    rw c.items.ensures (omega arith)

pub of-requires-clause-pieces : goal.of-requires-clause-pieces
of-requires-clause-pieces g c =
    let text = g.M.Machine.text in
    let k = c.self.inside.kept in
    rw (c.items-2.ensures, c.items.ensures)
    (sym (length-map k.pieces.items text)
    ∙ length-pieces c.self.invariant.plays
    ∙ length-log_of k.log.items)

pub of-requires-clause-ticked : goal.of-requires-clause-ticked
of-requires-clause-ticked g c =
    let k = c.self.inside.kept in
    rw (c.items-3.ensures, c.items.ensures)
    (length-ticks c.self.invariant.plays
    ∙ length-log_of k.log.items)

pub returns-clause-each_line : goal.returns-clause-each_line
returns-clause-each_line g c =
    let log = c.self.inside.kept.log.items in
    rw (← c.self.view_is)
    (c.of.ensures.each_line ∙ ap length c.items.ensures ∙ sym (length-log_of log))

pub returns-clause-rows : goal.returns-clause-rows
returns-clause-rows g c =
    let n = length-log_of c.self.inside.kept.log.items in
    rw (← c.self.view_is)
    (λ place below.
    rw (← c.items.ensures, ← c.items-2.ensures, ← c.items-3.ensures)
    (c.of.ensures.rows place (rw c.items.ensures (omega arith))))
