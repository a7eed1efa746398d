use Rattle.std.proofs.Common.{◌∙◌, sym}
use Rattle.std.proofs.lemmas.List.{length-map}
use Rattle.cave_replay.proofs.Plays.{length-pieces}
use Rattle.cave_replay.proofs.session.Session.pieces.Goals as goal

pub returns-clause-each : goal.returns-clause-each
returns-clause-each g c =
    let text = g.M.Machine.text in
    let k = c.self.inside.kept in
    rw (← c.self.view_is)
    (sym (length-map k.pieces.items text)
    ∙ length-pieces c.self.invariant.plays)
