use Rattle.std.proofs.Common.{◌∙◌, sym}
use Rattle.cave_replay.proofs.Marking.{meaning_at}
use Rattle.cave_replay.proofs.segment.agrees.Goals as goal

pub returns : goal.returns
returns g c old new are marking =
    let here =
    meaning_at g.M.Machine.meaning g.M.Machine.is_state old c.args.checkpoints.now.places
    c.args.checkpoints.now.states c.args.index c.state.result are c.state.ensures in
    let law =
    g.met.M.Machine.exact c.state.result c.args.marks.now.state here.2 marking.next_made in
    rw (c.eq.ensures, c.state-2.ensures) (
      (λ same. sym marking.next ∙ sym (law.0 same) ∙ here.1),
      (λ same. law.1 (here.1 ∙ sym same ∙ sym marking.next)),
    )
