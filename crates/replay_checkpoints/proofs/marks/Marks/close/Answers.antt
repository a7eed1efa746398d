use Rattle.std.proofs.Common.{rules}
use Rattle.std.specs.Prelude.{slice_index}
use Rattle.replay_checkpoints.proofs.OfferLemmas.{thinned_before}
use Rattle.replay_checkpoints.proofs.marks.Marks.close.Goals as goal

pub returns-clause-thinned : goal.returns-clause-thinned
returns-clause-thinned g c =
    let marks = c.self.inside in
    let thinned =
    thinned_before (slice_index marks.kept.places 0) marks.from marks.every marks.kept.places
    marks.next c.args.place c.self.invariant.thinned (search rules) (search rules)
    c.push_before.new.self.places c.push_before.ensures.places in
    rw (← c.self.view_is) thinned
