use Rattle.std.proofs.Common.{◌≡◌, ◌+◌, ◌-◌, subst, arith, sym}
use Rattle.std.specs.Prelude.{slice_index}
use Rattle.replay_checkpoints.specs.Marks.{IsRest, CheckpointsView}
use Rattle.replay_checkpoints.proofs.Counts.{place_within}
use Rattle.replay_checkpoints.proofs.ThinningLemmas.{rest_behind}
use Rattle.replay_checkpoints.proofs.checkpoints.Checkpoints.next_place.Goals as goal

pub overflow_add-result : goal.overflow_add-result
overflow_add-result g c =
    let inside = c.self.inside in
    let end =
    subst (λ (v : CheckpointsView g.row.K-State.Denot). v.lines - slice_index v.places c.args.met
    + c.args.new ≡ c.args.end) (sym c.self.view_is) c.requires.end in
    let within =
    place_within 0 inside.every inside.kept.places inside.lines c.self.invariant.spaced
    (c.args.met + 1) (omega arith) in
    omega arith

pub returns-then-met-count-clause-within : goal.returns-then-met-count-clause-within
returns-then-met-count-clause-within g c =
    let inside = c.self.inside in
    let end =
    subst (λ (v : CheckpointsView g.row.K-State.Denot). v.lines - slice_index v.places c.args.met
    + c.args.new ≡ c.args.end) (sym c.self.view_is) c.requires.end in
    let within =
    place_within 0 inside.every inside.kept.places inside.lines c.self.invariant.spaced
    (c.args.met + 1) (omega arith) in
    omega arith

pub returns-then-met-count-clause-rest : goal.returns-then-met-count-clause-rest
returns-then-met-count-clause-rest g c =
    let inside = c.self.inside in
    let rest =
    rest_behind inside.every inside.kept.places inside.lines c.args.met c.self.invariant.spaced
    (omega arith) in
    subst (λ (v : CheckpointsView g.row.K-State.Denot).
    IsRest v.every v.places v.lines (slice_index v.places c.args.met) (c.args.met + 1))
    c.self.view_is rest
