use Rattle.std.proofs.Common.{◌≡◌, ◌+◌, ◌-◌, ◌≤◌, ◌++◌, length, take, ap, sym, subst, refl, ◌∙◌}
use Rattle.std.proofs.Common.{arith}
use Rattle.std.specs.Prelude.{slice_index}
use Rattle.replay_checkpoints.specs.Marks.{IsThinned, after_shift, CheckpointsView, next_place}
use Rattle.replay_checkpoints.proofs.JoinLemmas.{IsJoinable, put_end, spliced_after, shifted}
use Rattle.replay_checkpoints.proofs.JoinLemmas.{rest_between, joined_spaced}
use Rattle.replay_checkpoints.proofs.checkpoints.Checkpoints.join.Goals as goal

pub shift-requires-clause-after : goal.shift-requires-clause-after
shift-requires-clause-after g c =
    let inside = c.self.inside in
    let places = inside.kept.places in
    let middle = c.args.middle.places in
    let head = c.saturating_sub-head.result in
    let spliced = c.splice.new.self.places in
    let before = subst
    (λ (v : CheckpointsView g.row.K-State.Denot). IsJoinable v c.args.seam c.args.end)
    (sym c.self.view_is)
    (record { among = c.requires.among; rest = c.requires.rest; end_is = c.requires.end }) in
    let among = before.among in
    let within : head ≤ length places = omega arith in
    let tail : c.len-2.result - (c.len.result - c.args.seam.rest) ≡ head + length middle =
    omega (
      arith,
      put_end places middle _ head c.args.seam.rest within before.rest.within
          c.splice.ensures.places,
    ) in
    λ i le h.
    let there =
    spliced_after places middle spliced head c.args.seam.rest _ within tail c.splice.ensures.places
    i
    le h in
    omega (
      arith,
      there.1,
      (rest_between inside.every inside.lines c.args.seam.old c.args.seam.rest places
          c.self.invariant.spaced before.rest _ (omega arith) there.0).0,
    )

pub shift-requires-clause-fits : goal.shift-requires-clause-fits
shift-requires-clause-fits g c =
    let inside = c.self.inside in
    let places = inside.kept.places in
    let middle = c.args.middle.places in
    let head = c.saturating_sub-head.result in
    let spliced = c.splice.new.self.places in
    let before = subst
    (λ (v : CheckpointsView g.row.K-State.Denot). IsJoinable v c.args.seam c.args.end)
    (sym c.self.view_is)
    (record { among = c.requires.among; rest = c.requires.rest; end_is = c.requires.end }) in
    let among = before.among in
    let within : head ≤ length places = omega arith in
    let tail : c.len-2.result - (c.len.result - c.args.seam.rest) ≡ head + length middle =
    omega (
      arith,
      put_end places middle _ head c.args.seam.rest within before.rest.within
          c.splice.ensures.places,
    ) in
    λ i le h.
    let there =
    spliced_after places middle spliced head c.args.seam.rest _ within tail c.splice.ensures.places
    i
    le h in
    let between =
    rest_between inside.every inside.lines c.args.seam.old c.args.seam.rest places
    c.self.invariant.spaced
    before.rest _ (omega arith) there.0 in
    omega (arith, there.1, between.0, between.1)

pub invariant_of-self : goal.invariant_of-self
invariant_of-self g c =
    let inside = c.self.inside in
    let places = inside.kept.places in
    let middle = c.args.middle.places in
    let head = c.saturating_sub-head.result in
    let before = subst
    (λ (v : CheckpointsView g.row.K-State.Denot). IsJoinable v c.args.seam c.args.end)
    (sym c.self.view_is)
    (record { among = c.requires.among; rest = c.requires.rest; end_is = c.requires.end }) in
    let among = before.among in
    let thinned =
    subst (λ (v : CheckpointsView g.row.K-State.Denot).
    IsThinned (slice_index v.places (c.args.seam.at - 1)) (slice_index v.places c.args.seam.at)
    v.every
    middle (next_place v.places c.args.seam.rest c.args.seam.old c.args.seam.new c.args.end))
    (sym c.self.view_is) c.requires.thinned in
    let within : head ≤ length places = omega arith in
    let tail : c.len-2.result - (c.len.result - c.args.seam.rest) ≡ head + length middle =
    omega (
      arith,
      put_end places middle _ head c.args.seam.rest within before.rest.within
          c.splice.ensures.places,
    ) in
    let result : c.shift.new.self.places ≡ take head places
    ++ (middle ++ after_shift places c.args.seam.rest c.args.seam.old c.args.seam.new) =
    shifted places middle c.splice.new.self.places head c.args.seam.rest _ within tail
    c.splice.ensures.places c.args.seam.old c.args.seam.new c.shift.new.self.places
    c.shift.ensures.places in
    let head_is : head ≡ c.args.seam.at - 1 = omega arith in
    record {
      spaced =
          joined_spaced inside.every inside.lines c.args.end places c.self.invariant.spaced
          c.args.seam.at c.args.seam.old c.args.seam.new c.args.seam.rest among before.rest middle _
          thinned refl c.requires.low
          before.end_is c.shift.new.self.places (result
          ∙ ap (λ front. take front places
          ++ (middle ++ after_shift places c.args.seam.rest c.args.seam.old c.args.seam.new))
          head_is);
      even = c.shift.ensures.even;
    }

pub returns-clause-places : goal.returns-clause-places
returns-clause-places g c =
    let inside = c.self.inside in
    let places = inside.kept.places in
    let middle = c.args.middle.places in
    let head = c.saturating_sub-head.result in
    let before = subst
    (λ (v : CheckpointsView g.row.K-State.Denot). IsJoinable v c.args.seam c.args.end)
    (sym c.self.view_is)
    (record { among = c.requires.among; rest = c.requires.rest; end_is = c.requires.end }) in
    let among = before.among in
    let within : head ≤ length places = omega arith in
    let tail : c.len-2.result - (c.len.result - c.args.seam.rest) ≡ head + length middle =
    omega (
      arith,
      put_end places middle _ head c.args.seam.rest within before.rest.within
          c.splice.ensures.places,
    ) in
    let head_is : head ≡ c.args.seam.at - 1 = omega arith in
    shifted places middle c.splice.new.self.places head c.args.seam.rest _ within tail
    c.splice.ensures.places c.args.seam.old c.args.seam.new c.shift.new.self.places
    c.shift.ensures.places
    ∙ ap (λ front. take front places
    ++ (middle ++ after_shift places c.args.seam.rest c.args.seam.old c.args.seam.new)) head_is
    ∙ ap (λ (v : CheckpointsView g.row.K-State.Denot). take (c.args.seam.at - 1) v.places
    ++ (middle ++ after_shift v.places c.args.seam.rest c.args.seam.old c.args.seam.new))
    c.self.view_is
