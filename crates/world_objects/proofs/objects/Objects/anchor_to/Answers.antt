use Rattle.std.proofs.Common.{◌<◌, sym, ◌∙◌, arith}
use Rattle.std.proofs.lemmas.Bool.Decides.{nat_tests}
use Rattle.world_objects.specs.Objects.{Layout}
use Rattle.world_objects.proofs.Laid.{IsLaid-anchored}
use Rattle.world_objects.proofs.objects.Objects.anchor_to.Goals as goal

pub invariant_of-self : goal.invariant_of-self
invariant_of-self c =
    let i = c.self.inside in
    let l : Layout =
    record { first = i.first; second = i.second; props = i.props; lists = i.lists } in
    let low : 0 < c.args.object = grind (arith, nat_tests) in
    rw (c.from.ensures, c.number.ensures.value, c.new.ensures)
    (IsLaid-anchored l c.args.object c.args.anchor c.relist.new.self c.self.invariant low
    (rw c.number.ensures.value at c.number.ensures.within)
    (rw c.place-place.ensures.value at c.relist.ensures.lists))

pub relist-requires-clause-only : goal.relist-requires-clause-only
relist-requires-clause-only c =
    let low : 0 < c.args.object = grind (arith, nat_tests) in
    let listed = rw (← c.self.view_is) at c.anchor.ensures.listed in
    λ q t. rw c.place-was.ensures.value (sym (listed low q) ∙ t)
