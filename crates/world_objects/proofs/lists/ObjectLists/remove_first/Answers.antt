use Rattle.std.proofs.Common.{ap, ◌∙◌, arith}
use Rattle.world_objects.specs.Lists.{without}
use Rattle.world_objects.specs.Links.{first_half}
use Rattle.world_objects.proofs.Relinked.{removed_first, is_place, first_is_number}
use Rattle.world_objects.proofs.lists.ObjectLists.remove_first.Goals as goal

pub unlink-after-requires-clause-within : goal.unlink-after-requires-clause-within
unlink-after-requires-clause-within c =
    (first_is_number c.args.place c.args.number c.args.self.now c.requires.some
    (rw c.self.view_is at c.self.invariant.lists) c.requires.first).high

pub overflow_sub-self : goal.overflow_sub-self
overflow_sub-self c =
    let place = is_place c.args.place c.args.number c.args.self.now c.requires.some
    (rw c.self.view_is at c.self.invariant.lists)
    (rw c.self.view_is at c.self.invariant.within) c.requires.first in
    omega (arith, c.from.ensures, c.number.ensures.value, place.low)

pub invariant_of-self : goal.invariant_of-self
invariant_of-self c =
    let here = ap (λ es. first_half c.args.place es) c.self.view_is ∙ c.requires.first in
    rw (
      c.from.ensures,
      c.number.ensures.value,
      c.unlink-after.ensures.value,
      c.unlink-after.ensures.unlinked,
    )
    (removed_first c.self.inside c.args.number c.args.place c.self.invariant c.requires.some here).1

pub returns : goal.returns
returns c =
    let here = ap (λ es. first_half c.args.place es) c.self.view_is ∙ c.requires.first in
    rw (
      c.from.ensures,
      c.number.ensures.value,
      c.unlink-after.ensures.value,
      c.unlink-after.ensures.unlinked,
    )
    ((removed_first c.self.inside c.args.number c.args.place c.self.invariant c.requires.some
    here).0 ∙ ap (λ es. without c.args.number es) c.self.view_is)
