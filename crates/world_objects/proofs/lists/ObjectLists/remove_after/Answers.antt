use Rattle.std.proofs.Common.{ap, ◌∙◌, arith}
use Rattle.world_objects.specs.Lists.{without}
use Rattle.world_objects.specs.Links.{next_half}
use Rattle.world_objects.proofs.Relinked.{removed_after, is_number, next_is_number}
use Rattle.world_objects.proofs.lists.ObjectLists.remove_after.Goals as goal

pub unlink-after-requires-clause-within : goal.unlink-after-requires-clause-within
unlink-after-requires-clause-within c =
    (next_is_number c.args.before c.args.number c.args.self.now c.requires.some
    (rw c.self.view_is at c.self.invariant.lists) c.requires.after).high

pub overflow_sub-self : goal.overflow_sub-self
overflow_sub-self c =
    let number = is_number c.args.before c.args.number c.args.self.now c.requires.some
    (rw c.self.view_is at c.self.invariant.lists) c.requires.after in
    omega (arith, c.from.ensures, number.low)

pub bounds-self-inside-from : goal.bounds-self-inside-from
bounds-self-inside-from c =
    let number = is_number c.args.before c.args.number c.args.self.now c.requires.some
    (rw c.self.view_is at c.self.invariant.lists) c.requires.after in
    omega (arith, c.from.ensures, number.low, number.high)

pub invariant_of-self : goal.invariant_of-self
invariant_of-self c =
    let here = ap (λ es. next_half c.args.before es) c.self.view_is ∙ c.requires.after in
    rw (c.from.ensures, c.unlink-after.ensures.value, c.unlink-after.ensures.unlinked)
    (removed_after c.self.inside c.args.number c.args.before c.self.invariant c.requires.some
    here).1

pub returns : goal.returns
returns c =
    let here = ap (λ es. next_half c.args.before es) c.self.view_is ∙ c.requires.after in
    rw (c.from.ensures, c.unlink-after.ensures.value, c.unlink-after.ensures.unlinked)
    ((removed_after c.self.inside c.args.number c.args.before c.self.invariant c.requires.some
    here).0 ∙ ap (λ es. without c.args.number es) c.self.view_is)
