use Rattle.std.proofs.Common.{eqb, refl}
use Rattle.std.specs.Cmp.Lexicographic.{pointwise}
use Rattle.world_objects.proofs.Relinked.{same_values, same_places}
use Rattle.world_objects.proofs.lists.ObjectLists.is_same.Goals as goal

pub returns-then-eq-clause-value : goal.returns-then-eq-clause-value
returns-then-eq-clause-value c =
    rw c.if-eq.true at
    (same_values c.self.inside c.other.inside c.args.self.now c.args.other.now c.eq.result
    c.eq-then-eq.result c.self.invariant c.other.invariant c.self.view_is c.other.view_is
    c.eq.ensures c.eq-then-eq.ensures)

pub returns-then-eq-clause-lists : goal.returns-then-eq-clause-lists
returns-then-eq-clause-lists c =
    same_places c.args.self.now c.args.other.now c.eq-then-eq.result
    (rw c.self.view_is at c.self.invariant.lists)
    (rw c.other.view_is at c.other.invariant.lists)
    (rw c.if-eq.true at
    (same_values c.self.inside c.other.inside c.args.self.now c.args.other.now c.eq.result
    c.eq-then-eq.result c.self.invariant c.other.invariant c.self.view_is c.other.view_is
    c.eq.ensures c.eq-then-eq.ensures))

pub returns-else-eq-clause-value : goal.returns-else-eq-clause-value
returns-else-eq-clause-value c =
    let next = pointwise eqb c.self.inside.next c.other.inside.next in
    rw c.if-eq.false
    (rw c.if-eq.false at
    (same_values c.self.inside c.other.inside c.args.self.now c.args.other.now c.eq.result
    next c.self.invariant c.other.invariant c.self.view_is c.other.view_is c.eq.ensures
    refl))

pub returns-else-eq-clause-lists : goal.returns-else-eq-clause-lists
returns-else-eq-clause-lists c =
    same_places c.args.self.now c.args.other.now c.eq.result
    (rw c.self.view_is at c.self.invariant.lists)
    (rw c.other.view_is at c.other.invariant.lists) (returns-else-eq-clause-value c)
