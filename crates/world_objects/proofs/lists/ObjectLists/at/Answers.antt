use Rattle.std.proofs.Common.{refl, arith, rules}
use Rattle.world_objects.specs.Lists.{half_of, halves_at}
use Rattle.world_objects.proofs.Chains.{length-halves_at}
use Rattle.world_objects.proofs.Standing.{all_objects, none_nowhere}
use Rattle.world_objects.proofs.Walks.{IsLeft-first_half, step, ended, longer, told_on, told_all}
use Rattle.world_objects.proofs.lists.ObjectLists.at.Goals as goal

pub loop-number-init : goal.loop-number-init
loop-number-init c = (
  halves_at c.args.place c.args.self.now,
  (
    rw c.new-halves.ensures refl,
    rw c.first_at-number.ensures.value
        (IsLeft-first_half c.args.place c.args.self.now c.first_at-number.ensures.lists
        c.first_at-number.ensures.within),
  ),
)

pub numbered-requires : goal.numbered-requires
numbered-requires c =
    (step c.args.self.now c.loop-number.number c.loop-number.invariant.0
    c.loop-number.invariant.1.1 c.loop-number-test.true).high

pub push-requires : goal.push-requires
push-requires c =
    let rest = c.loop-number.invariant.0 in
    let s = step c.args.self.now c.loop-number.number rest c.loop-number.invariant.1.1
    c.loop-number-test.true in
    let more = longer c.loop-number.halves.items rest (halves_at c.args.place c.args.self.now)
    s.after (half_of c.loop-number.number) c.loop-number.invariant.1.0 s.splits in (
      search rules,
      omega (
        arith,
        more,
        length-halves_at c.args.place c.args.self.now
            c.first_at-number.ensures.lists,
      ),
    )

pub loop-number-smaller : goal.loop-number-smaller
loop-number-smaller c =
    let rest = c.loop-number.invariant.0 in
    let s = step c.args.self.now c.loop-number.number rest c.loop-number.invariant.1.1
    c.loop-number-test.true in
    let more = longer c.loop-number.halves.items rest (halves_at c.args.place c.args.self.now)
    s.after (half_of c.loop-number.number) c.loop-number.invariant.1.0 s.splits in
    omega (arith, more, c.push.ensures.len)

pub loop-number-preserved : goal.loop-number-preserved
loop-number-preserved c =
    let rest = c.loop-number.invariant.0 in
    let s = step c.args.self.now c.loop-number.number rest c.loop-number.invariant.1.1
    c.loop-number-test.true in (
      s.after,
      (
        told_on c.loop-number.halves.items c.push.new.self.items rest
            (halves_at c.args.place c.args.self.now) s.after (half_of c.loop-number.number)
            c.numbered.result c.loop-number.invariant.1.0 s.splits c.push.ensures.items
            c.numbered.ensures,
        rw c.after-number.ensures s.left,
      ),
    )

pub returns-clause-value : goal.returns-clause-value
returns-clause-value c =
    let rest = c.loop-number.invariant.0 in
    told_all c.loop-number.halves.items rest (halves_at c.args.place c.args.self.now)
    c.loop-number.invariant.1.0
    (ended c.args.self.now c.loop-number.number rest c.loop-number.invariant.1.1
    c.loop-number-test.false)

pub returns-clause-objects : goal.returns-clause-objects
returns-clause-objects c = all_objects c.args.place c.args.self.now c.first_at-number.ensures.lists

pub returns-clause-nowhere : goal.returns-clause-nowhere
returns-clause-nowhere c = none_nowhere c.args.self.now c.first_at-number.ensures.lists
