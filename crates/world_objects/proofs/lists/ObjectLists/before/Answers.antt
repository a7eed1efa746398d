use Rattle.std.proofs.Common.{List, refl, sym, ap, ◌∙◌}
use Rattle.world_objects.specs.declared.object.Half.{Half}
use Rattle.world_objects.specs.Objects.{is_listed}
use Rattle.world_objects.specs.Lists.{halves_at}
use Rattle.world_objects.proofs.Walks.{IsLeft-first_half, step, ended, fewer, listed_on}
use Rattle.world_objects.proofs.Walks.{none_listed}
use Rattle.world_objects.proofs.lists.ObjectLists.before.Goals as goal

pub loop-before-init : goal.loop-before-init
loop-before-init c = (
  halves_at c.args.place c.args.self.now,
  (
    rw c.first_at-before.ensures.value
        (IsLeft-first_half c.args.place c.args.self.now c.first_at-before.ensures.lists
        c.first_at-before.ensures.within),
    (refl, λ s. c.requires.later (sym c.first_at-before.ensures.value ∙ s)),
  ),
)

pub after-after-requires-clause-within : goal.after-after-requires-clause-within
after-after-requires-clause-within c =
    (step c.args.self.now c.loop-before.before c.loop-before.invariant.0
    c.loop-before.invariant.1.0 c.loop-before-test.true).high

pub loop-before-smaller : goal.loop-before-smaller
loop-before-smaller c =
    let rest = c.loop-before.invariant.0 in
    let s = step c.args.self.now c.loop-before.before rest c.loop-before.invariant.1.0
    c.loop-before-test.true in
    fewer c.args.self.now c.loop-before.before c.after-after.result rest
    c.loop-before.invariant.1.0 s c.after-after.ensures

pub loop-before-preserved : goal.loop-before-preserved
loop-before-preserved c =
    let rest = c.loop-before.invariant.0 in
    let s = step c.args.self.now c.loop-before.before rest c.loop-before.invariant.1.0
    c.loop-before-test.true in (
      s.after,
      (
        rw c.after-after.ensures s.left,
        (
          listed_on c.args.self.now c.args.number c.loop-before.before rest _ s
              c.loop-before.invariant.1.1.0 c.loop-before.invariant.1.1.1,
          c.if-after-number.false,
        ),
      ),
    )

pub returns : goal.returns
returns c =
    let none = ended c.args.self.now c.loop-before.before c.loop-before.invariant.0
    c.loop-before.invariant.1.0 c.loop-before-test.false in
    sym c.loop-before.invariant.1.1.0
    ∙ (ap (λ (l : List Half). is_listed c.args.number l) none ∙ none_listed c.args.number)
