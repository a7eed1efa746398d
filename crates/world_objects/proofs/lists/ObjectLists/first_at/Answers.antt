use Rattle.std.proofs.Common.{◌≡◌, sym, ap, ◌∙◌, arith}
use Rattle.world_objects.specs.Links.{first_half}
use Rattle.world_objects.proofs.Chains.{value_at-first}
use Rattle.world_objects.proofs.Relinked.{first_nowhere}
use Rattle.world_objects.proofs.lists.ObjectLists.first_at.Goals as goal

pub returns-then-number-eq0-clause-value : goal.returns-then-number-eq0-clause-value
returns-then-number-eq0-clause-value c =
    let nowhere : c.args.place ≡ 0 = sym c.number.ensures.value ∙ c.if-number-eq0.true in
    sym (ap (λ p. first_half p c.args.self.now) nowhere
    ∙ first_nowhere c.args.self.now (rw c.self.view_is at c.self.invariant.lists))

pub returns-clause-value : goal.returns-clause-value
returns-clause-value c =
    let at : c.from.result ≡ c.args.place = c.from.ensures ∙ c.number-2.ensures.value in
    rw at (value_at-first c.self.inside c.args.place c.self.invariant
    (omega (arith, c.number.ensures.value, c.if-number-eq0.false))
    (omega (arith, c.number.ensures.value, c.number.ensures.within))
    ∙ ap (λ es. first_half c.args.place es) c.self.view_is)
