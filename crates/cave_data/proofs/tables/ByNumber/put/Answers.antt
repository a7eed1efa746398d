use Rattle.std.proofs.Common.{ap, ◌∙◌}
use Rattle.std.proofs.lemmas.Result.{on_ok_weaker}
use Rattle.std.specs.FinMap.{insert}
use Rattle.cave_data.proofs.SlotChanges.{by_number-put}
use Rattle.cave_data.proofs.tables.ByNumber.put.Goals as goal

pub returns : goal.returns
returns g c =
    on_ok_weaker c.put.result (λ h. by_number-put (λ x. x) _ _ _ _ h
    ∙ ap (λ m. insert m c.args.number c.args.value) c.self.view_is) c.put.ensures.ok
