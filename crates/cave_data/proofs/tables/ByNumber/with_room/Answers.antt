use Rattle.cave_data.proofs.SlotChanges.{by_number-none}
use Rattle.cave_data.proofs.tables.ByNumber.with_room.Goals as goal

pub returns : goal.returns
returns g c = by_number-none (λ x. x) _ c.with_room.ensures
