use Rattle.std.proofs.Common.{None, ap}
use Rattle.cave_data.specs.Spans.{text_of_span}
use Rattle.cave_data.proofs.SlotChanges.{by_number-none}
use Rattle.cave_data.proofs.texts.Texts.with_room.Goals as goal

pub returns : goal.returns
returns c =
    ap (λ m. record { texts = m; last = None })
    (by_number-none (text_of_span c.new.result) _ c.with_room.ensures)
