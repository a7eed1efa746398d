use Rattle.play_cover.proofs.LawLemmas.{order_is_nothing}
use Rattle.play_cover.proofs.laws.order_is_nothing.Goals as goal

pub returns : goal.returns
returns c = order_is_nothing
