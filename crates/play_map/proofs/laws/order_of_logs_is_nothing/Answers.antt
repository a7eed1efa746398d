use Rattle.play_map.proofs.LawLemmas.{order_of_logs_is_nothing}
use Rattle.play_map.proofs.laws.order_of_logs_is_nothing.Goals as goal

pub returns : goal.returns
returns c = order_of_logs_is_nothing
