use Rattle.play_laws.proofs.Period.{counted_lead}
use Rattle.play_laws.proofs.draw_laws.counted_draws_lead.Goals as goal

pub returns : goal.returns
returns c = counted_lead
