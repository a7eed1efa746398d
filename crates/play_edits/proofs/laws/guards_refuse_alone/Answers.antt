use Rattle.play_edits.proofs.GuardLemmas.{guards_refuse_alone}
use Rattle.play_edits.proofs.laws.guards_refuse_alone.Goals as goal

pub returns : goal.returns
returns c = guards_refuse_alone
