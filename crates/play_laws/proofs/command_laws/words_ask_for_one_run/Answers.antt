use Rattle.play_laws.proofs.CommandLaws.{one_run}
use Rattle.play_laws.proofs.command_laws.words_ask_for_one_run.Goals as goal

pub returns : goal.returns
returns c = one_run
