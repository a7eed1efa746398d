use Rattle.play_laws.proofs.JoinedScripts.{scripts_join}
use Rattle.play_laws.proofs.edit_laws.scripts_join.Goals as goal

pub returns : goal.returns
returns c = scripts_join c.scripts_run_in_turn.ensures
