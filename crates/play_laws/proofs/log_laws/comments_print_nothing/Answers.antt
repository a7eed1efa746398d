use Rattle.play_laws.proofs.LongerLogs.{comments_print_nothing}
use Rattle.play_laws.proofs.log_laws.comments_print_nothing.Goals as goal

pub returns : goal.returns
returns c = comments_print_nothing
