use Rattle.play_laws.proofs.LongerLogs.{prefixes_print_alike}
use Rattle.play_laws.proofs.log_laws.prefixes_print_alike.Goals as goal

pub returns : goal.returns
returns c = prefixes_print_alike
