use Rattle.play_cover.proofs.MoreLogsLemmas.{more_logs_list_no_more}
use Rattle.play_cover.proofs.laws.more_logs_list_no_more.Goals as goal

pub returns : goal.returns
returns c = more_logs_list_no_more
