use Rattle.std.proofs.Common.{◌∙◌, arith}
use Rattle.cave_replay.proofs.Counting.{length-counts_after, counts_after-at}
use Rattle.cave_replay.proofs.tick_counts.TickCounts.of.Goals as goal

pub returns-clause-each_line : goal.returns-clause-each_line
returns-clause-each_line c = length-counts_after 0 c.args.ticked

pub returns-clause-counts : goal.returns-clause-counts
returns-clause-counts c = λ line below. counts_after-at 0 c.args.ticked line below ∙ omega arith
