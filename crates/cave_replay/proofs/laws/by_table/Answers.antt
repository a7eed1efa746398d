use Rattle.cave_replay.proofs.TableLemmas.{by_table}
use Rattle.cave_replay.proofs.laws.by_table.Goals as goal

pub returns : goal.returns
returns c = by_table
