use Rattle.std.proofs.Common.{refl, rules}
use Rattle.cave_play.proofs.SourceLemmas.{once}
use Rattle.cave_play.proofs.two_logs.WithComparedSources.read.Goals as goal

pub returns-in_default : goal.returns-in_default
returns-in_default g c = record {
  read = search rules;
  taken = search rules;
  reads = (refl, once g.I.Sources.Reads _ _ _ c.read-in_default.ensures.reads);
}
