use Rattle.std.proofs.Common.{sym, subst}
use Rattle.data_rows.specs.Targets.{EndsWithin}
use Rattle.data_rows.proofs.TargetLemmas.{destination_within}
use Rattle.data_rows.proofs.rows.Row.destination.Goals as goal

pub returns-clause-within : goal.returns-clause-within
returns-clause-within c = subst EndsWithin (sym c.args.self.now.destination_is)
    (destination_within c.args.self.now.target)
