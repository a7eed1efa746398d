use Rattle.std.proofs.Common.{sym, subst}
use Rattle.data_rows.specs.Targets.{IsConditionWithin}
use Rattle.data_rows.proofs.TargetLemmas.{condition_within}
use Rattle.data_rows.proofs.rows.Row.condition.Goals as goal

pub returns-clause-within : goal.returns-clause-within
returns-clause-within c = subst IsConditionWithin (sym c.args.self.now.condition_is)
    (condition_within c.args.self.now.target)
