use Rattle.std.proofs.Common.{[], ◌+◌, sym, ap, subst, ◌∙◌}
use Rattle.std.specs.Str.Lines.{lines}
use Rattle.cave_data.specs.Faults.{FaultIs, error_at}
use Rattle.cave_data.specs.Steps.{first_fault}
use Rattle.cave_data.proofs.DatabaseLemmas.{read_more, read_fault}
use Rattle.cave_data.proofs.database.read_database.Goals as goal

pub returns-in-Err-clause-fault : goal.returns-in-Err-clause-fault
returns-in-Err-clause-fault c =
    subst (λ e. FaultIs e (first_fault [] (lines c.args.database.now)))
    (sym (c.error_at.ensures
    ∙ ap (error_at c.in-Err.cause (c.loop-line.count + 1)) c.site_of_fault.ensures))
    (read_fault c.in-Some.after.now c.in-Some.ensures.value c.loop-line.invariant c.in-Err.cause
    c.in-Err.ensures)

pub loop-line-preserved : goal.loop-line-preserved
loop-line-preserved c =
    read_more c.in-Some.after.now c.in-Some.ensures.value c.loop-line.invariant _ c.in-Ok.ensures
    c.in-Some.ensures.shorter
