use Rattle.std.proofs.Common.{[], sym, subst}
use Rattle.std.specs.Str.Lines.{lines}
use Rattle.cave_data.specs.Faults.{first_binding_fault, FaultIs}
use Rattle.cave_data.proofs.BindingLemmas.{bound_more, bound_fault}
use Rattle.cave_data.proofs.bindings.read_bindings.Goals as goal

pub returns-in-Err-clause-fault : goal.returns-in-Err-clause-fault
returns-in-Err-clause-fault c =
    subst (λ e. FaultIs e (first_binding_fault [] (lines c.args.text.now))) (sym c.error_at.ensures)
    (bound_fault c.in-Some.after.now c.in-Some.ensures.value c.loop-line.invariant c.in-Err.cause
    c.in-Err.ensures)

pub loop-line-preserved : goal.loop-line-preserved
loop-line-preserved c =
    bound_more c.in-Some.after.now c.in-Some.ensures.value c.loop-line.invariant _ c.in-Ok.ensures
    c.in-Some.ensures.shorter
