use Rattle.std.proofs.Common.{sym, subst, ◌∙◌, inr}
use Rattle.std.specs.Str.Lines.{lines}
use Rattle.std.proofs.lemmas.Result.{err_from_is_err_and}
use Rattle.cave_data.specs.declared.reader.Tables.{Tables}
use Rattle.cave_data.specs.Laws.{AreInRange, HasOnly, IsPlacementInRange}
use Rattle.cave_data.proofs.RangeLemmas.{bound_in_range, standing_in_range}
use Rattle.cave_data.proofs.ReadLemmas.{fault_database_large, fault_bindings_large}
use Rattle.cave_data.proofs.ReadLemmas.{fault_in_database, fault_in_bindings, made_reads}
use Rattle.cave_data.proofs.cave.read_cave.Goals as goal

pub returns-then-is_too_large-clause-fault : goal.returns-then-is_too_large-clause-fault
returns-then-is_too_large-clause-fault c =
    inr (fault_database_large _ _ (sym c.is_too_large.ensures ∙ c.if-is_too_large.true))

pub returns-then-is_too_large-2-clause-fault : goal.returns-then-is_too_large-2-clause-fault
returns-then-is_too_large-2-clause-fault c =
    inr (fault_bindings_large _ _ (sym c.is_too_large.ensures ∙ c.if-is_too_large.false)
    (sym c.is_too_large-2.ensures ∙ c.if-is_too_large-2.true))

pub returns-in_err-tables-clause-fault : goal.returns-in_err-tables-clause-fault
returns-in_err-tables-clause-fault c =
    let p = err_from_is_err_and c.from_residual.result c.from_residual.ensures.1 in
    rw (p.1, p.2)
    (fault_in_database _ _ _ (sym c.is_too_large.ensures ∙ c.if-is_too_large.false)
    (sym c.is_too_large-2.ensures ∙ c.if-is_too_large-2.false) c.in_err-tables.ensures.fault)

pub returns-in_err-bindings-clause-fault : goal.returns-in_err-bindings-clause-fault
returns-in_err-bindings-clause-fault c =
    let p = err_from_is_err_and c.from_residual-in_err-bindings.result
    c.from_residual-in_err-bindings.ensures.1 in
    rw (p.1, p.2)
    (fault_in_bindings _ _ _ (sym c.is_too_large.ensures ∙ c.if-is_too_large.false)
    (sym c.is_too_large-2.ensures ∙ c.if-is_too_large-2.false) c.in_ok-tables.ensures.right
    c.in_err-bindings.ensures.fault)

pub finish-requires : goal.finish-requires
finish-requires c = record {
  bindings =
      subst AreInRange (sym c.in_ok-bindings.ensures.found)
      (bound_in_range (lines c.args.bindings.now));
  placements =
      subst (λ (t : Tables). HasOnly IsPlacementInRange t.placements)
      (sym c.in_ok-tables.ensures.found)
      (standing_in_range (lines c.args.database.now));
}

pub returns-clause-found : goal.returns-clause-found
returns-clause-found c =
    made_reads _ _ _ _ _ (sym c.is_too_large.ensures ∙ c.if-is_too_large.false)
    (sym c.is_too_large-2.ensures ∙ c.if-is_too_large-2.false) c.in_ok-tables.ensures.right
    c.in_ok-tables.ensures.found
    c.in_ok-bindings.ensures.right c.in_ok-bindings.ensures.found c.finish.ensures
