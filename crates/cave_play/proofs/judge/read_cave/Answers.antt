use Rattle.cave_play.proofs.SourceLemmas.{once, goes_on, after_bindings, after_database, said}
use Rattle.cave_play.proofs.SourceLemmas.{same_bindings, some_bytes}
use Rattle.std.proofs.Common.{◌≡◌, ℕ, List, subst, ◌∙◌}
use Rattle.std.specs.Prelude.{◌⊎◌}
use Rattle.std.proofs.lemmas.Result.{err_from_is_err_and}
use Rattle.cave_data.specs.Faults.{FaultIs}
use Rattle.cave_data.specs.Reads.{Reads, fault}
use Rattle.cave_play.specs.Stages.{cave_refusal}
use Rattle.cave_play.specs.declared.fault.PlayFault.TheVariants.{Memory}
use Rattle.cave_play.proofs.JudgeLemmas.{IsFoundIn-bindings, IsFoundIn-database, IsFoundIn-inputs}
use Rattle.cave_play.proofs.JudgeLemmas.{cave_stages-read, inputs_fault-some}
use Rattle.cave_play.proofs.judge.read_cave.Goals as goal

pub returns-in_err-database : goal.returns-in_err-database
returns-in_err-database g c =
    let exit = err_from_is_err_and c.from_residual.result c.from_residual.ensures.1 in
    let held = g.I.Sources.held c.args.inputs.now in
    let (database, one, refused) = c.in_err-database.ensures.read in
    rw (exit.1, exit.2)
    (record {
      judged = (
        database,
        some_bytes held.bindings,
        one,
        said held.bindings,
        IsFoundIn-database database (some_bytes held.bindings) _ refused,
      );
      others = after_database _ _ c.in_err-database.ensures.taken;
      leads = once g.I.Sources.Reads _ _ _ c.in_err-database.ensures.reads;
    })

pub returns-in_err-bindings : goal.returns-in_err-bindings
returns-in_err-bindings g c =
    let exit =
    err_from_is_err_and c.from_residual-in_err-bindings.result
    c.from_residual-in_err-bindings.ensures.1 in
    let (database, one, read) = c.in_ok-database.ensures.read in
    let (bindings, two, refused) = c.in_err-bindings.ensures.read in
    let taken = c.in_ok-database.ensures.taken in
    rw (exit.1, exit.2)
    (record {
      judged = (
        database,
        bindings,
        one,
        same_bindings _ _ bindings taken two,
        IsFoundIn-bindings database bindings _ read.1 refused,
      );
      others = after_bindings _ _ _ taken c.in_err-bindings.ensures.taken;
      leads = goes_on g.I.Sources.Reads _ _ _
          (once g.I.Sources.Reads _ _ _ c.in_ok-database.ensures.reads)
          (once g.I.Sources.Reads _ _ _ c.in_err-bindings.ensures.reads);
    })

pub returns-in-Ok : goal.returns-in-Ok
returns-in-Ok g c =
    let (database, one, read) = c.in_ok-database.ensures.read in
    let (bindings, two, more) = c.in_ok-bindings.ensures.read in
    let taken = c.in_ok-database.ensures.taken in
    let cave = c.in-Ok.cave in
    let reads =
    subst (λ d. Reads d bindings cave) (c.deref.ensures.value ∙ read.0)
    (subst (λ b. Reads c.deref.result.now b cave) (c.deref-2.ensures.value ∙ more.0)
    c.in-Ok.ensures.found) in
    record {
      judged = (
        database,
        bindings,
        one,
        same_bindings _ _ bindings taken two,
        (
          cave_stages-read database bindings cave reads,
          record { database_is = read.0; bindings_are = more.0; reads = reads },
        ),
      );
      leads = goes_on g.I.Sources.Reads _ _ _
          (once g.I.Sources.Reads _ _ _ c.in_ok-database.ensures.reads)
          (once g.I.Sources.Reads _ _ _ c.in_ok-bindings.ensures.reads);
      others = after_bindings _ _ _ taken c.in_ok-bindings.ensures.taken;
    }

pub returns-in-Err : goal.returns-in-Err
returns-in-Err g c =
    let (database, one, read) = c.in_ok-database.ensures.read in
    let (bindings, two, more) = c.in_ok-bindings.ensures.read in
    let taken = c.in_ok-database.ensures.taken in
    let error = c.in-Err.error in
    let found = c.cave_refusal.result in
    let of_fault =
    subst (λ (b : List ℕ × List ℕ). FaultIs error (fault b.0 b.1))
    (λ i. ((c.deref.ensures.value ∙ read.0) i, (c.deref-2.ensures.value ∙ more.0) i))
    c.in-Err.ensures.fault in
    let told =
    subst (λ (b : List ℕ × List ℕ). (found ≡ Memory) ⊎ (found ≡ cave_refusal b.0 b.1 error))
    (λ i. ((c.deref-in-Err.ensures.value ∙ read.0) i, (c.deref-in-Err-2.ensures.value ∙ more.0) i))
    c.cave_refusal.ensures.told in
    let refused =
    inputs_fault-some database bindings error found of_fault c.cave_refusal.ensures.memory told in
    record {
      judged = (
        database,
        bindings,
        one,
        same_bindings _ _ bindings taken two,
        IsFoundIn-inputs database bindings found read.1 more.1 refused,
      );
      others = after_bindings _ _ _ taken c.in_ok-bindings.ensures.taken;
      leads = goes_on g.I.Sources.Reads _ _ _
          (once g.I.Sources.Reads _ _ _ c.in_ok-database.ensures.reads)
          (once g.I.Sources.Reads _ _ _ c.in_ok-bindings.ensures.reads);
    }
