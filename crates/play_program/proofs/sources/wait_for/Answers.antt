use Rattle.std.proofs.Common.{sym, inl, inr, refl}
use Rattle.play_command.specs.Asked.{named_file}
use Rattle.play_program.proofs.CallLemmas.{same_entry, stopped-at}
use Rattle.play_program.proofs.sources.wait_for.Goals as goal

pub returns-in-Err-clause-opened : goal.returns-in-Err-clause-opened
returns-in-Err-clause-opened g c =
    stopped-at c.args.what (named_file c.args.file.now) _ _ _ (sym c.if-not-is_first.ensures)
    c.in-Err.ensures.call
    (inl c.memory.ensures)

pub returns-in-Err-2-clause-opened : goal.returns-in-Err-2-clause-opened
returns-in-Err-2-clause-opened g c =
    stopped-at c.args.what (named_file c.args.file.now) _ _ _ (sym c.if-not-is_first.ensures)
    c.in-Err.ensures.call
    (inr (sym c.if-not-is_first.ensures, (_, refl)))

pub returns-then-not-is_first-clause-reads : goal.returns-then-not-is_first-clause-reads
returns-then-not-is_first-clause-reads g c =
    same_entry (named_file c.args.file.now) _ _ _ _ refl c.if-not-is_first.ensures

pub returns-in-Ok-clause-reads : goal.returns-in-Ok-clause-reads
returns-in-Ok-clause-reads g c =
    same_entry (named_file c.args.file.now) _ _ _ _ c.in-Ok.ensures.file c.if-not-is_first.ensures
