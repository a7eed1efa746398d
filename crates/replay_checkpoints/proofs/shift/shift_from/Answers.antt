use Rattle.std.proofs.Common.{◌≡◌, ◌++◌, take, sym, ap, ◌∙◌, arith}
use Rattle.std.proofs.lemmas.List.{take-append-drop}
use Rattle.replay_checkpoints.specs.Marks.{after_shift}
use Rattle.replay_checkpoints.proofs.Runs.{moved_same}
use Rattle.replay_checkpoints.proofs.shift.shift_from.Goals as goal

pub returns-else-old-new-clause-items : goal.returns-else-old-new-clause-items
returns-else-old-new-clause-items c =
    let numbers = c.args.numbers.now.items in
    let same : after_shift numbers c.args.from c.args.old c.args.new
    ≡ after_shift numbers c.args.from c.args.old c.args.old =
    ap (after_shift numbers c.args.from c.args.old) (sym c.if-old-new.false) in
    sym (ap (λ tail. take c.args.from numbers ++ tail)
    (same ∙ moved_same numbers c.args.from c.args.old
    (λ i le h. c.requires.after i le (omega arith))) ∙ take-append-drop c.args.from numbers)
