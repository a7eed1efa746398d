use Rattle.std.proofs.Common.{◌-◌, length, max, refl, sym, ap, ◌∙◌, arith}
use Rattle.replay_edits.specs.Edit.{log_of}
use Rattle.replay_edits.proofs.DraftLemmas.{alone_at_start, margins_within}
use Rattle.replay_edits.proofs.Lines.{length-log_of}
use Rattle.replay_edits.proofs.draft.Draft.new.Goals as goal

pub overflow_sub-len : goal.overflow_sub-len
overflow_sub-len c =
    let lines = c.args.log.now.items in
    let plan = c.in-Ok.ensures (log_of lines) (length-log_of lines ∙ sym c.len.ensures.len) in
    let inside = margins_within c.args.edits.now lines c.in-Ok.plan.margins plan.margins in
    omega (arith, inside.1, c.len-2.ensures.len)

pub numbers-requires-clause-within : goal.numbers-requires-clause-within
numbers-requires-clause-within c =
    let lines = c.args.log.now.items in
    let plan = c.in-Ok.ensures (log_of lines) (length-log_of lines ∙ sym c.len.ensures.len) in
    let inside =
    margins_within c.args.edits.now c.args.log.now.items c.in-Ok.plan.margins plan.margins in
    omega (arith, inside.0, inside.1, c.max.ensures, c.len-2.ensures.len)

pub returns : goal.returns
returns c =
    let log = log_of c.args.log.now.items in
    let margins = c.in-Ok.plan.margins in
    let plan =
    c.in-Ok.ensures log (length-log_of c.args.log.now.items ∙ sym c.len.ensures.len) in
    let inside = margins_within c.args.edits.now c.args.log.now.items margins plan.margins in
    let begun = c.in_ok-numbers.ensures in
    record {
      edits_are = refl;
      log_is = refl;
      made_is = refl;
      now = begun.log;
      counted = sym (ap length begun.log ∙ length-log_of c.args.log.now.items
          ∙ sym c.len-3.ensures.len);
      ordered = omega (arith, c.max.ensures);
      within = omega (arith, inside.0, inside.1, c.max.ensures, c.len-2.ensures.len);
      free = rw begun.log c.requires;
      alone = rw begun.log
          (alone_at_start c.args.edits.now c.args.log.now.items margins margins.head c.max.result
          c.requires plan.margins refl
          (c.max.ensures ∙ ap (λ n. max (n - margins.tail) margins.head) c.len-2.ensures.len));
      numbers = begun.numbers;
    }
