use Rattle.std.proofs.Common.{ap, ◌∙◌, arith}
use Rattle.cave_replay.proofs.Counting.{total, total-parts, total-splice}
use Rattle.cave_replay.proofs.ticked_lines.TickedLines.replace.Goals as goal

pub overflow_sub-self : goal.overflow_sub-self
overflow_sub-self c =
    let ticked = c.args.self.now in
    omega (
      arith,
      c.count_between-gone.ensures,
      total-parts ticked.each.items c.args.to,
      ticked.counted,
    )

pub invariant_of-self : goal.invariant_of-self
invariant_of-self c =
    let ticked = c.args.self.now in
    let come = c.count_ticks-come.ensures ∙ ap total c.deref.ensures.value in
    let made = ap total c.replace.ensures in
    record {
      counted = omega (
        arith,
        c.count_between-gone.ensures,
        total-parts ticked.each.items c.args.to,
        total-splice ticked.each.items c.args.lines.now.items c.args.from c.args.to,
        ticked.counted,
      );
    }
