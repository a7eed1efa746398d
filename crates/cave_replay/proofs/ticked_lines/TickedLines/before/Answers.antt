use Rattle.std.proofs.Common.{arith}
use Rattle.cave_replay.proofs.Counting.{total-to}
use Rattle.cave_replay.proofs.ticked_lines.TickedLines.before.Goals as goal

pub overflow_sub-result : goal.overflow_sub-result
overflow_sub-result c =
    let ticked = c.args.self.now in
    let all = total-to ticked.each.items c.len.result c.len.ensures.len in
    omega (arith, c.count_between.ensures, all, ticked.counted)

pub returns : goal.returns
returns c =
    let ticked = c.args.self.now in
    let all = total-to ticked.each.items c.len.result c.len.ensures.len in
    omega (arith, c.count_between.ensures, all, ticked.counted)
