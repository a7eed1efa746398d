use Rattle.std.proofs.Common.{rules, arith}
use Rattle.play_machine.proofs.Visits.{without_block}
use Rattle.play_machine.proofs.visited.visited.Goals as goal

pub blocks-2-preserved : goal.blocks-2-preserved
blocks-2-preserved c =
    let zero = c.is_unvisited.ensures.0 (search rules) in
    let cut = c.in-Some.ensures.cases in
    let inside = c.blocks-2.invariant in (
      without_block c.args.visits.now c.blocks-2.first.now c.in-Some.before.now
          c.in-Some.block.now 30 cut.0 cut.1 cut.2 zero inside.1 inside.0,
      omega (arith, cut.2, inside.1),
    )
