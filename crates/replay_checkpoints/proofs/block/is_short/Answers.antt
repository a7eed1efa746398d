use Rattle.std.proofs.Common.{◌+◌, ◌<◌, length, arith}
use Rattle.replay_checkpoints.proofs.BlockLemmas.{start_is}
use Rattle.replay_checkpoints.proofs.block.is_short.Goals as goal

pub returns-clause-ended : goal.returns-clause-ended
returns-clause-ended g c = λ _.
    let next = c.index-blocks-index in
    let inside : c.args.index + 1 < length c.args.blocks.now =
    omega (arith, c.if-blocks-index.false) in
    let start =
    start_is c.args.blocks.now (c.args.index + 1) next.result inside next.is c.requires.laid in
    omega (arith, c.if-next-to.false)
