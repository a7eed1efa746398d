use Rattle.std.proofs.Common.{◌<◌, length, get_or, arith}
use Rattle.std.proofs.lemmas.List.{get_or_default}
use Rattle.std.proofs.lemmas.List.Edits.{map_over_more}
use Rattle.replay_checkpoints.specs.Blocks.{moved_block}
use Rattle.replay_checkpoints.proofs.block.move_starts.Goals as goal

pub loop-block-preserved : goal.loop-block-preserved
loop-block-preserved g c =
    let now = c.loop-block.blocks in
    let i = c.loop-block.block-index in
    let within : i < length now = omega arith in
    map_over_more (moved_block c.args.gone c.args.come) c.args.blocks.now now i
    (get_or now i c.block-item.result) (omega arith) c.loop-block.invariant
    (get_or_default now i c.block-item.result (get_or now i c.block-item.result) within)
