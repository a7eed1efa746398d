use Rattle.std.proofs.Common.{◌≡◌, ◌+◌, ◌<◌, length, ap, arith}
use Rattle.replay_checkpoints.specs.declared.block.Block.{Block}
use Rattle.replay_checkpoints.proofs.BlockLemmas.{start_is}
use Rattle.replay_checkpoints.proofs.block.find_block.Goals as goal
use Rattle.replay_checkpoints.proofs.block.find_block.Goals.{then-back-test+else-place-blocks}
use Rattle.replay_checkpoints.proofs.block.find_block.Goals.{else-back-test}

pub on-init : goal.on-init
on-init g c =
    let blocks = c.args.blocks.now in
    record {
      inside = c.back.invariant;
      begun = elim c.back-test.branch [
        | then-back-test+else-place-blocks w ↦
            let start = start_is blocks c.back.index w.index-blocks-index.result c.back.invariant
            w.index-blocks-index.is c.requires.laid in
            let read = ap (λ (b : Block _). b.start) w.index-blocks-index.is in
            omega (arith, w.if-place-blocks.false)
        | else-back-test w ↦
            let first : c.back.index ≡ 0 = omega (arith, w.back-test.false) in
            rw first (omega arith)
      ];
    }

pub on-preserved : goal.on-preserved
on-preserved g c =
    let blocks = c.args.blocks.now in
    let item = c.index-blocks-index-in-on in
    let inside : c.on.index + 1 < length blocks = omega (arith, c.on-test.true) in
    let start = start_is blocks (c.on.index + 1) item.result inside item.is c.requires.laid in
    let read = ap (λ (b : Block _). b.start) item.is in
    record { inside = inside; begun = omega (arith, c.if-blocks-index.true) }

pub returns-else-blocks-index : goal.returns-else-blocks-index
returns-else-blocks-index g c =
    let blocks = c.args.blocks.now in
    let item = c.index-blocks-index-in-on in
    let here = c.on.invariant in
    record {
      inside = here.inside;
      begun = here.begun;
      ended = λ inside.
          let start = start_is blocks (c.on.index + 1) item.result inside item.is c.requires.laid in
          let read = ap (λ (b : Block _). b.start) item.is in
          omega (arith, c.if-blocks-index.false);
    }
