use Rattle.std.proofs.Common.{◌≡◌, ◌+◌, ◌-◌, get_or, set, subst, sym, ap, refl, ◌∙◌, arith}
use Rattle.std.proofs.lemmas.List.{get_or_default}
use Rattle.replay_checkpoints.specs.Blocks.{AreLaid, items_in}
use Rattle.replay_checkpoints.specs.declared.block.Block.{Block}
use Rattle.replay_checkpoints.proofs.AroundLemmas.{first_same}
use Rattle.replay_checkpoints.proofs.BlockLemmas.{replace_items, replace_laid, start_is, start-more}
use Rattle.replay_checkpoints.proofs.BlockStarts.{start-later, start-within}
use Rattle.replay_checkpoints.proofs.blocks.replace_in.Goals as goal

pub move_later-requires-clause-late : goal.move_later-requires-clause-late
move_later-requires-clause-late g c = λ i other first below.
    let blocks = c.args.blocks.now.items in
    let block = get_or blocks i other in
    let start = start_is blocks i block below (get_or_default blocks i other block below)
    c.requires.laid in
    omega (arith, start-later blocks (c.args.index + 1) i first, c.requires.held.ended)

pub move_later-requires-clause-few : goal.move_later-requires-clause-few
move_later-requires-clause-few g c = λ i other first below.
    let blocks = c.args.blocks.now.items in
    let block = get_or blocks i other in
    let start = start_is blocks i block below (get_or_default blocks i other block below)
    c.requires.laid in
    omega (arith, start-within blocks i, c.requires.few, c.len-come.ensures)

pub overflow_sub-first : goal.overflow_sub-first
overflow_sub-first g c =
    let blocks = c.args.blocks.now.items in
    let held = c.requires.held in
    let block = c.index_mut-block.result.now in
    let read : block ≡ get_or blocks c.args.index block = c.index_mut-block.ensures.value
    ∙ ap (λ l. get_or l c.args.index block) c.move_later.ensures
    ∙ first_same blocks _ c.args.index held.inside block in
    omega (arith, start_is blocks c.args.index block held.inside read c.requires.laid, held.begun)

pub splice-requires-clause-within : goal.splice-requires-clause-within
splice-requires-clause-within g c =
    let blocks = c.args.blocks.now.items in
    let held = c.requires.held in
    let block = c.index_mut-block.result.now in
    let read : block ≡ get_or blocks c.args.index block = c.index_mut-block.ensures.value
    ∙ ap (λ l. get_or l c.args.index block) c.move_later.ensures
    ∙ first_same blocks _ c.args.index held.inside block in
    let start = start_is blocks c.args.index block held.inside read c.requires.laid in
    let more = start-more blocks c.args.index block held.inside read in
    omega (arith, held.begun, held.ended, held.ordered, block.items.ok.0)

pub returns-clause-laid : goal.returns-clause-laid
returns-clause-laid g c =
    let blocks = c.args.blocks.now.items in
    let held = c.requires.held in
    let block = c.index_mut-block.result.now in
    let read : block ≡ get_or blocks c.args.index block = c.index_mut-block.ensures.value
    ∙ ap (λ l. get_or l c.args.index block) c.move_later.ensures
    ∙ first_same blocks _ c.args.index held.inside block in
    let start = start_is blocks c.args.index block held.inside read c.requires.laid in
    let more = start-more blocks c.args.index block held.inside read in
    let new : Block _ = record { start = block.start; items = c.splice.new.items } in
    subst (λ l. AreLaid 0 (set l c.args.index new)) (sym c.move_later.ensures)
    (replace_laid blocks c.args.index block new c.args.from c.args.to (c.args.to - c.args.from)
    c.len-come.result c.args.middle.now.items held.inside read c.requires.laid refl
    (omega (
      arith,
      c.splice.ensures.len,
      c.len-come.ensures,
      block.items.ok.0,
      c.splice.new.items.ok.0,
    ))
    (omega (arith, held.begun, held.ended)))

pub returns-clause-items : goal.returns-clause-items
returns-clause-items g c =
    let blocks = c.args.blocks.now.items in
    let held = c.requires.held in
    let block = c.index_mut-block.result.now in
    let read : block ≡ get_or blocks c.args.index block = c.index_mut-block.ensures.value
    ∙ ap (λ l. get_or l c.args.index block) c.move_later.ensures
    ∙ first_same blocks _ c.args.index held.inside block in
    let start = start_is blocks c.args.index block held.inside read c.requires.laid in
    let more = start-more blocks c.args.index block held.inside read in
    let new : Block _ = record { start = block.start; items = c.splice.new.items } in
    ap (λ l. items_in (set l c.args.index new)) c.move_later.ensures
    ∙ replace_items blocks c.args.index block new c.args.from c.args.to (c.args.to - c.args.from)
    c.len-come.result c.args.middle.now.items held.inside read c.requires.laid held.ordered
    (omega (arith, held.begun)) (omega (arith, held.ended)) c.splice.ensures.items
