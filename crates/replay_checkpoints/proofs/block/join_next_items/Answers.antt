use Rattle.std.proofs.Common.{◌<◌, ◌++◌, length, set, get_or, subst, sym, ap, refl, ◌∙◌, arith}
use Rattle.replay_checkpoints.specs.Blocks.{AreLaid, items_in}
use Rattle.replay_checkpoints.specs.declared.block.Block.{Block}
use Rattle.replay_checkpoints.proofs.BlockLemmas.{join_items, join_laid, read_again, set_items}
use Rattle.replay_checkpoints.proofs.BlockLemmas.{set_laid}
use Rattle.replay_checkpoints.proofs.block.join_next_items.Goals as goal

pub returns-in_err-reserve-clause-laid : goal.returns-in_err-reserve-clause-laid
returns-in_err-reserve-clause-laid g c =
    set_laid c.args.blocks.now.items c.args.index c.index_mut.result.now _
    (omega (arith, c.requires.inside)) c.index_mut.ensures.value refl
    (ap length c.reserve.ensures.items) c.requires.laid

pub returns-in_err-reserve-clause-items : goal.returns-in_err-reserve-clause-items
returns-in_err-reserve-clause-items g c =
    set_items c.args.blocks.now.items c.args.index c.index_mut.result.now _
    (omega (arith, c.requires.inside)) c.index_mut.ensures.value c.reserve.ensures.items

pub returns-clause-laid : goal.returns-clause-laid
returns-clause-laid g c =
    let blocks = c.args.blocks.now.items in
    let index = c.args.index in
    let old = c.index_mut.result.now in
    let wide : Block _ = record { start = old.start; items = c.reserve.new.self } in
    let next = c.remove-next.result in
    let again = c.index_mut-2.result.now in
    let below : index < length blocks = omega (arith, c.requires.inside) in
    let removed = c.remove-next.ensures.items in
    let same = read_again blocks index old wide next old below c.index_mut.ensures.value
    c.requires.inside c.remove-next.ensures.value again
    (c.index_mut-2.ensures.value ∙ ap (λ l. get_or l index again) removed) in
    let made = c.in-Ok.ensures.items ∙ ap (λ (b : Block _). b.items.items ++ next.items.items) same
    ∙ ap (λ l. l ++ next.items.items) c.reserve.ensures.items in
    subst (λ l. AreLaid 0 (set l index (record { start = again.start; items = c.append.new.self })))
    (sym removed)
    (join_laid blocks index old wide next _ below c.index_mut.ensures.value c.requires.inside
    c.remove-next.ensures.value made (ap (λ (b : Block _). b.start) same) c.requires.laid)

pub returns-clause-items : goal.returns-clause-items
returns-clause-items g c =
    let blocks = c.args.blocks.now.items in
    let index = c.args.index in
    let old = c.index_mut.result.now in
    let wide : Block _ = record { start = old.start; items = c.reserve.new.self } in
    let next = c.remove-next.result in
    let again = c.index_mut-2.result.now in
    let below : index < length blocks = omega (arith, c.requires.inside) in
    let removed = c.remove-next.ensures.items in
    let same = read_again blocks index old wide next old below c.index_mut.ensures.value
    c.requires.inside c.remove-next.ensures.value again
    (c.index_mut-2.ensures.value ∙ ap (λ l. get_or l index again) removed) in
    let made = c.in-Ok.ensures.items ∙ ap (λ (b : Block _). b.items.items ++ next.items.items) same
    ∙ ap (λ l. l ++ next.items.items) c.reserve.ensures.items in
    ap (λ l. items_in (set l index (record { start = again.start; items = c.append.new.self })))
    removed
    ∙ join_items blocks index old wide next _ below c.index_mut.ensures.value c.requires.inside
    c.remove-next.ensures.value made
