use Rattle.std.proofs.Common.{◌≡◌, ◌*◌, ◌/◌, ◌+◌, ◌++◌, length, subst, sym, ap, refl, ◌∙◌, arith}
use Rattle.std.proofs.lemmas.List.{take-append-drop, length-take-le}
use Rattle.replay_checkpoints.specs.Blocks.{AreLaid, items_in}
use Rattle.replay_checkpoints.proofs.BlockLemmas.{cut_items, cut_laid, ends_within}
use Rattle.replay_checkpoints.proofs.block.cut_last_items.Goals as goal

pub overflow_add-start : goal.overflow_add-start
overflow_add-start g c =
    let same = c.reserve.ensures.items in
    let blocks = c.reserve.new.self.items in
    let block = c.index_mut-block.result.now in
    let laid = subst (AreLaid 0) (sym same) c.requires.laid in
    let inside = rw (← same) at c.requires.inside in
    let few = rw (← same) at c.requires.few in
    let within =
    ends_within blocks c.args.index block inside c.index_mut-block.ensures.value laid in
    omega (arith, c.saturating_sub.ensures, c.len.ensures, block.items.ok)

pub returns-clause-laid : goal.returns-clause-laid
returns-clause-laid g c =
    let same = c.reserve.ensures.items in
    let blocks = c.reserve.new.self.items in
    let block = c.index_mut-block.result.now in
    let keep = c.saturating_sub.result / 512 * 512 in
    let laid = subst (AreLaid 0) (sym same) c.requires.laid in
    let inside = rw (← same) at c.requires.inside in
    let made = c.in_ok-items.ensures in
    let whole : c.split_off.new.self.items ++ c.in_ok-items.items.items ≡ block.items.items =
    rw (made.items, made.tail) (take-append-drop keep block.items.items) in
    let count : length c.split_off.new.self.items ≡ keep =
    ap length made.items ∙ length-take-le keep block.items.items
    (omega (arith, c.saturating_sub.ensures, c.len.ensures, block.items.ok)) in
    subst (AreLaid 0) (sym c.in-Ok.ensures.items)
    (cut_laid blocks c.args.index block _ _ inside c.index_mut-block.ensures.value whole refl
    (ap (λ n. block.start + n) (sym count)) laid)

pub returns-clause-items : goal.returns-clause-items
returns-clause-items g c =
    let same = c.reserve.ensures.items in
    let blocks = c.reserve.new.self.items in
    let block = c.index_mut-block.result.now in
    let keep = c.saturating_sub.result / 512 * 512 in
    let inside = rw (← same) at c.requires.inside in
    let made = c.in_ok-items.ensures in
    let whole : c.split_off.new.self.items ++ c.in_ok-items.items.items ≡ block.items.items =
    rw (made.items, made.tail) (take-append-drop keep block.items.items) in
    ap items_in c.in-Ok.ensures.items
    ∙ cut_items blocks c.args.index block _ _ inside c.index_mut-block.ensures.value whole
    ∙ ap items_in same
