use Rattle.std.proofs.Common.{◌≡◌, ◌≤◌, ◌-◌, ◌++◌, length, take, drop, ap, refl, ◌∙◌, arith}
use Rattle.std.proofs.Common.{length-drop}
use Rattle.std.proofs.lemmas.List.{take_rest}
use borrow.Rule.Slice.PartMut.{put_mid}
use Rattle.replay_checkpoints.proofs.TurnLemmas.{spliced, front_kept, lent_items, length-put_back}
use Rattle.replay_checkpoints.proofs.stretch.splice.Goals as goal

pub returns-clause-items : goal.returns-clause-items
returns-clause-items g c =
    let xs = c.args.items.now.items in
    let ms = c.args.middle.now.items in
    let more = c.len-2.result - c.min-common.result in
    let last = c.args.to - c.min-common.result in
    let from = c.args.from in
    let count : c.len-2.result ≡ length ms = omega arith in
    let common : c.min-common.result ≤ length ms = omega arith in
    let rest : c.truncate.new.self.items ≡ take more ms = c.truncate.ensures.items
    ∙ front_kept _ _ _ _ more _ (omega arith) (omega arith)
    ∙ ap (take more) c.deref_mut-2.ensures.value in
    let moved : c.swap_with_slice.new.self ≡ drop more ms = c.swap_with_slice.ensures.after
    ∙ take_rest c.deref_mut-2.result.now more ∙ ap (drop more) c.deref_mut-2.ensures.value in
    let ws = put_mid last (c.args.to - last) xs (drop more ms) in
    let same_len : length ws ≡ c.args.items.now.len =
    omega (
      arith,
      length-put_back xs (drop more ms) last c.args.to (omega arith) (omega arith)
          (omega (arith, length-drop more ms)),
    ) in
    let taken : c.take_out.new.items.items ≡ take from ws ++ drop last ws = c.take_out.ensures.items
    ∙ rw (c.deref_mut.ensures.value, moved, lent_items c.args.items.now.len ws _ same_len)
    refl in
    c.bring_in.ensures.items
    ∙ ap (λ t. take from c.take_out.new.items.items ++ (t ++ drop from c.take_out.new.items.items))
    rest
    ∙ spliced xs ms ws c.take_out.new.items.items from c.args.to last more (omega arith)
    (omega arith) (omega arith) refl taken
