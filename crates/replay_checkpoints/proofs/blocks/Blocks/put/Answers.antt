use Rattle.std.proofs.Common.{ap, length, sym, ◌∙◌, arith}
use Rattle.std.proofs.lemmas.List.{length-set}
use Rattle.replay_checkpoints.proofs.BlockStarts.{still_held}
use Rattle.replay_checkpoints.proofs.blocks.Blocks.put.Goals as goal

pub invariant_of-self : goal.invariant_of-self
invariant_of-self g c =
    let was = c.self.invariant in
    let made = c.put_item.ensures in
    record {
      some = omega (arith, was.some, made.len);
      laid = made.laid;
      len_is = was.len_is ∙ sym (ap length made.items ∙ length-set _ _ _);
      few = was.few;
      held = still_held c.self.inside.stretch was.held
          (λ stretch. made.held stretch.from stretch.to stretch.room stretch.block);
      fits = was.fits;
    }
