use Rattle.std.proofs.Common.{◌+◌, ◌<◌, ◌^◌, ◌++◌, length, take, drop, subst, ap, ◌∙◌, arith}
use Rattle.std.specs.Prelude.{IfSome}
use Rattle.std.proofs.lemmas.List.{length-append, length-drop, length-take-le}
use Rattle.replay_checkpoints.specs.Blocks.{BlocksView, HoldsStretch, items_in}
use Rattle.replay_checkpoints.proofs.BlockStarts.{start-within}
use Rattle.replay_checkpoints.proofs.blocks.Blocks.replace.Goals as goal

pub overflow_sub-self-in-Some : goal.overflow_sub-self-in-Some
overflow_sub-self-in-Some g c =
    let blocks = c.self.inside.blocks.items in
    let opened = ap (λ (v : BlocksView _). v.stretch) c.self.view_is ∙ c.requires.stretch_is in
    let held = subst (λ o. IfSome o (λ s. HoldsStretch blocks s.from s.to s.room s.block)) opened
    c.self.invariant.held in
    omega (
      arith,
      start-within blocks (c.requires.stretch.block + 1),
      held.ended,
      c.requires.to_is,
      c.self.invariant.len_is,
    )

pub invariant_of-self : goal.invariant_of-self
invariant_of-self g c =
    let blocks = c.self.inside.blocks.items in
    let was = c.self.invariant in
    let opened = ap (λ (v : BlocksView _). v.stretch) c.self.view_is ∙ c.requires.stretch_is in
    let held = subst (λ o. IfSome o (λ s. HoldsStretch blocks s.from s.to s.room s.block)) opened
    was.held in
    let fits = subst (λ o. IfSome o (λ s. c.self.inside.len + s.room < 2 ^ 63)) opened was.fits in
    let within = start-within blocks (c.requires.stretch.block + 1) in
    let made = c.replace_in.ensures in
    let items = items_in blocks in
    let middle = c.args.middle.now.items in
    let count = ap length made.items
    ∙ length-append (take c.args.from items) (middle ++ drop c.args.to items) in
    let rest = length-append middle (drop c.args.to items) in
    let head = length-take-le c.args.from items
    (omega (arith, held.ended, held.ordered, c.requires.to_is, c.requires.from_is)) in
    let tail = length-drop c.args.to items in
    record {
      some = omega (arith, was.some, made.len);
      laid = made.laid;
      len_is = omega (
        arith,
        held.ended,
        held.ordered,
        c.requires.to_is,
        c.requires.from_is,
        was.len_is,
        c.len-come.ensures,
        c.args.middle.now.ok.0,
      );
      few = omega (arith, fits, c.requires.room, c.len-come.ensures);
      held = tt;
      fits = tt;
    }
