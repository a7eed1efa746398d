use Rattle.std.specs.Cmp.{unsigned_Decides}
use Rattle.std.specs.Cmp.Lexicographic.{pointwise_decides}
use Rattle.play_machine.specs.Machine.{unvisited_block}
use Rattle.play_machine.proofs.visited.is_unvisited.Goals as goal

pub returns : goal.returns
returns c =
    rw (c.eq.ensures, c.new.ensures)
    (pointwise_decides unsigned_Decides c.args.block.now unvisited_block)
