use Rattle.std.proofs.Common.{arith, ◌+◌}
use Rattle.turn_clocks.proofs.Dismissal.{one_more_is_gone}
use Rattle.turn_clocks.proofs.first_clock.dismiss_all.Goals as goal

pub loop-dwarf-preserved : goal.loop-dwarf-preserved
loop-dwarf-preserved c =
    let loop = c.loop-dwarf in let one = c.dwarf-item.result in
    one_more_is_gone c.args.dwarves.now loop.dwarves loop.dwarf-index (loop.dwarf-index + 1)
    one c.dismiss.new.dwarf loop.invariant c.loop-dwarf-test.true (omega arith) c.dismiss.ensures
