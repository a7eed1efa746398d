use Rattle.std.proofs.Common.{refl, ◌+◌}
use Rattle.play_state_text.specs.Things.{dwarf_line}
use Rattle.play_state_text.proofs.EntryLemmas.{one_line}
use Rattle.play_state_text.proofs.dwarves.put_dwarves.Goals as goal

pub loop-before-preserved : goal.loop-before-preserved
loop-before-preserved c = λ enough.
    let line = c.put_dwarf.ensures enough in
    let lines = c.loop-before.invariant line.0 in (
      lines.0,
      one_line (dwarf_line c.args.dwarves.now) c.loop-before.before (c.loop-before.before + 1) c.args.text.now.bytes.items
          c.loop-before.text.bytes.items _ lines.1 refl line.1,
    )
