use Rattle.play_state_text.specs.Things.{place_line}
use Rattle.play_state_text.proofs.EntryLemmas.{one_line}
use Rattle.play_state_text.proofs.places.put_places.Goals as goal

pub loop-before-preserved : goal.loop-before-preserved
loop-before-preserved c = λ enough.
    let line = c.put_place.ensures enough in
    let lines = c.loop-before.invariant line.0 in (
      lines.0,
      one_line (place_line c.args.setting.cave.now c.args.setting.begun.now c.args.objects.now) c.loop-before.before c.new.result c.args.text.now.bytes.items
          c.loop-before.text.bytes.items _ lines.1 c.new.ensures line.1,
    )
