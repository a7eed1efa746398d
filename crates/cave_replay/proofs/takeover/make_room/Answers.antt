use Rattle.std.proofs.Common.{◌≡◌, sym, ap, ◌∙◌, arith}
use Rattle.std.specs.Prelude.{slice_index}
use Rattle.cave_replay.proofs.TakeoverLemmas.{room_ready, stretch_same}
use Rattle.cave_replay.proofs.takeover.make_room.Goals as goal

pub returns-clause-room : goal.returns-clause-room
returns-clause-room g c =
    let met = c.args.rerun.now.played.met in
    let at = c.args.rerun.now.at in
    let old = c.args.kept.now.checkpoints in
    let roomy = c.reserve.new.self in
    let same = c.in_ok-reserve.ensures in
    let lines = c.in_ok-open.ensures.open in
    let pieces = c.in_ok-open-2.ensures.open in
    let ticked = c.in_ok-open-3.ensures.open in
    let from : slice_index c.places.result.now at ≡ slice_index old.places at =
    ap (λ places. slice_index places at) c.places.ensures.places in
    let to = c.end_of_stretch-to.ensures.place in
    record {
      log = record {
        stretch = lines.stretch;
        stretch_is = lines.stretch_is;
        from_is = lines.from_is;
        to_is = lines.to_is;
        room = omega (arith, lines.room, c.len.ensures);
      };
      pieces = record {
        stretch = pieces.stretch;
        stretch_is = pieces.stretch_is;
        from_is = pieces.from_is ∙ from ∙ sym (ap (λ places. slice_index places at) same.places);
        to_is = pieces.to_is ∙ to ∙ sym (stretch_same roomy old same.settings.1 same.places met);
        room = omega (arith, pieces.room, c.len-2.ensures);
      };
      ticked = record {
        stretch = ticked.stretch;
        stretch_is = ticked.stretch_is;
        from_is = ticked.from_is ∙ from ∙ sym (ap (λ places. slice_index places at) same.places);
        to_is = ticked.to_is ∙ to ∙ sym (stretch_same roomy old same.settings.1 same.places met);
        room = omega (arith, ticked.room, c.len-3.ensures);
      };
      marks = room_ready roomy old same.places c.args.rerun.now.played.marks at met (omega arith);
    }
