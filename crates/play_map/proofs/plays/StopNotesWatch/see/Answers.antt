use Rattle.std.proofs.Common.{◌∷◌, [], ap, ◌∙◌, sym}
use Rattle.std.proofs.lemmas.Result.{on_ok_weaker}
use Rattle.map_graph.specs.Stops.{stops_of, ways_by_rows, with_stops}
use Rattle.map_graph.specs.declared.stops.Stop.TheVariants.{InState}
use Rattle.map_graph.proofs.StopLemmas.{stops_in_turn}
use Rattle.play_map.proofs.Noted.{more_stops}
use Rattle.play_map.proofs.plays.StopNotesWatch.see.Goals as goal

pub returns : goal.returns
returns c =
    let old = stops_of c.args.self.now.stops in
    let here = c.args.seen.now.after.now.trail.here in
    let begun = InState c.args.seen.now.before here ∷ [] in
    let ways = ways_by_rows c.in_ok-as_slice.field-0.now in
    on_ok_weaker c.note_ways_by_rows.result
    (λ last before same noted was.
    more_stops noted (InState before.trail.here here ∷ ways_by_rows c.args.rows.now.all.rows) old
    (stops_of c.note_ways_by_rows.new.self) was
    (last ∙ ap (λ stops. with_stops stops ways) c.in_ok-note.ensures ∙ stops_in_turn old begun ways
    ∙ (λ i. with_stops old (InState (sym same i) here
    ∷ ways_by_rows (c.in_ok-as_slice.ensures i)))))
    c.note_ways_by_rows.ensures
