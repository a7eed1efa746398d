use Rattle.std.proofs.Common.{◌∷◌, [], ap, ◌∙◌}
use Rattle.std.proofs.lemmas.Result.{on_ok_weaker}
use Rattle.map_graph.specs.Stops.{stops_of, with_stops}
use Rattle.map_graph.specs.declared.stops.Stop.TheVariants.{InState}
use Rattle.play_map.proofs.Noted.{more_stops}
use Rattle.play_map.proofs.plays.StopNotesWatch.start.Goals as goal

pub returns : goal.returns
returns c =
    let old = stops_of c.args.self.now.stops in
    let here = c.args.begun.now.state.now.trail.here in
    on_ok_weaker c.note.result
    (λ now noted was. more_stops noted (InState 0 here ∷ []) old (stops_of c.note.new.self) was
    (now ∙ ap (λ place. with_stops old (InState place here ∷ [])) c.new.ensures))
    c.note.ensures
