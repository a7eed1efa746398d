use Rattle.std.proofs.Common.{None, subst}
use Rattle.std.specs.List.{AllZip}
use Rattle.cave_play.specs.Sources.{Says, Held}
use Rattle.cave_play.proofs.SourceLemmas.{held_first}
use Rattle.play_map.proofs.run.run_map.Goals as goal

pub returns : goal.returns
returns g c =
    let (database, bindings, moves, one, two, last, judged) = c.make_map-made.ensures.judged in
    let first = held_first g.C.Read.remaining g.B.Read.remaining g.L.Read.remaining (λ _. None) _ _
    _ _ c.of-readers.ensures in
    record {
      runs = (
        database,
        bindings,
        moves,
        subst (λ (held : Held). Says held.cave database) first one,
        subst (λ (held : Held). Says held.bindings bindings) first two,
        subst (λ (held : Held). AllZip Says held.logs moves) first last,
        (c.make_map-made.result, judged, c.write_report.ensures),
      );
    }
