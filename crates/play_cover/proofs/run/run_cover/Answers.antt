use Rattle.std.proofs.Common.{subst}
use Rattle.std.specs.List.{AllZip}
use Rattle.cave_play.specs.Sources.{Says, Held}
use Rattle.cave_play.proofs.SourceLemmas.{held_first}
use Rattle.play_cover.proofs.run.run_cover.Goals as goal

pub returns : goal.returns
returns g c =
    let (database, bindings, list, moves, one, two, three, last, judged) =
    c.make_cover-made.ensures.judged in
    let first = held_first g.C.Read.remaining g.B.Read.remaining g.L.Read.remaining
    g.K.Read.remaining _ _ _ _ c.of-readers.ensures in
    record {
      runs = (
        database,
        bindings,
        list,
        moves,
        subst (λ (held : Held). Says held.cave database) first one,
        subst (λ (held : Held). Says held.bindings bindings) first two,
        subst (λ (held : Held). Says held.known list) first three,
        subst (λ (held : Held). AllZip Says held.logs moves) first last,
        (c.make_cover-made.result, judged, c.write_report.ensures),
      );
    }
