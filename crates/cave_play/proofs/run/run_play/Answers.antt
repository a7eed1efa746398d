use Rattle.cave_play.proofs.SourceLemmas.{AreTextsOf-held}
use Rattle.cave_play.proofs.run.run_play.Goals as goal

pub returns : goal.returns
returns g c =
    let (texts, are, judged) = c.make_play-made.ensures.judged in
    record {
      runs = (
        texts,
        AreTextsOf-held g.C.Read.remaining g.B.Read.remaining g.L.Read.remaining
            g.S.Read.remaining c.args.inputs.now c.of.result c.of.ensures texts
            are,
        (c.make_play-made.result, judged, c.write_report.ensures),
      );
    }
