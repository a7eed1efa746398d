use Rattle.std.proofs.Common.{Err, Ok, Option, Result, ap, refl, ◌∙◌}
use Rattle.std.proofs.lemmas.Result.{err_from_is_err_and}
use Rattle.std.specs.Option.{option_map_or}
use Rattle.cave_play.specs.Output.{first_doubt}
use Rattle.cave_play.specs.declared.fault.PlayFault.{PlayFault}
use Rattle.cave_play.proofs.SourceLemmas.{AreTextsOf-held}
use Rattle.cave_play.proofs.run.run_doubts.Goals as goal

-- the fault that ends a run, if there is one
abbrev or_done : Option PlayFault → Result (Unit {0}) PlayFault
or_done found = option_map_or Err found (Ok tt)

pub returns-in_err-left : goal.returns-in_err-left
returns-in_err-left g c =
    let exit = err_from_is_err_and c.from_residual.result c.from_residual.ensures.1 in
    let (texts, are, judged) = c.make_doubts-made.ensures.judged in
    rw (exit.1, exit.2)
    (record {
      runs = (
        texts,
        AreTextsOf-held g.C.Read.remaining g.B.Read.remaining g.L.Read.remaining
            g.S.Read.remaining c.args.inputs.now c.of.result c.of.ensures texts
            are,
        (Err _, refl, (c.make_doubts-made.result, judged, c.in_err-left.ensures)),
      );
    })

pub returns-in-Some : goal.returns-in-Some
returns-in-Some g c =
    let (texts, are, judged) = c.make_doubts-made.ensures.judged in
    record {
      runs = (
        texts,
        AreTextsOf-held g.C.Read.remaining g.B.Read.remaining g.L.Read.remaining
            g.S.Read.remaining c.args.inputs.now c.of.result c.of.ensures texts
            are,
        (
          Ok c.in_ok-left.left,
          ap or_done (c.in-Some.ensures ∙ ap (first_doubt c.args.strict) c.deref.ensures.value),
          (c.make_doubts-made.result, judged, c.in_ok-left.ensures),
        ),
      );
    }

pub returns : goal.returns
returns g c =
    let (texts, are, judged) = c.make_doubts-made.ensures.judged in
    record {
      runs = (
        texts,
        AreTextsOf-held g.C.Read.remaining g.B.Read.remaining g.L.Read.remaining
            g.S.Read.remaining c.args.inputs.now c.of.result c.of.ensures texts
            are,
        (
          Ok c.in_ok-left.left,
          ap or_done (c.in-None.ensures ∙ ap (first_doubt c.args.strict) c.deref.ensures.value),
          (c.make_doubts-made.result, judged, c.in_ok-left.ensures),
        ),
      );
    }
