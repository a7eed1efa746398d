use Rattle.std.proofs.Common.{ap, subst, ◌∙◌, [], ◌∷◌, ◌++◌, map}
use Rattle.cave_data.specs.Spans.{class_of_span, IsFrom}
use Rattle.cave_data.proofs.SpanLemmas.{class_added}
use Rattle.cave_data.proofs.classes.Classes.push.Goals as goal

pub returns : goal.returns
returns c =
    ap (map (class_of_span c.add_line.new.self)) c.in_ok-add_row.ensures.ok
    ∙ class_added _ _ _ _ _ _ c.self.invariant c.in_ok-span.ensures.bytes
    (subst (λ n. IsFrom c.add_line.new.self n c.in_ok-span.span) c.len-start.ensures
    c.in_ok-span.ensures.span)
    ∙ ap (λ cs. cs ++ record { bound = c.args.bound; text = c.args.line.now ++ 10 ∷ [] } ∷ [])
    c.self.view_is
