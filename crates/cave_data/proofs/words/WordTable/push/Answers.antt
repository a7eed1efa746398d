use Rattle.std.proofs.Common.{ap, ◌∙◌, [], ◌∷◌, ◌++◌, map}
use Rattle.data_rows.specs.RowViews.{word_entry}
use Rattle.cave_data.specs.Spans.{word_of_span}
use Rattle.cave_data.proofs.SpanLemmas.{word_added}
use Rattle.cave_data.proofs.words.WordTable.push.Goals as goal

pub returns : goal.returns
returns c =
    ap (map (word_of_span c.add.new.self)) c.in_ok-add_row.ensures.ok
    ∙ word_added _ _ _ _ _ _ c.self.invariant c.in_ok-span.ensures.bytes c.in_ok-span.ensures.span
    ∙ ap (λ ws. ws ++ word_entry c.args.row ∷ []) c.self.view_is
