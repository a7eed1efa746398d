use Rattle.std.proofs.Common.{ap, cond, unwrap_or, option_map, ◌∙◌}
use Rattle.cave_data.specs.declared.span.TextSpan.{TextSpan}
use Rattle.cave_data.specs.Slots.{slot}
use Rattle.cave_data.specs.Tables.{with_line, is_same_number}
use Rattle.cave_data.proofs.TextTables.{line_added}
use Rattle.cave_data.proofs.texts.Texts.add_line.Goals as goal

pub returns : goal.returns
returns c =
    line_added _ _ _ _ _ _ _ _ _ c.self.invariant.0 c.self.invariant.1
    (c.start_of-start.ensures.value
    ∙ ap (λ b.
    cond b (unwrap_or (option_map (λ (s : TextSpan). s.start) c.copied-found.result)
    c.len.result) c.len.result) c.is_last-continues.ensures
    ∙ ap (λ o. cond (is_same_number c.self.inside.last c.args.number)
    (unwrap_or (option_map (λ (s : TextSpan). s.start) o) c.len.result) c.len.result)
    (c.copied-found.ensures ∙ c.get.ensures)
    ∙ ap (λ n. cond (is_same_number c.self.inside.last c.args.number)
    (unwrap_or
    (option_map (λ (s : TextSpan). s.start)
    (slot c.self.inside.spans.items.items c.args.number)) n) n) c.len.ensures)
    c.in_ok-span.ensures.bytes c.in_ok-span.ensures.span c.in_ok-put.ensures.ok
    ∙ ap (λ t. with_line t (record { number = c.args.number; text = c.args.line.now }))
    c.self.view_is
