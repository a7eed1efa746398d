use Rattle.std.proofs.Common.{Some, option_map, ap, sym, ◌∙◌}
use Rattle.std.specs.FinMap.{get}
use Rattle.cave_data.specs.Printing.{printed_text}
use Rattle.cave_data.specs.Spans.{text_of_span}
use Rattle.cave_data.proofs.SlotLemmas.{get-by_number}
use Rattle.cave_data.proofs.texts.Texts.printed.Goals as goal

pub returns-in-Some : goal.returns-in-Some
returns-in-Some c =
    ap Some (c.printed.ensures ∙ ap printed_text c.text.ensures)
    ∙ ap (option_map printed_text)
    (ap (option_map (text_of_span c.self.inside.store)) c.in-Some.ensures
    ∙ sym (get-by_number (text_of_span c.self.inside.store) _ c.args.number))
    ∙ ap (λ t. option_map printed_text (get t.texts c.args.number)) c.self.view_is

pub returns-in-None : goal.returns-in-None
returns-in-None c =
    ap (option_map printed_text)
    (ap (option_map (text_of_span c.self.inside.store)) c.in-None.ensures
    ∙ sym (get-by_number (text_of_span c.self.inside.store) _ c.args.number))
    ∙ ap (λ t. option_map printed_text (get t.texts c.args.number)) c.self.view_is
