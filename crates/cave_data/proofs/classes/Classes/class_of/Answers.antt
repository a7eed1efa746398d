use Rattle.std.proofs.Common.{◌≤◌, ◌<◌, get_or, map, sym, ap, ◌∙◌, arith}
use Rattle.cave_data.specs.CaveView.{class_from}
use Rattle.cave_data.specs.Printing.{printed_text, printed_class}
use Rattle.cave_data.proofs.ClassLemmas.{class_found, class_passed}
use Rattle.cave_data.proofs.classes.Classes.class_of.Goals as goal

pub returns-then-score-from : goal.returns-then-score-from
returns-then-score-from c =
    let low : c.args.score
    ≤ (get_or c.deref-row-items.result.now c.loop-number.number
    (record { number = 0; span = record { start = 0; len = 0 } })).number = omega arith in
    class_found c.self.inside.store _ c.deref-row-items.result.now c.self.inside.rows.items
    c.loop-number.number c.args.score _ _ c.deref-row-items.ensures.value
    c.loop-number-test.true low
    (c.printed.ensures ∙ ap printed_text c.text.ensures)
    (c.len-count.ensures ∙ sym c.deref-row-items.ensures.len)
    ∙ c.loop-number.invariant
    ∙ ap (λ classes. class_from 1 c.args.score (map printed_class classes)) c.self.view_is

pub loop-number-preserved : goal.loop-number-preserved
loop-number-preserved c =
    let high : (get_or c.deref-row-items.result.now c.loop-number.number
    (record { number = 0; span = record { start = 0; len = 0 } })).number < c.args.score =
    omega arith in
    class_passed c.self.inside.store c.deref-row-items.result.now c.self.inside.rows.items
    c.loop-number.number c.args.score _ c.deref-row-items.ensures.value c.loop-number-test.true
    high
    ∙ c.loop-number.invariant
