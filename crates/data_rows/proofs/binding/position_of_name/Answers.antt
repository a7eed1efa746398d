use Rattle.std.proofs.Common.{◌+◌, cond, drop, map, Some, sym, ap, ◌∙◌}
use Rattle.std.specs.List.{position_from}
use Rattle.std.specs.Str.{bytes_eq}
use Rattle.data_rows.proofs.NameLemmas.{name_here}
use Rattle.data_rows.proofs.binding.position_of_name.Goals as goal

pub returns-then-eq : goal.returns-then-eq
returns-then-eq c =
    sym (sym c.loop-number.invariant
    ∙ name_here c.args.names.now c.args.name.now c.as_bytes.result.now c.loop-number.number
    _ c.eq.result c.loop-number-test.true c.as_bytes.ensures.value c.eq.ensures
    ∙ ap (λ b. cond b (Some c.loop-number.number)
    (position_from (λ k. bytes_eq k c.args.name.now) (c.loop-number.number + 1)
    (drop (c.loop-number.number + 1) (map (λ known. known.now) c.args.names.now))))
    c.if-eq.true)

pub loop-number-preserved : goal.loop-number-preserved
loop-number-preserved c =
    sym (sym c.loop-number.invariant
    ∙ name_here c.args.names.now c.args.name.now c.as_bytes.result.now c.loop-number.number
    _ c.eq.result c.loop-number-test.true c.as_bytes.ensures.value c.eq.ensures
    ∙ ap (λ b. cond b (Some c.loop-number.number)
    (position_from (λ k. bytes_eq k c.args.name.now) (c.loop-number.number + 1)
    (drop (c.loop-number.number + 1) (map (λ known. known.now) c.args.names.now))))
    c.if-eq.false)
