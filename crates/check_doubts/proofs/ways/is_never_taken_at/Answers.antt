use Rattle.std.proofs.Common.{◌<◌, ◌≤◌, length, ap, sym, ◌∙◌, arith}
use Rattle.std.specs.Prelude.{not}
use Rattle.check_doubts.proofs.WayLemmas.{never_past, never_within}
use Rattle.check_doubts.proofs.ways.is_never_taken_at.Goals as goal

pub returns-then-index-rows : goal.returns-then-index-rows
returns-then-index-rows c =
    let within = c.if-index-rows.true in
    let below : c.args.index < length c.args.rows.now = omega arith in
    ap (λ taken. not taken) c.may_be_taken.ensures
    ∙ sym (never_within c.args.rows.now c.args.index c.index-rows-index.result below
    c.index-rows-index.is)

pub returns-else-index-rows : goal.returns-else-index-rows
returns-else-index-rows c =
    let without = c.if-index-rows.false in
    let past : length c.args.rows.now ≤ c.args.index = omega arith in
    sym (never_past c.args.rows.now c.args.index past)
