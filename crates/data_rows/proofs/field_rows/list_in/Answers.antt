use Rattle.std.proofs.Common.{◌∙◌, sym, ap, option_map}
use Rattle.data_rows.specs.Lists.{list_or_cause}
use Rattle.data_rows.specs.Rows.{numbers_to_zero}
use Rattle.data_rows.proofs.ListLemmas.{with_numbers, list_read, zero_read}
use Rattle.data_rows.proofs.field_rows.list_in.Goals as goal

pub returns-then-is_zero : goal.returns-then-is_zero
returns-then-is_zero c =
    list_read _ _ _ _ (sym c.loop-field.invariant
    ∙ zero_read _ _ (list_or_cause c.loop-field.list) _ _ _ _ c.in-Some.ensures.value
    c.in-Some-number_of_field.ensures (sym c.if-is_zero.true ∙ c.is_zero.ensures))

pub returns : goal.returns
returns c =
    list_read _ _ _ _ (sym c.loop-field.invariant
    ∙ ap (λ fs. option_map (with_numbers c.args.low c.args.high (list_or_cause c.loop-field.list))
    (numbers_to_zero fs)) c.in_default.ensures.value)
