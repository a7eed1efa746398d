use Rattle.std.proofs.Common.{◌≡◌, length, option_map}
use Rattle.std.specs.Prelude.{[], Ok}
use Rattle.data_rows.specs.Fields.{fields}
use Rattle.data_rows.specs.Lists.{list_or_cause}
use Rattle.data_rows.specs.Rows.{numbers_to_zero}
use Rattle.data_rows.proofs.ListLemmas.{with_numbers}
use Rattle.data_rows.proofs.field_rows.list_in.Given as goal

abbrev pub invariant-loop-field : goal.invariant-loop-field
invariant-loop-field l = option_map (with_numbers l.low l.high (list_or_cause l.list))
    (numbers_to_zero (fields l.rest))
    ≡ option_map (with_numbers l.low l.high (Ok [])) (numbers_to_zero (fields l.bytes))

abbrev pub decreases-loop-field : goal.decreases-loop-field
decreases-loop-field l = length l.rest
