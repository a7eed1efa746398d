use Rattle.std.proofs.Common.{◌<◌, ◌^◌, arith}
use Rattle.data_rows.proofs.NumberLemmas.{digits_small}
use Rattle.data_rows.proofs.number.natural.Goals as goal

pub overflow_mul-value : goal.overflow_mul-value
overflow_mul-value c =
    let small : c.loop-digit.value < 10 ^ 8 =
    digits_small _ _ c.loop-digit.invariant.2 (omega arith) in omega arith

pub overflow_add-value : goal.overflow_add-value
overflow_add-value c =
    let small : c.loop-digit.value < 10 ^ 8 =
    digits_small _ _ c.loop-digit.invariant.2 (omega arith) in omega arith
