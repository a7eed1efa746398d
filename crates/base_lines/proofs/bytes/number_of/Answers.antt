use Rattle.std.proofs.Common.{arith}
use Rattle.base_lines.proofs.Digits.{number_of-take-lt}
use Rattle.base_lines.proofs.bytes.number_of.Goals as goal

pub overflow_mul-number : goal.overflow_mul-number
overflow_mul-number c =
    omega (
      arith,
      number_of-take-lt c.args.digits.now c.loop-digit.digit-index c.requires.digits
          (omega arith),
    )

pub overflow_add-number : goal.overflow_add-number
overflow_add-number c =
    omega (
      arith,
      number_of-take-lt c.args.digits.now c.loop-digit.digit-index c.requires.digits
          (omega arith),
    )
