use Rattle.std.proofs.Common.{◌≡◌, ◌<◌, ◌^◌, true, take, fold}
use Rattle.std.specs.List.{list_all}
use Rattle.base_lines.specs.Bytes.{is_digit, with_digit}
use Rattle.data_rows.proofs.number.natural.Given as goal

abbrev pub invariant-loop-digit : goal.invariant-loop-digit
invariant-loop-digit l =
    (list_all is_digit (take l.digit-index l.digits) ≡ true)
    × (l.value ≡ fold with_digit 0 (take l.digit-index l.digits))
    × (l.value < 10 ^ l.digit-index)
