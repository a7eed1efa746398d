use Rattle.std.proofs.Common.{◌+◌, ◌-◌, ◌<◌, length, get_or, arith}
use Rattle.std.proofs.lemmas.List.{get_or_default}
use Rattle.std.proofs.lemmas.List.Edits.{map_over_more}
use Rattle.replay_checkpoints.proofs.shift.shift_all.Goals as goal

pub loop-number-preserved : goal.loop-number-preserved
loop-number-preserved c =
    let ys = c.loop-number.numbers in
    let i = c.loop-number.number-index in
    let within : i < length ys = omega arith in
    map_over_more (λ number. number - c.args.old + c.args.new) c.args.numbers.now ys i
    (get_or ys i 0) (omega arith) c.loop-number.invariant
    (get_or_default ys i 0 (get_or ys i 0) within)
