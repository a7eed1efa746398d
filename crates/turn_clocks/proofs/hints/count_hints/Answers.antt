use Rattle.std.proofs.Common.{◌≡◌, ◌-◌, min, arith}
use Rattle.turn_clocks.proofs.Steps.{few_hints}
use Rattle.turn_clocks.specs.Hints.{FIRST_HINT, OFFERED_HINTS}
use Rattle.turn_clocks.proofs.hints.count_hints.Goals as goal

pub returns-clause-all : goal.returns-clause-all
returns-clause-all c =
    let few : c.min.result ≡ min (c.hint_end.result - FIRST_HINT) OFFERED_HINTS = omega arith in
    few_hints c.args.cave.now c.hint_end.result c.min.result c.hint_end.ensures few
