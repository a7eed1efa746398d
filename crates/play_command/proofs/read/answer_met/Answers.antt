use Rattle.std.proofs.Common.{◌≡◌, ◌∙◌, Some, ap, rules}
use Rattle.clap.specs.Words.{subcommand_rows_of}
use Rattle.play_command.specs.Asked.{rows_in}
use Rattle.play_command.specs.Line.{run_of}
use Rattle.play_command.proofs.read.answer_met.Goals as goal

pub returns-after-values_in : goal.returns-after-values_in
returns-after-values_in c =
    let met : subcommand_rows_of c.args.matches.now
    ≡ Some (c.in-Some.name.now, rows_in c.in-Some.found.now) = search rules in
    ap run_of met ∙ search rules
