use Rattle.std.proofs.Common.{◌∙◌, arith}
use Rattle.replay_edits.specs.Edit.{log_of}
use Rattle.replay_edits.proofs.Lines.{length-log_of}
use Rattle.cave_replay.proofs.PlayedRows.{length-rows_from, rows-at}
use Rattle.cave_replay.proofs.played_lines.PlayedLines.of.Goals as goal

pub returns-clause-each_line : goal.returns-clause-each_line
returns-clause-each_line g c =
    let lines = length-log_of c.args.log in
    length-rows_from 0 0 (log_of c.args.log) c.args.pieces c.args.ticked
    (omega (arith, c.requires.pieces)) (omega (arith, c.requires.ticked)) ∙ lines

pub returns-clause-rows : goal.returns-clause-rows
returns-clause-rows g c = λ place below.
    let lines = length-log_of c.args.log in
    rows-at (log_of c.args.log) c.args.pieces c.args.ticked
    (omega (arith, c.requires.pieces)) (omega (arith, c.requires.ticked)) place (omega arith)
