use Rattle.std.proofs.Common.{◌∙◌, rules}
use Rattle.data_rows.proofs.ListLemmas.{way_row_read}
use Rattle.data_rows.proofs.field_rows.way_row.Goals as goal

pub returns-in_err-motions : goal.returns-in_err-motions
returns-in_err-motions c = rw (way_row_read c.args.line.now) (search rules)

pub returns : goal.returns
returns c = way_row_read c.args.line.now ∙ search rules
