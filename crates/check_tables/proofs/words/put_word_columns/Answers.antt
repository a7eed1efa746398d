use Rattle.std.proofs.Common.{◌++◌, ◌∙◌, ap, sym}
use Rattle.std.proofs.lemmas.List.{append_assoc}
use Rattle.data_rows.specs.RowViews.{word_entry}
use Rattle.check_tables.specs.Words.{word_column}
use Rattle.check_tables.proofs.WordColumns.{columns_more}
use Rattle.check_tables.proofs.words.put_word_columns.Goals as goal

pub loop-index-preserved : goal.loop-index-preserved
loop-index-preserved c = λ enough.
    let text = c.args.text.now.bytes.items in
    let entry = word_entry c.row.result in
    let more = columns_more c.args.number c.args.words.now c.loop-index.index entry c.row.ensures in
    let column = c.put_word_column.ensures enough in
    let columns = c.loop-index.invariant column.0 in (
      columns.0,
      column.1 ∙ ap (λ t. t ++ word_column c.args.number entry) columns.1
          ∙ append_assoc text _ (word_column c.args.number entry)
          ∙ ap (λ columns. text ++ columns) (sym more),
    )
