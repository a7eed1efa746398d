use Rattle.std.proofs.Common.{sym, ◌∙◌}
use Rattle.data_rows.specs.RowViews.{word_entry}
use Rattle.cave_data.proofs.WordLemmas.{first_word-found, first_word-other}
use Rattle.cave_data.proofs.words.WordTable.first_word.Goals as goal

pub returns-then-row-number : goal.returns-then-row-number
returns-then-row-number c =
    sym (first_word-found c.args.self.now c.loop-index.index c.args.number
    (word_entry c.row-row.result) c.row-row.ensures c.if-row-number.true)
    ∙ c.loop-index.invariant

pub loop-index-preserved : goal.loop-index-preserved
loop-index-preserved c =
    sym (first_word-other c.args.self.now c.loop-index.index c.args.number
    (word_entry c.row-row.result) c.row-row.ensures c.if-row-number.false)
    ∙ c.loop-index.invariant
