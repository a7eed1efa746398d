-- What rows of the code are as rows of a section.
use Rattle.std.specs.Prelude.{ℕ, List}
use Rattle.std.specs.Borrow.{Bor}
use Rattle.data_rows.specs.declared.rows.Row.{Row}
use Rattle.data_rows.specs.declared.rows.WordRow.{WordRow}
use Rattle.data_rows.specs.Rows.{TextLine, Going, WordEntry}

abbrev pub text_line_of : ℕ × Bor (List ℕ) → TextLine
text_line_of row = record { number = row.0; text = row.1.now }

abbrev pub going : Row → Going
going row = record { target = row.target; motions = row.motions.items }

abbrev pub word_entry : WordRow → WordEntry
word_entry row = record { number = row.number; word = row.word.now }
