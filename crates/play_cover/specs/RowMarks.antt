-- The marks of rows, which distinguish them from each other and from texts, and the rows of tables.
use Rattle.std.specs.Prelude.{◌≡◌, ℕ, ◌+◌, ◌*◌, true, false, List, ◌++◌, codes}
use Rattle.std.specs.Fmt.{decimal}
use Rattle.std.specs.List.{range_with_len}
use Rattle.cave_world.specs.declared.tables.RuleRow.{RuleRow}
use Rattle.cave_world.specs.declared.tables.RuleRow.TheVariants.{OfPlace, OfTable}
use Rattle.cave_world.specs.declared.tables.Table.{Table}
use Rattle.check_tables.specs.declared.text_kinds.TextKind.{TextKind}
use Rattle.play_cover.specs.Coverage.{Catalogue}
use Rattle.check_tables.specs.Marks.{mark}
use Rattle.play_cover.specs.RuleTables.{row_count, table_name, table_number, tables, words_of_row}
use Rattle.play_cover.specs.Texts.{text}
use Rattle.check_tables.specs.declared.marks.Mark.{Mark}

-- the groups of rows come after those of texts, of which there are as many as kinds
abbrev pub TEXT_GROUPS : ℕ
TEXT_GROUPS = 7

-- the group of the rows of a table
abbrev pub row_group : Table → ℕ
row_group table = TEXT_GROUPS + 3 * table_number table

-- the mark of a row. Its group is one of three: that of the table with that number, that of the
-- rows of the place with that number that failed, or that of those that applied
abbrev pub mark_of_row : RuleRow → Mark
mark_of_row (OfTable table number) = mark (row_group table) number
mark_of_row (OfPlace place index false) = mark (TEXT_GROUPS + (3 * place + 1)) index
mark_of_row (OfPlace place index true) = mark (TEXT_GROUPS + (3 * place + 2)) index

-- the numbers of a table's rows
abbrev pub rows_of_table : Table → List ℕ
rows_of_table table = range_with_len 1 (row_count table)

-- the entry of a row that never applied, which says in words when it applies
abbrev pub row_entry : Table → ℕ → List ℕ
row_entry table number =
    table_name table ++ (codes " " ++ (decimal number
    ++ (codes "  " ++ words_of_row table number)))

abbrev pub rule_rows : Catalogue Table
rule_rows = record {
  groups = tables;
  number = row_group;
  heading = table_name;
  present = rows_of_table;
  name = λ table number. decimal number;
  indent = codes "    ";
  words = row_entry;
}

-- the rows are the same: they belong to the same table, by its number, or to the same place, and
-- both apply or both fail
abbrev pub IsSameRow : RuleRow → RuleRow → Type 0
IsSameRow (OfTable one number) (OfTable other also) =
    (table_number one ≡ table_number other) × (number ≡ also)
IsSameRow (OfPlace one index applies) (OfPlace other also applied) =
    (one ≡ other) × (index ≡ also) × (applies ≡ applied)
IsSameRow _ _ = ⊥

-- rows with the same mark are the same row
abbrev pub EachRowHasItsMark : Type 0
EachRowHasItsMark =
    (one other : RuleRow) → mark_of_row one ≡ mark_of_row other → IsSameRow one other

-- no row has the mark of a text
abbrev pub NoRowIsText : Type 0
NoRowIsText = (kind : TextKind) (number : ℕ) (row : RuleRow) → text kind number ≡ mark_of_row row → ⊥
