-- The tables of the rules, by number and name, and the rows of each by their numbers.
use Rattle.std.specs.Prelude.{◌≡◌, ℕ, ◌-◌, List, [], length, map, slice_index_or}
use Rattle.std.specs.List.{range_with_len}
use denote.Enum.Declared.{tag_of}
use Rattle.cave_world.specs.contracts.tables.Table.{the_type}
use Rattle.cave_world.specs.declared.tables.Table.{Table}
use Rattle.play_cover.specs.declared.each_table.TheConstants.{EACH_TABLE}

-- there are as many as variants that declare them
abbrev pub TABLE_COUNT : ℕ
TABLE_COUNT = length the_type.parts

-- the number of each row is below this
abbrev pub ROW_END : ℕ
ROW_END = 32

-- the place of a table among all, from 0, which is that of its variant
abbrev pub table_number : Table → ℕ
table_number t = tag_of the_type t

-- the tables of the rules as the pages have them, in their order: the code's list, which
-- `tools/check/rule-words` makes of the pages
abbrev pub tables : List Table
tables = map (λ row. row.0) EACH_TABLE.now

-- what is declared of a table: what it is called, and when each of its rows applies, in words
unfoldable pub declared : Table → List ℕ × List (List ℕ)
declared t = slice_index_or
    (map (λ row. (row.1.now, map (λ words. words.now) row.2.now)) EACH_TABLE.now)
    (table_number t) ([], [])

-- the name of a table
abbrev pub table_name : Table → List ℕ
table_name t = (declared t).0

-- when each row of a table applies, in words
abbrev pub row_words : Table → List (List ℕ)
row_words t = (declared t).1

-- how many rows a table has
abbrev pub row_count : Table → ℕ
row_count t = length (row_words t)

-- when a row of a table applies, in words; rows are counted from 1
abbrev pub words_of_row : Table → ℕ → List ℕ
words_of_row t number = slice_index_or (row_words t) (number - 1) []

-- each table that is declared stands at its number, and nothing else does
abbrev pub TablesAreInOrder : Type 0
TablesAreInOrder = map table_number tables ≡ range_with_len 0 TABLE_COUNT
