-- Columns that several tables have.
use Rattle.std.specs.Prelude.{ℕ, ◌==◌, if◌then◌else◌, List, codes, map, Option, None, Some}
use Rattle.cave_world.specs.declared.ending.Ending.{Ending}
use Rattle.play_state_text.specs.Words.{ending_word}

-- a tab of a line is shown as a blank, since a tab ends a column
abbrev pub without_tab : ℕ → ℕ
without_tab byte = if byte == 9 then 32 else byte

abbrev pub without_tabs : List ℕ → List ℕ
without_tabs line = map without_tab line

-- how the game has ended
abbrev pub ending_column : Option Ending → List ℕ
ending_column None = codes "-"
ending_column (Some ended) = ending_word ended
