-- The reports on texts and rows: the lines of what no log shows.
use Rattle.std.specs.Prelude.{Bool, List, [], ◌++◌, ℕ, ◌+◌, true, length, codes}
use Rattle.cave_data.specs.CaveView.{CaveView}
use Rattle.check_tables.specs.Known.{entry_lines, KnownEntries}
use Rattle.check_tables.specs.WayWords.{way_words}
use Rattle.data_lines.specs.declared.by_line.WayLine.{WayLine}
use Rattle.play_cover.specs.Coverage.{all_entries, covered_count, groups_text, in_logs, left_count}
use Rattle.play_cover.specs.Coverage.{present_count, unmet_entries}
use Rattle.check_tables.specs.Marks.{is_marked}
use Rattle.play_cover.specs.RowMarks.{rule_rows}
use Rattle.play_cover.specs.Texts.{cave_texts}
use Rattle.play_cover.specs.TravelRows.{missing_ways, left_ways, travel_text, ways_noted}
use Rattle.check_tables.specs.declared.marks.Mark.{Mark}
use Rattle.std.specs.Fmt.{decimal}
use Rattle.play_cover.specs.declared.coverage.Detail.TheVariants.{Both}
use Rattle.play_command.specs.declared.views.TextView.{TextView}
use Rattle.play_cover.specs.declared.coverage.Detail.{Detail}

-- nothing is marked
abbrev pub none_shown : Mark → Bool
none_shown mark = is_marked [] mark

-- the entries of all texts that weren't said, of all rows of tables that never applied, and of all
-- such travel rows
unfoldable pub unshown : CaveView → List WayLine → (Mark → Bool) → (Mark → Bool) → List ℕ
unshown cave ways is_said is_covered =
    all_entries (cave_texts cave) is_said ++ (all_entries rule_rows is_covered
    ++ entry_lines (way_words cave) [] (missing_ways is_covered ways))

-- the line that sums up
abbrev pub row_sums : ℕ → ℕ → ℕ → ℕ → ℕ → List ℕ
row_sums covered present taken all logs =
    codes "-- " ++ (decimal covered ++ (codes " of " ++ (decimal present
    ++ (codes " rows and " ++ (decimal taken ++ (codes " of " ++ (decimal all
    ++ (codes " travel rows" ++ in_logs logs))))))))

module _ (is_covered : Mark → Bool) (cave : CaveView) (known : KnownEntries) where
  -- which entries of the list are neither of a row that never applied nor of a text; then each
  -- table with its rows that are left, the travel rows, and the sum
  unfoldable pub row_report : List WayLine → ℕ → List ℕ
  row_report ways logs =
      unmet_entries known (unshown cave ways none_shown is_covered)
      ++ (groups_text rule_rows is_covered known Both ++ (travel_text is_covered cave known ways
      ++ row_sums (covered_count rule_rows is_covered) (present_count rule_rows)
      (length (ways_noted is_covered true ways)) (length ways) logs))

  -- how many rows are left
  abbrev pub rows_left : List WayLine → ℕ
  rows_left ways =
      left_count rule_rows is_covered known + length (left_ways is_covered cave known ways)

abbrev pub detail_of : TextView → Detail
detail_of TextView.Counts = Detail.Counts
detail_of TextView.Texts = Detail.Missing

-- the line that sums up
abbrev pub text_sums : ℕ → ℕ → ℕ → List ℕ
text_sums covered present logs =
    codes "-- " ++ (decimal covered ++ (codes " of " ++ (decimal present
    ++ (codes " texts" ++ in_logs logs))))

module _ (cave : CaveView) (is_said : Mark → Bool) (known : KnownEntries) where
  -- which entries of the list are neither of a text that wasn't said nor of a row; then what the
  -- view asks for about each kind, or about each text that is left, and the sum
  unfoldable pub text_report : TextView → List WayLine → ℕ → List ℕ
  text_report view ways logs =
      unmet_entries known (unshown cave ways is_said none_shown)
      ++ (groups_text (cave_texts cave) is_said known (detail_of view)
      ++ text_sums (covered_count (cave_texts cave) is_said) (present_count (cave_texts cave)) logs)

  -- how many texts are left
  abbrev pub texts_left : ℕ
  texts_left = left_count (cave_texts cave) is_said known
