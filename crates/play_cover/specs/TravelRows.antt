-- What is said about the travel rows of a cave, some of which applied.
use Rattle.std.specs.Prelude.{ℕ, Bool, true, false, not, if◌then◌else◌, List, ◌++◌, length, codes}
use Rattle.std.specs.Fmt.{decimal}
use Rattle.std.specs.List.{filter, flat_map}
use Rattle.cave_data.specs.CaveView.{CaveView}
use Rattle.data_lines.specs.declared.by_line.WayLine.{WayLine}
use Rattle.cave_world.specs.declared.tables.RuleRow.TheVariants.{OfPlace}
use Rattle.check_tables.specs.Known.{KnownEntries, unknown}
use Rattle.check_tables.specs.WayWords.{way_words, by_place, never_taken}
use Rattle.play_cover.specs.RowMarks.{mark_of_row}
use Rattle.check_tables.specs.declared.marks.Mark.{Mark}

-- how many of all rows applied, and how many failed
abbrev pub way_counts : ℕ → ℕ → ℕ → List ℕ
way_counts applied all failed =
    codes "travel: " ++ (decimal applied ++ (codes " of " ++ (decimal all
    ++ (codes ", " ++ (decimal failed ++ codes " tried and failed")))))

module _ (is_covered : Mark → Bool) where
  -- a row applied, or was tried and failed
  abbrev pub is_way_noted : Bool → WayLine → Bool
  is_way_noted applied way = is_covered (mark_of_row (OfPlace way.place way.index applied))

  -- the rows that applied, or those that failed: some may be both
  unfoldable pub ways_noted : Bool → List WayLine → List WayLine
  ways_noted applied ways = filter (is_way_noted applied) ways

  unfoldable pub ways_missing : List WayLine → List WayLine
  ways_missing ways = filter (λ way. not (is_way_noted true way)) ways

  -- the line of the travel rows of a cave
  abbrev pub travel_line : List WayLine → List ℕ
  travel_line ways =
      way_counts (length (ways_noted true ways)) (length ways) (length (ways_noted false ways))
      ++ (never_taken (ways_missing ways) ++ codes "\n")

  -- whether the row was tried
  abbrev pub trial_words : WayLine → List ℕ
  trial_words way = if is_way_noted false way then codes ", failed  " else codes "  "

  -- its line in the database, whether it was tried, and its words
  abbrev pub way_line : CaveView → WayLine → List ℕ
  way_line cave way =
      codes "    line " ++ (decimal way.line
      ++ (trial_words way ++ (way_words cave way ++ codes "\n")))

  -- the rows that never applied, by their places
  abbrev pub missing_ways : List WayLine → List WayLine
  missing_ways ways = by_place (ways_missing ways)

  module _ (cave : CaveView) (known : KnownEntries) where
    -- those of them that aren't known
    abbrev pub left_ways : List WayLine → List WayLine
    left_ways ways = unknown (way_words cave) known (missing_ways ways)

    -- the line of all rows, and then one for each that is left
    abbrev pub travel_text : List WayLine → List ℕ
    travel_text ways = travel_line ways ++ flat_map (way_line cave) (left_ways ways)
