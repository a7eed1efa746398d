-- More logs cover no less: the lists of what no log covers only lose things.
use Rattle.std.specs.Prelude.{ℕ, Bool, List, [], ◌∷◌, ◌++◌}
use Rattle.cave_data.specs.CaveView.{CaveView}
use Rattle.cave_world.specs.declared.tables.Table.{Table}
use Rattle.data_lines.specs.declared.by_line.WayLine.{WayLine}
use Rattle.play_command.specs.declared.views.CoverView.{CoverView}
use Rattle.play_command.specs.declared.views.CoverView.TheVariants.{Rules, Said}
use Rattle.play_command.specs.declared.views.TextView.{TextView}
use Rattle.play_cover.specs.Coverage.{missing}
use Rattle.check_tables.specs.Marks.{is_among}
use Rattle.play_cover.specs.Plays.{covered_in_all}
use Rattle.play_cover.specs.RowMarks.{rule_rows}
use Rattle.play_cover.specs.TravelRows.{ways_missing}
use Rattle.play_cover.specs.Texts.{cave_texts}
use Rattle.check_tables.specs.declared.marks.Mark.{Mark}
use Rattle.check_tables.specs.declared.text_kinds.TextKind.{TextKind}

-- the first list is the second with none, some or all of its things left out
pub data IsPartOf {A : Type 0} : List A → List A → Type 0 where
  nothing_left : IsPartOf [] []
  leaves_out : {x : A} {few all : List A} → IsPartOf few all → IsPartOf few (x ∷ all)
  keeps : {x : A} {few all : List A} → IsPartOf few all → IsPartOf (x ∷ few) (x ∷ all)

-- what is covered if each log is played by itself
abbrev pub covered_by : CoverView → CaveView → ℕ → List (List ℕ) → Mark → Bool
covered_by view cave seed logs mark = is_among mark (covered_in_all view cave seed logs)

-- the texts of a kind that no log says, the rows of a table that none applies, and the ways that
-- none takes, are with more logs part of those without
pub record ListsNoMore (cave : CaveView) (seed : ℕ) (logs more : List (List ℕ)) : Type 0 where
  pub texts : (view : TextView) (kind : TextKind)
      → IsPartOf (missing (cave_texts cave) (covered_by (Said view) cave seed (logs ++ more)) kind)
      (missing (cave_texts cave) (covered_by (Said view) cave seed logs) kind)
  pub rows : (table : Table)
      → IsPartOf (missing rule_rows (covered_by Rules cave seed (logs ++ more)) table)
      (missing rule_rows (covered_by Rules cave seed logs) table)
  pub ways : (ways : List WayLine)
      → IsPartOf (ways_missing (covered_by Rules cave seed (logs ++ more)) ways)
      (ways_missing (covered_by Rules cave seed logs) ways)

abbrev pub MoreLogsListNoMore : Type 0
MoreLogsListNoMore =
    (cave : CaveView) (seed : ℕ) (logs more : List (List ℕ)) → ListsNoMore cave seed logs more
