-- What is doubtful about a cave: about what each row of its database says, about how each of its
-- lines is written, and about each binding, in their order.
use Rattle.std.specs.Prelude.{ℕ, suc, if◌then◌else◌, List, [], ◌∷◌, ◌++◌, Option, Some, None}
use Rattle.std.specs.List.{flat_map, list_any}
use Rattle.std.specs.Str.Lines.{lines}
use Rattle.cave_data.specs.CaveView.{CaveView}
use Rattle.data_rows.specs.Grammar.{position_after_line}
use Rattle.data_rows.specs.Rows.{Going}
use Rattle.data_rows.specs.declared.place_role.PlaceRole.TheVariants as role
use Rattle.data_rows.specs.declared.position.Position.{Position}
use Rattle.data_rows.specs.declared.position.Position.TheVariants.{Outside}
use Rattle.check_doubts.specs.BoundRows.{bound_flaw, bound_rows}
use Rattle.check_doubts.specs.Flaws.{first_flaw, second_flaw}
use Rattle.check_doubts.specs.Needs.{need_flaw, needs, passage_flaw, voice_flaw}
use Rattle.check_doubts.specs.Ways.{way_of_row}
use Rattle.check_doubts.specs.Written.{written_flaw_at}
use Rattle.data_lines.specs.Marks.{is_name, marked_rows}
use Rattle.data_lines.specs.declared.mark.RowMark.{RowMark}
use Rattle.check_doubts.specs.declared.bound.BoundRow.{BoundRow}
use Rattle.check_doubts.specs.declared.flaw.Doubt.{Doubt}
use Rattle.check_doubts.specs.declared.flaw.CaveFlaw.{CaveFlaw}
use Rattle.check_doubts.specs.declared.flaw.Source.{Source}
use Rattle.check_doubts.specs.declared.flaw.Source.TheVariants.{Database, Bindings}
use Rattle.data_lines.specs.declared.mark.MarkedRow.{MarkedRow}

abbrev pub doubt_of : Source → ℕ → Option CaveFlaw → List Doubt
doubt_of source line None = []
doubt_of source line (Some flaw) = record { source = source; line = line; flaw = flaw } ∷ []

-- the doubt of a line, if there is one, before those of the lines after it
abbrev pub with_doubt : ℕ → Option CaveFlaw → List Doubt → List Doubt
with_doubt line None doubts = doubts
with_doubt line (Some flaw) doubts =
    record { source = Database; line = line; flaw = flaw } ∷ doubts

module _ (cave : CaveView) where
  -- what an object lacks of what rules ask
  abbrev pub doubts_of_object : ℕ → ℕ → List Doubt
  doubts_of_object line object =
      flat_map (λ need. doubt_of Database line (need_flaw cave object need)) needs

  -- which ends the narrow passage lacks to which a way may lead
  abbrev pub doubts_of_passage : ℕ → Option Going → List Doubt
  doubts_of_passage line way =
      doubt_of Database line (passage_flaw cave role.Alcove way)
      ++ doubt_of Database line (passage_flaw cave role.Plover way)

  -- what an object lacks is doubted at the first line of its inventory text
  abbrev pub doubts_of_needs : List MarkedRow → ℕ → RowMark → List Doubt
  doubts_of_needs before line (RowMark.Name object) =
      if list_any (is_name object) before then [] else doubts_of_object line object
  doubts_of_needs before line (RowMark.Way place) =
      doubts_of_passage line (way_of_row cave place before)
  doubts_of_needs before line _ = []

  -- what is doubtful about a row, after the rows before it
  abbrev pub doubts_of_row : List MarkedRow → MarkedRow → List Doubt
  doubts_of_row before row =
      doubt_of Database row.line (first_flaw cave before row.mark)
      ++ (doubt_of Database row.line (second_flaw cave before row.mark)
      ++ doubts_of_needs before row.line row.mark)

  abbrev pub doubts_from : List MarkedRow → List MarkedRow → List Doubt
  doubts_from before [] = []
  doubts_from before (row ∷ rows) =
      doubts_of_row before row ++ doubts_from (before ++ row ∷ []) rows

  -- what is doubtful about how lines are written, the first of which has this number and is at this
  -- position
  abbrev pub doubts_of_lines : ℕ → Position → List (List ℕ) → List Doubt
  doubts_of_lines number position [] = []
  doubts_of_lines number position (line ∷ lines) =
      with_doubt number (written_flaw_at cave position line)
      (doubts_of_lines (suc number) (position_after_line position line) lines)

  abbrev pub doubts_of_binding : BoundRow → List Doubt
  doubts_of_binding row =
      doubt_of Bindings row.line (bound_flaw cave row)
      ++ doubt_of Bindings row.line (voice_flaw cave row.binding.key)

  -- what is doubtful about the database and the bindings
  unfoldable pub doubts : List ℕ → List ℕ → List Doubt
  doubts database bindings =
      doubts_from [] (marked_rows 1 Outside (lines database))
      ++ (doubts_of_lines 1 Outside (lines database)
      ++ flat_map doubts_of_binding (bound_rows 1 (lines bindings)))
