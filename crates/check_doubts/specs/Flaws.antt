-- What is doubtful about a row of a database, after the rows before it.
use Rattle.std.specs.Prelude.{Bool, if◌then◌else◌, List, Option, Some, None}
use Rattle.cave_data.specs.CaveView.{CaveView}
use Rattle.check_doubts.specs.Classes.{class_flaw, is_taken}
use Rattle.check_doubts.specs.Hints.{gift_flaw, is_wordless, question_flaw}
use Rattle.check_doubts.specs.Messages.{lacks_text}
use Rattle.check_doubts.specs.Needs.{is_missing, start_flaw, is_unreached_long, is_unreached_short}
use Rattle.check_doubts.specs.Treasures.{is_nameless, is_nowhere}
use Rattle.check_doubts.specs.Ways.{is_never_taken, way_flaw, way_of_row}
use Rattle.check_doubts.specs.Words.{is_hidden, word_of_row}
use Rattle.check_doubts.specs.declared.flaw.CaveFlaw.{CaveFlaw}
use Rattle.check_doubts.specs.declared.flaw.Subject.TheVariants as subject
use Rattle.data_lines.specs.declared.mark.RowMark.{RowMark}
use Rattle.data_lines.specs.declared.mark.MarkedRow.{MarkedRow}

abbrev pub flaw_if : Bool → CaveFlaw → Option CaveFlaw
flaw_if holds found = if holds then Some found else None

module _ (cave : CaveView) (before : List MarkedRow) where
  abbrev pub first_flaw : RowMark → Option CaveFlaw
  first_flaw (RowMark.Long place) =
      flaw_if (is_unreached_long cave place before) (CaveFlaw.NoWayTo place)
  first_flaw (RowMark.Short place) =
      flaw_if (is_unreached_short cave place before) (CaveFlaw.NoWayTo place)
  first_flaw (RowMark.Way place) = way_flaw cave (way_of_row cave place before)
  first_flaw RowMark.Word = flaw_if (is_hidden cave (word_of_row cave before)) CaveFlaw.Hidden
  first_flaw (RowMark.Name object) =
      flaw_if (is_nowhere cave object before) (CaveFlaw.Nowhere object)
  first_flaw (RowMark.Placement object) =
      flaw_if (is_nameless cave object) (CaveFlaw.Nameless object)
  first_flaw (RowMark.Default action message) =
      flaw_if (lacks_text cave message) (CaveFlaw.Textless (subject.Action action) message)
  first_flaw (RowMark.Class bound) = flaw_if (is_taken bound before) CaveFlaw.TakenClass
  first_flaw (RowMark.Hint hint question text) = question_flaw cave hint question

  abbrev pub second_flaw : RowMark → Option CaveFlaw
  second_flaw (RowMark.Way place) =
      flaw_if (is_never_taken cave place before) CaveFlaw.NeverTaken
  second_flaw (RowMark.Name object) =
      flaw_if (is_missing cave object before) (CaveFlaw.Unplaced object)
  second_flaw (RowMark.Placement object) = start_flaw cave object
  second_flaw (RowMark.Default action message) =
      flaw_if (is_wordless cave action) (CaveFlaw.Wordless action)
  second_flaw (RowMark.Class bound) = class_flaw cave bound before
  second_flaw (RowMark.Hint hint question text) = gift_flaw cave hint text
  second_flaw _ = None
