-- Lines of a database that aren't written as they should be: blanks stand where a tab should or
-- before it, a text that is meant to be silent has more, and a hint has places and no row of its own.
use Rattle.std.specs.Prelude.{ℕ, Bool, ◌&&◌, not, nat_eq, nat_lt, is_some, codes}
use Rattle.std.specs.Prelude.{if◌then◌else◌, List, length, drop, Option, Some, None}
use Rattle.std.specs.Result.{result_ok}
use Rattle.std.specs.FinMap as map
use Rattle.std.specs.List.{starts_with}
use Rattle.base_lines.specs.Bytes.{is_all_blank}
use Rattle.cave_data.specs.CaveView.{CaveView}
use Rattle.data_rows.specs.Fields.{after_blanks, after_field}
use Rattle.data_rows.specs.Grammar.{closes}
use Rattle.data_rows.specs.Rows.{condition_row}
use Rattle.data_rows.specs.declared.error.Section.{Section}
use Rattle.data_rows.specs.declared.position.Position.{Position}
use Rattle.data_rows.specs.declared.position.Position.TheVariants.{Inside}
use Rattle.check_doubts.specs.Hints.{is_placed_hint}
use Rattle.check_doubts.specs.declared.flaw.CaveFlaw.{CaveFlaw}

-- a blank is after the number, and the text behind it begins with another one
abbrev pub begins_blank : List ℕ → Bool
begins_blank after_number = starts_with nat_eq after_number (codes "  ")

-- a blank is after the number, and a tab behind it
abbrev pub begins_tab : List ℕ → Bool
begins_tab after_number = starts_with nat_eq after_number (codes " \t")

-- the text behind one blank or tab is a silent one with more: with blanks before it, or it goes on
abbrev pub has_more : List ℕ → Bool
has_more after_number =
    nat_lt 4 (length after_number)
    && starts_with nat_eq (after_blanks (drop 1 after_number)) (codes ">$<")

abbrev pub text_flaw : List ℕ → Option CaveFlaw
text_flaw after_number = if begins_blank after_number then Some CaveFlaw.TextOfBlanks
    else (if begins_tab after_number then Some CaveFlaw.TabPrinted
    else (if has_more after_number then Some CaveFlaw.NotSilent else None))

-- the row of a text is its number, which is its first field, and the text
abbrev pub row_flaw : List ℕ → Option CaveFlaw
row_flaw line = text_flaw (after_field (after_blanks line))

module _ (cave : CaveView) where
  -- a hint that is given at places has this many, and no row of its own
  abbrev pub is_rowless : ℕ → ℕ → Bool
  is_rowless hint places =
      is_placed_hint hint && nat_lt 0 places && not (is_some (map.get cave.hints hint))

  abbrev pub places_flaw : Option (ℕ × List ℕ) → Option CaveFlaw
  places_flaw None = None
  places_flaw (Some row) =
      if is_rowless row.0 (length row.1) then Some (CaveFlaw.Rowless row.0) else None

  abbrev pub condition_flaw : List ℕ → Option CaveFlaw
  condition_flaw line = places_flaw (result_ok (condition_row line))

  -- how a line of a section is written
  abbrev pub written_flaw : Section → List ℕ → Option CaveFlaw
  written_flaw Section.LongTexts line = row_flaw line
  written_flaw Section.ShortTexts line = row_flaw line
  written_flaw Section.Objects line = row_flaw line
  written_flaw Section.Messages line = row_flaw line
  written_flaw Section.Classes line = row_flaw line
  written_flaw Section.Conditions line = condition_flaw line
  written_flaw _ line = None

  abbrev pub written_flaw_here : Position → List ℕ → Option CaveFlaw
  written_flaw_here (Inside section) line =
      if closes line then None else written_flaw section line
  written_flaw_here _ line = None

  -- how a line at its place in the database is written
  unfoldable pub written_flaw_at : Position → List ℕ → Option CaveFlaw
  written_flaw_at position line =
      if is_all_blank line then None else written_flaw_here position line
