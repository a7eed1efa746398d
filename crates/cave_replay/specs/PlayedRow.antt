-- The lines of a log as they were played.
use Rattle.std.specs.Prelude.{◌≡◌, ℕ, ◌+◌, Bool, List, [], ◌∷◌, take, slice_get, count_by, Some}
use Rattle.std.specs.Prelude.{if◌then◌else◌}
use Rattle.cave_replay.specs.declared.played_lines.PlayedLine.{PlayedLine}
use Rattle.replay_edits.specs.Edit.{line_at}
use Rattle.cave_replay.specs.Session.{SessionView}

-- a line with its place, with what was said at it, whether it ticked, and how many lines ticked up
-- to and including it
pub record PlayedRow (Piece : Type 0) : Type 0 where
  pub place : ℕ
  pub line : List ℕ
  pub piece : Piece
  pub ticked : Bool
  pub ticks : ℕ

-- what a lent line says
abbrev pub row_of : {Piece : Type 0} → PlayedLine Piece → PlayedRow Piece
row_of played = record {
  place = played.place;
  line = played.line.now;
  piece = played.piece.now;
  ticked = played.ticked;
  ticks = played.ticks;
}

-- the rows of lines from a place on, if this many lines before it ticked
abbrev pub rows_from : {Piece : Type 0} → ℕ → ℕ → List (List ℕ) → List Piece → List Bool
    → List (PlayedRow Piece)
rows_from place count [] pieces ticked = []
rows_from place count (line ∷ log) [] ticked = []
rows_from place count (line ∷ log) (piece ∷ pieces) [] = []
rows_from place count (line ∷ log) (piece ∷ pieces) (ticks ∷ ticked) =
    let next = count + (if ticks then 1 else 0) in
    record { place = place; line = line; piece = piece; ticked = ticks; ticks = next }
    ∷ rows_from (place + 1) next log pieces ticked

-- the row is that of a place of lines to which these pieces were said, with these ticks
pub record IsRowAt {Piece : Type 0} (log : List (List ℕ)) (pieces : List Piece) (ticks : List Bool)
    (place : ℕ) (row : PlayedRow Piece) : Type 0 where
  pub place_is : row.place ≡ place
  pub line_is : row.line ≡ line_at log place
  pub piece_is : slice_get pieces place ≡ Some row.piece
  pub ticked_is : slice_get ticks place ≡ Some row.ticked
  pub ticks_are : row.ticks ≡ count_by (λ ticks. ticks) (take (place + 1) ticks)

abbrev pub IsRowOf : {M P S : Type 0} → SessionView M P S → ℕ → PlayedRow P → Type 0
IsRowOf held place row = IsRowAt held.game.log held.pieces held.ticks place row
