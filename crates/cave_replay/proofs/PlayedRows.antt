-- The rows of lines, at their places.
use Rattle.std.proofs.Common.{◌≡◌, ℕ, ◌+◌, ◌<◌, zero, suc, Bool, List, [], ◌∷◌, length, take, arith}
use Rattle.std.proofs.Common.{refl, sym, subst, ap, ◌∙◌, Some}
use Rattle.std.specs.Prelude.{slice_get, IfSome, if◌then◌else◌}
use Rattle.replay_edits.specs.Edit.{line_at}
use Rattle.cave_replay.specs.PlayedRow.{PlayedRow, rows_from, IsRowAt}
use Rattle.cave_replay.proofs.Counting.{total, total-cons}

-- the row is that of the place `k` of these lines, if the first has the place `first`, and `count`
-- lines before it ticked
record IsRowFrom {Piece : Type 0} (first count : ℕ) (log : List (List ℕ)) (pieces : List Piece)
    (ticks : List Bool) (k : ℕ) (row : PlayedRow Piece) : Type 0 where
  place_is : row.place ≡ first + k
  line_is : row.line ≡ line_at log k
  piece_is : slice_get pieces k ≡ Some row.piece
  ticked_is : slice_get ticks k ≡ Some row.ticked
  ticks_are : row.ticks ≡ count + total (take (k + 1) ticks)

-- the row at a place
rows_from-at : {Piece : Type 0} (first count : ℕ) (log : List (List ℕ)) (pieces : List Piece)
    (ticks : List Bool) → length pieces ≡ length log → length ticks ≡ length log
    → (k : ℕ) → k < length log
    → (row : PlayedRow Piece) × (slice_get (rows_from first count log pieces ticks) k ≡ Some row)
    × IsRowFrom first count log pieces ticks k row
rows_from-at first count [] pieces ticks p t k below = absurd (omega arith)
rows_from-at first count (line ∷ log) [] ticks p t k below = absurd (omega arith)
rows_from-at first count (line ∷ log) (piece ∷ pieces) [] p t k below = absurd (omega arith)
rows_from-at first count (line ∷ log) (piece ∷ pieces) (ticked ∷ ticks) p t zero below = (
  record {
    place = first;
    line = line;
    piece = piece;
    ticked = ticked;
    ticks = count + (if ticked then 1 else 0);
  },
  refl,
  record {
    place_is = omega arith;
    line_is = refl;
    piece_is = refl;
    ticked_is = refl;
    ticks_are = omega (arith, total-cons ticked []);
  },
)
rows_from-at first count (line ∷ log) (piece ∷ pieces) (ticked ∷ ticks) p t (suc k) below =
    let (row, is, its) =
    rows_from-at (first + 1) (count + (if ticked then 1 else 0)) log pieces ticks (omega arith)
    (omega arith) k (omega arith) in (
      row,
      is,
      record {
        place_is = omega (arith, its.place_is);
        line_is = its.line_is;
        piece_is = its.piece_is;
        ticked_is = its.ticked_is;
        ticks_are =
            its.ticks_are
            ∙ omega (
              arith,
              total-cons ticked (take (k + 1) ticks),
              (let here : suc k + 1 ≡ suc (k + 1) = omega arith in
                  ap (λ n. total (take n (ticked ∷ ticks))) here),
            );
      },
    )

pub rows-at : {Piece : Type 0} (log : List (List ℕ)) (pieces : List Piece) (ticks : List Bool)
    → length pieces ≡ length log → length ticks ≡ length log → (k : ℕ) → k < length log
    → IfSome (slice_get (rows_from 0 0 log pieces ticks) k) (IsRowAt log pieces ticks k)
rows-at log pieces ticks p t k below =
    let (row, is, its) = rows_from-at 0 0 log pieces ticks p t k below in
    subst (λ found. IfSome found (IsRowAt log pieces ticks k)) (sym is)
    (record {
      place_is = omega (arith, its.place_is);
      line_is = its.line_is;
      piece_is = its.piece_is;
      ticked_is = its.ticked_is;
      ticks_are = omega (arith, its.ticks_are);
    })

pub length-rows_from : {Piece : Type 0} (first count : ℕ) (log : List (List ℕ))
    (pieces : List Piece) (ticks : List Bool) → length pieces ≡ length log
    → length ticks ≡ length log → length (rows_from first count log pieces ticks) ≡ length log
length-rows_from first count [] pieces ticks p t = refl
length-rows_from first count (line ∷ log) [] ticks p t = absurd (omega arith)
length-rows_from first count (line ∷ log) (piece ∷ pieces) [] p t = absurd (omega arith)
length-rows_from first count (line ∷ log) (piece ∷ pieces) (ticked ∷ ticks) p t =
    ap suc (length-rows_from (first + 1) (count + (if ticked then 1 else 0)) log pieces ticks
    (omega arith) (omega arith))

-- without pieces there are no rows, nor without ticks
pub no_pieces : {Piece : Type 0} (first count : ℕ) (log : List (List ℕ)) (ticks : List Bool)
    → rows_from {Piece = Piece} first count log [] ticks ≡ []
no_pieces first count [] ticks = refl
no_pieces first count (line ∷ log) ticks = refl

pub no_ticks : {Piece : Type 0} (first count : ℕ) (log : List (List ℕ)) (pieces : List Piece)
    (ticks : List Bool) → length ticks ≡ 0 → rows_from first count log pieces ticks ≡ []
no_ticks first count [] pieces ticks none = refl
no_ticks first count (line ∷ log) [] ticks none = refl
no_ticks first count (line ∷ log) (piece ∷ pieces) [] none = refl
no_ticks first count (line ∷ log) (piece ∷ pieces) (tick ∷ ticks) none = absurd (omega arith)
