-- Which of several rows applies.
use Rattle.std.specs.Prelude.{◌≡◌, ℕ, ◌+◌, ◌-◌, ◌≤◌, true, false, List, [], ◌∷◌, ◌++◌, length, map}
use Rattle.std.specs.Prelude.{Some, ◌⊎◌, slice_get}
use Rattle.std.specs.List.{enumerate_from}
use Rattle.turn_scene.specs.Rows.{Row, Deed, Act, Effect, all_hold, fits, after_trying, act_of_row}
use Rattle.turn_scene.specs.Rows.{act_by_table, first_fitting_or, note_row, noted, noted_row}
use Rattle.turn_scene.specs.Rows.{otherwise_row, otherwise_then}
use Rattle.cave_world.specs.declared.tables.Table.{Table}

-- none of the rows fits, as they are tried one after another
abbrev pub NoneFits : {C F : Type 0} → List (Row C F) → Deed C → Type 0
NoneFits [] d = Unit {0}
NoneFits (r ∷ rows) d = (fits r d ≡ false) × NoneFits rows (after_trying r d)

-- the deed after rows were tried, one after another
abbrev pub after_trying_all : {C F : Type 0} → List (Row C F) → Deed C → Deed C
after_trying_all [] d = d
after_trying_all (r ∷ rows) d = after_trying_all rows (after_trying r d)

-- a row that fits applies if none before it does, whichever rows come after it
abbrev pub FirstFittingApplies : Type 0 → Type 0 → Type 0
FirstFittingApplies C F =
    (before after : List (Row C F)) (r : Row C F) (otherwise : Deed C → Act F)
    (d : Deed C) → NoneFits before d → fits r (after_trying_all before d) ≡ true
    → first_fitting_or (before ++ r ∷ after) otherwise d
    ≡ act_of_row r (after_trying r (after_trying_all before d))

-- and of a table whose rows are noted it is noted by its number, before its effects
abbrev pub NotedByNumber : Type 0 → Type 0 → Type 0
NotedByNumber C F =
    (table : Table) (before after : List (Row C F)) (r : Row C F) (otherwise : Deed C → Act F)
    (d : Deed C) → NoneFits before d → fits r (after_trying_all before d) ≡ true
    → first_fitting_or (noted table (before ++ r ∷ after)) otherwise d
    ≡ act_of_row r (note_row table (1 + length before)
    (after_trying r (after_trying_all before d)))

-- each row of such a table is noted by its number, from 1 to the count of rows
abbrev pub NotedInOrder : Type 0 → Type 0 → Type 0
NotedInOrder C F =
    (table : Table) (rows : List (Row C F)) → noted table rows
    ≡ map (λ numbered. noted_row table numbered.0 numbered.1) (enumerate_from 1 rows)

-- a row of the table is what is done, and its number is noted
pub record NotesRow {C F : Type 0} (table : Table) (rows : List (Row C F)) (act : Act F)
    : Type 0 where
  pub number : ℕ
  pub row : Row C F
  pub tried : Deed C
  pub from_1 : 1 ≤ number
  pub to_count : number ≤ length rows
  pub is_row : slice_get rows (number - 1) ≡ Some row
  pub does : act ≡ act_of_row row (note_row table number tried)

-- in such a table either a row applies, and such a number is noted, or none fits, and none is noted
abbrev pub NotesARowOrNone : Type 0 → Type 0 → Type 0
NotesARowOrNone C F =
    (table : Table) (rows : List (Row C F)) (otherwise : Deed C → Act F) (d : Deed C)
    → (NoneFits rows d
    × (first_fitting_or (noted table rows) otherwise d ≡ otherwise (after_trying_all rows d)))
    ⊎ NotesRow table rows (first_fitting_or (noted table rows) otherwise d)

-- a last row that applies if no other does is one more row, for anything that would be done without
-- it
abbrev pub LastRowIsNoted : Type 0 → Type 0 → Type 0
LastRowIsNoted C F =
    (table : Table) (rows : List (Row C F)) (effects : List (Effect C)) (end : Deed C → F)
    (or_else : Deed C → Act F) (d : Deed C)
    → act_by_table table rows (otherwise_row effects end) d
    ≡ first_fitting_or (noted table (rows ++ otherwise_then effects end)) or_else d

-- if no row fits, only what is meant for that case is done
abbrev pub NoneFittingDoesNothing : Type 0 → Type 0 → Type 0
NoneFittingDoesNothing C F =
    (rows : List (Row C F)) (otherwise : Deed C → Act F) (d : Deed C)
    → NoneFits rows d → first_fitting_or rows otherwise d ≡ otherwise (after_trying_all rows d)

-- if a test of a row fails, the row doesn't apply, and makes no draw
abbrev pub DrawsComeLast : Type 0 → Type 0 → Type 0
DrawsComeLast C F =
    (r : Row C F) (d : Deed C) → all_hold r.tests d ≡ false
    → (fits r d ≡ false) × (after_trying r d ≡ d)
