-- The ways that rows have, those that are counted among marked rows, and rows that aren't ways.
use Rattle.std.proofs.Common.{◌≡◌, ◌∙◌, ◌+◌, ◌++◌, ◌∷◌, ℕ, Bool, true, false, List, []}
use Rattle.std.proofs.Common.{Option, Some, None, length, map, refl, sym, ap}
use Rattle.std.specs.Prelude.{◌==◌, if◌then◌else◌, filter, is_some, slice_get, unwrap_or}
use Rattle.std.specs.List.{filter_map}
use Rattle.std.proofs.lemmas.Bool.{true≢false}
use Rattle.std.proofs.lemmas.List.{length-append, map-append}
use Rattle.std.proofs.lemmas.List.Elements.{filter-append, filter_map-append}
use Rattle.cave_data.specs.Texts.{names_object, nonempty}
use Rattle.data_rows.specs.Rows.{Entry, Going, TextLine, Way, ObjectLine}
use Rattle.data_rows.specs.SectionRows.{way_of}
use Rattle.data_lines.specs.Marks.{is_way_from, leads_from, mark_of}
use Rattle.data_lines.specs.WayLines.{way_index, way_line}
use Rattle.data_lines.specs.declared.mark.MarkedRow.{MarkedRow}
use Rattle.data_lines.specs.declared.mark.RowMark.{RowMark}

-- ---- the ways of rows

-- the ways out of a place among rows
abbrev pub goings_of : ℕ → List Entry → List Going
goings_of place rows = map (λ way. way.1) (filter (λ way. way.0 == place) (filter_map way_of rows))

pub goings_append : (place : ℕ) (xs ys : List Entry)
    → goings_of place (xs ++ ys) ≡ goings_of place xs ++ goings_of place ys
goings_append place xs ys =
    rw (
      filter_map-append way_of xs ys,
      filter-append (λ way. way.0 == place) (filter_map way_of xs) (filter_map way_of ys),
    )
    (map-append (λ way. way.1) (filter (λ way. way.0 == place) (filter_map way_of xs))
    (filter (λ way. way.0 == place) (filter_map way_of ys)))

-- the ways are those of a cave that holds the rows
pub ways_of_cave : (xs : List Going) → unwrap_or (nonempty xs) [] ≡ xs
ways_of_cave [] = refl
ways_of_cave (x ∷ xs) = refl

pub at_end : {X : Type 0} (xs : List X) (x : X) (ys : List X)
    → slice_get (xs ++ x ∷ ys) (length xs) ≡ Some x
at_end [] x ys = refl
at_end (y ∷ xs) x ys = at_end xs x ys

-- ---- rows before, and the ways that are counted among them

-- the number of ways that were counted of each place is the number that the rows have
abbrev pub Alike : List MarkedRow → List Entry → Type 0
Alike before rows = (place : ℕ) → way_index place before ≡ length (goings_of place rows)

pub more_ways : (place : ℕ) (before : List MarkedRow) (row : MarkedRow) (n : ℕ)
    → length (filter (is_way_from place) (row ∷ [])) ≡ n
    → way_index place (before ++ row ∷ []) ≡ way_index place before + n
more_ways place before row n is =
    ap length (filter-append (is_way_from place) before (row ∷ []))
    ∙ length-append (filter (is_way_from place) before) (filter (is_way_from place) (row ∷ []))
    ∙ ap (λ k. way_index place before + k) is

pub more_goings : (place : ℕ) (rows : List Entry) (row : Entry) (n : ℕ)
    → length (goings_of place (row ∷ [])) ≡ n
    → length (goings_of place (rows ++ row ∷ [])) ≡ length (goings_of place rows) + n
more_goings place rows row n is =
    ap length (goings_append place rows (row ∷ []))
    ∙ length-append (goings_of place rows) (goings_of place (row ∷ []))
    ∙ ap (λ k. length (goings_of place rows) + k) is

-- a way is counted for its own place, and for no other
pub way_alike : (before : List MarkedRow) (rows : List Entry) (line place : ℕ) (going : Going)
    → Alike before rows
    → Alike (before ++ record { line = line; mark = RowMark.Way place } ∷ [])
    (rows ++ Way place going ∷ [])
way_alike before rows line place going alike other = by_test (place == other) refl
  where
    row : MarkedRow
    row = record { line = line; mark = RowMark.Way place }

    by_test : (b : Bool) → (place == other) ≡ b
        → way_index other (before ++ row ∷ [])
        ≡ length (goings_of other (rows ++ Way place going ∷ []))
    by_test true same =
        more_ways other before row 1 (rw same refl) ∙ ap (λ k. k + 1) (alike other)
        ∙ sym (more_goings other rows (Way place going) 1 (rw same refl))
    by_test false differs =
        more_ways other before row 0 (rw differs refl) ∙ ap (λ k. k + 0) (alike other)
        ∙ sym (more_goings other rows (Way place going) 0 (rw differs refl))

-- ---- rows that aren't ways

abbrev pub IsNoWay : Option RowMark → Type 0
IsNoWay None = Unit {0}
IsNoWay (Some (RowMark.Way place)) = ⊥
IsNoWay (Some other) = Unit {0}

abbrev NamesNoWay : Bool → TextLine → Type 0
NamesNoWay names line = IsNoWay (if names then Some (RowMark.Name line.number) else None)

pub object_is_no_way : (line : TextLine) (names : Bool) → NamesNoWay names line
object_is_no_way line true = tt
object_is_no_way line false = tt

pub marked_as_no_way : (row : Entry) → is_some (way_of row) ≡ false → IsNoWay (mark_of row)
marked_as_no_way (Way place going) none = absurd (true≢false none)
marked_as_no_way (ObjectLine line) none = object_is_no_way line (names_object line)
marked_as_no_way other none = tt

pub no_line : (m : RowMark) (before : List MarkedRow) (number : ℕ) → IsNoWay (Some m)
    → way_line before number m ≡ []
no_line (RowMark.Way place) before number plain = absurd plain
no_line other before number plain = refl

pub leads_nowhere : (m : RowMark) (place : ℕ) → IsNoWay (Some m) → leads_from place m ≡ false
leads_nowhere (RowMark.Way other) place plain = absurd plain
leads_nowhere other place plain = refl

pub no_goings : (row : Entry) (place : ℕ) → is_some (way_of row) ≡ false
    → length (goings_of place (row ∷ [])) ≡ 0
no_goings row place none = by (way_of row) refl none
  where
    by : (o : Option (ℕ × Going)) → way_of row ≡ o → is_some o ≡ false
        → length (goings_of place (row ∷ [])) ≡ 0
    by None is not = rw is refl
    by (Some way) is not = absurd (true≢false not)
