-- The items of a script, and what the whole says.
use Rattle.std.specs.Prelude.{ℕ, ◌+◌, List, [], ◌∷◌, ◌++◌, length, Option, Some, None, Result, Ok}
use Rattle.std.specs.Prelude.{Err, codes, IsTrue, slice_get, unwrap_or}
use Rattle.std.specs.Str.Lines.{lines}
use Rattle.replay_edits.specs.Edit.{Change}
use Rattle.replay_scripts.specs.Line.{LineKind, nothing, begin, end, edit, nonsense}
use Rattle.replay_scripts.specs.Line.{kind_of_script_line, IsWord, Spells}
use Rattle.base_lines.specs.LogLine.{is_skipped}
use Rattle.replay_scripts.specs.declared.fault.ScriptFlaw.TheVariants as flaw_is
use Rattle.replay_scripts.specs.declared.fault.ScriptRefusal.{ScriptRefusal}
use Rattle.replay_scripts.specs.declared.fault.ScriptRefusal.TheVariants.{Malformed}

-- a guard: a line of a script that says which text a log must have at a place, after this many
-- changes of its item
pub record Expectation : Type 0 where
  pub line : ℕ
  pub place : ℕ
  pub text : List ℕ
  pub after : ℕ

-- what a script applies as a whole: one change, or a group of them. Reports name one line for it,
-- each of its changes has its own line, and it has guards
pub record Applied : Type 0 where
  pub line : ℕ
  pub changes : List Change
  pub lines : List ℕ
  pub guards : List Expectation

abbrev pub single : ℕ → Change → Applied
single number change =
    record { line = number; changes = change ∷ []; lines = number ∷ []; guards = [] }

abbrev pub group_of : ℕ → List Change → List ℕ → Applied
group_of number changes numbers =
    record { line = number; changes = changes; lines = numbers; guards = [] }

abbrev pub group_at_line : ℕ → Applied
group_at_line number = group_of number [] []

abbrev pub group_with_change : Applied → ℕ → Change → Applied
group_with_change group number change =
    record {
      line = group.line;
      changes = group.changes ++ change ∷ [];
      lines = group.lines ++ number ∷ [];
      guards = group.guards;
    }

abbrev pub guarded_by : List Expectation → Applied → Applied
guarded_by guards item =
    record { line = item.line; changes = item.changes; lines = item.lines; guards = guards }

-- the line that a refusal of the change with this number, from 0, names
abbrev pub line_of_refusal : Applied → ℕ → ℕ
line_of_refusal item at = unwrap_or (slice_get item.lines at) item.line

-- ---- the grammar

-- what is in a group: the lines, numbered from `number` on, spell these changes, on the lines with
-- these numbers
pub data IsBody : ℕ → List (List ℕ) → List Change → List ℕ → Type 0 where
  body_done : {number : ℕ} → IsBody number [] [] []
  body_skips : {number : ℕ} {line : List ℕ} {rest : List (List ℕ)} {changes : List Change}
      {numbers : List ℕ}
      → IsTrue (is_skipped line) → IsBody (number + 1) rest changes numbers
      → IsBody number (line ∷ rest) changes numbers
  body_spells : {number : ℕ} {line : List ℕ} {change : Change} {rest : List (List ℕ)}
      {changes : List Change} {numbers : List ℕ}
      → Spells line change → IsBody (number + 1) rest changes numbers
      → IsBody number (line ∷ rest) (change ∷ changes) (number ∷ numbers)

-- the lines, numbered from `number` on, spell these items: each line is skipped, or spells a
-- change, or begins a group, which an `end` closes
pub data IsScript : ℕ → List (List ℕ) → List Applied → Type 0 where
  done : {number : ℕ} → IsScript number [] []
  skips : {number : ℕ} {line : List ℕ} {rest : List (List ℕ)} {items : List Applied}
      → IsTrue (is_skipped line) → IsScript (number + 1) rest items
      → IsScript number (line ∷ rest) items
  spells : {number : ℕ} {line : List ℕ} {change : Change} {rest : List (List ℕ)}
      {items : List Applied}
      → Spells line change → IsScript (number + 1) rest items
      → IsScript number (line ∷ rest) (single number change ∷ items)
  groups : {number : ℕ} {first last : List ℕ} {body rest : List (List ℕ)} {changes : List Change}
      {numbers : List ℕ} {items : List Applied}
      → IsWord (codes "begin") first → IsBody (number + 1) body changes numbers
      → IsWord (codes "end") last
      → IsScript (number + 2 + length body) rest items
      → IsScript number (first ∷ (body ++ last ∷ rest))
      (group_of number changes numbers ∷ items)

-- ---- what a script is, line by line

-- what was read so far: the items, the group that is open, and the guards that no item has yet
pub record ScriptReading : Type 0 where
  pub items : List Applied
  pub open_group : Option Applied
  pub guards : List Expectation

abbrev pub reading_with : List Applied → Option Applied → List Expectation → ScriptReading
reading_with items open_group guards =
    record { items = items; open_group = open_group; guards = guards }

-- the item is whole, and gets the guards that were read since the item before it
abbrev pub reading_with_item : List Applied → Applied → List Expectation → ScriptReading
reading_with_item items item guards =
    reading_with (items ++ guarded_by guards item ∷ []) None []

abbrev pub reading_outside_group : ℕ → LineKind → List Applied → List Expectation
    → Result ScriptReading ScriptRefusal
reading_outside_group number nothing items guards = Ok (reading_with items None guards)
reading_outside_group number begin items guards =
    Ok (reading_with items (Some (group_at_line number)) guards)
reading_outside_group number end items guards = Err (Malformed number flaw_is.EndOutsideGroup)
reading_outside_group number (edit change) items guards =
    Ok (reading_with_item items (single number change) guards)
reading_outside_group number (nonsense flaw) items guards =
    Err (Malformed number (flaw_is.NoEdit flaw))

abbrev pub reading_in_group : ℕ → LineKind → List Applied → Applied → List Expectation
    → Result ScriptReading ScriptRefusal
reading_in_group number nothing items group guards = Ok (reading_with items (Some group) guards)
reading_in_group number begin items group guards = Err (Malformed number flaw_is.BeginInGroup)
reading_in_group number end items group guards = Ok (reading_with_item items group guards)
reading_in_group number (edit change) items group guards =
    Ok (reading_with items (Some (group_with_change group number change)) guards)
reading_in_group number (nonsense flaw) items group guards =
    Err (Malformed number (flaw_is.NoEdit flaw))

-- what was read, after a line of this kind and this number
abbrev pub reading_after_line : ℕ → LineKind → List Applied → Option Applied → List Expectation
    → Result ScriptReading ScriptRefusal
reading_after_line number kind items None guards = reading_outside_group number kind items guards
reading_after_line number kind items (Some group) guards =
    reading_in_group number kind items group guards

-- at the end no group is open, and each guard belongs to an item
abbrev pub items_at_end : List Applied → Option Applied → List Expectation
    → Result (List Applied) ScriptRefusal
items_at_end items (Some group) guards = Err (Malformed group.line flaw_is.NoEnd)
items_at_end items None [] = Ok items
items_at_end items None (guard ∷ guards) = Err (Malformed guard.line flaw_is.NoneGuarded)

-- the answer of a line, and then of reading on
abbrev pub onward : Result ScriptReading ScriptRefusal
    → (List Applied → Option Applied → List Expectation → Result (List Applied) ScriptRefusal)
    → Result (List Applied) ScriptRefusal
onward (Ok now) next = next now.items now.open_group now.guards
onward (Err fault) next = Err fault

-- what the lines, numbered from `number` on, give after what was read
abbrev pub read_from : ℕ → List (List ℕ) → List Applied → Option Applied → List Expectation
    → Result (List Applied) ScriptRefusal
read_from number [] items open_group guards = items_at_end items open_group guards
read_from number (line ∷ rest) items open_group guards =
    onward (reading_after_line number (kind_of_script_line line) items open_group guards)
    (read_from (number + 1) rest)

-- the items of a script, in which no line is a guard
abbrev pub script_of : List ℕ → Result (List Applied) ScriptRefusal
script_of text = read_from 1 (lines text) [] None []
