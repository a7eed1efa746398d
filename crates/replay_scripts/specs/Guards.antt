-- Scripts in which lines may be guards, `expect N TEXT`. The grammar of scripts takes such a line
-- as blank: it guards the item whose last line comes next.
use Rattle.std.specs.Prelude.{ℕ, ◌+◌, Bool, true, false, List, [], ◌∷◌, ◌++◌, length, map, Option}
use Rattle.std.specs.Prelude.{◌≡◌, ◌↔◌, Some, None, Result, Ok, ⊤}
use Rattle.std.specs.Str.Lines.{lines}
use Rattle.replay_scripts.specs.Line.{expected_in, IsExpected, kind_of_script_line}
use Rattle.replay_scripts.specs.Malformed.{IsMalformedAt}
use Rattle.replay_scripts.specs.Script.{Applied, Expectation, guarded_by, IsScript, items_at_end}
use Rattle.replay_scripts.specs.Script.{onward, reading_after_line, reading_with, script_of}
use Rattle.replay_scripts.specs.Script.{ScriptReading}
use Rattle.replay_scripts.specs.declared.fault.ScriptFlaw.TheVariants as flaw_is
use Rattle.replay_scripts.specs.declared.fault.ScriptRefusal.{ScriptRefusal}
use Rattle.replay_scripts.specs.declared.fault.ScriptRefusal.TheVariants.{Malformed, Memory}

-- a line is a guard exactly if it is spelled as one
abbrev pub GuardsAreSpelled : Type 0
GuardsAreSpelled =
    (line : List ℕ) (place : ℕ) (text : List ℕ)
    → (expected_in line ≡ Some (place, text)) ↔ IsExpected line place text

-- ---- what guards leave of a script

abbrev pub unguarded_line : Option (ℕ × List ℕ) → List ℕ → List ℕ
unguarded_line (Some expected) line = []
unguarded_line None line = line

-- the lines of a script, its guards taken as blank
abbrev pub unguarded : List (List ℕ) → List (List ℕ)
unguarded lines = map (λ line. unguarded_line (expected_in line) line) lines

abbrev pub unguarded_items : List Applied → List Applied
unguarded_items items = map (guarded_by []) items

-- ---- what a script with guards is, line by line

-- how many changes an open group has
abbrev pub changes_so_far : Option Applied → ℕ
changes_so_far None = 0
changes_so_far (Some group) = length group.changes

abbrev pub expectation_of : ℕ → ℕ × List ℕ → Option Applied → Expectation
expectation_of number expected open_group = record {
  line = number;
  place = expected.0;
  text = expected.1;
  after = changes_so_far open_group;
}

-- the guards, with the line if it is one
abbrev pub with_expected : ℕ → Option (ℕ × List ℕ) → Option Applied → List Expectation
    → List Expectation
with_expected number (Some expected) open_group guards =
    guards ++ expectation_of number expected open_group ∷ []
with_expected number None open_group guards = guards

abbrev pub reading_with_guard : ℕ → Option (ℕ × List ℕ) → ScriptReading → ScriptReading
reading_with_guard number expected now =
    reading_with now.items now.open_group
    (with_expected number expected now.open_group now.guards)

-- what the lines, numbered from `number` on, give after what was read
abbrev pub read_guarded_from : ℕ → List (List ℕ) → List Applied → Option Applied
    → List Expectation → Result (List Applied) ScriptRefusal
read_guarded_from number [] items open_group guards = items_at_end items open_group guards
read_guarded_from number (line ∷ rest) items open_group guards =
    onward (reading_after_line number
    (kind_of_script_line (unguarded_line (expected_in line) line)) items open_group
    (with_expected number (expected_in line) open_group guards))
    (read_guarded_from (number + 1) rest)

-- the items of a script, with their guards
abbrev pub guarded_script_of : List ℕ → Result (List Applied) ScriptRefusal
guarded_script_of text = read_guarded_from 1 (lines text) [] None []

-- the script is refused for the line at which its lines, with guards taken as blank, are first
-- malformed, or for a guard with no item after it, unless memory ran out
abbrev pub IsRefusedByGuards : List (List ℕ) → ScriptRefusal → Type 0
IsRefusedByGuards whole Memory = ⊤
IsRefusedByGuards whole (Malformed at flaw_is.NoneGuarded) =
    (items : List Applied) × IsScript 1 (unguarded whole) items
IsRefusedByGuards whole (Malformed at flaw) = IsMalformedAt 1 (unguarded whole) at flaw

-- ---- scripts that may have guards, and those that may not

-- the items that a script gives, by whether lines of it may be guards
abbrev pub script_by : Bool → List ℕ → Result (List Applied) ScriptRefusal
script_by false text = script_of text
script_by true text = guarded_script_of text

-- a script gives these items: its lines spell them, or those that aren't guards do
abbrev pub IsScriptBy : Bool → List ℕ → List Applied → Type 0
IsScriptBy false text items = IsScript 1 (lines text) items
IsScriptBy true text items =
    (guarded_script_of text ≡ Ok items)
    × IsScript 1 (unguarded (lines text)) (unguarded_items items)
