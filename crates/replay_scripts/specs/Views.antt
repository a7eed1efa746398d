-- What the items of a script show.
use Rattle.std.specs.Prelude.{◌≡◌, ℕ, List, map, Option, option_map, Result, Ok, Err}
use Rattle.std.specs.Global.{Vec}
use Rattle.replay_edits.specs.Edit.{changes_of}
use Rattle.replay_scripts.specs.Script.{Applied, Expectation, ScriptReading, reading_after_line}
use Rattle.replay_scripts.specs.Script.{reading_with}
use Rattle.replay_scripts.specs.Line.{LineKind}
use Rattle.replay_scripts.specs.declared.guard.Guard.{Guard}
use Rattle.replay_scripts.specs.declared.script.Item.{Item}
use Rattle.replay_scripts.specs.declared.script.ScriptReader.{ScriptReader}
use Rattle.replay_scripts.specs.declared.fault.ScriptRefusal.{ScriptRefusal}
use Rattle.replay_scripts.specs.declared.fault.ScriptRefusal.TheVariants.{Malformed, Memory}

abbrev pub expectation_in : Guard → Expectation
expectation_in guard = record {
  line = guard.line;
  place = guard.place;
  text = guard.text.items;
  after = guard.after;
}

abbrev pub expectations_of : Vec Guard → List Expectation
expectations_of guards = map expectation_in guards.items

abbrev pub applied_item : Item → Applied
applied_item item = record {
  line = item.line;
  changes = changes_of item.edits.items;
  lines = item.lines.items;
  guards = expectations_of item.guards;
}

abbrev pub items_of : Vec Item → List Applied
items_of items = map applied_item items.items

abbrev pub open_of : Option Item → Option Applied
open_of = option_map applied_item

-- what was read so far
abbrev pub reading_of : ScriptReader → ScriptReading
reading_of reader =
    reading_with (items_of reader.items) (open_of reader.group) (expectations_of reader.guards)

abbrev pub step_of : ℕ → LineKind → ScriptReading → Result ScriptReading ScriptRefusal
step_of number kind now =
    reading_after_line number kind now.items now.open_group now.guards

-- memory ran out, or this is the fault that was expected
abbrev pub IsFaultOf : {T : Type 0} → ScriptRefusal → Result T ScriptRefusal → Type 0
IsFaultOf Memory answer = Unit {0}
IsFaultOf (Malformed number flaw) answer = answer ≡ Err (Malformed number flaw)

-- the step was made and led here, or it failed by its fault
abbrev pub IsStep : Result ScriptReading ScriptRefusal → ScriptReading
    → Result (Unit {0}) ScriptRefusal → Type 0
IsStep step now (Ok done) = step ≡ Ok now
IsStep step now (Err fault) = IsFaultOf fault step
