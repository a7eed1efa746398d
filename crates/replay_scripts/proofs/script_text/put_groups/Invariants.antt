use Rattle.std.proofs.Common.{take}
use Rattle.base_text.specs.Text.{Tells}
use Rattle.replay_scripts.specs.ScriptText.{groups_in, script_text}
use Rattle.replay_scripts.proofs.script_text.put_groups.Given as goal

abbrev pub invariant-loop-backs : goal.invariant-loop-backs
invariant-loop-backs l =
    Tells (script_text (groups_in (take l.backs-index l.groups))) l.initial.text l.text
