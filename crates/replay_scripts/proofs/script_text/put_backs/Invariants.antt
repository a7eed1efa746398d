use Rattle.std.proofs.Common.{take}
use Rattle.std.specs.List.{flat_map}
use Rattle.base_text.specs.Text.{Tells}
use Rattle.replay_scripts.specs.ScriptText.{back_lines, backs_in, text_of_lines}
use Rattle.replay_scripts.proofs.script_text.put_backs.Given as goal

abbrev pub invariant-loop-back : goal.invariant-loop-back
invariant-loop-back l =
    Tells (text_of_lines (flat_map back_lines (backs_in (take l.back-index l.backs))))
    l.initial.text l.text
