-- The facts of the kinds so far are written.
use Rattle.std.proofs.Common.{take}
use Rattle.std.specs.List.{flat_map}
use Rattle.base_text.specs.Text.{Tells}
use Rattle.play_state_text.specs.StateText.{text_in}
use Rattle.play_state_text.proofs.kind.put_facts.Given as goal

abbrev pub invariant-loop-kind : goal.invariant-loop-kind
invariant-loop-kind l =
    Tells (flat_map (text_in l.setting.cave.now l.setting.begun.now l.state) (take l.kind-index l.kinds))
    l.initial.text l.text
