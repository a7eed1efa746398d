-- The lines so far are written.
use Rattle.base_text.specs.Text.{Tells}
use Rattle.play_state_text.specs.Things.{text_up_to, hint_line}
use Rattle.play_state_text.proofs.hints.put_hints.Given as goal

abbrev pub invariant-loop-before : goal.invariant-loop-before
invariant-loop-before l = Tells (text_up_to (hint_line l.hints) l.before) l.initial.text l.text
