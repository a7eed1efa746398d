-- The refusals so far are reported, in their order.
use Rattle.std.proofs.Common.{◌≡◌, map, take}
use Rattle.play_program.specs.Calls.{and_then}
use Rattle.play_program.specs.Ends.{refusal_notice}
use Rattle.play_program.proofs.run.tell_refusals.Given as goal

abbrev pub invariant-loop-refusal : goal.invariant-loop-refusal
invariant-loop-refusal g l =
    g.S.System.calls l.system
    ≡ and_then (g.S.System.calls l.initial.system)
    (map (refusal_notice l.request) (take l.refusal-index l.run.refused.items))
