use Rattle.cave_play.specs.Sources.{Leads}
use Rattle.cave_play.proofs.LogProgress.{AreNotesOn, IsAt}
use Rattle.cave_play.proofs.logs.report_in_cave.Given as goal

abbrev pub invariant-loop-place : goal.invariant-loop-place
invariant-loop-place g l =
    IsAt (g.I.Sources.held l.fn.inputs).logs
    (AreNotesOn g.N.Watch.HasNoted g.N.Watch.first_facts g.N.Watch.facts l.machine.rules.cave.now)
    l.seed l.place l.notes (g.I.Sources.held l.inputs).logs
    × Leads g.I.Sources.Reads l.fn.inputs l.inputs
