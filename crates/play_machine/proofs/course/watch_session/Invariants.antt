use Rattle.std.proofs.Common.{◌≡◌, drop}
use Rattle.play_machine.proofs.WatchLemmas.{IsOnCourse}
use Rattle.play_machine.proofs.course.watch_session.Given as goal

abbrev pub invariant-loop-place : goal.invariant-loop-place
invariant-loop-place g l =
    let log = l.session.game.log in
    (l.rules ≡ l.session.machine.rules) × (l.course.place ≡ l.place)
    × IsOnCourse g.W.Watch.HasNoted g.W.Watch.first_facts g.W.Watch.facts l.rules.cave.now
    l.session.game.seed log l.fn.watch l.watch l.course.place l.course.turns l.course.state
    (drop l.place log)
