use Rattle.std.proofs.Common.{◌≡◌, ◌+◌, ◌<◌, ◌≤◌, [], ◌∷◌, ap, arith, drop, length, subst, sym, ◌∙◌}
use Rattle.std.proofs.lemmas.List.{drop_all, drop_more}
use Rattle.turn_scene.specs.declared.rules.Rules.{Rules}
use Rattle.play_machine.specs.Moments.{noted_of}
use Rattle.play_machine.specs.Watch.{NotesMore}
use Rattle.play_machine.specs.declared.machine.CaveMachine.{CaveMachine}
use Rattle.play_machine.proofs.WatchLemmas.{IsOnCourse-end, IsOnCourse-line, IsOnCourse-starts}
use Rattle.play_machine.proofs.course.watch_session.Goals as goal

pub loop-place-init : goal.loop-place-init
loop-place-init g c =
    let watch = g.W.Watch in
    let game = c.args.session.now.game in
    let course = c.in_ok-course.course in
    let begun = c.in_ok-course.ensures.course in (
      ap (λ (m : CaveMachine). m.rules) c.machine.ensures,
      begun.0,
      IsOnCourse-starts watch.HasNoted watch.first_facts watch.facts c.machine.result.now.rules.cave.now
          game.seed game.log c.args.watch.now c.begin.new.watch c.seed.result course.place
          course.turns course.state c.seed.ensures begun.0 begun.1 begun.2
          c.in_ok-course.ensures.noted,
    )

pub loop-place-preserved : goal.loop-place-preserved
loop-place-preserved g c =
    let watch = g.W.Watch in
    let game = c.args.session.now.game in
    let place = c.loop-place.place in
    let course = c.loop-place.course in
    let next = c.play_line.new.course in
    let on = c.loop-place.invariant in
    let moved = c.in_ok-play_line.ensures.course in
    let inside : place < length game.log =
    omega (arith, c.loop-place-test.true, c.lines-place-end.ensures.lines) in
    let lines : drop place game.log ≡ c.line.result.now ∷ drop (place + 1) game.log =
    drop_more game.log place [] inside
    ∙ ap (λ line. line ∷ drop (place + 1) game.log) (sym c.line.ensures.line) in (
      on.0,
      moved.0 ∙ ap (λ n. n + 1) on.1,
      IsOnCourse-line watch.HasNoted watch.first_facts watch.facts c.machine.result.now.rules.cave.now
          game.seed game.log c.args.watch.now c.loop-place.watch c.play_line.new.watch course.place
          course.turns next.place next.turns course.state next.state c.line.result.now
          (drop place game.log) (drop (place + 1) game.log) lines on.2
          c.in_ok-play_line.ensures.noted moved,
    )

pub returns : goal.returns
returns g c =
    let watch = g.W.Watch in
    let game = c.args.session.now.game in
    let place = c.loop-place.place in
    let course = c.loop-place.course in
    let on = c.loop-place.invariant in
    let past : length game.log ≤ place =
    omega (arith, c.loop-place-test.false, c.lines-place-end.ensures.lines) in
    let ended =
    IsOnCourse-end watch.HasNoted watch.first_facts watch.facts c.machine.result.now.rules.cave.now
    game.seed game.log c.args.watch.now c.loop-place.watch course.place course.turns course.state
    (drop place game.log) (drop_all place game.log past) on.2 in
    subst (λ cave. NotesMore watch.HasNoted (noted_of watch.first_facts watch.facts cave game)
    c.args.watch.now c.loop-place.watch) (ap (λ (r : Rules). r.cave.now) on.0) ended.0
