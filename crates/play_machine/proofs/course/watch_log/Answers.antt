use Rattle.std.proofs.Common.{◌≡◌, ◌+◌, ◌≤◌, [], ap, arith, refl, rules, ◌∙◌}
use Rattle.std.specs.Str.Lines.{lines}
use Rattle.base_lines.specs.Limits.{MAX_LOG_LINES}
use Rattle.base_lines.specs.Line.{StartsWithLine}
use Rattle.play_machine.proofs.WatchLemmas.{IsOnCourse-end, IsOnCourse-line, IsOnCourse-starts}
use Rattle.play_machine.proofs.course.watch_log.Goals as goal

pub loop-found-init : goal.loop-found-init
loop-found-init g c =
    let watch = g.W.Watch in
    let course = c.in_ok-course.course in
    let begun = c.in_ok-course.ensures.course in
    record {
      counted = omega arith;
      bad = refl;
      fits = omega arith;
      played = λ few. (
        begun.0,
        IsOnCourse-starts watch.HasNoted watch.first_facts watch.facts c.args.machine.rules.cave.now
            c.args.seed (lines c.args.log.now) c.args.watch.now c.begin.new.watch c.args.seed
            course.place course.turns course.state refl begun.0 begun.1 begun.2
            c.in_ok-course.ensures.noted,
      );
    }

pub loop-found-preserved-in_ok-play_line : goal.loop-found-preserved-in_ok-play_line
loop-found-preserved-in_ok-play_line g c =
    let watch = g.W.Watch in
    let course = c.loop-found.course in
    let next = c.play_line.new.course in
    let line = c.in-Ok.good.0.now in
    let rest = c.in-Ok.good.1.now in
    let moved = c.in_ok-play_line.ensures.course in
    let starts : StartsWithLine c.loop-found.rest.now line rest = search rules in
    record {
      counted = search (rules, starts);
      bad = search (rules, starts);
      fits = search (rules, starts);
      played = λ few.
          let on = c.loop-found.invariant.played (omega (arith, few)) in (
            moved.0 ∙ ap (λ n. n + 1) on.0,
            IsOnCourse-line watch.HasNoted watch.first_facts watch.facts
                c.args.machine.rules.cave.now c.args.seed (lines c.args.log.now) c.args.watch.now
                c.loop-found.watch c.play_line.new.watch course.place course.turns next.place
                next.turns course.state next.state line (lines c.loop-found.rest.now) (lines rest)
                starts.first on.1 c.in_ok-play_line.ensures.noted moved,
          );
    }

pub returns-clause-end : goal.returns-clause-end
returns-clause-end g c =
    let watch = g.W.Watch in
    let course = c.loop-found.course in
    let few : c.loop-found.count ≤ MAX_LOG_LINES = search rules in
    let none : lines c.loop-found.rest.now ≡ [] = search rules in
    let ended =
    IsOnCourse-end watch.HasNoted watch.first_facts watch.facts c.args.machine.rules.cave.now
    c.args.seed (lines c.args.log.now) c.args.watch.now c.loop-found.watch course.place course.turns
    course.state (lines c.loop-found.rest.now) none (c.loop-found.invariant.played few).1 in
    ended.1
