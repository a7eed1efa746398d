use Rattle.std.proofs.Common.{◌+◌, ap, sym, ◌∙◌, arith, rules}
use Rattle.std.proofs.lemmas.Grind.{common_steps}
use Rattle.replay_checkpoints.specs.Marks.{marks_with_state}
use Rattle.cave_replay.proofs.Marking.{marking_more}
use Rattle.cave_replay.proofs.segment.play_line.Goals as goal

pub returns-clause-plays : goal.returns-clause-plays
returns-clause-plays g c =
    let meaning = g.M.Machine.meaning in
    let after = (g.M.Machine.rules c.args.machine.now).after in
    let marks = c.args.played.now.marks in
    let state = c.step_in_place.new.state in
    let was = c.state_mut.ensures.value ∙ c.in_ok-advance.ensures.state in
    record {
      pieces = grind (arith, common_steps);
      ticks_are = search rules;
      next = search rules;
      marking = λ by_place marking here.
          let means =
          c.in_ok-stepped.ensures.state ∙ ap (λ s. after (meaning s) c.args.line.now) was
          ∙ sym here ∙ ap (λ place. by_place (place + 1)) (sym c.next-place.ensures.next) in
          marking_more meaning g.M.Machine.is_state by_place marks
          (marks_with_state c.advance.new.self state) (c.next-place.result + 1) marking
          c.in_ok-advance.ensures.places c.in_ok-advance.ensures.states
          c.in_ok-advance.ensures.open means c.in_ok-stepped.ensures.made;
      settings = search rules;
      met = search rules;
    }
