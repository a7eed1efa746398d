use Rattle.std.proofs.Common.{rules, sym, ◌∙◌}
use Rattle.replay_checkpoints.proofs.OfferLemmas.{sound_kept, sound_passed}
use Rattle.replay_checkpoints.proofs.marks.Marks.advance.Goals as goal
use Rattle.replay_checkpoints.proofs.marks.Marks.advance.Goals.{then-is_far+in_ok-open+in_ok-reserve}
use Rattle.replay_checkpoints.proofs.marks.Marks.advance.Goals.{else-is_far}

pub invariant_of-self-2 : goal.invariant_of-self-2
invariant_of-self-2 g c =
    let marks = c.self.inside in
    elim c.if-is_far.branch [
      | then-is_far+in_ok-open+in_ok-reserve w ↦
          let same = w.in_ok-reserve.ensures.places in
          let places = rw same at w.push.ensures.places in
          let states = rw w.in_ok-reserve.ensures.states at w.push.ensures.states in
          let two = rw (same, ← w.push.ensures.room) at w.in_ok-reserve.ensures.room in
          let test = sym c.is_far.ensures ∙ w.if-is_far.true in
          rw w.self-inside-is
          (sound_kept marks.every marks.end marks.from marks.kept.places marks.kept.states
          marks.next _ marks.kept.room c.args.place _ _ _ c.self.invariant (search rules)
          (search rules) (search rules) test places states two)
      | else-is_far w ↦
          let test = sym c.is_far.ensures ∙ w.if-is_far.false in
          rw w.self-inside-is
          (sound_passed marks.every marks.end marks.from marks.kept.places _ marks.next
          marks.kept.room c.args.place c.self.invariant (search rules) (search rules) test)
    ]
