use Rattle.std.proofs.Common.{◌≡◌, ◌+◌, ◌<◌, ◌++◌, ◌∷◌, [], length, drop, set, ap, ◌∙◌, arith}
use Rattle.std.proofs.lemmas.List.{drop-set-lt, length-drop, length-set, map_push}
use Rattle.replay_edits.specs.LineText.{LineText}
use Rattle.replay_edits.specs.Edit.{log_of}
use Rattle.replay_edits.proofs.NewLineLemmas.{IsTaking-more, IsTaking-end, taking_within, left_more}
use Rattle.replay_edits.proofs.new_line.take_lines.Goals as goal

pub take_line-requires : goal.take_line-requires
take_line-requires c =
    let lines = c.loop-line.lines in
    let index = c.loop-line.line-index in
    let line = c.replace-next.result in
    let more =
    left_more lines index line c.line-item.result (omega (arith, c.loop-line.auto.lines))
    c.replace-next.ensures.value in
    let taking = rw more at c.loop-line.invariant.taking in
    let len = c.loop-line.invariant.len in
    taking_within line (drop (index + 1) lines) taking.from c.args.rest
    (length c.loop-line.log.items)
    taking.rising (omega (arith, c.requires.within))

pub loop-line-preserved : goal.loop-line-preserved
loop-line-preserved c =
    let lines = c.loop-line.lines in
    let index = c.loop-line.line-index in
    let line = c.replace-next.result in
    let next = set lines index c.replace-next.new.dest in
    let below : index < length lines = omega (arith, c.loop-line.auto.lines) in
    let more =
    left_more lines index line c.line-item.result below c.replace-next.ensures.value in
    let taking = rw more at c.loop-line.invariant.taking in
    let left : drop (index + 1) next ≡ drop (index + 1) lines =
    drop-set-lt (index + 1) lines index c.replace-next.new.dest (omega arith) in
    let f : LineText → _ = λ x. x.items in
    let taken : log_of c.push.new.self.items ≡ log_of c.loop-line.taken.items
    ++ c.take_line.result.items ∷ [] =
    ap log_of c.in-Ok.ensures.items ∙ map_push f c.loop-line.taken.items c.take_line.result in
    let count = length-drop index lines in
    let count' = length-drop (index + 1) next in
    let same = length-set lines index c.replace-next.new.dest in
    let len = c.in-Ok.ensures.len in
    let capacity = c.in-Ok.ensures.capacity in
    record {
      taking =
          rw (left, taken)
          (IsTaking-more c.args.head c.args.rest (log_of c.args.log.now.items)
          (log_of c.loop-line.log.items)
          (log_of c.take_line.new.log.items) c.args.lines.now (drop (index + 1) lines) line
          c.take_line.result.items (log_of c.loop-line.taken.items) taking
          c.take_line.ensures.line c.take_line.ensures.log);
      len = c.take_line.ensures.len ∙ c.loop-line.invariant.len;
      stretch = c.take_line.ensures.stretch ∙ c.loop-line.invariant.stretch;
      room = omega (arith, c.loop-line.invariant.room);
    }

pub returns-clause-after : goal.returns-clause-after
returns-clause-after c = IsTaking-end c.loop-line.invariant.taking
