use Rattle.std.proofs.Common.{◌≡◌, ◌+◌, ◌-◌, ◌<◌, ◌≤◌, length, ◌∙◌, sym, arith}
use Rattle.replay_edits.specs.Edit.{log_of}
use Rattle.replay_edits.proofs.Lines.{length-log_of, line_at-log_of}
use Rattle.replay_edits.proofs.NewLineLemmas.{length-log_with, line_before, line_after}
use Rattle.replay_edits.proofs.NewLineLemmas.{line_between, old_within}
use Rattle.cave_replay.proofs.ready_edits.ReadyEdits.line.Goals as goal

pub rest_after-rest-requires-clause-fits : goal.rest_after-rest-requires-clause-fits
rest_after-rest-requires-clause-fits c =
    let ready = c.args.self.now in
    let n = length-log_of c.args.log.now.items in
    let ordered = c.requires.ordered in
    let lines =
    length-log_with (log_of c.args.log.now.items) ready.head ready.rest ready.middle.items
    (omega (arith, c.requires.within)) in
    omega (arith, c.requires.lines, c.requires.within)

pub returns-then-place-self : goal.returns-then-place-self
returns-then-place-self c =
    let ready = c.args.self.now in
    let log = log_of c.args.log.now.items in
    let n = length-log_of c.args.log.now.items in
    let ordered = c.requires.ordered in
    let before = c.if-place-self.true in
    let within : ready.head ≤ length log = omega (arith, c.requires.within) in
    let below : c.args.place < length c.args.log.now.items = omega arith in
    c.deref.ensures
    ∙ sym (line_at-log_of c.args.log.now.items c.args.place c.at.result.now below c.at.ensures)
    ∙ sym (line_before log ready.head ready.rest c.args.place ready.middle.items within before)

pub returns-then-place-rest : goal.returns-then-place-rest
returns-then-place-rest c =
    let ready = c.args.self.now in
    let log = log_of c.args.log.now.items in
    let n = length-log_of c.args.log.now.items in
    let ordered = c.requires.ordered in
    let within : ready.head ≤ length log = omega (arith, c.requires.within) in
    let lines = length-log_with log ready.head ready.rest ready.middle.items within in
    let start = c.rest_after-rest.result in
    let behind = c.if-place-rest.true in
    let start_is : start ≡ ready.head + length ready.middle.items =
    omega (arith, c.rest_after-rest.ensures.rest, c.requires.lines, c.requires.within) in
    let item = c.at-then-place-rest in
    let below : c.args.place - start + ready.rest < length c.args.log.now.items =
    omega (arith, c.rest_after-rest.ensures.rest, c.requires.place, c.requires.within) in
    c.deref-then-place-rest.ensures
    ∙ sym (line_at-log_of c.args.log.now.items (c.args.place - start + ready.rest) item.result.now
    below item.ensures)
    ∙ sym (line_after log ready.head ready.rest start c.args.place ready.middle.items within
    start_is behind)

pub text-requires : goal.text-requires
text-requires c =
    let ready = c.args.self.now in
    let log = log_of c.args.log.now.items in
    let n = length-log_of c.args.log.now.items in
    let ordered = c.requires.ordered in
    let within : ready.head ≤ length log = omega (arith, c.requires.within) in
    let lines = length-log_with log ready.head ready.rest ready.middle.items within in
    let before : c.args.place - ready.head < length ready.middle.items =
    omega (
      arith,
      c.if-place-self.false,
      c.if-place-rest.false,
      c.rest_after-rest.ensures.rest,
      c.requires.lines,
      c.requires.within,
    ) in
    old_within ready.head ready.rest (length c.args.log.now.items) (c.args.place - ready.head)
    ready.middle.items c.index.result.now c.requires.moves.rising c.requires.within before
    c.index.ensures

pub returns : goal.returns
returns c =
    let ready = c.args.self.now in
    let log = log_of c.args.log.now.items in
    let n = length-log_of c.args.log.now.items in
    let ordered = c.requires.ordered in
    let within : ready.head ≤ length log = omega (arith, c.requires.within) in
    let lines = length-log_with log ready.head ready.rest ready.middle.items within in
    let before : c.args.place - ready.head < length ready.middle.items =
    omega (
      arith,
      c.if-place-self.false,
      c.if-place-rest.false,
      c.rest_after-rest.ensures.rest,
      c.requires.lines,
      c.requires.within,
    ) in
    c.text.ensures
    ∙ sym (line_between log ready.head ready.rest c.args.place ready.middle.items
    c.index.result.now within c.if-place-self.false before c.index.ensures)

pub overflow_add-place : goal.overflow_add-place
overflow_add-place c =
    omega (
      arith,
      c.rest_after-rest.ensures.rest,
      c.rest_after-rest.ensures.few,
      c.requires.place,
      c.requires.within,
    )
