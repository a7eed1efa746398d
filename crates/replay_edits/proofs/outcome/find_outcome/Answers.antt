use Rattle.std.proofs.Common.{◌+◌, ◌-◌, ◌≤◌, ◌++◌, length, take, drop, reverse, subst, ap, ◌≡◌, ℕ}
use Rattle.std.proofs.Common.{List, ◌∙◌, arith}
use Rattle.std.proofs.lemmas.List.{append-nil}
use Rattle.replay_edits.specs.declared.outcome.EditOutcome.{EditOutcome}
use Rattle.replay_edits.specs.declared.stock.Stock.{Stock}
use Rattle.replay_edits.specs.Edit.{Change, game_of, log_of, changes_of}
use Rattle.replay_edits.specs.Outcome.{IsOutcome, lines_by}
use Rattle.replay_edits.proofs.Groups.{changes_of-drop_all, changes_of-reverse}
use Rattle.replay_edits.proofs.Inverses.{IsFree-from_none}
use Rattle.replay_edits.proofs.Makings.{IsMaking-start}
use Rattle.replay_edits.proofs.MarginLemmas.{leave_alone, margins_of_edits}
use Rattle.replay_edits.proofs.OutcomeLemmas.{line_of-own}
use Rattle.replay_edits.proofs.outcome.find_outcome.Goals as goal

-- an outcome, by the number of lines
outcome_at : (changes : List Change) (seed : ℕ) (log : List (List ℕ)) (head tail : ℕ)
    (outcome : EditOutcome) {lines count : ℕ} → count ≡ lines
    → IsOutcome changes seed log head (count - tail) outcome
    → IsOutcome changes seed log head (lines - tail) outcome
outcome_at changes seed log head tail outcome same made =
    subst (λ n. IsOutcome changes seed log head (n - tail) outcome) same made

pub overflow_sub-stock : goal.overflow_sub-stock
overflow_sub-stock c =
    let fits =
    margins_of_edits c.args.edits.now c.args.log.now.items c.args.margins c.requires.some
    c.requires.free c.requires.margins in
    omega arith

pub numbers-requires-clause-ordered : goal.numbers-requires-clause-ordered
numbers-requires-clause-ordered c =
    let fits =
    margins_of_edits c.args.edits.now c.args.log.now.items c.args.margins c.requires.some
    c.requires.free c.requires.margins in
    omega arith

pub make-requires-clause-ordered : goal.make-requires-clause-ordered
make-requires-clause-ordered c =
    let fits =
    margins_of_edits c.args.edits.now c.args.log.now.items c.args.margins c.requires.some
    c.requires.free c.requires.margins in
    omega arith

pub new_lines-requires-clause-ordered : goal.new_lines-requires-clause-ordered
new_lines-requires-clause-ordered c =
    let fits =
    margins_of_edits c.args.edits.now c.args.log.now.items c.args.margins c.requires.some
    c.requires.free c.requires.margins in
    omega arith

pub loop-index-init : goal.loop-index-init
loop-index-init c =
    let changes = changes_of c.args.edits.now in
    let log = log_of c.args.log.now.items in
    let free = IsFree-from_none changes log 0 c.requires.free in
    let begun = c.in_ok-numbers.ensures in
    record {
      making =
          rw (begun.log, c.in_ok-inverse.ensures.items)
          (IsMaking-start changes (game_of c.args.seed log) free);
      alone =
          rw (begun.log, c.requires.margins)
          (leave_alone changes log (record { head = length log; tail = length log }) free);
      numbers = begun.numbers;
    }

pub make-requires-clause-line : goal.make-requires-clause-line
make-requires-clause-line c =
    let stock : Stock = record {
      log = c.args.log;
      edits = c.args.edits;
      head = c.args.margins.head;
      rest = c.len.result - c.args.margins.tail;
    } in
    line_of-own stock (c.len-in-loop-index.result + c.loop-index.index) c.loop-index.index
    c.index-edits-index.result (ap (λ n. n + c.loop-index.index) c.len-in-loop-index.ensures.len)
    c.loop-index-test.true c.index-edits-index.is

pub returns : goal.returns
returns c =
    let stock : Stock = record {
      log = c.args.log;
      edits = c.args.edits;
      head = c.args.margins.head;
      rest = c.len.result - c.args.margins.tail;
    } in
    let log = log_of c.args.log.now.items in
    let past : length c.args.edits.now ≤ c.loop-index.index = omega arith in
    let none = changes_of-drop_all c.args.edits.now c.loop-index.index past in
    let making = c.loop-index.invariant.making in
    let numbers = c.deref.ensures.value ∙ c.in_ok-numbers-2.ensures in
    outcome_at (changes_of c.args.edits.now) c.args.seed log stock.head c.args.margins.tail _
    c.len.ensures.len
    (record {
      game =
          ap (λ l. game_of c.loop-index.game.seed (take stock.head log ++ (l
          ++ drop stock.rest log)))
          (c.in_ok-new_lines.ensures.lines ∙ ap (lines_by stock) numbers)
          ∙ rw none at making.ends;
      rising = c.in_ok-new_lines.ensures.rising;
      inverse =
          ap changes_of c.reverse.ensures.items ∙ changes_of-reverse c.loop-index.inverse.items
          ∙ ap reverse (rw (none, append-nil (changes_of c.loop-index.inverse.items))
          at making.taken);
    })
