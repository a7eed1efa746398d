use Rattle.std.proofs.Common.{◌≡◌, ℕ, List, ◌++◌, length, take, drop, sym, ap, ◌∙◌, arith}
use Rattle.std.proofs.lemmas.List.{length-map}
use Rattle.replay_edits.specs.LineText.{LineText}
use Rattle.replay_edits.specs.Edit.{game_of, log_of}
use Rattle.replay_edits.specs.Outcome.{new_texts, text_of}
use Rattle.cave_replay.proofs.Joins.{map-splice}
use Rattle.cave_replay.proofs.ready_edits.ReadyEdits.make.Goals as goal

pub replace-requires : goal.replace-requires
replace-requires c =
    let opened = c.requires.opened in
    let log = log_of c.args.log.now.items in
    let text : LineText → List ℕ = λ line. line.items in
    let taken = c.take_lines.new.taken.items in
    let lines = c.deref_mut.result.now in
    let count : length taken ≡ length lines = sym (length-map taken text)
    ∙ ap length c.take_lines.ensures.taken ∙ length-map lines (text_of log) in
    record {
      stretch = opened.stretch;
      stretch_is = c.take_lines.ensures.stretch ∙ opened.stretch_is;
      from_is = opened.from_is;
      to_is = opened.to_is;
      room = omega (arith, opened.room, c.deref_mut.ensures.len, c.take_lines.new.taken.ok.0);
    }

pub returns-clause-game : goal.returns-clause-game
returns-clause-game c =
    let ready = c.args.self in
    let now = c.take_lines.new.log.items in
    let taken = c.take_lines.new.taken.items in
    let old = log_of c.args.log.now.items in
    let text : LineText → List ℕ = λ line. line.items in
    let whole = ap log_of c.replace.ensures ∙ map-splice text now taken ready.head ready.rest in
    let texts = c.take_lines.ensures.taken ∙ ap (new_texts old) c.deref_mut.ensures.value in
    ap (game_of ready.seed) (whole
    ∙ ap (λ t. t ++ (log_of taken ++ drop ready.rest (log_of now))) c.take_lines.ensures.before
    ∙ ap (λ t. take ready.head old ++ (log_of taken ++ t)) c.take_lines.ensures.after
    ∙ ap (λ t. take ready.head old ++ (t ++ drop ready.rest old)) texts)
