use Rattle.std.proofs.Common.{◌≡◌, ◌+◌, None, length, refl, sym, subst, ap, ◌∙◌}
use Rattle.replay_edits.specs.Edit.{Game, change_of, log_after, log_of, own_line}
use Rattle.replay_edits.specs.Faults.{fault_of}
use Rattle.replay_edits.specs.Outcome.{log_by}
use Rattle.replay_edits.proofs.DraftLemmas.{alone_more, free_more, made_more}
use Rattle.replay_edits.proofs.OutcomeLemmas.{line_of-own}
use Rattle.replay_edits.proofs.draft.Draft.make_next.Goals as goal

pub make-requires-clause-line : goal.make-requires-clause-line
make-requires-clause-line c =
    let draft = c.args.self.now in
    line_of-own draft.stock (c.len.result + draft.made) draft.made c.index-self-self.result
    (ap (λ n. n + draft.made) c.len.ensures.len) c.requires.left c.index-self-self.is
    ∙ ap (λ e. own_line (change_of e)) c.index-self-self.is

pub returns : goal.returns
returns c =
    let old = c.args.self.now in
    let edits = old.stock.edits.now in
    let edit = c.index-self-self.result in
    let read = c.index-self-self.is in
    let draft = c.requires.draft in
    let before = log_by old.stock old.game.numbers in
    let after = log_by old.stock c.make.new.game.numbers in
    let came = ap (λ (g : Game). g.log) c.in_ok-make.ensures.game in
    let next : after ≡ log_after (change_of edit) before =
    came ∙ ap (λ e. log_after (change_of e) before) (sym read) in
    let free = free_more edits old.made edit before c.requires.left read draft.free in
    record {
      edits_are = refl;
      log_is = refl;
      made_is = refl;
      now = next ∙ ap (log_after (change_of edit)) draft.now
          ∙ made_more edits old.made edit (log_of old.stock.log.now.items) c.requires.left read;
      counted = c.lines_with-lines.ensures before (sym draft.counted)
          (subst (λ e. fault_of (change_of e) before ≡ None) read free.0)
          ∙ ap length (sym came);
      ordered = draft.ordered;
      within = draft.within;
      free = rw next free.1;
      alone = rw next (alone_more edits old.made edit before _ c.requires.left read draft.alone).1;
      numbers = c.in_ok-make.ensures.numbers;
    }
