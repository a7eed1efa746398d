use Rattle.std.proofs.Common.{◌≡◌, ◌++◌, None, Some, ap, arith, drop, map, option_map, refl}
use Rattle.std.proofs.Common.{sym, ◌+◌, ◌∙◌, ◌≤◌, length, []}
use Rattle.std.specs.List.{sum_by}
use Rattle.play_edits.proofs.NoteLemmas.{Leads-end, Leads-more, Noted, applied_item-drop}
use Rattle.play_edits.proofs.NoteLemmas.{noted-same, prints, sees-item, strict-more}
use Rattle.play_edits.proofs.ViewLemmas.{report-printed}
use Rattle.play_edits.specs.Edits.{ending_refusal, if_strict}
use Rattle.play_edits.specs.Ends.{shown_ends}
use Rattle.play_edits.specs.ItemWatch.{state_before, text_at_start}
use Rattle.play_edits.specs.Outcome.{lines_in, played_in}
use Rattle.std.proofs.lemmas.List.{drop_all}
use Rattle.play_command.specs.Asked.{edit_view_of}
use Rattle.play_edits.proofs.EditLemmas.{item_refusal-outcome}
use Rattle.play_edits.specs.Items.{game_after_item, game_after_items, refusals}
use Rattle.play_edits.specs.Refusal.{item_refusal}
use Rattle.replay_edits.specs.Edit.{Game}
use Rattle.replay_scripts.specs.Views.{applied_item}
use Rattle.play_edits.proofs.items.apply_items.Goals as goal

pub loop-item-init : goal.loop-item-init
loop-item-init c =
    record {
      leads = λ rest are. (rest, are, refl);
      strict = refl;
      game = refl;
      view = c.in_ok-view_watch.ensures.view;
      view_guarded = c.in_ok-view_watch.ensures.guarded;
      report = c.in_ok-report_watch.ensures.view ∙ c.edit_view_of.ensures;
      report_guarded = c.in_ok-report_watch.ensures.guarded;
      cave = refl;
      every = refl;
      played_fits = omega arith;
      lines_fit = omega arith;
    }

pub loop-item-preserved : goal.loop-item-preserved
loop-item-preserved c =
    let editing = c.args.editing in
    let report = option_map edit_view_of c.args.report in
    let first = c.args.session.now in
    let cave = first.machine.rules.cave.now in
    let items = c.args.items.now in
    let place = c.loop-item.item-index in
    let old = c.loop-item.session in
    let inv = c.loop-item.invariant in
    let applies = c.in_ok-outcome.ensures in
    let outcome = c.in_ok-outcome.outcome in
    let item = applied_item c.item-item.result in
    let left = map applied_item (drop (place + 1) items) in
    let next = game_after_item item old.game in
    let game_is = applies.holds.game_is in
    let cave_is = applies.holds.cave_is ∙ inv.cave in
    let drops = applied_item-drop items place c.item-item.result c.loop-item-test.true
    c.item-item.is in
    let viewed =
    sees-item (Some editing.view) editing.guarded cave _ item old.game _ outcome
    c.loop-item.view_watch c.before-in-loop-item.new.self c.after.new.self inv.view
    inv.view_guarded c.before-in-loop-item.ensures.view c.before-in-loop-item.ensures.guarded
    cave_is game_is c.before-in-loop-item.ensures.text
    (c.in_ok-before.ensures.state ∙ ap (λ k. state_before c.loop-item.view_watch.view k old.game) inv.cave)
    c.in_ok-before.ensures.group
    c.before-in-loop-item.ensures.backs c.before-in-loop-item.ensures.ends
    c.in_ok-after.ensures.text c.in_ok-after.ensures.backs c.in_ok-after.ensures.ends in
    let reported =
    sees-item report editing.guarded cave _ item old.game _ outcome c.loop-item.report_watch
    c.before-in-loop-item-2.new.self c.after-in-loop-item.new.self inv.report
    inv.report_guarded c.before-in-loop-item-2.ensures.view
    c.before-in-loop-item-2.ensures.guarded cave_is game_is c.before-in-loop-item-2.ensures.text
    (c.in_ok-before-2.ensures.state
    ∙ ap (λ k. state_before c.loop-item.report_watch.view k old.game) inv.cave)
    c.in_ok-before-2.ensures.group
    c.before-in-loop-item-2.ensures.backs c.before-in-loop-item-2.ensures.ends
    c.in_ok-after-2.ensures.text c.in_ok-after-2.ensures.backs c.in_ok-after-2.ensures.ends in
    let goes : if_strict editing.strict (item_refusal item old.game.log) ≡ None =
    ap (if_strict editing.strict)
    (item_refusal-outcome old.machine.rules.cave.now old.every item old.game old.checkpoints outcome
    applies.came)
    ∙ sym c.if_strict.ensures ∙ c.in_default.is in
    record {
      leads = Leads-more editing report cave first.every (map applied_item items) items place
          c.item-item.result outcome first.game first.checkpoints old c.apply_item.new.session _ _
          _ c.loop-item-test.true c.item-item.is inv.cave inv.every applies
          (noted-same _ _ viewed reported c.with-totals.ensures.played c.with-totals.ensures.lines
          c.in_ok-note_refusal.ensures)
          inv.leads;
      strict = ap (λ (g : Game). ending_refusal editing.strict left g) game_is
          ∙ sym (strict-more editing.strict (item_refusal item old.game.log)
          (refusals left next) goes)
          ∙ ap (λ some. ending_refusal editing.strict some old.game) (sym drops)
          ∙ inv.strict;
      game = ap (game_after_items left) game_is
          ∙ ap (λ some. game_after_items some old.game) (sym drops) ∙ inv.game;
      view = c.after.ensures.view ∙ c.before-in-loop-item.ensures.view ∙ inv.view;
      view_guarded = c.after.ensures.guarded ∙ c.before-in-loop-item.ensures.guarded
          ∙ inv.view_guarded;
      report = c.after-in-loop-item.ensures.view ∙ c.before-in-loop-item-2.ensures.view
          ∙ inv.report;
      report_guarded = c.after-in-loop-item.ensures.guarded
          ∙ c.before-in-loop-item-2.ensures.guarded ∙ inv.report_guarded;
      cave = cave_is;
      every = applies.every ∙ inv.every;
      played_fits = omega (arith, inv.played_fits, c.with-totals.ensures.played_rises);
      lines_fit = omega (arith, inv.lines_fit, c.with-totals.ensures.lines_rise);
    }

pub returns-clause-made : goal.returns-clause-made
returns-clause-made c =
    let first = c.args.session.now in
    let cave = first.machine.rules.cave.now in
    let editing = c.args.editing in
    let report = option_map edit_view_of c.args.report in
    let items = c.args.items.now in
    let all = map applied_item items in
    let last = c.loop-item in
    let inv = last.invariant in
    let past : length items ≤ last.item-index = omega (arith, c.loop-item-test.false) in
    let (whole, came, is) =
    Leads-end editing report cave first.every all items last.item-index first.game last.session.game
    first.checkpoints last.session.checkpoints _ _ past inv.leads in
    let none : map applied_item (drop last.item-index items) ≡ [] =
    rw (drop_all last.item-index items past) refl in
    let game_is : last.session.game ≡ game_after_items all first.game =
    ap (λ some. game_after_items some last.session.game) (sym none) ∙ inv.game in
    let plays : last.totals.played ≡ sum_by played_in whole =
    omega (arith, ap (λ (n : Noted). n.played) is) in
    let counts : last.totals.lines ≡ sum_by lines_in whole =
    omega (arith, ap (λ (n : Noted). n.lines) is) in
    record {
      outcomes = whole;
      came = came;
      text = prints (Some editing.view) editing.guarded cave all first.game whole
          (shown_ends c.args.ends) last.view_watch _ _ _ _ _ _ inv.view inv.cave game_is plays counts
          c.in_ok-view_watch.ensures.text c.in_ok-view_watch.ensures.backs
          (ap shown_ends c.in_ok-view_watch.ensures.ends) (ap (λ (n : Noted). n.view) is)
          c.in_ok-text.ensures;
      reported = prints report editing.guarded cave all first.game whole
          (shown_ends c.in_ok-no_ends.no_ends) last.report_watch _ _ _ _ _ _ inv.report inv.cave game_is plays
          counts (c.in_ok-report_watch.ensures.text ∙ ap text_at_start c.edit_view_of.ensures)
          c.in_ok-report_watch.ensures.backs (ap shown_ends c.in_ok-report_watch.ensures.ends)
          (ap (λ (n : Noted). n.report) is) c.in_ok-report.ensures
          ∙ report-printed c.args.report _ _;
      played = plays;
      refused = ap (λ (n : Noted). n.refused) is
          ∙ ap (λ some. some ++ refusals all first.game) c.new-refused.ensures.items;
      seed = c.seed.ensures ∙ ap (λ (g : Game). g.seed) game_is;
    }
