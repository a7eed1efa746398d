-- The items that are left lead to what all items lead to, and a strict run ends as all items end it.
use Rattle.std.proofs.Common.{◌≡◌, ◌≤◌, ◌*◌, ◌^◌, drop, map, option_map, Some}
use Rattle.play_command.specs.Asked.{edit_view_of}
use Rattle.replay_scripts.specs.Views.{applied_item}
use Rattle.play_edits.specs.Edits.{ending_refusal}
use Rattle.play_edits.specs.Items.{game_after_items}
use Rattle.play_edits.proofs.NoteLemmas.{Leads, seen_by}
use Rattle.play_edits.proofs.items.apply_items.Given as goal

abbrev pub invariant-loop-item : goal.invariant-loop-item
invariant-loop-item l =
    let left = map applied_item (drop l.item-index l.items) in
    let all = map applied_item l.items in
    let first = l.initial.session in
    record {
      leads : Leads l.editing (option_map edit_view_of l.fn.report) first.machine.rules.cave.now
          first.every all left first.game l.session.game first.checkpoints l.session.checkpoints
          (record {
            view = seen_by l.initial.view_watch;
            report = seen_by l.initial.report_watch;
            played = l.initial.totals.played;
            lines = l.initial.totals.lines;
            refused = l.initial.refused.items;
          })
          (record {
            view = seen_by l.view_watch;
            report = seen_by l.report_watch;
            played = l.totals.played;
            lines = l.totals.lines;
            refused = l.refused.items;
          });
      strict : ending_refusal l.editing.strict left l.session.game
          ≡ ending_refusal l.editing.strict all first.game;
      game : game_after_items left l.session.game ≡ game_after_items all first.game;
      view : l.view_watch.view ≡ Some l.editing.view;
      view_guarded : l.view_watch.guarded ≡ l.editing.guarded;
      report : l.report_watch.view ≡ option_map edit_view_of l.fn.report;
      report_guarded : l.report_watch.guarded ≡ l.editing.guarded;
      cave : l.session.machine.rules.cave.now ≡ first.machine.rules.cave.now;
      every : l.session.every ≡ first.every;
      played_fits : l.totals.played ≤ l.item-index * 2 ^ 32;
      lines_fit : l.totals.lines ≤ l.item-index * 2 ^ 32;
    }
