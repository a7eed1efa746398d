use Rattle.std.proofs.Common.{◌≡◌, None, Some, length, refl, sym, subst, ap, ◌∙◌}
use Rattle.replay_checkpoints.specs.Spacing.{IsSpaced}
use Rattle.replay_edits.specs.Edit.{changes_of, apply_all, inverses_of, Game}
use Rattle.replay_edits.specs.declared.fault.EditFault.TheVariants as cause
use Rattle.replay_scripts.specs.Views.{applied_item}
use Rattle.cave_replay.specs.Report.{IsReport}
use Rattle.play_machine.specs.Machine.{cave_rules}
use Rattle.play_edits.specs.Refusal.{group_refusal}
use Rattle.play_edits.proofs.GuardLemmas.{item_refusal-met, item_refusal-unmet}
use Rattle.play_edits.proofs.EditLemmas.{group_refusal-fresh, accepted_without, refused_by}
use Rattle.play_edits.proofs.EditLemmas.{game_after_item-accepted, game_after_item-refused}
use Rattle.play_edits.proofs.items.apply_item.Goals as goal

pub returns-in-Some : goal.returns-in-Some
returns-in-Some c =
    let item = applied_item c.args.item.now in
    let game = c.args.session.now.game in
    let refused =
    item_refusal-unmet item game.log c.in-Some.refusal
    (sym c.in_ok-refusal.ensures ∙ c.in-Some.is) in
    record {
      came = refused;
      holds = record {
        cave_is = refl;
        game_is = sym (game_after_item-refused item game _ refused);
      };
      every = refl;
      left = refl;
      back_free = tt;
    }

pub returns-in-Ok : goal.returns-in-Ok
returns-in-Ok c =
    let old = c.args.session.now in
    let changes = changes_of c.args.item.now.edits.items in
    let same = ap changes_of c.deref.ensures.value in
    let fresh =
    group_refusal-fresh _ changes old.game.log c.new-meter.result same c.new-meter.ensures in
    let none = sym fresh ∙ accepted_without _ _ _ c.in-Ok.is c.edit_group.ensures.faults in
    let accepted =
    item_refusal-met (applied_item c.args.item.now) old.game.log None
    (sym c.in_ok-refusal.ensures ∙ c.in_default.is) none in
    let made = c.in-Ok.ensures.game ∙ ap (λ said. apply_all said old.game) same
    ∙ sym (game_after_item-accepted (applied_item c.args.item.now) old.game accepted) in
    let cave_is = ap (λ m. m.rules.cave.now) c.in-Ok.ensures.kept.machine in
    let done = c.in-Ok.done in
    record {
      came = record {
        accepted = accepted;
        report =
            subst (λ said. IsReport (cave_rules old.machine.rules.cave.now) said old.game
            old.every old.checkpoints done.from done.met done.played) same c.in-Ok.ensures.report;
        lines = c.in-Ok.ensures.lines ∙ ap (λ (g : Game). length g.log) made;
        inverse = c.in-Ok.ensures.inverse ∙ ap (λ said. inverses_of said old.game) same;
      };
      holds = record {
        cave_is = cave_is;
        game_is = made;
      };
      every = c.in-Ok.ensures.kept.every;
      left = subst
          (λ e. IsSpaced e c.edit_group.new.self.checkpoints
          (length c.edit_group.new.self.game.log)) c.in-Ok.ensures.kept.every
          c.in-Ok.ensures.spaced;
      back_free = c.in-Ok.ensures.back_accepted;
    }

pub returns-in_default-cause : goal.returns-in_default-cause
returns-in_default-cause c =
    let game = c.args.session.now.game in
    let fresh =
    group_refusal-fresh _ (changes_of c.args.item.now.edits.items) game.log c.new-meter.result
    (ap changes_of c.deref.ensures.value) c.new-meter.ensures in
    let other : c.in-Err.fault.cause ≡ cause.Memory → ⊥ = c.in_default-cause.not-Memory in
    let some : group_refusal (changes_of c.args.item.now.edits.items) game.log
    ≡ Some c.in-Err.fault =
    sym fresh ∙ refused_by _ c.in-Err.fault _ c.in-Err.is other c.edit_group.ensures.faults in
    let stays = c.in-Err.ensures.refused in
    let refused =
    item_refusal-met (applied_item c.args.item.now) game.log (Some c.in-Err.fault)
    (sym c.in_ok-refusal.ensures ∙ c.in_default.is) some
    ∙ ap Some (sym c.edit_refusal.ensures) in
    record {
      came = refused;
      holds = record {
        cave_is = ap (λ s. s.machine.rules.cave.now) stays;
        game_is = ap (λ s. s.game) stays
            ∙ sym (game_after_item-refused (applied_item c.args.item.now) game _ refused);
      };
      every = ap (λ s. s.every) stays;
      left = ap (λ s. s.checkpoints) stays;
      back_free = tt;
    }
