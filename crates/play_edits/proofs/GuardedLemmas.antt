-- What is written of items with guards is their script, a script can say it, and it does what the
-- items do.
use Rattle.std.proofs.Common.{◌≡◌, ℕ, true, List, [], ◌∷◌, Option, None, Some, sym, refl, ◌-◌, ◌^◌}
use Rattle.std.proofs.Common.{Ok, Err, All, append-nil}
use Rattle.replay_edits.specs.Edit.{Game, IsGame, apply_all, Change}
use Rattle.replay_scripts.specs.Script.{Applied}
use Rattle.replay_scripts.specs.ScriptText.{spelled_items, IsSpellable, group_text, script_text}
use Rattle.replay_scripts.proofs.Spelled.{reads_back}
use Rattle.play_edits.specs.Undo.{guarded_groups, guarded_of, guarded_text, guarded_group}
use Rattle.play_edits.specs.Undo.{text_if_done, with_guards}
use Rattle.play_edits.specs.Items.{game_after_item, game_after_items}
use Rattle.play_edits.specs.Refusal.{item_refusal, group_refusal}
use Rattle.play_edits.specs.declared.refusal.Refusal.{Refusal}
use Rattle.play_edits.proofs.GuardLemmas.{unrefused_item}
use Rattle.play_edits.specs.Views.{IsGuarded}
use Rattle.play_edits.proofs.UndoLemmas.{Undoes, undoes-append, undoes-one}
use Rattle.std.proofs.lemmas.Grind.{flat_map-append}
use Rattle.std.proofs.lemmas.List.Elements.{All-append, All-cons, All-nil}
use Rattle.cave_data.specs.CaveView.{CaveView}
use Rattle.play_command.specs.declared.views.EditView.TheVariants as asked
use Rattle.replay_edits.specs.Faults.{fault_of_all}
use Rattle.replay_edits.proofs.Inverses.{group_free}
use Rattle.play_edits.specs.Accounts.{text_of_items}
use Rattle.play_edits.specs.ItemWatch.{text_of_item}
use Rattle.play_edits.specs.Outcome.{AreOutcomes, IsItemOutcome, ItemOutcome}
use Rattle.play_edits.proofs.EditLemmas.{IsGame-after}
use Rattle.play_edits.proofs.SayableLemmas.{all_spellable, changes_free}

-- ---- what is written

free_of : (changes : List Change) (log : List (List ℕ)) → group_refusal changes log ≡ None
    → fault_of_all changes log 0 ≡ None
unfolding group_refusal
free_of changes log accepted = (group_free changes log (2 ^ 64 - 1) accepted).0

-- an item that was accepted is written, and any other isn't
guarded_item-outcome : (cave : CaveView) (every : ℕ) (item : Applied) (game : Game)
    (checkpoints : List ℕ) (outcome : ItemOutcome)
    → IsItemOutcome cave every item game checkpoints outcome
    → text_if_done outcome (guarded_group item.changes game.log)
    ≡ script_text (guarded_of item game)
unfolding guarded_of
guarded_item-outcome cave every item game checkpoints (Ok done) is =
    let free = free_of item.changes game.log (unrefused_item item game.log is.accepted).1 in
    rw (is.accepted, free) (sym (append-nil (group_text (with_guards item.changes game.log))))
guarded_item-outcome cave every item game checkpoints (Err refusal) is = rw is refl

pub told-guarded : (cave : CaveView) (every : ℕ) (items : List Applied) (game : Game)
    (checkpoints : List ℕ) (outcomes : List ItemOutcome)
    → AreOutcomes cave every items game checkpoints outcomes
    → text_of_items (text_of_item (Some asked.Guarded) cave) items game outcomes
    ≡ guarded_text items game
told-guarded cave every [] game checkpoints outcomes came = refl
told-guarded cave every (item ∷ items) game checkpoints [] came = absurd came
told-guarded cave every (item ∷ items) game checkpoints (outcome ∷ outcomes)
    (is, (after, left, others)) =
    let next = game_after_item item game in
    rw (
      guarded_item-outcome cave every item game checkpoints outcome is,
      told-guarded cave every items next after outcomes others,
    )
    (sym (flat_map-append group_text (guarded_of item game) (guarded_groups items next)))

-- ---- what a script can say

spellable-guarded : (item : Applied) (game : Game) → IsGame game
    → (refusal : Option Refusal) → item_refusal item game.log ≡ refusal
    → All (All (IsSpellable true)) (guarded_of item game)
unfolding guarded_of
spellable-guarded item game good None accepted =
    let met = (unrefused_item item game.log accepted).1 in
    rw accepted (All-cons (All (IsSpellable true)) (with_guards item.changes game.log) []
    (all_spellable true item.changes game good (changes_free item game good met))
    (All-nil (All (IsSpellable true))))
spellable-guarded item game good (Some fault) refused =
    rw refused (All-nil (All (IsSpellable true)))

pub spellable-guarded_all : (items : List Applied) (game : Game) → IsGame game
    → All (All (IsSpellable true)) (guarded_groups items game)
spellable-guarded_all [] game good = All-nil (All (IsSpellable true))
spellable-guarded_all (item ∷ items) game good =
    let next = game_after_item item game in
    All-append (All (IsSpellable true)) (guarded_of item game) (guarded_groups items next)
    (spellable-guarded item game good _ refl)
    (spellable-guarded_all items next (IsGame-after item game good))

-- ---- what it does

-- an item with guards gives what the item gives
gives-item : (item : Applied) (game : Game) (refusal : Option Refusal)
    → item_refusal item game.log ≡ refusal → (number : ℕ)
    → Undoes number (guarded_of item game) game (game_after_item item game)
unfolding guarded_of game_after_item
gives-item item game None accepted number =
    rw accepted (undoes-one true number item.changes game (apply_all item.changes game)
    (unrefused_item item game.log accepted).1 refl)
gives-item item game (Some fault) refused number = rw refused (refl, refl)

gives-all : (items : List Applied) (game : Game) (number : ℕ)
    → Undoes number (guarded_groups items game) game (game_after_items items game)
gives-all [] game number = (refl, refl)
gives-all (item ∷ items) game number =
    let next = game_after_item item game in
    undoes-append (guarded_of item game) (guarded_groups items next) number game next
    (game_after_items items next) (gives-item item game _ refl number)
    (λ later. gives-all items next later)

pub guarded-whole : (items : List Applied) (game : Game) (text : List ℕ) → IsGame game
    → text ≡ guarded_text items game → IsGuarded items game text
guarded-whole items game text good written =
    let groups = guarded_groups items game in
    let given = gives-all items game 1 in
    record {
      written = written;
      again = spelled_items 1 groups;
      spelled = rw written (reads_back true groups (spellable-guarded_all items game good));
      accepted = given.0;
      same = given.1;
    }
