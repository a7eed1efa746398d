-- What one item does, by its outcome, and that a session can hold the game that items leave.
use Rattle.std.proofs.Common.{◌≡◌, ℕ, ◌-◌, ◌^◌, None, Some, Ok, Err, MatchOption, List, ap, refl}
use Rattle.std.proofs.Common.{[], ◌∷◌, Option}
use Rattle.std.specs.Prelude.{Result, IfErr}
use Rattle.std.specs.declared.option.Option.{Option}
use Rattle.std.proofs.lemmas.Result.{IfErr-at_err}
use Rattle.cave_data.specs.CaveView.{CaveView}
use Rattle.play_edits.specs.Items.{game_after_item, game_left, game_after_items}
use Rattle.play_edits.specs.Outcome.{IsItemOutcome, ItemOutcome, refusal_in}
use Rattle.play_edits.specs.Refusal.{group_refusal, item_refusal}
use Rattle.play_edits.specs.declared.refusal.Refusal.{Refusal}
use Rattle.replay_edits.specs.Edit.{Change, Game, apply_all, IsGame}
use Rattle.replay_edits.specs.Faults.{group_fault}
use Rattle.replay_edits.specs.declared.fault.EditFault.TheVariants as cause
use Rattle.replay_edits.specs.declared.fault.GroupFault.{GroupFault}
use Rattle.replay_scripts.specs.Script.{Applied}
use Rattle.replay_edits.proofs.Inverses.{IsFree-from_none, IsGame-apply_all, group_free}
use Rattle.play_edits.proofs.GuardLemmas.{unrefused_item}

-- why a group is refused while the meter has counted no step
pub group_refusal-fresh : (changes same : List Change) (log : List (List ℕ)) (used : ℕ)
    → changes ≡ same → used ≡ 0
    → group_fault changes log (2 ^ 64 - 1 - used) ≡ group_refusal same log
unfolding group_refusal
group_refusal-fresh changes same log used is none = rw (is, none) refl

-- a group that was accepted has no fault
pub accepted_without : {R : Type 0} (decided : Option GroupFault) (report : R)
    (r : Result R GroupFault) → r ≡ Ok report
    → MatchOption decided (IfErr r (λ f. f ≡ record { cause = cause.Memory; at = 0 }))
    (λ f. r ≡ Err f) → decided ≡ None
accepted_without None report r is h = refl
accepted_without (Some fault) report r is h = cc

-- a group that was refused, and not because memory ran out, was refused for its fault
pub refused_by : {R : Type 0} (decided : Option GroupFault) (fault : GroupFault)
    (r : Result R GroupFault) → r ≡ Err fault → (fault.cause ≡ cause.Memory → ⊥)
    → MatchOption decided (IfErr r (λ f. f ≡ record { cause = cause.Memory; at = 0 }))
    (λ f. r ≡ Err f) → decided ≡ Some fault
refused_by None fault r is other h =
    absurd (other
    (ap (λ (f : GroupFault). f.cause)
    (IfErr-at_err (λ f. f ≡ record { cause = cause.Memory; at = 0 }) is h)))
refused_by (Some first) fault r is other h = cc

pub game_after_item-accepted : (item : Applied) (game : Game)
    → item_refusal item game.log ≡ None
    → game_after_item item game ≡ apply_all item.changes game
unfolding game_after_item
game_after_item-accepted item game none = ap (λ refusal. game_left item refusal game) none

pub game_after_item-refused : (item : Applied) (game : Game) (refused : Refusal)
    → item_refusal item game.log ≡ Some refused → game_after_item item game ≡ game
unfolding game_after_item
game_after_item-refused item game refused some = ap (λ refusal. game_left item refusal game) some

-- the outcome of an item says whether it was refused
pub item_refusal-outcome : (cave : CaveView) (every : ℕ) (item : Applied) (game : Game)
    (checkpoints : List ℕ) (outcome : ItemOutcome)
    → IsItemOutcome cave every item game checkpoints outcome
    → item_refusal item game.log ≡ refusal_in outcome
item_refusal-outcome cave every item game checkpoints (Ok done) is = is.accepted
item_refusal-outcome cave every item game checkpoints (Err refusal) is = is

-- ---- the game that items leave

IsGame-by : (item : Applied) (game : Game) (refusal : Option Refusal)
    → item_refusal item game.log ≡ refusal → IsGame game
    → IsGame (game_left item refusal game)
unfolding group_refusal
IsGame-by item game (Some refused) is good = good
IsGame-by item game None is good =
    let accepted = (unrefused_item item game.log is).1 in
    let free = (group_free item.changes game.log (2 ^ 64 - 1) accepted).0 in
    IsGame-apply_all item.changes game good (IsFree-from_none item.changes game.log 0 free)

pub IsGame-after : (item : Applied) (game : Game) → IsGame game → IsGame (game_after_item item game)
unfolding game_after_item
IsGame-after item game good = IsGame-by item game _ refl good

pub IsGame-after_all : (items : List Applied) (game : Game) → IsGame game
    → IsGame (game_after_items items game)
IsGame-after_all [] game good = good
IsGame-after_all (item ∷ items) game good =
    IsGame-after_all items (game_after_item item game) (IsGame-after item game good)
