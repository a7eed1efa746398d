-- What the script of two logs makes of the first.
use Rattle.std.proofs.Common.{◌≡◌, ◌∙◌, ℕ, ◌≤◌, Bool, List, [], ◌∷◌, ◌++◌, length, None, Some, Ok}
use Rattle.std.proofs.Common.{refl, sym, ap, ap₂, subst}
use Rattle.std.specs.Prelude.{All}
use Rattle.std.specs.List.{AllByRecursion}
use Rattle.std.proofs.lemmas.List.Elements.{All-weaker, recursion_from_All}
use Rattle.base_lines.specs.Limits.{MAX_LOG_LINES}
use Rattle.replay_difference.specs.Difference.{PlacesRise, place_changed}
use Rattle.replay_difference.specs.ScriptTo.{IsAccepted, LeadTo, MeetsGuard, changes_of_items}
use Rattle.replay_edits.specs.Edit.{Change, Game, IsGame, apply, apply_all, deletes, game_of}
use Rattle.replay_edits.specs.Edit.{inserts, replaces, reseeds, seed_after}
use Rattle.replay_edits.specs.Faults.{log_after_all}
use Rattle.replay_edits.proofs.Inverses.{IsFree-from_none, IsGame-apply_all, log-apply_all}
use Rattle.replay_scripts.specs.Guards.{IsScriptBy, script_by}
use Rattle.replay_scripts.specs.Script.{Applied}
use Rattle.cave_play.proofs.ScriptLemmas.{script_by-spelled}
use Rattle.play_laws.specs.RunLaws.{DifferencesMakeTheLog}
use Rattle.play_edits.specs.Items.{game_after_item, game_after_items}
use Rattle.play_edits.specs.Laws.{IsMet}
use Rattle.play_edits.specs.Refusal.{item_refusal}
use Rattle.play_edits.proofs.EditLemmas.{game_after_item-accepted, IsGame-after}
use Rattle.play_edits.proofs.GuardLemmas.{all_met, item_refusal-met}
use Rattle.play_edits.proofs.SayableLemmas.{unrefused_group}

met : (item : Applied) (log : List (List ℕ)) → All (MeetsGuard item.changes log) item.guards
    → AllByRecursion (IsMet item.changes log) item.guards
met item log meets =
    recursion_from_All (IsMet item.changes log) item.guards
    (All-weaker (MeetsGuard item.changes log) (IsMet item.changes log) (λ guard is free. is)
    item.guards meets)

accepted : (guarded : Bool) (item : Applied) (game : Game) → IsGame game
    → IsAccepted guarded item game.log → item_refusal item game.log ≡ None
accepted guarded item game good is =
    let free = IsFree-from_none item.changes game.log 0 is.free in
    let after = IsGame-apply_all item.changes game good free in
    let few : length (log_after_all item.changes game.log) ≤ MAX_LOG_LINES =
    subst (λ log. length log ≤ MAX_LOG_LINES) (log-apply_all item.changes game) after.few in
    item_refusal-met item game.log None
    (all_met item.changes game.log item.guards (met item game.log is.met))
    (unrefused_group item.changes game.log is.some is.free few)

in_turn : (xs ys : List Change) (game : Game)
    → apply_all (xs ++ ys) game ≡ apply_all ys (apply_all xs game)
in_turn [] ys game = refl
in_turn (x ∷ xs) ys game = in_turn xs ys (apply x game)

-- all items at once, one after another
at_once : (guarded : Bool) (items : List Applied) (game : Game) (new : List (List ℕ)) → IsGame game
    → LeadTo guarded items game.log new
    → (game_after_items items game ≡ apply_all (changes_of_items items) game)
    × ((game_after_items items game).log ≡ new)
at_once guarded [] game new good is = (refl, is)
at_once guarded (item ∷ items) game new good (is, rest) =
    let made : game_after_item item game ≡ apply_all item.changes game =
    game_after_item-accepted item game (accepted guarded item game good is) in
    let next : (game_after_item item game).log ≡ log_after_all item.changes game.log =
    ap (λ (g : Game). g.log) made ∙ log-apply_all item.changes game in
    let more = at_once guarded items (game_after_item item game) new (IsGame-after item game good)
    (subst (λ log. LeadTo guarded items log new) (sym next) rest) in (
      more.0 ∙ ap (apply_all (changes_of_items items)) made
          ∙ sym (in_turn item.changes (changes_of_items items) game),
      more.1,
    )

-- changes of lines keep the seed
keeps_seed : (changes : List Change) (game : Game) (from to : ℕ) → PlacesRise from changes to
    → (apply_all changes game).seed ≡ game.seed
keeps_seed [] game from to rise = refl
keeps_seed (change ∷ changes) game from to (place, there, after, rise) =
    keeps_seed changes (apply change game) place to rise ∙ by_change change there
  where
    by_change : (one : Change) → place_changed one ≡ Some place
        → seed_after one game.seed ≡ game.seed
    by_change (inserts at line) there = refl
    by_change (deletes at) there = refl
    by_change (replaces at line) there = refl
    by_change (reseeds seed) there = cc

-- what a script spells is what is read of it
read_once : (guarded : Bool) (script : List ℕ) (items other : List Applied)
    → script_by guarded script ≡ Ok other → IsScriptBy guarded script items → other ≡ items
read_once guarded script items other reads spelled =
    let only = script_by-spelled guarded script items spelled in cc

pub differences_make_the_log : DifferencesMakeTheLog
differences_make_the_log form script game new items good is spelled =
    let there = at_once form.guarded is.items game new good is.leads in
    let made : game_after_items is.items game ≡ game_of game.seed new =
    ap₂ game_of
    (ap (λ (g : Game). g.seed) there.0
    ∙ keeps_seed (changes_of_items is.items) game 0 (length new) is.rising)
    there.1 in
    subst (λ some. game_after_items some game ≡ game_of game.seed new)
    (read_once form.guarded script items is.items is.reads spelled) made
