-- What is noted of items takes them back, and gives the old game.
use Rattle.std.proofs.Common.{◌≡◌, ℕ, Bool, true, false, List, [], ◌∷◌, ◌++◌, reverse, Ok, Err, sym}
use Rattle.std.proofs.Common.{ap, ◌∙◌, refl, map, Option, None, Some, subst}
use Rattle.std.specs.Prelude.{if◌then◌else◌, slice_get}
use Rattle.std.proofs.lemmas.List.{map-append, reverse-append}
use Rattle.cave_data.specs.CaveView.{CaveView}
use Rattle.replay_edits.specs.Edit.{Game, inverses_of, Change, IsGame, apply_all, log_after}
use Rattle.std.specs.Global.{Vec}
use Rattle.replay_scripts.specs.Script.{Applied}
use Rattle.replay_scripts.specs.ScriptText.{Back, backs_in, groups_in, number_after, spelled_item}
use Rattle.replay_scripts.specs.ScriptText.{spelled_items}
use Rattle.replay_scripts.specs.declared.script_text.BackEdit.{BackEdit}
use Rattle.play_edits.specs.Outcome.{IsItemOutcome, ItemOutcome}
use Rattle.play_edits.specs.Items.{game_after_item, game_after_items, refusal_list, refusals}
use Rattle.play_edits.specs.Undo.{back_by, back_of, backs_by, backs_of, undo_text}
use Rattle.replay_scripts.proofs.Spelled.{reads_back}
use Rattle.play_edits.specs.Refusal.{first_unmet, group_refusal, item_refusal}
use Rattle.play_edits.specs.declared.refusal.Refusal.{Refusal}
use Rattle.play_edits.specs.Edits.{ending_refusal}
use Rattle.play_edits.specs.Views.{IsUndo}
use Rattle.play_edits.proofs.GuardLemmas.{item_refusal-met, unrefused_item}
use Rattle.play_edits.proofs.EditLemmas.{IsGame-after}
use Rattle.play_edits.proofs.MetLemmas.{guards_met}
use Rattle.play_edits.proofs.SayableLemmas.{back_accepted, back_again, spellable-all}

-- ---- what is noted

-- the outcome of an item says what takes it back
pub back_of-outcome : (guarded : Bool) (cave : CaveView) (every : ℕ) (item : Applied)
    (game next : Game) (checkpoints : List ℕ) (outcome : ItemOutcome)
    → IsItemOutcome cave every item game checkpoints outcome → next ≡ game_after_item item game
    → back_by guarded outcome next.log ≡ back_of guarded item game
unfolding back_of
back_of-outcome guarded cave every item game next checkpoints (Ok done) is after =
    rw (is.accepted, is.inverse, after) refl
back_of-outcome guarded cave every item game next checkpoints (Err refusal) is after = rw is refl

-- what is asked for of two lists
pub asked-append : (asked : Bool) (first second : List (List Back))
    → (if asked then first else []) ++ (if asked then second else [])
    ≡ (if asked then first ++ second else [])
asked-append true first second = refl
asked-append false first second = refl

pub asked-none : (asked : Bool)
    → ◌≡◌ {A = List (List Back)} (if asked then [] else []) []
asked-none true = refl
asked-none false = refl

-- the kept lists, reversed, are the changes of the kept edits
pub groups_turned : (groups : List (Vec BackEdit))
    → groups_in (reverse groups) ≡ reverse (groups_in groups)
groups_turned [] = refl
groups_turned (backs ∷ groups) =
    ap groups_in (reverse-append (backs ∷ []) groups)
    ∙ map-append (λ backs. backs_in backs.items) (reverse groups) (backs ∷ [])
    ∙ ap (λ some. some ++ backs_in backs.items ∷ []) (groups_turned groups)
    ∙ sym (reverse-append (backs_in backs.items ∷ []) (groups_in groups))

-- ---- what it gives

-- if no refusal ends a strict run, the first item isn't refused, and none of the others ends it
free_first : (refusal : Option Refusal) (rest : List Refusal)
    → slice_get (refusal_list refusal ++ rest) 0 ≡ None
    → (refusal ≡ None) × (slice_get rest 0 ≡ None)
free_first None rest none = (refl, none)
free_first (Some refused) rest none = cc

-- the items of groups are accepted in the one game and give the other
abbrev pub Undoes : ℕ → List (List Back) → Game → Game → Type 0
Undoes number groups from to =
    (ending_refusal true (spelled_items number groups) from ≡ None)
    × (game_after_items (spelled_items number groups) from ≡ to)

pub undoes-append : (first second : List (List Back)) (number : ℕ) (from middle to : Game)
    → Undoes number first from middle → ((m : ℕ) → Undoes m second middle to)
    → Undoes number (first ++ second) from to
undoes-append [] second number from middle to (none, same) more =
    subst (λ game. Undoes number second game to) (sym same) (more number)
undoes-append (backs ∷ first) second number from middle to (none, same) more =
    let item = spelled_item number backs in
    let after = number_after number backs in
    let next = game_after_item item from in
    let both =
    free_first (item_refusal item from.log) (refusals (spelled_items after first) next) none in
    let others = undoes-append first second after next middle to (both.1, same) more in (
      ap (λ r. slice_get (refusal_list r
          ++ refusals (spelled_items after (first ++ second)) next) 0) both.0 ∙ others.0,
      others.1,
    )

changes_spelled : (number : ℕ) (backs : List Back)
    → (spelled_item number backs).changes ≡ map (λ (back : Back). back.change) backs
changes_spelled number [] = refl
changes_spelled number (back ∷ []) = refl
changes_spelled number (first ∷ second ∷ more) = refl

changes_back : (guarded : Bool) (changes : List Change) (log : List (List ℕ))
    → map (λ (back : Back). back.change) (backs_by guarded changes log) ≡ changes
changes_back false [] log = refl
changes_back true [] log = refl
changes_back false (change ∷ changes) log =
    ap (λ some. change ∷ some) (changes_back false changes log)
changes_back true (change ∷ changes) log =
    ap (λ some. change ∷ some) (changes_back true changes (log_after change log))

pub undoes-one : (guarded : Bool) (number : ℕ) (changes : List Change) (from to : Game)
    → group_refusal changes from.log ≡ None → apply_all changes from ≡ to
    → Undoes number (backs_by guarded changes from.log ∷ []) from to
unfolding game_after_item
undoes-one guarded number changes from to accepted gives =
    let backs = backs_by guarded changes from.log in
    let item = spelled_item number backs in
    let same : item.changes ≡ changes =
    changes_spelled number backs ∙ changes_back guarded changes from.log in
    let met : first_unmet item.changes item.guards from.log ≡ None =
    ap (λ some. first_unmet some item.guards from.log) same
    ∙ guards_met guarded number changes from.log in
    let free : item_refusal item from.log ≡ None =
    item_refusal-met item from.log None met
    (ap (λ some. group_refusal some from.log) same ∙ accepted) in
    rw free (refl, ap (λ some. apply_all some from) same ∙ gives)

undoes-item : (guarded : Bool) (item : Applied) (game : Game) → IsGame game
    → (refusal : Option Refusal) → item_refusal item game.log ≡ refusal → (number : ℕ)
    → Undoes number (reverse (back_of guarded item game)) (game_after_item item game) game
unfolding back_of game_after_item
undoes-item guarded item game good None accepted number =
    let met = (unrefused_item item game.log accepted).1 in
    rw accepted (undoes-one guarded number (inverses_of item.changes game)
    (apply_all item.changes game) game (back_accepted item game good met)
    (back_again item game good met))
undoes-item guarded item game good (Some fault) refused number = rw refused (refl, refl)

undoes-all : (guarded : Bool) (items : List Applied) (game : Game) → IsGame game → (number : ℕ)
    → Undoes number (reverse (backs_of guarded items game)) (game_after_items items game) game
undoes-all guarded [] game good number = (refl, refl)
undoes-all guarded (item ∷ items) game good number =
    let next = game_after_item item game in
    let here = back_of guarded item game in
    let rest = backs_of guarded items next in
    rw (reverse-append here rest)
    (undoes-append (reverse rest) (reverse here) number (game_after_items items next) next game
    (undoes-all guarded items next (IsGame-after item game good) number)
    (undoes-item guarded item game good _ refl))

pub undo-whole : (guarded : Bool) (items : List Applied) (game : Game) (text : List ℕ)
    → IsGame game → text ≡ undo_text guarded items game → IsUndo guarded items game text
undo-whole guarded items game text good written =
    let groups = reverse (backs_of guarded items game) in
    let undone = undoes-all guarded items game good 1 in
    record {
      written = written;
      backs = spelled_items 1 groups;
      spelled = rw written (reads_back guarded groups (spellable-all guarded items game good));
      accepted = undone.0;
      back = undone.1;
    }
