-- What is kept of items is what a script can say.
use Rattle.std.proofs.Common.{◌≡◌, ℕ, ◌-◌, ◌^◌, ◌<◌, ◌≤◌, Bool, true, false, List, [], ◌∷◌, IsTrue}
use Rattle.std.proofs.Common.{length, map, reverse, Option, None, Some, All, sym, ap, subst, ◌∙◌}
use Rattle.std.proofs.Common.{refl, arith, nat_lt}
use Rattle.std.specs.Prelude.{if◌then◌else◌, slice_get}
use Rattle.std.proofs.lemmas.Bool.Decides.{nat_tests}
use Rattle.std.proofs.lemmas.List.{length-reverse, reverse-append}
use Rattle.std.proofs.lemmas.List.Elements.{All-append, All-cons, All-get_or, All-nil}
use Rattle.std.proofs.lemmas.Option.{get_or_from_slice_get, slice_get_within}
use Rattle.base_lines.specs.Limits.{MAX_LOG_LINES}
use Rattle.replay_edits.specs.Edit.{Change, Game, IsGame, apply, apply_all, inverses_of, deletes}
use Rattle.replay_edits.specs.Edit.{inserts, inverse_of_each, replaces, reseeds}
use Rattle.base_lines.specs.Line.{is_line}
use Rattle.base_lines.proofs.GoodLines.{good_bytes}
use Rattle.replay_edits.specs.Faults.{fault_of_all, log_after_all, or_group_meter_full}
use Rattle.replay_edits.specs.declared.fault.EditFault.TheVariants.{MeterFull}
use Rattle.replay_edits.proofs.Inverses.{IsFree, IsFree-from_none, IsFree-inverses_of, IsGame-apply}
use Rattle.replay_edits.proofs.Inverses.{IsGame-apply_all, apply_all-inverses_of, group_free}
use Rattle.replay_edits.proofs.Inverses.{group_some, log-apply_all, none_from_IsFree}
use Rattle.replay_scripts.specs.Script.{Applied}
use Rattle.replay_scripts.specs.ScriptText.{Back, CanExpect, IsSpellable}
use Rattle.replay_scripts.proofs.Sayable.{spellable}
use Rattle.play_edits.specs.Items.{game_after_item}
use Rattle.play_edits.specs.Refusal.{group_refusal, item_refusal}
use Rattle.play_edits.specs.declared.refusal.Refusal.{Refusal}
use Rattle.play_edits.specs.Undo.{back_of, backs_by, backs_of, expected_at, with_guards}
use Rattle.play_edits.specs.Undo.{without_guard}
use Rattle.play_edits.proofs.GuardLemmas.{unrefused_item}
use Rattle.play_edits.proofs.EditLemmas.{IsGame-after}

line_can : (log : List (List ℕ)) (place : ℕ) (found : Option (List ℕ))
    → All (λ line. IsTrue (is_line line)) log → slice_get log place ≡ found → CanExpect true found
line_can log place None good is = tt
line_can log place (Some line) good is =
    let inside = slice_get_within log place line is in
    let same = get_or_from_slice_get log place line [] is in
    good_bytes line (subst (λ l. IsTrue (is_line l)) same
    (All-get_or (λ line. IsTrue (is_line line)) log place [] inside good))

can_expect : (change : Change) (log : List (List ℕ)) → All (λ line. IsTrue (is_line line)) log
    → CanExpect true (expected_at change log)
can_expect (inserts place line) log good = line_can log place (slice_get log place) good refl
can_expect (deletes place) log good = line_can log place (slice_get log place) good refl
can_expect (replaces place line) log good = line_can log place (slice_get log place) good refl
can_expect (reseeds seed) log good = tt

pub all_spellable : (guarded : Bool) (changes : List Change) (game : Game) → IsGame game
    → IsFree changes game.log → All (IsSpellable guarded) (backs_by guarded changes game.log)
all_spellable false [] game good free = All-nil (IsSpellable false)
all_spellable true [] game good free = All-nil (IsSpellable true)
all_spellable false (change ∷ changes) game good free =
    All-cons (IsSpellable false) (without_guard change) (map without_guard changes)
    (spellable false (without_guard change) game.log good.few free.0 tt)
    (all_spellable false changes (apply change game) (IsGame-apply change game good free.0) free.1)
all_spellable true (change ∷ changes) game good free =
    let next = apply change game in
    let back : Back = record { change = change; expected = expected_at change game.log } in
    All-cons (IsSpellable true) back (with_guards changes next.log)
    (spellable true back game.log good.few free.0 (can_expect change game.log good.lines))
    (all_spellable true changes next (IsGame-apply change game good free.0) free.1)

each_as_many : (changes : List Change) (game : Game)
    → length (inverse_of_each changes game) ≡ length changes
each_as_many [] game = refl
each_as_many (change ∷ changes) game =
    let rest = each_as_many changes (apply change game) in omega (arith, rest)

as_many : (changes : List Change) (game : Game)
    → length (inverses_of changes game) ≡ length changes
as_many changes game =
    length-reverse (inverse_of_each changes game) ∙ each_as_many changes game

pub unrefused_group : (changes : List Change) (log : List (List ℕ)) → 0 < length changes
    → fault_of_all changes log 0 ≡ None → length (log_after_all changes log) ≤ MAX_LOG_LINES
    → group_refusal changes log ≡ None
unfolding group_refusal
unrefused_group [] log some free few = absurd (omega arith)
unrefused_group (change ∷ changes) log some free few =
    let fits : nat_lt (2 ^ 64 - 1) (length (log_after_all (change ∷ changes) log)) ≡ false =
    grind (arith, nat_tests, few) in
    ap (λ fault. or_group_meter_full fault (log_after_all (change ∷ changes) log) (2 ^ 64 - 1)) free
    ∙ ap (λ b. if b then Some (record { cause = MeterFull; at = 0 }) else None) fits

-- an item that was accepted
module _ (item : Applied) (game : Game) (good : IsGame game)
    (accepted : group_refusal item.changes game.log ≡ None) where
  abbrev inverses : List Change
  inverses = inverses_of item.changes game

  abbrev after : Game
  after = apply_all item.changes game

  can : (fault_of_all item.changes game.log 0 ≡ None)
      × (length (log_after_all item.changes game.log) ≤ 2 ^ 64 - 1)
  unfolding group_refusal
  can = group_free item.changes game.log (2 ^ 64 - 1) accepted

  pub changes_free : IsFree item.changes game.log
  changes_free = IsFree-from_none item.changes game.log 0 can.0

  free_back : IsFree inverses after.log
  free_back = rw (log-apply_all item.changes game)
      (IsFree-inverses_of item.changes game good changes_free)

  good_after : IsGame after
  good_after = IsGame-apply_all item.changes game good changes_free

  pub inverses_spellable : (guarded : Bool)
      → All (IsSpellable guarded) (backs_by guarded inverses after.log)
  inverses_spellable guarded = all_spellable guarded inverses after good_after free_back

  pub back_again : apply_all inverses after ≡ game
  back_again = apply_all-inverses_of item.changes game changes_free

  some_changes : 0 < length item.changes
  unfolding group_refusal
  some_changes = group_some item.changes game.log (2 ^ 64 - 1) accepted

  few_again : length (log_after_all inverses after.log) ≤ MAX_LOG_LINES
  few_again = subst (λ log. length log ≤ MAX_LOG_LINES)
      (sym (ap (λ (g : Game). g.log) back_again) ∙ log-apply_all inverses after) good.few

  pub back_accepted : group_refusal inverses after.log ≡ None
  back_accepted =
      unrefused_group inverses after.log
      (subst (λ n. 0 < n) (sym (as_many item.changes game)) some_changes)
      (none_from_IsFree inverses after.log 0 free_back) few_again

spellable-item : (guarded : Bool) (item : Applied) (game : Game) → IsGame game
    → (refusal : Option Refusal) → item_refusal item game.log ≡ refusal
    → All (All (IsSpellable guarded)) (reverse (back_of guarded item game))
unfolding back_of game_after_item
spellable-item guarded item game good None accepted =
    rw accepted (All-cons (All (IsSpellable guarded))
    (backs_by guarded (inverses_of item.changes game) (apply_all item.changes game).log) []
    (inverses_spellable item game good (unrefused_item item game.log accepted).1 guarded)
    (All-nil (All (IsSpellable guarded))))
spellable-item guarded item game good (Some fault) refused =
    rw refused (All-nil (All (IsSpellable guarded)))

pub spellable-all : (guarded : Bool) (items : List Applied) (game : Game) → IsGame game
    → All (All (IsSpellable guarded)) (reverse (backs_of guarded items game))
spellable-all guarded [] game good = All-nil (All (IsSpellable guarded))
spellable-all guarded (item ∷ items) game good =
    let next = game_after_item item game in
    let here = back_of guarded item game in
    let rest = backs_of guarded items next in
    rw (reverse-append here rest)
    (All-append (All (IsSpellable guarded)) (reverse rest) (reverse here)
    (spellable-all guarded items next (IsGame-after item game good))
    (spellable-item guarded item game good _ refl))
