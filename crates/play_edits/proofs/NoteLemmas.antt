-- What is noted of items, one after another.
use Rattle.std.proofs.Common.{◌≡◌, ℕ, ◌+◌, ◌<◌, ◌≤◌, Bool, true, false, List, [], ◌∷◌, ◌++◌, length}
use Rattle.std.proofs.Common.{map, get_or, drop, None, Option, Some, append_assoc, append-nil}
use Rattle.std.proofs.Common.{subst, sym, ap, ◌∙◌, refl, arith, reverse}
use Rattle.std.proofs.lemmas.List.{drop_all, drop_more}
use Rattle.std.proofs.lemmas.List.Sums.{sum_by-cons}
use Rattle.std.specs.List.{sum_by}
use Rattle.std.specs.Prelude.{slice_get}
use Rattle.cave_data.specs.CaveView.{CaveView}
use Rattle.cave_replay.specs.Session.{SessionView}
use Rattle.cave_world.specs.declared.state.State.{State}
use Rattle.play_command.specs.declared.views.EditView.{EditView}
use Rattle.play_command.specs.declared.line.Editing.{Editing}
use Rattle.play_edits.proofs.UndoLemmas.{asked-append, asked-none, back_of-outcome}
use Rattle.play_edits.proofs.EditLemmas.{item_refusal-outcome}
use Rattle.play_edits.specs.Accounts.{text_of_items}
use Rattle.play_edits.specs.Edits.{Applies, if_strict}
use Rattle.play_edits.specs.Items.{game_after_item, game_after_items, refusal_list, refusals}
use Rattle.play_edits.specs.Ends.{EndsOfLog, ends_after_items, ends_left, printed_text, shown_ends}
use Rattle.play_edits.specs.Outcome.{AreLeft, AreOutcomes, IsItemOutcome, ItemOutcome, lines_in}
use Rattle.play_edits.specs.Outcome.{played_in, refusal_in}
use Rattle.play_edits.specs.ItemWatch.{asks_backs, backs_after, guarded_before, if_asked}
use Rattle.play_edits.specs.ItemWatch.{state_before, text_after, text_at_end, text_at_start}
use Rattle.play_edits.specs.ItemWatch.{text_of_item, view_text}
use Rattle.play_edits.specs.Undo.{backs_of}
use Rattle.play_edits.specs.declared.item_watch.ItemWatch.{ItemWatch}
use Rattle.play_edits.specs.declared.refusal.Refusal.{Refusal}
use Rattle.play_machine.specs.Machine.{Piece}
use Rattle.play_machine.specs.declared.machine.CaveMachine.{CaveMachine}
use Rattle.replay_edits.specs.Edit.{Game}
use Rattle.replay_scripts.specs.Script.{Applied}
use Rattle.replay_scripts.specs.ScriptText.{Back, groups_in}
use Rattle.replay_scripts.specs.Views.{applied_item}
use Rattle.replay_scripts.specs.declared.script.Item.{Item}

-- the items from a place on: the one there, and those after it
pub applied_item-drop : (items : List Item) (place : ℕ) (item : Item) → place < length items
    → item ≡ get_or items place item
    → map applied_item (drop place items) ≡ applied_item item
    ∷ map applied_item (drop (place + 1) items)
applied_item-drop items place item inside is = rw (drop_more items place item inside, ← is) refl

-- what a view has written of items, what takes them back, and how the lines of the log end
pub record Seen : Type 0 where
  pub text : List ℕ
  pub backs : List (List Back)
  pub ends : EndsOfLog

abbrev pub seen_by : ItemWatch → Seen
seen_by watch = record {
  text = watch.text.items;
  backs = groups_in watch.backs.items;
  ends = shown_ends watch.ends;
}

abbrev seen : List ℕ → List (List Back) → EndsOfLog → Seen
seen text backs ends = record { text = text; backs = backs; ends = ends }

pub seen-same : (one other : Seen) → one.text ≡ other.text → one.backs ≡ other.backs
    → one.ends ≡ other.ends → one ≡ other
seen-same one other text backs ends =
    ap (λ t. seen t one.backs one.ends) text ∙ ap (λ t. seen other.text t one.ends) backs
    ∙ ap (λ t. seen other.text other.backs t) ends

module _ (view : Option EditView) (guarded : Bool) (cave : CaveView) where
  -- with what is seen of more items
  abbrev pub seen_with : List Applied → Game → List ItemOutcome → Seen → Seen
  seen_with items game outcomes before = record {
    text = before.text ++ text_of_items (text_of_item view cave) items game outcomes;
    backs = before.backs ++ if_asked view (backs_of guarded items game);
    ends = ends_after_items items game before.ends;
  }

  -- with what is seen of one, by its outcome
  abbrev pub seen_after : Applied → Game → ItemOutcome → Seen → Seen
  seen_after item game outcome before = record {
    text = before.text ++ text_of_item view cave item game outcome;
    backs = before.backs ++ backs_after view guarded outcome (game_after_item item game).log;
    ends = ends_left item (refusal_in outcome) before.ends;
  }

  pub seen-more : (every : ℕ) (item : Applied) (items : List Applied) (game : Game)
      (checkpoints : List ℕ) (outcome : ItemOutcome) (outcomes : List ItemOutcome) (before : Seen)
      → IsItemOutcome cave every item game checkpoints outcome
      → seen_with items (game_after_item item game) outcomes (seen_after item game outcome before)
      ≡ seen_with (item ∷ items) game (outcome ∷ outcomes) before
  seen-more every item items game checkpoints outcome outcomes before came =
      let next = game_after_item item game in
      let refusal = sym (item_refusal-outcome cave every item game checkpoints outcome came) in
      seen-same _ _ (append_assoc before.text _ _)
      (ap (λ some. (before.backs ++ if_asked view some)
      ++ if_asked view (backs_of guarded items next))
      (back_of-outcome guarded cave every item game next checkpoints outcome came refl)
      ∙ append_assoc before.backs _ _
      ∙ ap (λ some. before.backs ++ some) (asked-append (asks_backs view) _ _))
      (ap (λ r. ends_after_items items next (ends_left item r before.ends)) refusal)

  pub seen-none : (game : Game) (before : Seen) → before ≡ seen_with [] game [] before
  seen-none game before =
      seen-same _ _ (sym (append-nil before.text))
      (sym (ap (λ some. before.backs ++ some) (asked-none (asks_backs view))
      ∙ append-nil before.backs)) refl

-- what the view and the report have seen, the totals, and why items were refused
pub record Noted : Type 0 where
  pub view : Seen
  pub report : Seen
  pub played : ℕ
  pub lines : ℕ
  pub refused : List Refusal

abbrev noted : Seen → Seen → ℕ → ℕ → List Refusal → Noted
noted view report played lines refused = record {
  view = view;
  report = report;
  played = played;
  lines = lines;
  refused = refused;
}

pub noted-same : (one other : Noted) → one.view ≡ other.view → one.report ≡ other.report
    → one.played ≡ other.played → one.lines ≡ other.lines → one.refused ≡ other.refused
    → one ≡ other
noted-same one other view report played lines refused =
    ap (λ t. noted t one.report one.played one.lines one.refused) view
    ∙ ap (λ t. noted other.view t one.played one.lines one.refused) report
    ∙ ap (λ t. noted other.view other.report t one.lines one.refused) played
    ∙ ap (λ t. noted other.view other.report other.played t one.refused) lines
    ∙ ap (λ t. noted other.view other.report other.played other.lines t) refused

module _ (editing : Editing) (report : Option EditView) (cave : CaveView) where
  -- with what is noted of more items
  abbrev pub noted_with : List Applied → Game → List ItemOutcome → Noted → Noted
  noted_with items game outcomes notes = record {
    view = seen_with (Some editing.view) editing.guarded cave items game outcomes notes.view;
    report = seen_with report editing.guarded cave items game outcomes notes.report;
    played = notes.played + sum_by played_in outcomes;
    lines = notes.lines + sum_by lines_in outcomes;
    refused = notes.refused ++ refusals items game;
  }

  -- with what is noted of one, by its outcome
  abbrev pub noted_after : Applied → Game → ItemOutcome → Noted → Noted
  noted_after item game outcome notes = record {
    view = seen_after (Some editing.view) editing.guarded cave item game outcome notes.view;
    report = seen_after report editing.guarded cave item game outcome notes.report;
    played = notes.played + played_in outcome;
    lines = notes.lines + lines_in outcome;
    refused = notes.refused ++ refusal_list (refusal_in outcome);
  }

  noted-more : (every : ℕ) (item : Applied) (items : List Applied) (game : Game)
      (checkpoints : List ℕ) (outcome : ItemOutcome) (outcomes : List ItemOutcome) (notes : Noted)
      → IsItemOutcome cave every item game checkpoints outcome
      → noted_with items (game_after_item item game) outcomes (noted_after item game outcome notes)
      ≡ noted_with (item ∷ items) game (outcome ∷ outcomes) notes
  noted-more every item items game checkpoints outcome outcomes notes came =
      let next = game_after_item item game in
      let refusal = sym (item_refusal-outcome cave every item game checkpoints outcome came) in
      noted-same _ _
      (seen-more (Some editing.view) editing.guarded cave every item items game checkpoints outcome
      outcomes notes.view came)
      (seen-more report editing.guarded cave every item items game checkpoints outcome outcomes
      notes.report came)
      (omega (arith, sum_by-cons played_in outcome outcomes))
      (omega (arith, sum_by-cons lines_in outcome outcomes))
      (append_assoc notes.refused _ _
      ∙ ap (λ r. notes.refused ++ (refusal_list r ++ refusals items next)) refusal)

  -- What is left leads to what all items lead to: outcomes of the items that are left are the last
  -- of all outcomes, and the same is noted.
  abbrev pub Leads : ℕ → List Applied → List Applied → Game → Game → List ℕ → List ℕ → Noted
      → Noted → Type 0
  Leads every all left first now opened here begun notes =
      (rest : List ItemOutcome) → AreOutcomes cave every left now here rest
      → (whole : List ItemOutcome) × AreOutcomes cave every all first opened whole
      × (noted_with left now rest notes ≡ noted_with all first whole begun)

  -- one more item was applied
  pub Leads-more : (every : ℕ) (all : List Applied) (items : List Item) (place : ℕ) (item : Item)
      (outcome : ItemOutcome) (first : Game) (opened : List ℕ)
      (old new : SessionView CaveMachine Piece State) (begun notes after : Noted)
      → place < length items → item ≡ get_or items place item
      → old.machine.rules.cave.now ≡ cave → old.every ≡ every
      → Applies (applied_item item) old new outcome
      → after ≡ noted_after (applied_item item) old.game outcome notes
      → Leads every all (map applied_item (drop place items)) first old.game opened
      old.checkpoints begun notes
      → Leads every all (map applied_item (drop (place + 1) items)) first new.game opened
      new.checkpoints begun after
  Leads-more every all items place item outcome first opened old new begun notes after inside is
      cave_is every_is applies noted so_far rest others =
      let here = applied_item item in
      let left = map applied_item (drop (place + 1) items) in
      let game_is = applies.holds.game_is in
      let came : IsItemOutcome cave every here old.game old.checkpoints outcome =
      rw (← cave_is, ← every_is) applies.came in
      let remains : AreLeft every outcome old.checkpoints (game_after_item here old.game)
      new.checkpoints =
      rw (← every_is, ← game_is) applies.left in
      let so_here : Leads every all (here ∷ left) first old.game opened old.checkpoints begun
      notes =
      subst (λ some. Leads every all some first old.game opened old.checkpoints begun notes)
      (applied_item-drop items place item inside is) so_far in
      let (whole, are, same) =
      so_here (outcome ∷ rest) (came, (new.checkpoints, remains, rw (← game_is) others)) in
      let more : noted_with left new.game rest after
      ≡ noted_with (here ∷ left) old.game (outcome ∷ rest) notes =
      rw (noted, game_is)
      (noted-more every here left old.game old.checkpoints outcome rest notes came) in
      (whole, are, more ∙ same)

  -- no item is left
  pub Leads-end : (every : ℕ) (all : List Applied) (items : List Item) (place : ℕ)
      (first now : Game) (opened here : List ℕ) (begun notes : Noted) → length items ≤ place
      → Leads every all (map applied_item (drop place items)) first now opened here begun notes
      → (whole : List ItemOutcome) × AreOutcomes cave every all first opened whole
      × (notes ≡ noted_with all first whole begun)
  Leads-end every all items place first now opened here begun notes past so_far =
      let none : map applied_item (drop place items) ≡ [] = rw (drop_all place items past) refl in
      let whole : Leads every all [] first now opened here begun notes =
      subst (λ some. Leads every all some first now opened here begun notes) none so_far in
      let (outcomes, are, same) = whole [] tt in
      let here_is : notes ≡ noted_with [] now [] notes =
      noted-same _ _ (seen-none (Some editing.view) editing.guarded cave now notes.view)
      (seen-none report editing.guarded cave now notes.report) (omega arith) (omega arith)
      (sym (append-nil notes.refused)) in
      (outcomes, are, here_is ∙ same)

-- what a watch has seen after an item, by what it kept before it
pub sees-item : (view : Option EditView) (guarded : Bool) (cave there : CaveView) (item : Applied)
    (game next : Game) (outcome : ItemOutcome) (old kept new : ItemWatch)
    → old.view ≡ view → old.guarded ≡ guarded → kept.view ≡ old.view → kept.guarded ≡ old.guarded
    → there ≡ cave → next ≡ game_after_item item game → kept.text.items ≡ old.text.items
    → kept.state ≡ state_before old.view cave game
    → kept.group.items ≡ guarded_before old.view item game → kept.backs ≡ old.backs
    → kept.ends ≡ old.ends
    → new.text.items ≡ kept.text.items
    ++ text_after kept.view there item outcome kept.state kept.group.items next
    → groups_in new.backs.items ≡ groups_in kept.backs.items
    ++ backs_after kept.view kept.guarded outcome next.log
    → shown_ends new.ends ≡ ends_left item (refusal_in outcome) (shown_ends kept.ends)
    → seen_by new ≡ seen_after view guarded cave item game outcome (seen_by old)
sees-item view guarded cave there item game next outcome old kept new a b c d e f text state group
    backs ends grown more left =
    seen-same _ _
    (grown ∙ rw (text, state, group, c, a, e, f) refl)
    (more ∙ rw (backs, c, d, a, b, f) refl)
    (left ∙ ap (λ l. ends_left item (refusal_in outcome) (shown_ends l)) ends)

-- and what it prints after all items
pub prints : (view : Option EditView) (guarded : Bool) (cave : CaveView) (items : List Applied)
    (game : Game) (outcomes : List ItemOutcome) (ends : EndsOfLog) (watch : ItemWatch)
    (begun : Seen) (there : CaveView) (now : Game) (played lines : ℕ) (text : List ℕ)
    → watch.view ≡ view → there ≡ cave → now ≡ game_after_items items game
    → played ≡ sum_by played_in outcomes → lines ≡ sum_by lines_in outcomes
    → begun.text ≡ text_at_start view → begun.backs ≡ [] → begun.ends ≡ ends
    → seen_by watch ≡ seen_with view guarded cave items game outcomes begun
    → text ≡ printed_text watch.view (shown_ends watch.ends)
    (watch.text.items ++ text_at_end watch.view there now played lines
    (reverse (groups_in watch.backs.items)))
    → text ≡ printed_text view (ends_after_items items game ends)
    (view_text view guarded cave items game outcomes)
prints view guarded cave items game outcomes ends watch begun there now played lines text a b c d e f
    g h saw is =
    is ∙ rw (
      ap (λ (s : Seen). s.text) saw,
      ap (λ (s : Seen). s.backs) saw,
      ap (λ (s : Seen). s.ends) saw,
      a,
      b,
      c,
      d,
      e,
      f,
      g,
      h,
    ) (ap (printed_text view (ends_after_items items game ends)) (append_assoc (text_at_start view) _ _))

-- ---- strict runs

-- an item with which the run doesn't end
pub strict-more : (strict : Bool) (refusal : Option Refusal) (later : List Refusal)
    → if_strict strict refusal ≡ None
    → if_strict strict (slice_get (refusal_list refusal ++ later) 0)
    ≡ if_strict strict (slice_get later 0)
strict-more false refusal later goes = refl
strict-more true None later goes = refl
strict-more true (Some refused) later goes = cc

-- an item with which it ends
pub strict-here : (strict : Bool) (refusal : Option Refusal) (later : List Refusal)
    (found : Refusal) → if_strict strict refusal ≡ Some found
    → if_strict strict (slice_get (refusal_list refusal ++ later) 0) ≡ Some found
strict-here false refusal later found ends = cc
strict-here true None later found ends = cc
strict-here true (Some refused) later found ends = ends

pub strict-none : (strict : Bool) → if_strict strict None ≡ None
strict-none true = refl
strict-none false = refl
