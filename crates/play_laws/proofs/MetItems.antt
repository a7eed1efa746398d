-- Items whose guards are met do what they do without guards.
use Rattle.std.proofs.Common.{◌≡◌, ◌∙◌, ℕ, ◌+◌, ◌-◌, Bool, List, [], ◌∷◌, ◌++◌, length, reverse, Option}
use Rattle.std.proofs.Common.{Some, None, Ok, Err, option_map, refl, sym, ap, ap₂, subst}
use Rattle.std.specs.List.{AllByRecursion, sum_by}
use Rattle.std.specs.Option.{option_or}
use Rattle.cave_data.specs.CaveView.{CaveView}
use Rattle.play_edits.specs.Ends.{ends_after_items, ends_left, EndsOfLog, each_after, ends_after}
use Rattle.play_edits.specs.Ends.{end_at, ends_after_changes, ends_with}
use Rattle.play_laws.specs.GuardLaws.{AreMet}
use Rattle.play_edits.specs.Items.{refusal_list, refusals, game_after_item, game_after_items}
use Rattle.play_edits.specs.Items.{item_report, item_report_by, reports}
use Rattle.play_edits.proofs.GuardLemmas.{all_met, guards_refuse_alone}
use Rattle.play_edits.specs.Accounts.{account, account_by, accounts, text_of_items, totals_line}
use Rattle.play_edits.specs.Accounts.{last_state, row_by, table_row, table_text}
use Rattle.play_edits.specs.Undo.{guarded_groups, guarded_of, guarded_text, back_if, back_of}
use Rattle.play_edits.specs.Undo.{backs_by, backs_of, undo_text, with_guards}
use Rattle.play_edits.specs.Laws.{IsMet}
use Rattle.play_edits.specs.Outcome.{AreLeft, AreOutcomes, IsItemOutcome, ItemOutcome, lines_in}
use Rattle.play_edits.specs.Outcome.{played_in, standing_of}
use Rattle.play_edits.specs.Refusal.{edit_refusal, first_unmet, group_refusal, item_refusal}
use Rattle.play_edits.specs.declared.ends.LineEnd.{LineEnd}
use Rattle.play_edits.specs.declared.outcome.Standing.{Standing}
use Rattle.play_edits.specs.declared.refusal.Refusal.{Refusal}
use Rattle.play_tables.specs.ItemRow.{item_head_row}
use Rattle.cave_world.specs.declared.state.State.{State}
use Rattle.replay_edits.specs.Edit.{Change, Game, inverses_of}
use Rattle.replay_edits.specs.declared.fault.GroupFault.{GroupFault}
use Rattle.replay_scripts.specs.Guards.{unguarded_items}
use Rattle.replay_scripts.specs.Script.{Applied, guarded_by, line_of_refusal}
use Rattle.replay_scripts.specs.ScriptText.{script_text}

abbrev bare : Applied → Applied
bare item = guarded_by [] item

-- ---- one item

abbrev IsMetIn : Applied → Game → Type 0
IsMetIn item game = AllByRecursion (IsMet item.changes game.log) item.guards

refused_alike : (item : Applied) (log : List (List ℕ))
    → first_unmet item.changes item.guards log ≡ None
    → item_refusal item log ≡ item_refusal (bare item) log
unfolding item_refusal
refused_alike item log met = by_fault (group_refusal item.changes log)
  where
    by_fault : (found : Option GroupFault)
        → option_or (first_unmet item.changes item.guards log)
        (option_map (edit_refusal item) found)
        ≡ option_or (first_unmet item.changes [] log)
        (option_map (edit_refusal (bare item)) found)
    by_fault None = rw met refl
    by_fault (Some fault) = rw met refl

refusal_same : (item : Applied) (game : Game) → IsMetIn item game
    → item_refusal item game.log ≡ item_refusal (bare item) game.log
refusal_same item game met =
    refused_alike item game.log (all_met item.changes game.log item.guards met)

game_same : (item : Applied) (game : Game) → IsMetIn item game
    → game_after_item item game ≡ game_after_item (bare item) game
game_same item game met = (guards_refuse_alone item game).0 met

report_bare : (item : Applied) (refusal : Option Refusal)
    → item_report_by item refusal ≡ item_report_by (bare item) refusal
report_bare item None = refl
report_bare item (Some refusal) = refl

report_same : (item : Applied) (game : Game) → IsMetIn item game
    → item_report item game ≡ item_report (bare item) game
unfolding item_report
report_same item game met =
    ap (item_report_by item) (refusal_same item game met)
    ∙ report_bare item (item_refusal (bare item) game.log)

back_same : (guarded : Bool) (item : Applied) (game : Game) → IsMetIn item game
    → back_of guarded item game ≡ back_of guarded (bare item) game
unfolding back_of
back_same guarded item game met =
    ap₂ (λ refusal (next : Game). back_if refusal (backs_by guarded (inverses_of item.changes game)
    next.log)) (refusal_same item game met) (game_same item game met)

guarded_same : (item : Applied) (game : Game) → IsMetIn item game
    → guarded_of item game ≡ guarded_of (bare item) game
unfolding guarded_of
guarded_same item game met =
    ap (λ refusal. back_if refusal (with_guards item.changes game.log)) (refusal_same item game met)

account_bare : (item : Applied) (outcome : ItemOutcome) (standing : Standing)
    → account_by item outcome standing ≡ account_by (bare item) outcome standing
account_bare item (Ok done) standing = refl
account_bare item (Err refusal) standing = refl

account_same : (cave : CaveView) (item : Applied) (game : Game) (outcome : ItemOutcome)
    → IsMetIn item game → account cave item game outcome ≡ account cave (bare item) game outcome
account_same cave item game outcome met =
    ap (λ next. account_by item outcome (standing_of cave next)) (game_same item game met)
    ∙ account_bare item outcome (standing_of cave (game_after_item (bare item) game))

row_bare : (item : Applied) (outcome : ItemOutcome) (before : State) (standing : Standing)
    (after : State)
    → row_by item outcome before standing after ≡ row_by (bare item) outcome before standing after
row_bare item (Ok done) before standing after = refl
row_bare item (Err refusal) before standing after = refl

row_same : (cave : CaveView) (item : Applied) (game : Game) (outcome : ItemOutcome)
    → IsMetIn item game
    → table_row cave item game outcome ≡ table_row cave (bare item) game outcome
row_same cave item game outcome met =
    let next = game_after_item (bare item) game in
    ap (λ g. row_by item outcome (last_state cave game) (standing_of cave g) (last_state cave g))
    (game_same item game met)
    ∙ row_bare item outcome (last_state cave game) (standing_of cave next) (last_state cave next)

changes_bare : (usual : LineEnd) (script : List LineEnd) (item : Applied) (at : ℕ)
    (changes : List Change) (ends : List LineEnd)
    → ends_after_changes usual script item at changes ends
    ≡ ends_after_changes usual script (bare item) at changes ends
changes_bare usual script item at [] ends = refl
changes_bare usual script item at (change ∷ changes) ends =
    changes_bare usual script item (at + 1) changes
    (ends_after change (end_at usual script (line_of_refusal item at - 1)) ends)

each_bare : (usual : LineEnd) (script : List LineEnd) (item : Applied) (ends : List LineEnd)
    → each_after usual script item ends ≡ each_after usual script (bare item) ends
each_bare usual script item [] = refl
each_bare usual script item (end ∷ ends) =
    changes_bare usual script item 0 item.changes (end ∷ ends)

left_bare : (item : Applied) (refusal : Option Refusal) (ends : EndsOfLog)
    → ends_left item refusal ends ≡ ends_left (bare item) refusal ends
left_bare item None ends =
    ap (λ each. ends_with ends.usual each ends.unended ends.script)
    (each_bare ends.usual ends.script item ends.each)
left_bare item (Some refusal) ends = refl

left_same : (item : Applied) (game : Game) (ends : EndsOfLog) → IsMetIn item game
    → ends_left item (item_refusal item game.log) ends
    ≡ ends_left (bare item) (item_refusal (bare item) game.log) ends
left_same item game ends met =
    ap (λ refusal. ends_left item refusal ends) (refusal_same item game met)
    ∙ left_bare item (item_refusal (bare item) game.log) ends

-- ---- items, one after another

-- two lists of items give the same, whatever is asked for
pub record GiveTheSame (cave : CaveView) (game : Game) (one other : List Applied) : Type 0 where
  pub games : game_after_items one game ≡ game_after_items other game
  pub reported : reports one game ≡ reports other game
  pub undone : (guarded : Bool) → undo_text guarded one game ≡ undo_text guarded other game
  pub guarded : guarded_text one game ≡ guarded_text other game
  pub accounted : (outcomes : List ItemOutcome)
      → accounts cave one game outcomes ≡ accounts cave other game outcomes
  pub listed : (outcomes : List ItemOutcome)
      → table_text cave one game outcomes ≡ table_text cave other game outcomes
  pub ended : (ends : EndsOfLog)
      → ends_after_items one game ends ≡ ends_after_items other game ends
  pub refused : refusals one game ≡ refusals other game

games_same : (items : List Applied) (game : Game) → AreMet items game
    → game_after_items items game ≡ game_after_items (unguarded_items items) game
games_same [] game met = refl
games_same (item ∷ items) game (here, later) =
    games_same items (game_after_item item game) later
    ∙ ap (game_after_items (unguarded_items items)) (game_same item game here)

-- a list that is made item by item
all_same : {A : Type 0} (tell : Applied → Game → List A) (whole : List Applied → Game → List A)
    → ((game : Game) → whole [] game ≡ [])
    → ((item : Applied) (items : List Applied) (game : Game)
    → whole (item ∷ items) game ≡ tell item game ++ whole items (game_after_item item game))
    → ((item : Applied) (game : Game) → IsMetIn item game → tell item game ≡ tell (bare item) game)
    → (items : List Applied) (game : Game) → AreMet items game
    → whole items game ≡ whole (unguarded_items items) game
all_same tell whole none more each [] game met = refl
all_same tell whole none more each (item ∷ items) game (here, later) =
    more item items game
    ∙ ap₂ (λ first rest. first ++ rest) (each item game here)
    (all_same tell whole none more each items (game_after_item item game) later
    ∙ ap (whole (unguarded_items items)) (game_same item game here))
    ∙ sym (more (bare item) (unguarded_items items) game)

texts_same : (tell : Applied → Game → ItemOutcome → List ℕ)
    → ((item : Applied) (game : Game) (outcome : ItemOutcome) → IsMetIn item game
    → tell item game outcome ≡ tell (bare item) game outcome)
    → (items : List Applied) (game : Game) (outcomes : List ItemOutcome) → AreMet items game
    → text_of_items tell items game outcomes
    ≡ text_of_items tell (unguarded_items items) game outcomes
texts_same tell each [] game outcomes met = refl
texts_same tell each (item ∷ items) game [] met = refl
texts_same tell each (item ∷ items) game (outcome ∷ outcomes) (here, later) =
    ap₂ (λ first rest. first ++ rest) (each item game outcome here)
    (texts_same tell each items (game_after_item item game) outcomes later
    ∙ ap (λ next. text_of_items tell (unguarded_items items) next outcomes)
    (game_same item game here))

ends_same : (items : List Applied) (game : Game) (ends : EndsOfLog) → AreMet items game
    → ends_after_items items game ends ≡ ends_after_items (unguarded_items items) game ends
ends_same [] game ends met = refl
ends_same (item ∷ items) game ends (here, later) =
    ends_same items (game_after_item item game) (ends_left item (item_refusal item game.log) ends)
    later
    ∙ ap₂ (ends_after_items (unguarded_items items)) (game_same item game here)
    (left_same item game ends here)

pub give_the_same : (cave : CaveView) (items : List Applied) (game : Game) → AreMet items game
    → GiveTheSame cave game items (unguarded_items items)
give_the_same cave items game met = record {
  games = games_same items game met;
  reported = all_same item_report reports (λ game. refl) (λ item items game. refl) report_same items
      game met;
  undone = λ guarded. ap (λ groups. script_text (reverse groups))
      (all_same (back_of guarded) (backs_of guarded) (λ game. refl) (λ item items game. refl)
      (back_same guarded) items game met);
  guarded = ap script_text
      (all_same guarded_of guarded_groups (λ game. refl) (λ item items game. refl) guarded_same
      items game met);
  accounted = λ outcomes. ap
      (λ text. text ++ totals_line (sum_by played_in outcomes) (sum_by lines_in outcomes))
      (texts_same (account cave) (account_same cave) items game outcomes met);
  listed = λ outcomes. ap (λ text. item_head_row ++ text)
      (texts_same (table_row cave) (row_same cave) items game outcomes met);
  ended = λ ends. ends_same items game ends met;
  refused = all_same (λ item (game : Game). refusal_list (item_refusal item game.log)) refusals
      (λ game. refl) (λ item items game. refl)
      (λ item game met. ap refusal_list (refusal_same item game met)) items game met;
}

pub turned : (cave : CaveView) (game : Game) (one other : List Applied)
    → GiveTheSame cave game one other → GiveTheSame cave game other one
turned cave game one other same = record {
  games = sym same.games;
  reported = sym same.reported;
  undone = λ guarded. sym (same.undone guarded);
  guarded = sym same.guarded;
  accounted = λ outcomes. sym (same.accounted outcomes);
  listed = λ outcomes. sym (same.listed outcomes);
  ended = λ ends. sym (same.ended ends);
  refused = sym same.refused;
}

-- ---- their outcomes

-- one item has an outcome that the other has, if it is refused alike and leaves the same game
outcome_by : (cave : CaveView) (every : ℕ) (one : Applied) (game : Game) (checkpoints : List ℕ)
    (outcome : ItemOutcome) → IsMetIn one game
    → (IsItemOutcome cave every one game checkpoints outcome
    → IsItemOutcome cave every (bare one) game checkpoints outcome)
    × (IsItemOutcome cave every (bare one) game checkpoints outcome
    → IsItemOutcome cave every one game checkpoints outcome)
outcome_by cave every one game checkpoints (Err refusal) met =
    let same = refusal_same one game met in (λ is. sym same ∙ is, λ is. same ∙ is)
outcome_by cave every one game checkpoints (Ok done) met =
    let same = refusal_same one game met in
    let left = ap (λ (next : Game). length next.log) (game_same one game met) in (
      λ is. record {
        accepted = sym same ∙ is.accepted;
        report = is.report;
        lines = is.lines ∙ left;
        inverse = is.inverse;
      },
      λ is. record {
        accepted = same ∙ is.accepted;
        report = is.report;
        lines = is.lines ∙ sym left;
        inverse = is.inverse;
      },
    )

pub outcomes_to : (cave : CaveView) (every : ℕ) (items : List Applied) (game : Game)
    (checkpoints : List ℕ) (outcomes : List ItemOutcome) → AreMet items game
    → AreOutcomes cave every items game checkpoints outcomes
    → AreOutcomes cave every (unguarded_items items) game checkpoints outcomes
outcomes_to cave every [] game checkpoints [] met are = are
outcomes_to cave every [] game checkpoints (outcome ∷ outcomes) met are = are
outcomes_to cave every (item ∷ items) game checkpoints [] met are = are
outcomes_to cave every (item ∷ items) game checkpoints (outcome ∷ outcomes) (here, later)
    (is, (after, left, rest)) =
    let same = game_same item game here in (
      (outcome_by cave every item game checkpoints outcome here).0 is,
      (
        after,
        subst (λ next. AreLeft every outcome checkpoints next after) same left,
        subst (λ next. AreOutcomes cave every (unguarded_items items) next after outcomes) same
            (outcomes_to cave every items (game_after_item item game) after outcomes later rest),
      ),
    )

pub outcomes_from : (cave : CaveView) (every : ℕ) (items : List Applied) (game : Game)
    (checkpoints : List ℕ) (outcomes : List ItemOutcome) → AreMet items game
    → AreOutcomes cave every (unguarded_items items) game checkpoints outcomes
    → AreOutcomes cave every items game checkpoints outcomes
outcomes_from cave every [] game checkpoints [] met are = are
outcomes_from cave every [] game checkpoints (outcome ∷ outcomes) met are = are
outcomes_from cave every (item ∷ items) game checkpoints [] met are = are
outcomes_from cave every (item ∷ items) game checkpoints (outcome ∷ outcomes) (here, later)
    (is, (after, left, rest)) =
    let same = sym (game_same item game here) in (
      (outcome_by cave every item game checkpoints outcome here).1 is,
      (
        after,
        subst (λ next. AreLeft every outcome checkpoints next after) same left,
        outcomes_from cave every items (game_after_item item game) after outcomes later
            (subst (λ next. AreOutcomes cave every (unguarded_items items) next after outcomes) same
            rest),
      ),
    )
