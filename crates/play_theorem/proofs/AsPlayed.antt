-- What an edit makes is what the page says.
use Rattle.std.proofs.Common.{◌≡◌, ℕ, suc, ◌+◌, ◌-◌, ◌^◌, Bool, List, [], ◌∷◌, ◌++◌, None, Some}
use Rattle.std.proofs.Common.{Ok, Err, map, append_assoc, ap, arith, sym, subst, ◌∙◌, refl, take}
use Rattle.std.proofs.Common.{length, inl, inr}
use Rattle.std.specs.Prelude.{◌⊎◌, IfErr}
use Rattle.std.specs.Prelude.{IfOk, MatchOption, Option, Result, if◌then◌else◌, count_by, ⊤}
use Rattle.std.specs.Io.KnownBytes.{Appends, Keeps}
use Rattle.std.specs.List.{flat_map}
use Rattle.std.specs.Str.Lines.{lines}
use Rattle.std.proofs.lemmas.List.Sums.{sum-map, sum_by-cons}
use Rattle.cave_data.specs.CaveView.{CaveView}
use Rattle.cave_play.specs.Output.{IsEditRun, IsEdited}
use Rattle.cave_play.specs.Stages.{Judges, Stage, Writes}
use Rattle.cave_play.specs.declared.fault.PlayFault.{PlayFault}
use Rattle.cave_play.specs.declared.output.Reported.{Reported}
use Rattle.cave_replay.specs.Play.{state_after, ticks_of}
use Rattle.cave_turn.specs.Turns.{turn_on_line}
use Rattle.cave_world.specs.declared.state.State.{State}
use Rattle.play_command.specs.declared.line.Editing.{Editing}
use Rattle.play_command.specs.declared.views.EditView.{EditView}
use Rattle.play_edits.proofs.EditLemmas.{game_after_item-accepted, game_after_item-refused}
use Rattle.play_edits.proofs.GuardLemmas.{unrefused_item}
use Rattle.play_edits.specs.Items.{game_after_item, game_after_items, reports}
use Rattle.play_edits.specs.Views.{IsEndedEdit}
use Rattle.play_edits.specs.Outcome.{AreOutcomes, IsItemOutcome, ItemOutcome, played_in}
use Rattle.play_edits.specs.Refusal.{group_refusal, item_refusal}
use Rattle.play_edits.specs.declared.items.EditRun.{EditRun}
use Rattle.play_edits.specs.declared.refusal.Refusal.{Refusal}
use Rattle.play_machine.proofs.WatchedLemmas.{play_text-watched}
use Rattle.play_machine.specs.declared.course.PlayEnd.{PlayEnd}
use Rattle.play_machine.specs.Machine.{cave_rules, rendering_of}
use Rattle.play_machine.specs.Moments.{moment_at, moments_from}
use Rattle.play_machine.specs.Transcript.{last_line, play_text, shown_moment, ticks}
use Rattle.replay_edits.proofs.Inverses.{IsFree-from_none, apply_all-inverses_of, group_free}
use Rattle.replay_edits.specs.Edit.{Game, apply_all, game_of, inverses_of}
use Rattle.replay_scripts.specs.Script.{Applied}
use Rattle.turn_ends.specs.Score.{max_score_of, score_of}
use Rattle.play_theorem.specs.Theorem.{AreReplayed, EditedAsPlayed, InverseGivesBack, IsReplayed}
use Rattle.play_theorem.specs.Theorem.{RefusedChangesNothing, told, told_from_start}

-- ---- the lines of a log, as a person plays them

turns_more : (turns : ℕ) (ticked : Bool) (later : List Bool)
    → turns + count_by (λ ticks. ticks) (ticked ∷ later)
    ≡ turns + (if ticked then 1 else 0) + count_by (λ ticks. ticks) later
turns_more turns ticked later =
    let more = sum_by-cons (λ (ticks : Bool). if ticks then 1 else 0) ticked later in
    omega (arith, more)

told-lines : (cave : CaveView) (place turns : ℕ) (state : State) (log : List (List ℕ))
    → flat_map (shown_moment cave) (moments_from cave place turns state log)
    ++ last_line (score_of cave (state_after (cave_rules cave) state log)) (max_score_of cave)
    (turns + ticks (ticks_of (cave_rules cave) state log) (length log))
    ≡ told cave state turns log
told-lines cave place turns state [] =
    let none : turns + 0 ≡ turns = omega arith in
    ap (last_line (score_of cave state) (max_score_of cave)) none
told-lines cave place turns state (line ∷ lines) =
    let rules = cave_rules cave in
    let turn = turn_on_line cave state line in
    let now = turns + (if turn.ticked then 1 else 0) in
    let later = ticks_of rules turn.state lines in
    let here = shown_moment cave (moment_at cave place turns state line) in
    let rest = flat_map (shown_moment cave) (moments_from cave (place + 1) now turn.state lines) in
    let end = last_line (score_of cave (state_after rules turn.state lines)) (max_score_of cave) in
    append_assoc here rest (end (turns + ticks (turn.ticked ∷ later) (suc (length lines))))
    ∙ ap (λ count. here ++ (rest ++ end count))
    (turns_more turns turn.ticked (take (length lines) later))
    ∙ ap (λ text. here ++ text) (told-lines cave (place + 1) now turn.state lines)

play_text-told : (cave : CaveView) (game : Game) → play_text cave game ≡ told_from_start cave game
play_text-told cave game =
    let rules = cave_rules cave in
    let begun = rules.begun game.seed in
    let opening = rendering_of cave (rules.greeting game.seed) 0 in
    let turns = ticks (ticks_of rules begun game.log) (length game.log) in
    let state = state_after rules begun game.log in
    let end : PlayEnd = record { state = state; turns = turns } in
    let shown = flat_map (shown_moment cave) (moments_from cave 0 0 begun game.log) in
    let last = last_line (score_of cave state) (max_score_of cave) in
    let all : turns ≡ 0 + turns = omega arith in
    sym (play_text-watched cave game end (record { state_is = refl; turns_are = refl }))
    ∙ append_assoc opening shown (last turns)
    ∙ ap (λ count. opening ++ (shown ++ last count)) all
    ∙ ap (λ text. opening ++ text) (told-lines cave 0 0 begun game.log)

-- ---- how many lines are played

replayed : (cave : CaveView) (every : ℕ) (item : Applied) (game : Game) (checkpoints : List ℕ)
    (outcome : ItemOutcome) → IsItemOutcome cave every item game checkpoints outcome
    → IsReplayed cave every item game (played_in outcome)
replayed cave every item game checkpoints (Ok done) is = rw is.accepted is.report.bounded
replayed cave every item game checkpoints (Err refusal) is = rw is refl

all_replayed : (cave : CaveView) (every : ℕ) (items : List Applied) (game : Game)
    (checkpoints : List ℕ) (outcomes : List ItemOutcome)
    → AreOutcomes cave every items game checkpoints outcomes
    → AreReplayed cave every items game (map played_in outcomes)
all_replayed cave every [] game checkpoints [] are = refl
all_replayed cave every [] game checkpoints (outcome ∷ outcomes) are = absurd are
all_replayed cave every (item ∷ items) game checkpoints [] are = absurd are
all_replayed cave every (item ∷ items) game checkpoints (outcome ∷ outcomes) are =
    let (is, (after, _, later)) = are in (
      replayed cave every item game checkpoints outcome is,
      all_replayed cave every items (game_after_item item game) after outcomes later,
    )

-- ---- what an edit makes

-- what it asks for beside that doesn't matter, and neither does whether it is strict
edited_as_played : (database bindings log script : List ℕ) (editing : Editing) (played : ℕ)
    (printed : List ℕ) → editing.view ≡ EditView.Transcript
    → IsEdited database bindings log script editing played printed
    → EditedAsPlayed database bindings log script editing.seed editing.every editing.guarded
    printed played
edited_as_played database bindings log script editing played printed asked edited =
    let (cave, reads, made) = edited in
    let whole = subst (λ view. IsEndedEdit view cave editing.every log editing.seed
    editing.guarded script played printed) asked made in
    let edit = whole.edit in
    let game = game_of editing.seed (lines log) in record {
      cave = cave;
      reads = reads;
      items = edit.items;
      spelled = edit.spelled;
      prints = whole.printed ∙ edit.written
          ∙ ap (λ text. reports edit.items game ++ text)
          (play_text-told cave (game_after_items edit.items game));
      counts = map played_in edit.outcomes;
      bounded = all_replayed cave editing.every edit.items game edit.checkpoints edit.outcomes
          edit.came;
      played_is = edit.played_is ∙ sym (sum-map played_in edit.outcomes);
    }

pub run_as_played : (database bindings log script : List ℕ) (editing : Editing)
    (stages : List Stage) (before after : Option (List ℕ)) (made : Result (Reported EditRun) PlayFault)
    (ended : Result EditRun PlayFault) → editing.view ≡ EditView.Transcript
    → Judges stages (λ made. IsEditRun database bindings log script editing None made.found
    made.text.items) made
    → Writes (λ found. found ≡ PlayFault.Write) made before after ended
    → IfOk ended (λ run. (printed : List ℕ) × Appends before after printed
    × EditedAsPlayed database bindings log script editing.seed editing.every editing.guarded printed
    run.played)
run_as_played database bindings log script editing stages before after (Ok made) (Ok run) asked
    judged writes =
    let found = writes.0 in
    let is_played = EditedAsPlayed database bindings log script editing.seed editing.every
    editing.guarded made.text.items in (
      made.text.items,
      writes.1,
      subst is_played (sym (ap (λ (run : EditRun). run.played) found))
          (edited_as_played database bindings log script editing made.found.played made.text.items
          asked judged.1.0),
    )
run_as_played database bindings log script editing stages before after (Err found) (Ok run) asked
    judged writes = cc
run_as_played database bindings log script editing stages before after (Ok made) (Err found) asked
    judged writes = tt
run_as_played database bindings log script editing stages before after (Err one) (Err other) asked
    judged writes = tt

-- a run that fails has written nothing, unless its writer failed
pub nothing_else_written : (before after : Option (List ℕ))
    (made : Result (Reported EditRun) PlayFault) (ended : Result EditRun PlayFault)
    → Writes (λ found. found ≡ PlayFault.Write) made before after ended
    → IfErr ended (λ found. (found ≡ PlayFault.Write) ⊎ Keeps before after)
nothing_else_written before after (Ok made) (Ok run) writes = tt
nothing_else_written before after (Ok made) (Err found) writes = inl writes.0
nothing_else_written before after (Err found) (Ok run) writes = tt
nothing_else_written before after (Err one) (Err other) writes = inr writes.1

-- ---- what an edit leaves

unchanged_by : (item : Applied) (game : Game) (refusal : Option Refusal)
    → item_refusal item game.log ≡ refusal
    → MatchOption refusal ⊤ (λ _. game_after_item item game ≡ game)
unchanged_by item game None is = tt
unchanged_by item game (Some refusal) is = game_after_item-refused item game refusal is

pub refused_changes_nothing : RefusedChangesNothing
refused_changes_nothing item game = unchanged_by item game (item_refusal item game.log) refl

pub inverse_gives_back : InverseGivesBack
unfolding group_refusal
inverse_gives_back item game accepted =
    let none = (unrefused_item item game.log accepted).1 in
    let free = (group_free item.changes game.log (2 ^ 64 - 1) none).0 in
    ap (apply_all (inverses_of item.changes game)) (game_after_item-accepted item game accepted)
    ∙ apply_all-inverses_of item.changes game (IsFree-from_none item.changes game.log 0 free)
