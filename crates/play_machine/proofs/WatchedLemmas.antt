-- What is written of a play, as it is watched and as it ends.
use Rattle.std.proofs.Common.{◌≡◌, ℕ, suc, ◌+◌, Bool, List, [], ◌∷◌, ◌++◌, take, count_by}
use Rattle.std.proofs.Common.{append_assoc, ap, ap₂, sym, ◌∙◌, refl, arith}
use Rattle.std.specs.Prelude.{if◌then◌else◌}
use Rattle.std.specs.List.{enumerate_from, flat_map, zip}
use Rattle.std.proofs.lemmas.List.Sums.{sum_by-cons}
use Rattle.cave_data.specs.CaveView.{CaveView}
use Rattle.cave_replay.specs.Play.{texts_of, ticks_of}
use Rattle.cave_world.specs.declared.part.Part.{Part}
use Rattle.cave_world.specs.declared.state.State.{State}
use Rattle.play_tables.specs.ScoreTable.{score_table}
use Rattle.play_walk.specs.Step.{step_head_row}
use Rattle.replay_edits.specs.Edit.{Game}
use Rattle.turn_ends.specs.Score.{max_score_of, score_of}
use Rattle.play_machine.specs.FinalState.{final_state_text, state_text_after, score_text}
use Rattle.play_machine.specs.Machine.{cave_rules, rendering_of}
use Rattle.play_machine.specs.Moments.{moments_from, noted_of, moment_row, steps_text}
use Rattle.play_machine.specs.Moments.{moment_object, opening_object, walk_text}
use Rattle.play_machine.specs.Transcript.{last_line, play_text, shown_line, shown_moment, ticks}
use Rattle.play_machine.specs.Transcript.{transcript_line}
use Rattle.play_machine.specs.Watch.{IsEndOf}
use Rattle.play_machine.specs.declared.course.PlayEnd.{PlayEnd}

turns_more : (turns : ℕ) (ticked : Bool) (ticks : List Bool)
    → turns + (if ticked then 1 else 0) + count_by (λ ticks. ticks) ticks
    ≡ turns + count_by (λ ticks. ticks) (ticked ∷ ticks)
turns_more turns ticked ticks =
    let more = sum_by-cons (λ (ticks : Bool). if ticks then 1 else 0) ticked ticks in
    omega (arith, more)

turns_one : (turns : ℕ) (ticked : Bool)
    → turns + count_by (λ ticks. ticks) (ticked ∷ []) ≡ turns + (if ticked then 1 else 0)
turns_one turns ticked =
    let more = turns_more turns ticked [] in
    omega (arith, more)

-- lines of a transcript are the moments of those lines, as a transcript shows them
shown-watched : (cave : CaveView) (ticked : List Bool) (place turns : ℕ) (state : State)
    (log : List (List ℕ))
    → ((k : ℕ) → ticks ticked (place + k) ≡ turns + ticks (ticks_of (cave_rules cave) state log) k)
    → flat_map (transcript_line (rendering_of cave) ticked)
    (enumerate_from place (zip log (texts_of (cave_rules cave) state log)))
    ≡ flat_map (shown_moment cave) (moments_from cave place turns state log)
shown-watched cave ticked place turns state [] each = refl
shown-watched cave ticked place turns state (line ∷ lines) each =
    let rules = cave_rules cave in
    let ticks_here = rules.ticked state line in
    let after = rules.after state line in
    let here = turns + (if ticks_here then 1 else 0) in
    let rest = ticks_of rules after lines in
    let now : ticks ticked (place + 1) ≡ here = each 1 ∙ turns_one turns ticks_here in
    let next : (k : ℕ) → ticks ticked (place + 1 + k) ≡ here + ticks rest k =
    λ k.
    let same : place + 1 + k ≡ place + suc k = omega arith in
    ap (ticks ticked) same ∙ each (suc k) ∙ sym (turns_more turns ticks_here (take k rest)) in
    ap₂ (λ (first later : List ℕ). first ++ later)
    (ap (shown_line (rendering_of cave) line (rules.said state line)) now)
    (shown-watched cave ticked (place + 1) here after lines next)

-- what a transcript's watch notes of a play, and then the last line, are what playing it prints
pub play_text-watched : (cave : CaveView) (game : Game) (end : PlayEnd) → IsEndOf cave game end
    → noted_of (λ cave (begun : State) (parts : List Part). rendering_of cave parts 0) shown_moment
    cave game ++ last_line (score_of cave end.state) (max_score_of cave) end.turns
    ≡ play_text cave game
unfolding play_text
play_text-watched cave game end ends =
    let rules = cave_rules cave in
    let begun = rules.begun game.seed in
    let opening = rendering_of cave (rules.greeting game.seed) 0 in
    let ticked = ticks_of rules begun game.log in
    let lines = flat_map (shown_moment cave) (moments_from cave 0 0 begun game.log) in
    let last = last_line (score_of cave end.state) (max_score_of cave) end.turns in
    let each : (k : ℕ) → ticks ticked (0 + k) ≡ 0 + ticks ticked k =
    λ k.
    let place : 0 + k ≡ k = omega arith in
    let taken : 0 + ticks ticked k ≡ ticks ticked k = omega arith in
    ap (ticks ticked) place ∙ sym taken in
    append_assoc opening lines last
    ∙ (λ i. opening
    ++ (sym (shown-watched cave ticked 0 0 begun game.log each) i
    ++ last_line (score_of cave (ends.state_is i)) (max_score_of cave) (ends.turns_are i)))

-- what is noted by the table of lines is that table
pub steps_text-watched : (cave : CaveView) (game : Game)
    → noted_of (λ cave (begun : State) (greeting : List Part). step_head_row) moment_row cave game
    ≡ steps_text cave game
unfolding steps_text
steps_text-watched cave game = refl

-- what is noted by the lines as JSON is them
pub walk_text-watched : (cave : CaveView) (game : Game)
    → noted_of opening_object moment_object cave game ≡ walk_text cave game
unfolding walk_text
walk_text-watched cave game = refl

-- the table of the score at the end of a play
pub score_text-ended : (cave : CaveView) (game : Game) (end : PlayEnd) → IsEndOf cave game end
    → score_table cave end.state ≡ score_text cave game
unfolding score_text
score_text-ended cave game end ends = ap (score_table cave) ends.state_is

-- the state at the end of a play
pub final_state-ended : (cave : CaveView) (game : Game) (end : PlayEnd) → IsEndOf cave game end
    → state_text_after cave end.turns end.state ≡ final_state_text cave game
unfolding final_state_text
final_state-ended cave game end ends =
    λ i. state_text_after cave (ends.turns_are i) (ends.state_is i)
