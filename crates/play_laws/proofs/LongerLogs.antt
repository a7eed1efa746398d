-- Transcripts by the moments of a play, which a longer log begins with.
use Rattle.std.proofs.Common.{◌≡◌, ℕ, ◌+◌, Bool, false, List, [], ◌∷◌, ◌++◌, length, take, arith}
use Rattle.std.proofs.Common.{append_assoc, inl, inr, sym, ap, ap₂, ◌∙◌, refl}
use Rattle.std.proofs.Math.Seq.{take-append_seam}
use Rattle.std.specs.Prelude.{◌⊎◌, count_by, if◌then◌else◌}
use Rattle.std.specs.List.{enumerate_from, flat_map, zip}
use Rattle.std.proofs.lemmas.Grind.{flat_map-append}
use Rattle.std.proofs.lemmas.List.{length_push}
use Rattle.std.proofs.lemmas.List.Sums.{sum_by-append, sum_by-cons}
use Rattle.base_lines.proofs.LogLines.{log_line-only}
use Rattle.base_lines.specs.LogLine.{IsLogLine, log_line}
use Rattle.base_lines.specs.declared.log_line.LogLine.TheVariants.{Blank, Comment}
use Rattle.cave_data.specs.CaveView.{CaveView}
use Rattle.cave_replay.specs.Play.{state_after, texts_of, ticks_of}
use Rattle.cave_turn.specs.Turns.{silent_turn, turn_on_line}
use Rattle.cave_world.specs.declared.part.Part.{Part}
use Rattle.cave_world.specs.declared.state.State.{State}
use Rattle.play_edits.specs.Outcome.{standing_of}
use Rattle.play_machine.specs.FinalState.{final_state_text, state_text_after, score_text}
use Rattle.play_machine.specs.Machine.{cave_rules, rendering_of}
use Rattle.play_machine.specs.Moments.{Moment, moment_at, moments_from, moments_of, noted_of}
use Rattle.play_machine.specs.Moments.{moment_row, steps_text}
use Rattle.play_machine.specs.Transcript.{is_shown, last_line, play_text, shown_line, shown_moment}
use Rattle.play_machine.specs.Transcript.{ticks, transcript_line}
use Rattle.play_machine.specs.Moments.{moment_object, opening_object, walk_text}
use Rattle.play_tables.specs.ScoreTable.{score_table}
use Rattle.play_walk.specs.Step.{step_head_row}
use Rattle.replay_edits.specs.Edit.{Game, game_of}
use Rattle.turn_ends.specs.Score.{max_score_of, score_of}
use Rattle.turn_laws.proofs.LineLemmas.{comments_change_nothing}
use Rattle.play_laws.specs.LongerLogs.{BeginsWith, CommentsPrintNothing, PrefixesPrintAlike}
use Rattle.play_laws.specs.LongerLogs.{end_of_transcript}

-- ---- the lines of a transcript are its moments

abbrev told : CaveView → ℕ → ℕ → State → List (List ℕ) → List ℕ
told cave place turns state lines =
    flat_map (shown_moment cave) (moments_from cave place turns state lines)

abbrev turns_in : List Bool → ℕ
turns_in ticked = count_by (λ ticks. ticks) ticked

one_more : (front : List Bool) (ticked : Bool)
    → turns_in (front ++ ticked ∷ []) ≡ turns_in front + (if ticked then 1 else 0)
one_more front ticked =
    let turn = if ticked then 1 else 0 in
    let alone : turn + 0 ≡ turn = omega arith in
    sum_by-append (λ (ticks : Bool). if ticks then 1 else 0) front (ticked ∷ [])
    ∙ ap (λ n. turns_in front + n)
    (sum_by-cons (λ (ticks : Bool). if ticks then 1 else 0) ticked [] ∙ alone)

-- the turns up to the line after these
turns_there : (front later : List Bool) (ticked : Bool)
    → ticks (front ++ ticked ∷ later) (length front + 1)
    ≡ turns_in front + (if ticked then 1 else 0)
turns_there front later ticked =
    let grown = front ++ ticked ∷ [] in
    ap₂ (λ all count. ticks all count) (sym (append_assoc front (ticked ∷ []) later))
    (sym (length_push front ticked))
    ∙ ap turns_in (take-append_seam grown later) ∙ one_more front ticked

lines_told : (cave : CaveView) (front : List Bool) (state : State) (lines : List (List ℕ))
    → flat_map (transcript_line (rendering_of cave)
    (front ++ ticks_of (cave_rules cave) state lines))
    (enumerate_from (length front) (zip lines (texts_of (cave_rules cave) state lines)))
    ≡ told cave (length front) (turns_in front) state lines
lines_told cave front state [] = refl
lines_told cave front state (line ∷ lines) =
    let rules = cave_rules cave in
    let turn = turn_on_line cave state line in
    let later = ticks_of rules turn.state lines in
    let grown = front ++ turn.ticked ∷ [] in
    let pairs = zip lines (texts_of rules turn.state lines) in
    ap₂ (λ here rest. here ++ rest)
    (ap (shown_line (rendering_of cave) line turn.parts) (turns_there front later turn.ticked))
    (ap₂ (λ all from. flat_map (transcript_line (rendering_of cave) all)
    (enumerate_from from pairs))
    (sym (append_assoc front (turn.ticked ∷ []) later)) (sym (length_push front turn.ticked))
    ∙ lines_told cave grown turn.state lines
    ∙ ap₂ (λ place turns. told cave place turns turn.state lines) (length_push front turn.ticked)
    (one_more front turn.ticked))

abbrev shown_before_end : CaveView → Game → List ℕ
shown_before_end cave game =
    rendering_of cave ((cave_rules cave).greeting game.seed) 0
    ++ flat_map (shown_moment cave) (moments_of cave game)

by_moments : (cave : CaveView) (game : Game)
    → play_text cave game ≡ shown_before_end cave game ++ end_of_transcript cave game
unfolding play_text standing_of
by_moments cave game =
    let rules = cave_rules cave in
    let opening = rendering_of cave (rules.greeting game.seed) 0 in
    let begun = rules.begun game.seed in
    ap (λ text. opening ++ (text ++ end_of_transcript cave game))
    (lines_told cave [] begun game.log)
    ∙ sym (append_assoc opening (told cave 0 0 begun game.log) (end_of_transcript cave game))

-- ---- more lines

go_on : (cave : CaveView) (place turns : ℕ) (state : State) (lines more : List (List ℕ))
    → (rest : List Moment) × (moments_from cave place turns state (lines ++ more)
    ≡ moments_from cave place turns state lines ++ rest)
go_on cave place turns state [] more = (moments_from cave place turns state more, refl)
go_on cave place turns state (line ∷ lines) more =
    let here = moment_at cave place turns state line in
    let later = go_on cave (place + 1) here.turns here.after lines more in
    (later.0, ap (λ some. here ∷ some) later.1)

-- what is noted of more moments, after this
noted_on : (first : List ℕ) (facts : Moment → List ℕ) (moments rest all : List Moment)
    → all ≡ moments ++ rest
    → first ++ flat_map facts all ≡ (first ++ flat_map facts moments) ++ flat_map facts rest
noted_on first facts moments rest all is =
    ap (λ some. first ++ flat_map facts some) is
    ∙ ap (λ text. first ++ text) (flat_map-append facts moments rest)
    ∙ sym (append_assoc first (flat_map facts moments) (flat_map facts rest))

noted_begins : (first : CaveView → State → List Part → List ℕ) (facts : CaveView → Moment → List ℕ)
    (cave : CaveView) (seed : ℕ) (lines more : List (List ℕ))
    → BeginsWith (noted_of first facts cave (game_of seed (lines ++ more)))
    (noted_of first facts cave (game_of seed lines))
noted_begins first facts cave seed lines more =
    let rules = cave_rules cave in
    let begun = rules.begun seed in
    let later = go_on cave 0 0 begun lines more in (
      flat_map (facts cave) later.0,
      noted_on (first cave begun (rules.greeting seed)) (facts cave)
          (moments_from cave 0 0 begun lines) later.0 (moments_from cave 0 0 begun (lines ++ more))
          later.1,
    )

steps_begin : (cave : CaveView) (seed : ℕ) (lines more : List (List ℕ))
    → BeginsWith (steps_text cave (game_of seed (lines ++ more)))
    (steps_text cave (game_of seed lines))
unfolding steps_text
steps_begin cave seed lines more =
    noted_begins (λ cave (begun : State) (greeting : List Part). step_head_row) moment_row cave seed
    lines more

walk_begins : (cave : CaveView) (seed : ℕ) (lines more : List (List ℕ))
    → BeginsWith (walk_text cave (game_of seed (lines ++ more)))
    (walk_text cave (game_of seed lines))
unfolding walk_text
walk_begins cave seed lines more = noted_begins opening_object moment_object cave seed lines more

pub prefixes_print_alike : PrefixesPrintAlike
prefixes_print_alike cave seed lines more =
    let game = game_of seed lines in
    let longer = game_of seed (lines ++ more) in
    let rules = cave_rules cave in
    let begun = rules.begun seed in
    let later = go_on cave 0 0 begun lines more in
    let rest = flat_map (shown_moment cave) later.0 in record {
      shown = shown_before_end cave game;
      transcript = by_moments cave game;
      rest = rest;
      longer_transcript = by_moments cave longer
          ∙ ap (λ text. text ++ end_of_transcript cave longer)
          (noted_on (rendering_of cave (rules.greeting seed) 0) (shown_moment cave)
          (moments_of cave game) later.0 (moments_of cave longer) later.1)
          ∙ append_assoc (shown_before_end cave game) rest (end_of_transcript cave longer);
      steps = steps_begin cave seed lines more;
      walk = walk_begins cave seed lines more;
    }

-- ---- a comment or a blank line

-- a transcript has no places
no_places : (cave : CaveView) (place other turns : ℕ) (state : State) (lines : List (List ℕ))
    → told cave place turns state lines ≡ told cave other turns state lines
no_places cave place other turns state [] = refl
no_places cave place other turns state (line ∷ lines) =
    let here = moment_at cave place turns state line in
    ap (λ rest. shown_moment cave here ++ rest)
    (no_places cave (place + 1) (other + 1) here.turns here.after lines)

module _ (cave : CaveView) (line : List ℕ) (skipped : IsLogLine line Comment ⊎ IsLogLine line Blank)
  where
    silent : (state : State) → turn_on_line cave state line ≡ silent_turn state
    silent state = comments_change_nothing cave state line skipped

    hidden : is_shown (log_line line) ≡ false
    hidden = by_kind skipped
      where
        by_kind : IsLogLine line Comment ⊎ IsLogLine line Blank → is_shown (log_line line) ≡ false
        by_kind (inl comment) = sym (ap is_shown (log_line-only line Comment comment))
        by_kind (inr blank) = sym (ap is_shown (log_line-only line Blank blank))

    told_without : (place turns : ℕ) (state : State) (before after : List (List ℕ))
        → told cave place turns state (before ++ line ∷ after)
        ≡ told cave place turns state (before ++ after)
    told_without place turns state [] after =
        let none : turns + 0 ≡ turns = omega arith in
        rw (hidden, silent state)
        (ap (λ n. told cave (place + 1) n state after) none
        ∙ no_places cave (place + 1) place turns state after)
    told_without place turns state (first ∷ before) after =
        let here = moment_at cave place turns state first in
        ap (λ rest. shown_moment cave here ++ rest)
        (told_without (place + 1) here.turns here.after before after)

    state_without : (state : State) (before after : List (List ℕ))
        → state_after (cave_rules cave) state (before ++ line ∷ after)
        ≡ state_after (cave_rules cave) state (before ++ after)
    state_without state [] after =
        ap (λ s. state_after (cave_rules cave) s after) (ap (λ turn. turn.state) (silent state))
    state_without state (first ∷ before) after =
        state_without (turn_on_line cave state first).state before after

    ticks_without : (state : State) (before after : List (List ℕ))
        → ticks (ticks_of (cave_rules cave) state (before ++ line ∷ after))
        (length (before ++ line ∷ after))
        ≡ ticks (ticks_of (cave_rules cave) state (before ++ after)) (length (before ++ after))
    ticks_without state [] after = rw (silent state) refl
    ticks_without state (first ∷ before) after =
        let turn = turn_on_line cave state first in
        let one = λ (ticks : Bool). if ticks then 1 else 0 in
        let with_it = take (length (before ++ line ∷ after))
        (ticks_of (cave_rules cave) turn.state (before ++ line ∷ after)) in
        let without = take (length (before ++ after))
        (ticks_of (cave_rules cave) turn.state (before ++ after)) in
        sum_by-cons one turn.ticked with_it
        ∙ ap (λ n. one turn.ticked + n) (ticks_without turn.state before after)
        ∙ sym (sum_by-cons one turn.ticked without)

pub comments_print_nothing : CommentsPrintNothing
unfolding score_text final_state_text standing_of
comments_print_nothing cave seed before after line skipped =
    let rules = cave_rules cave in
    let begun = rules.begun seed in
    let opening = rendering_of cave (rules.greeting seed) 0 in
    let states = state_without cave line skipped begun before after in
    let turns = ticks_without cave line skipped begun before after in
    let one = game_of seed (before ++ line ∷ after) in
    let other = game_of seed (before ++ after) in record {
      transcript = by_moments cave one
          ∙ ap₂ (λ text end. (opening ++ text) ++ end)
          (told_without cave line skipped 0 0 begun before after)
          (ap₂ (λ state count. last_line (score_of cave state) (max_score_of cave) count) states
          turns)
          ∙ sym (by_moments cave other);
      score = ap (score_table cave) states;
      state = ap₂ (state_text_after cave) turns states;
    }
