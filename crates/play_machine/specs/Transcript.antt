-- The transcript of a play, from what was said at each of its lines.
use Rattle.std.specs.Prelude.{ℕ, ◌+◌, Bool, true, false, List, [], ◌++◌, length, take, count_by}
use Rattle.std.specs.Prelude.{codes, if◌then◌else◌}
use Rattle.std.specs.List.{enumerate_from, flat_map, zip}
use Rattle.std.specs.Fmt.{decimal}
use Rattle.base_lines.specs.LogLine.{log_line}
use Rattle.base_lines.specs.declared.log_line.LogLine.{LogLine}
use Rattle.cave_data.specs.CaveView.{CaveView}
use Rattle.cave_replay.specs.Play.{state_after, texts_of, ticks_of}
use Rattle.replay_edits.specs.Edit.{Game}
use Rattle.turn_ends.specs.Score.{max_score_of, score_of}
use Rattle.play_machine.specs.Machine.{cave_rules, rendering_of}
use Rattle.play_machine.specs.Moments.{Moment}

-- a line of the log, as it is shown above what was said at it
abbrev pub echo : List ℕ → List ℕ
echo line = codes "\n> " ++ (line ++ codes "\n")

-- comments and blank lines aren't shown
abbrev pub is_shown : LogLine → Bool
is_shown LogLine.Comment = false
is_shown LogLine.Blank = false
is_shown (LogLine.Seed seed) = true
is_shown LogLine.Input = true

-- the last line of a transcript: the score, the greatest score of the cave, and the turns
abbrev pub last_line : ℕ → ℕ → ℕ → List ℕ
last_line score most turns =
    codes "-- score "
    ++ (decimal score
    ++ (codes " of " ++ (decimal most ++ (codes ", turns " ++ (decimal turns ++ codes "\n")))))

-- how many of the lines before a place ticked
abbrev pub ticks : List Bool → ℕ → ℕ
ticks ticked count = count_by (λ ticks. ticks) (take count ticked)

module _ {Piece : Type 0} (show : Piece → ℕ → List ℕ) where
  -- a line and what was said at it, after this many turns
  abbrev pub shown_line : List ℕ → Piece → ℕ → List ℕ
  shown_line line piece turns =
      if is_shown (log_line line) then echo line ++ show piece turns else []

  -- the line at a place and what was said at it, with the turns that the lines up to it took
  abbrev pub transcript_line : List Bool → ℕ × (List ℕ × Piece) → List ℕ
  transcript_line ticked (place, (line, piece)) = shown_line line piece (ticks ticked (place + 1))

  -- the opening, then each line with what was said at it, and then the score and how many turns
  -- were taken
  abbrev pub transcript : Piece → List (List ℕ) → List Piece → List Bool → ℕ → ℕ → List ℕ
  transcript opening log pieces ticked score most =
      show opening 0
      ++ (flat_map (transcript_line ticked) (enumerate_from 0 (zip log pieces))
      ++ last_line score most (ticks ticked (length log)))

-- what playing a log in a cave prints, from its first line on
unfoldable pub play_text : CaveView → Game → List ℕ
play_text cave game =
    let rules = cave_rules cave in
    let begun = rules.begun game.seed in
    transcript (rendering_of cave) (rules.greeting game.seed) game.log
    (texts_of rules begun game.log) (ticks_of rules begun game.log)
    (score_of cave (state_after rules begun game.log)) (max_score_of cave)

-- a moment of a play as a transcript shows it
abbrev pub shown_moment : CaveView → Moment → List ℕ
shown_moment cave moment = shown_line (rendering_of cave) moment.line moment.parts moment.turns
