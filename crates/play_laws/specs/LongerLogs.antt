-- What is printed of a log with more lines at its end, and of one with a comment more.
use Rattle.std.specs.Prelude.{◌≡◌, ◌⊎◌, ℕ, List, ◌∷◌, ◌++◌}
use Rattle.base_lines.specs.LogLine.{IsLogLine}
use Rattle.base_lines.specs.declared.log_line.LogLine.TheVariants.{Blank, Comment}
use Rattle.cave_data.specs.CaveView.{CaveView}
use Rattle.play_edits.specs.Outcome.{standing_of}
use Rattle.play_machine.specs.FinalState.{final_state_text, score_text}
use Rattle.play_machine.specs.Moments.{steps_text, walk_text}
use Rattle.play_machine.specs.Transcript.{last_line, play_text}
use Rattle.replay_edits.specs.Edit.{Game, game_of}

-- the last line of the transcript of a game: its score, the greatest one and its turns
abbrev pub end_of_transcript : CaveView → Game → List ℕ
end_of_transcript cave game =
    let standing = standing_of cave game in
    last_line standing.score standing.most standing.turns

abbrev pub BeginsWith : List ℕ → List ℕ → Type 0
BeginsWith text front = (rest : List ℕ) × (text ≡ front ++ rest)

-- A transcript is this text and its last line. That of a longer log begins with this text too, each
-- number in it the same. So do the tables of lines, and the lines as JSON.
pub record PrintsOn (cave : CaveView) (game longer : Game) : Type 0 where
  pub shown : List ℕ
  pub transcript : play_text cave game ≡ shown ++ end_of_transcript cave game
  pub rest : List ℕ
  pub longer_transcript : play_text cave longer
      ≡ shown ++ (rest ++ end_of_transcript cave longer)
  pub steps : BeginsWith (steps_text cave longer) (steps_text cave game)
  pub walk : BeginsWith (walk_text cave longer) (walk_text cave game)

-- this is so of the lines of a log and of these with more lines after them, with the same seed
abbrev pub PrefixesPrintAlike : Type 0
PrefixesPrintAlike =
    (cave : CaveView) (seed : ℕ) (lines more : List (List ℕ))
    → PrintsOn cave (game_of seed lines) (game_of seed (lines ++ more))

-- the transcripts of two games are the same, and so are the tables of their scores and their last
-- states
pub record PrintsAlike (cave : CaveView) (one other : Game) : Type 0 where
  pub transcript : play_text cave one ≡ play_text cave other
  pub score : score_text cave one ≡ score_text cave other
  pub state : final_state_text cave one ≡ final_state_text cave other

-- this is so of a log with a comment or a blank line between its lines, and without it
abbrev pub CommentsPrintNothing : Type 0
CommentsPrintNothing =
    (cave : CaveView) (seed : ℕ) (before after : List (List ℕ)) (line : List ℕ)
    → IsLogLine line Comment ⊎ IsLogLine line Blank
    → PrintsAlike cave (game_of seed (before ++ line ∷ after)) (game_of seed (before ++ after))
