-- Laws about lines that change nothing, and about lines and seeds that play alike.
use Rattle.std.specs.Prelude.{◌≡◌, ◌⊎◌, ℕ, ◌%◌, List}
use Rattle.base_lines.specs.LogLine.{IsLogLine}
use Rattle.base_lines.specs.declared.log_line.LogLine.TheVariants as kind
use Rattle.cave_data.specs.CaveView.{CaveView}
use Rattle.cave_words.specs.Stream.{STREAM_SIZE}
use Rattle.cave_words.specs.Words.{words_of}
use Rattle.cave_world.specs.declared.state.State.{State}
use Rattle.cave_turn.specs.Turns.{silent_turn, start_of_game, turn_on_line, with_seed}

-- a comment or a blank line changes nothing, says nothing and is no turn
abbrev pub CommentsChangeNothing : Type 0
CommentsChangeNothing =
    (cave : CaveView) (s : State) (line : List ℕ)
    → IsLogLine line kind.Comment ⊎ IsLogLine line kind.Blank
    → turn_on_line cave s line ≡ silent_turn s

-- two lines of input that have the same words, by the letters that count, are the same turn
abbrev pub EqualWordsPlayAlike : Type 0
EqualWordsPlayAlike =
    (cave : CaveView) (s : State) (a b : List ℕ) → IsLogLine a kind.Input → IsLogLine b kind.Input
    → words_of cave.letters a ≡ words_of cave.letters b
    → turn_on_line cave s a ≡ turn_on_line cave s b

-- two seeds that leave the same remainder begin the same game, and do the same in a seed line
abbrev pub EqualSeedsPlayAlike : Type 0
EqualSeedsPlayAlike =
    (cave : CaveView) (s : State) (a b : ℕ) → a % STREAM_SIZE ≡ b % STREAM_SIZE
    → (start_of_game cave a ≡ start_of_game cave b) × (with_seed s a ≡ with_seed s b)
