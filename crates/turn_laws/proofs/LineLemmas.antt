-- What a line does to a state depends on its kind and on its words.
use Rattle.base_lines.proofs.LogLines.{log_line-only}
use Rattle.std.proofs.Common.{◌≡◌, ◌∙◌, ◌∷◌, ℕ, List, [], Option, Some, None, ap, refl, sym, inl, inr}
use Rattle.std.specs.Prelude.{◌%◌, ◌||◌, ◌⊎◌, true, false, if◌then◌else◌, not, option_map}
use Rattle.std.specs.Prelude.{unwrap_or}
use Rattle.base_lines.specs.LogLine.{IsLogLine}
use Rattle.base_lines.specs.declared.log_line.LogLine.TheVariants as kind
use Rattle.data_rows.specs.declared.role.Role.TheVariants as role
use Rattle.cave_data.specs.CaveView.{CaveView}
use Rattle.cave_words.specs.Stream.{STREAM_SIZE}
use Rattle.cave_words.specs.Words.{words_of}
use Rattle.cave_words.specs.declared.words.Words.{Words}
use Rattle.cave_world.specs.declared.ending.Ending.{Ending}
use Rattle.cave_world.specs.declared.ending.Question.{Question}
use Rattle.cave_world.specs.declared.part.Part.TheVariants as part
use Rattle.cave_world.specs.declared.state.State.{State}
use Rattle.turn_scene.specs.Scene.{scene_at_start}
use Rattle.turn_ends.specs.Begin.{begun_state}
use Rattle.turn_ends.specs.Questions.{is_dragon}
use Rattle.cave_turn.specs.Answers.{after_answer, after_end_of_answer, after_reply, answer_in}
use Rattle.cave_turn.specs.Answers.{answer_of, is_yes, without_question}
use Rattle.cave_turn.specs.Commands.{after_command, after_timed_words, begin_command}
use Rattle.cave_turn.specs.Finish.{after_end_of_turn}
use Rattle.cave_turn.specs.Turns.{Turn, silent_turn, start_of_game, turn_of, turn_of_input}
use Rattle.cave_turn.specs.Turns.{turn_on_line, turn_on_log_line, with_seed}
use Rattle.cave_turn.specs.declared.answers.Answer.TheVariants.{Neither}

pub comments_change_nothing : (cave : CaveView) (s : State) (line : List ℕ)
    → IsLogLine line kind.Comment ⊎ IsLogLine line kind.Blank
    → turn_on_line cave s line ≡ silent_turn s
unfolding turn_on_line
comments_change_nothing cave s line (inl comment) =
    ap (λ k. turn_on_log_line cave line k s) (sym (log_line-only line kind.Comment comment))
comments_change_nothing cave s line (inr blank) =
    ap (λ k. turn_on_log_line cave line k s) (sym (log_line-only line kind.Blank blank))

-- a line of input, just by its words
turn_of_words : CaveView → Words → Option Ending → Option Question → State → Turn
turn_of_words cave words (Some ending) question s = silent_turn s
turn_of_words cave words None (Some question) s =
    let answer = unwrap_or (option_map answer_of words.first) Neither in
    if not (is_dragon question) || is_yes answer
    then turn_of false
    (after_end_of_answer cave question
    (after_reply cave question answer (scene_at_start false s)))
    else turn_of true
    (after_end_of_turn cave
    (after_timed_words cave words (begin_command cave (without_question s))))
turn_of_words cave words None None s =
    turn_of true (after_end_of_turn cave (after_timed_words cave words (begin_command cave s)))

input_by_words : (cave : CaveView) (line : List ℕ) (ending : Option Ending)
    (question : Option Question) (s : State)
    → turn_of_input cave line ending question s
    ≡ turn_of_words cave (words_of cave.letters line) ending question s
unfolding turn_of_words answer_in after_answer after_command
input_by_words cave line (Some ending) question s = refl
input_by_words cave line None (Some question) s = refl
input_by_words cave line None None s = refl

line_by_words : (cave : CaveView) (s : State) (line : List ℕ) → IsLogLine line kind.Input
    → turn_on_line cave s line
    ≡ turn_of_words cave (words_of cave.letters line) s.ending s.question s
unfolding turn_on_line
line_by_words cave s line input =
    ap (λ k. turn_on_log_line cave line k s) (sym (log_line-only line kind.Input input))
    ∙ input_by_words cave line s.ending s.question s

pub equal_words_play_alike : (cave : CaveView) (s : State) (a b : List ℕ)
    → IsLogLine a kind.Input → IsLogLine b kind.Input
    → words_of cave.letters a ≡ words_of cave.letters b
    → turn_on_line cave s a ≡ turn_on_line cave s b
equal_words_play_alike cave s a b input other same =
    line_by_words cave s a input
    ∙ ap (λ words. turn_of_words cave words s.ending s.question s) same
    ∙ sym (line_by_words cave s b other)

pub equal_seeds_play_alike : (cave : CaveView) (s : State) (a b : ℕ)
    → a % STREAM_SIZE ≡ b % STREAM_SIZE
    → (start_of_game cave a ≡ start_of_game cave b) × (with_seed s a ≡ with_seed s b)
unfolding start_of_game
equal_seeds_play_alike cave s a b same = (
  ap (λ x. record { state = begun_state cave x; parts = part.Role role.Welcome ∷ [] }) same,
  ap (λ x. record s { stream = x }) same,
)
