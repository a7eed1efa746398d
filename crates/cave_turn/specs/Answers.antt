-- What an answer to an open question does.
use Rattle.std.specs.Prelude.{ℕ, pos, Bool, true, false, ◌||◌, not, if◌then◌else◌, List, [], ◌∷◌}
use Rattle.std.specs.Prelude.{None, option_map, unwrap_or, codes}
use Rattle.data_rows.specs.declared.role.Role.TheVariants as role
use Rattle.cave_data.specs.CaveView.{CaveView}
use Rattle.cave_words.specs.Words.{is_written, words_of}
use Rattle.cave_world.specs.State.{CLUE_HINT, INSTRUCTIONS_HINT}
use Rattle.cave_world.specs.declared.ending.Ending.TheVariants as ending_is
use Rattle.cave_world.specs.declared.ending.Question.{Question}
use Rattle.cave_world.specs.declared.state.State.{State}
use Rattle.turn_scene.specs.Scene.{Scene, scene_at_start}
use Rattle.cave_world.specs.declared.tables.Table.TheVariants as table
use Rattle.turn_scene.specs.Rows.{Test, Effect, Row, always, deed, plain_row, otherwise, by_table}
use Rattle.turn_scene.specs.Rows.{by_rows_about, after_all, noted, note_row}
use Rattle.turn_scene.specs.Tests.{start}
use Rattle.turn_scene.specs.Effects.{in_scene, change, say, take_hint, set_charge}
use Rattle.turn_ends.specs.Endings.{end_as}
use Rattle.turn_ends.specs.Questions.{is_dragon, after_question, question_row}
use Rattle.turn_clocks.specs.Hints.{price_rows, give_rows}
use Rattle.cave_turn.specs.Dragon.{fight}
use Rattle.cave_turn.specs.Effects.{arrive}
use Rattle.cave_turn.specs.Finish.{after_end_of_turn}
use Rattle.cave_turn.specs.Revival.{come_back, bury}
use Rattle.cave_turn.specs.declared.answers.Answer.{Answer}
use Rattle.cave_turn.specs.declared.answers.Answer.TheVariants.{Yes, No, Neither}

-- Y and YES say yes, N and NO say no
abbrev pub answer_of : List ℕ → Answer
answer_of word =
    if is_written (codes "Y") word || is_written (codes "YES") word then Yes
    else (if is_written (codes "N") word || is_written (codes "NO") word then No else Neither)

-- only the first word of a line is the answer
unfoldable pub answer_in : CaveView → List ℕ → Answer
answer_in cave line = unwrap_or (option_map answer_of (words_of cave.letters line).first) Neither

-- the question is answered
abbrev pub without_question : State → State
without_question s = record s { question = None }

-- how many turns the lamp burns for a player who wants the instructions
abbrev pub INSTRUCTED_CHARGE : ℕ
INSTRUCTED_CHARGE = 1000

unfoldable pub give_instructions : List (Effect Question)
give_instructions =
    say role.Instructions ∷ take_hint (always INSTRUCTIONS_HINT) ∷ set_charge (pos INSTRUCTED_CHARGE)
    ∷ arrive start ∷ []

unfoldable pub quit : List (Effect Question)
quit = say role.Ok ∷ end_as ending_is.Quit ∷ []

-- what yes does, and what no does; a player who doesn't fight the dragon gives another command
abbrev pub answers_to : Question → List (Effect Question) × List (Effect Question)
answers_to Question.Welcome = (give_instructions, arrive start ∷ [])
answers_to Question.Quit = (quit, say role.Ok ∷ [])
answers_to Question.ScoreQuit = (quit, say role.Ok ∷ [])
answers_to Question.Die = (come_back, bury)
answers_to (Question.Hint h) =
    (by_rows_about (always h) price_rows ∷ [], say role.Ok ∷ [])
answers_to (Question.Take h) =
    (by_rows_about (always h) (noted table.HintGiven give_rows) ∷ [], say role.Ok ∷ [])
answers_to Question.Oyster =
    (say role.OysterHint ∷ take_hint (always CLUE_HINT) ∷ [], say role.Ok ∷ [])
answers_to Question.Dragon = (fight, [])

abbrev pub after_yes : CaveView → Question → Scene → Scene
after_yes cave q p =
    (after_all (note_row table.Yes (question_row q) ∷ (answers_to q).0) (deed cave q p)).scene

abbrev pub after_no : CaveView → Question → Scene → Scene
after_no cave q p =
    (after_all (note_row table.No (question_row q) ∷ (answers_to q).1) (deed cave q p)).scene

abbrev pub is_yes : Answer → Bool
is_yes Yes = true
is_yes _ = false

abbrev pub is_no : Answer → Bool
is_no No = true
is_no _ = false

-- what is answered, and how
pub record Reply : Type 0 where
  pub question : Question
  pub answer : Answer

abbrev pub close_question : Effect Reply
close_question = change without_question

abbrev pub says_yes : Test Reply
says_yes d = is_yes d.about.answer

abbrev pub says_no : Test Reply
says_no d = is_no d.about.answer

abbrev pub do_yes : Effect Reply
do_yes d = in_scene (after_yes d.cave d.about.question d.scene) d

abbrev pub do_no : Effect Reply
do_no d = in_scene (after_no d.cave d.about.question d.scene) d

-- the message of the question is said again
abbrev pub pose : Effect Reply
pose d = in_scene (after_question d.cave d.about.question d.scene) d

-- yes and no close the question; any other answer leaves it open
unfoldable pub reply_rows : List (Row Reply (Unit {0}))
reply_rows =
    plain_row (says_yes ∷ []) (close_question ∷ do_yes ∷ [])
    ∷ plain_row (says_no ∷ []) (close_question ∷ do_no ∷ [])
    ∷ otherwise (say role.Answer ∷ pose ∷ [])

abbrev pub after_reply : CaveView → Question → Answer → Scene → Scene
after_reply cave q answer p =
    let given : Reply = record { question = q; answer = answer } in
    (by_table table.Replies reply_rows (deed cave given p)).scene

-- a hint that is offered, or its price
abbrev pub is_of_hint : Question → Bool
is_of_hint (Question.Hint h) = true
is_of_hint (Question.Take h) = true
is_of_hint _ = false

-- an answer about a hint doesn't end the turn as other answers do
abbrev pub after_end_of_answer : CaveView → Question → Scene → Scene
after_end_of_answer cave q p = if is_of_hint q then p else after_end_of_turn cave p

unfoldable pub after_answer : CaveView → Question → List ℕ → State → Scene
after_answer cave q line s =
    after_end_of_answer cave q (after_reply cave q (answer_in cave line) (scene_at_start false s))

-- a line answers a question; to the question whether to fight the dragon with bare hands only yes
-- is an answer, and any other line is a command
abbrev pub answers : CaveView → List ℕ → Question → Bool
answers cave line asked = not (is_dragon asked) || is_yes (answer_in cave line)
