-- What questions ask.
use Rattle.std.specs.Prelude.{ℕ, Bool, true, false, List, [], ◌∷◌, Option, Some, None}
use Rattle.std.specs.FinMap as map
use Rattle.data_rows.specs.declared.role.Role.TheVariants as role
use Rattle.data_rows.specs.declared.rows.Hint.{Hint}
use Rattle.cave_data.specs.CaveView.{CaveView}
use Rattle.cave_world.specs.declared.ending.Question.{Question}
use Rattle.cave_world.specs.declared.part.NumberLine.TheVariants as line
use Rattle.cave_world.specs.declared.part.Part.TheVariants as part
use Rattle.cave_world.specs.declared.state.State.{State}
use Rattle.turn_scene.specs.Scene.{Scene, after_telling}
use Rattle.turn_ends.specs.Score.{score_of, max_score_of}
use Rattle.cave_world.specs.declared.tables.Table.TheVariants as table
use Rattle.turn_scene.specs.Rows.{Test, Effect, Row, deed, plain_row, after_all, otherwise, by_table}
use Rattle.turn_scene.specs.Rows.{note_row}
use Rattle.turn_scene.specs.Tests.{deaths}
use Rattle.turn_scene.specs.Effects.{change, in_scene, say, tell}

abbrev pub is_score_quit : Question → Bool
is_score_quit Question.ScoreQuit = true
is_score_quit _ = false

abbrev pub is_dragon : Question → Bool
is_dragon Question.Dragon = true
is_dragon _ = false

-- the question that asks a player who died whether to come back
unfoldable pub die_rows : List (Row Question (Unit {0}))
die_rows =
    plain_row (deaths 0 ∷ []) (say role.Die1 ∷ [])
    ∷ plain_row (deaths 1 ∷ []) (say role.Die2 ∷ [])
    ∷ otherwise (say role.Die3 ∷ [])

abbrev pub after_offer : Option Hint → Scene → Scene
after_offer None p = p
after_offer (Some hint) p = after_telling (part.Message hint.question) p

-- the question of the row of a hint, if the cave has it
abbrev pub tell_offer : ℕ → Effect Question
tell_offer h d = in_scene (after_offer (map.get d.cave.hints h) d.scene) d

-- the message of each question
abbrev pub tell_question : Question → Effect Question
tell_question Question.Welcome = say role.Welcome
tell_question Question.Quit = say role.Quit
tell_question Question.ScoreQuit = say role.ScoreQuit
tell_question Question.Die = by_table table.Die die_rows
tell_question (Question.Hint h) = tell_offer h
tell_question (Question.Take h) = say role.HintTake
tell_question Question.Oyster = say role.OysterAsk
tell_question Question.Dragon = say role.WithWhat

-- the row of a question in the tables of questions and of answers
abbrev pub question_row : Question → ℕ
question_row Question.Welcome = 1
question_row Question.Quit = 2
question_row Question.ScoreQuit = 3
question_row Question.Die = 4
question_row (Question.Hint h) = 5
question_row (Question.Take h) = 6
question_row Question.Oyster = 7
question_row Question.Dragon = 8

-- the message of the question is said
abbrev pub pose : Effect Question
pose d = tell_question d.about (note_row table.Questions (question_row d.about) d)

abbrev pub after_question : CaveView → Question → Scene → Scene
after_question cave asked p = (pose (deed cave asked p)).scene

-- the score up to now, and the greatest score
abbrev pub tell_score_now : Effect Question
tell_score_now d =
    tell (part.Number line.ScoreNow (score_of d.cave d.scene.state) (max_score_of d.cave)) d

-- the next line answers the question
abbrev pub with_question : Question → State → State
with_question asked s = record s { question = Some asked }

abbrev pub about_score : Test Question
about_score d = is_score_quit d.about

-- the score comes before the question that is about it
unfoldable pub asking_rows : List (Row Question (Unit {0}))
asking_rows =
    plain_row (about_score ∷ []) (tell_score_now ∷ pose ∷ [])
    ∷ otherwise (pose ∷ [])

unfoldable pub ask_question : Question → List (Effect Question)
ask_question asked = by_table table.Asking asking_rows ∷ change (with_question asked) ∷ []

-- a question is asked
unfoldable pub after_ask : CaveView → Question → Scene → Scene
after_ask cave asked p = (after_all (ask_question asked) (deed cave asked p)).scene

module _ {C : Type 0} where
  abbrev pub ask : Question → Effect C
  ask asked d = in_scene (after_ask d.cave asked d.scene) d
