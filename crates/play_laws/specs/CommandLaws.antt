-- What the words of a command line ask for besides a run.
use Rattle.std.specs.Prelude.{◌≡◌, ℕ, List, Result, Ok, Err}
use Rattle.clap.specs.Words.{App}
use Rattle.play_command.specs.Line.{IsAnswerBy, run_in}
use Rattle.play_command.specs.declared.fault.CommandFault.{CommandFault}
use Rattle.play_command.specs.declared.line.Line.{Line}
use Rattle.play_command.specs.declared.line.Request.{Request}

-- it is the run of the same files with the same options, or memory ran out
abbrev pub IsThatRun : Request → Result Line CommandFault → Type 0
IsThatRun one (Ok (Line.Run other)) = run_in one ≡ run_in other
IsThatRun one (Err CommandFault.Memory) = Unit {0}
IsThatRun one _ = ⊥

-- words that ask for a run ask for no other one, and neither for a text nor for a refusal
abbrev pub WordsAskForOneRun : Type 0
WordsAskForOneRun = (app : App) (words : List (List ℕ)) (one : Request)
    (other : Result Line CommandFault) → IsAnswerBy app words (Ok (Line.Run one))
    → IsAnswerBy app words other → IsThatRun one other
