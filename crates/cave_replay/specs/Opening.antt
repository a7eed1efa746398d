-- The first fault of what is given to open a session.
use Rattle.std.specs.Prelude.{◌≡◌, ℕ, ◌+◌, ◌||◌, ◌==◌, nat_lt, if◌then◌else◌, List, [], ◌∷◌, length}
use Rattle.std.specs.Prelude.{Option, None, Some, MatchOption, Result}
use Rattle.base_lines.specs.Line.{is_line, flaw_of}
use Rattle.base_lines.specs.declared.line.LineFault.{LineFault}
use Rattle.cave_replay.specs.declared.fault.OpenFault.{OpenFault}
use Rattle.replay_edits.specs.Faults.{IsFaultOr}
use Rattle.cave_replay.specs.Report.{RisesByAtMost}
use Rattle.base_lines.specs.Limits.{MAX_LOG_LINES, MAX_SEED, MAX_EVERY}

-- the number of the first line that isn't valid in a log, and what is wrong with it, if the lines
-- are numbered from `number` on
abbrev pub first_bad_line : List (List ℕ) → ℕ → Option (ℕ × LineFault)
first_bad_line [] number = None
first_bad_line (line ∷ lines) number =
    if is_line line then first_bad_line lines (number + 1) else Some (number, flaw_of line)

-- what is wrong with a game, apart from its lines
abbrev pub game_fault : List (List ℕ) → ℕ → Option OpenFault
game_fault log seed =
    if nat_lt MAX_LOG_LINES (length log) then Some OpenFault.LogFull
    else (if nat_lt MAX_SEED seed then Some OpenFault.BadSeed else None)

-- the first bad line, or otherwise what is wrong with the game apart from its lines
abbrev pub or_game_fault : Option (ℕ × LineFault) → List (List ℕ) → ℕ → Option OpenFault
or_game_fault (Some (number, flaw)) log seed = Some (OpenFault.BadLine number flaw)
or_game_fault None log seed = game_fault log seed

-- the first fault of what is given to open a session, if memory suffices
abbrev pub open_fault : ℕ → List (List ℕ) → ℕ → Option OpenFault
open_fault every log seed =
    if every == 0 || nat_lt MAX_EVERY every then Some OpenFault.BadEvery
    else or_game_fault (first_bad_line log 1) log seed

-- opening a session returns the first fault, or runs out of memory
abbrev pub IsAnswerToOpen : {A : Type 0} → Option OpenFault → Result A OpenFault → Type 0
IsAnswerToOpen fault result = IsFaultOr OpenFault.Memory fault result

-- a meter rises by at most the lines that are played, and doesn't rise if there is a fault
abbrev pub AreOpenSteps : Option OpenFault → ℕ → ℕ → ℕ → Type 0
AreOpenSteps fault lines before after =
    MatchOption fault (RisesByAtMost before after lines) (λ _. after ≡ before)
