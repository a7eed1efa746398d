-- Where the fault of a run over several logs is found, what it makes, and what it has written when
-- it ends.
use Rattle.std.specs.Prelude.{◌≡◌, ℕ, ◌+◌, ◌⊎◌, ⊤, List, [], ◌∷◌, Option, Some, None, Result, Ok}
use Rattle.std.specs.Prelude.{Err, map}
use Rattle.cave_play.specs.declared.logs.LogsFault.{LogsFault}
use Rattle.cave_play.specs.declared.fault.PlayFault.{PlayFault}
use Rattle.cave_play.specs.declared.output.Reported.{Reported}
use Rattle.cave_play.specs.Stages.{log_fault, large_seed, IsFoundAt, IsFoundIn, Leaves, Stage}
use Rattle.cave_play.specs.Stages.{first_decided, judging_stage, cave_stages, log_stage}
use Rattle.std.specs.Str.Lines.{lines}
use Rattle.cave_data.specs.CaveView.{CaveView}
use Rattle.cave_data.specs.Reads.{Reads}
use Rattle.cave_world.specs.declared.part.Part.{Part}
use Rattle.cave_world.specs.declared.state.State.{State}
use Rattle.play_machine.specs.Moments.{Moment, noted_of}
use Rattle.replay_edits.specs.Edit.{Game, game_of}
use Rattle.std.specs.List.{flat_map}

abbrev pub games_of : ℕ → List (List ℕ) → List Game
games_of seed logs = map (λ log. game_of seed (lines log)) logs

-- what is noted of the plays of games, one after another
abbrev pub noted_of_all : {Fact : Type 0} → (CaveView → State → List Part → List Fact)
    → (CaveView → Moment → List Fact) → CaveView → List Game → List Fact
noted_of_all first_facts facts cave games = flat_map (noted_of first_facts facts cave) games

module _ {V F : Type 0} (report_on : List ℕ → CaveView → V → List Game → List ℕ)
    (found_on : List ℕ → CaveView → V → List Game → F) where
  -- the output is the report on the plays of games in the cave of a database, and this is found
  abbrev pub IsReportOn : List ℕ → CaveView → V → List Game → F → List ℕ → Type 0
  IsReportOn database cave view games found output =
      (output ≡ report_on database cave view games) × (found ≡ found_on database cave view games)

  -- the same of the plays of logs, in the cave that the database and its bindings describe
  abbrev pub IsReported : List ℕ → List ℕ → List (List ℕ) → ℕ → V → F → List ℕ → Type 0
  IsReported database bindings logs seed view found output =
      (cave : CaveView) × Reads database bindings cave
      × IsReportOn database cave view (games_of seed logs) found output

abbrev pub at_none : PlayFault → LogsFault
at_none found = record { fault = found; log = None }

abbrev pub first_stages : List ℕ → List ℕ → ℕ → List Stage
first_stages database bindings seed =
    judging_stage (large_seed seed) ∷ cave_stages database bindings

abbrev pub AreValidLogs : List (List ℕ) → Type 0
AreValidLogs [] = ⊤
AreValidLogs (log ∷ logs) = (log_fault log ≡ None) × AreValidLogs logs

-- the fault is found at a log, and none before it has one; after the last, memory may run out. The
-- first log is at `place`
abbrev pub IsFoundFrom : ℕ → List (List ℕ) → LogsFault → Type 0
IsFoundFrom place [] found = found ≡ at_none PlayFault.Memory
IsFoundFrom place (log ∷ logs) found =
    ((found.log ≡ Some place) × IsFoundAt (log_stage log) found.fault)
    ⊎ ((log_fault log ≡ None) × IsFoundFrom (place + 1) logs found)

-- if neither the first stages nor the logs decide a fault, what was made is right; otherwise the
-- fault is found at those stages, or at the logs that are read after them
abbrev pub JudgesLogs : {X : Type 0} → List Stage → List (List ℕ) → (X → Type 0)
    → Result X LogsFault → Type 0
JudgesLogs first logs P (Ok made) = (first_decided first ≡ None) × AreValidLogs logs × P made
JudgesLogs first logs P (Err found) = ((found.log ≡ None) × IsFoundIn first found.fault)
    ⊎ ((first_decided first ≡ None) × IsFoundFrom 0 logs found)

-- what was made is right with what is found with it
abbrev pub IsMadeReport : {F : Type 0} → (F → List ℕ → Type 0) → Reported F → Type 0
IsMadeReport IsOutput made = IsOutput made.found made.text.items

-- what a run leaves that returns something: if no fault is decided, an output that is right with
-- that
abbrev pub RunsLogs : {X : Type 0} → List Stage → List (List ℕ) → (X → List ℕ → Type 0)
    → Option (List ℕ) → Option (List ℕ) → Result X LogsFault → Type 0
RunsLogs first logs IsOutput old new ended = Leaves (at_none PlayFault.Write)
    (JudgesLogs first logs (IsMadeReport IsOutput)) old new ended
