-- The fault that each input or output of a run decides, the stages of runs in their order, where in
-- them a fault is found, and what a run leaves. The stages of two logs are in `Output.antt`.
use Rattle.std.specs.Prelude.{ℕ, Bool, List, length, nat_lt, ◌||◌, ◌==◌, if◌then◌else◌, Option}
use Rattle.std.specs.Prelude.{None, Some, option_and_then, option_map, Result, Err, Ok, [], ◌∷◌}
use Rattle.std.specs.Prelude.{◌++◌, ◌≡◌, take, ◌⊎◌, ⊤, MatchResult}
use Rattle.std.specs.Result.{result_err, result_ok}
use Rattle.std.specs.Str.Lines.{lines}
use Rattle.check_tables.specs.Clues.{clue_of}
use Rattle.cave_data.specs.Reads.{fault as cave_fault}
use Rattle.data_rows.specs.declared.error.Cause.{Cause}
use Rattle.data_rows.specs.declared.error.CaveError.{CaveError}
use Rattle.data_rows.specs.declared.error.FaultSite.{FaultSite}
use Rattle.cave_replay.specs.Opening.{first_bad_line}
use Rattle.base_lines.specs.declared.line.LineFault.{LineFault}
use Rattle.base_lines.specs.Limits.{MAX_SEED, MAX_EVERY, MAX_LOG_LINES, MAX_INPUT_BYTES}
use Rattle.cave_replay.specs.declared.fault.OpenFault.{OpenFault}
use Rattle.replay_scripts.specs.Guards.{script_by}
use Rattle.replay_scripts.specs.Script.{Applied}
use Rattle.replay_scripts.specs.declared.fault.ScriptRefusal.{ScriptRefusal}
use Rattle.play_command.specs.declared.views.EditView.{EditView}
use Rattle.play_command.specs.declared.line.Editing.{Editing}
use Rattle.play_command.specs.declared.line.Input.{Input}
use Rattle.cave_play.specs.declared.fault.LogFault.{LogFault}
use Rattle.cave_play.specs.declared.fault.PlayFault.{PlayFault}
use Rattle.cave_play.specs.declared.output.Reported.{Reported}
use Rattle.cave_play.specs.declared.fault.ScriptFault.{ScriptFault}
use Rattle.play_edits.specs.Edits.{ending_refusal}
use Rattle.play_edits.specs.Ends.{EndsOfLog, printed_text, ends_after_items, log_ends}
use Rattle.play_edits.specs.Views.{text_to_read}
use Rattle.replay_edits.specs.Edit.{Game, game_of}
use Rattle.std.specs.Option.{option_or}
use Rattle.std.specs.Io.KnownBytes.{Appends, Keeps}

-- ---- the fault of an input

-- the fault of a seed
abbrev pub large_seed : ℕ → Option PlayFault
large_seed seed = if nat_lt MAX_SEED seed then Some PlayFault.Seed else None

-- the fault of a distance of checkpoints
abbrev pub every_fault : ℕ → Option PlayFault
every_fault every = if every == 0 || nat_lt MAX_EVERY every then Some PlayFault.Every else None

-- the fault of an input that has too many bytes
abbrev pub too_large : Input → PlayFault
too_large Input.Cave =
    PlayFault.Cave (record { cause = Cause.TooLarge; line = 0; site = FaultSite.Database }) None
too_large Input.Bindings =
    PlayFault.Cave (record { cause = Cause.TooLarge; line = 0; site = FaultSite.Bindings }) None
too_large Input.Log = PlayFault.Log LogFault.TooLarge
too_large Input.NewLog = PlayFault.NewLog LogFault.TooLarge
too_large Input.Script = PlayFault.Script ScriptFault.TooLarge
too_large Input.Known = PlayFault.LargeKnown

-- the fault of so many bytes, if an input may not have them
abbrev pub if_large : PlayFault → ℕ → Option PlayFault
if_large found bytes = if nat_lt MAX_INPUT_BYTES bytes then Some found else None

abbrev pub input_size_fault : Input → List ℕ → Option PlayFault
input_size_fault from bytes = if_large (too_large from) (length bytes)

-- the fault of a run whose cave is refused: what is wrong, with what is known beyond that
abbrev pub cave_refusal : List ℕ → List ℕ → CaveError → PlayFault
cave_refusal database bindings error = PlayFault.Cave error (clue_of error database bindings)

abbrev pub inputs_fault : List ℕ → List ℕ → Option PlayFault
inputs_fault database bindings =
    option_map (cave_refusal database bindings) (cave_fault database bindings)

abbrev pub or_too_many : Option (ℕ × LineFault) → ℕ → Option PlayFault
or_too_many (Some (number, flaw)) count = Some (PlayFault.Log (LogFault.BadLine number flaw))
or_too_many None count =
    if nat_lt MAX_LOG_LINES count then Some (PlayFault.Log LogFault.Full) else None

unfoldable pub lines_fault : List (List ℕ) → Option PlayFault
lines_fault log = or_too_many (first_bad_line log 1) (length log)

unfoldable pub log_fault : List ℕ → Option PlayFault
log_fault bytes = option_or (input_size_fault Input.Log bytes) (lines_fault (lines bytes))

-- the fault of a run in which a session couldn't be opened
abbrev pub opening_fault : OpenFault → PlayFault
opening_fault OpenFault.BadEvery = PlayFault.Every
opening_fault (OpenFault.BadLine number flaw) = PlayFault.Log (LogFault.BadLine number flaw)
opening_fault OpenFault.LogFull = PlayFault.Log LogFault.Full
opening_fault OpenFault.BadSeed = PlayFault.Seed
opening_fault OpenFault.Memory = PlayFault.Memory

-- the fault of a run whose script was refused
abbrev pub script_refusal : ScriptRefusal → PlayFault
script_refusal (ScriptRefusal.Malformed line flaw) =
    PlayFault.Script (ScriptFault.Malformed line flaw)
script_refusal ScriptRefusal.Memory = PlayFault.Memory

unfoldable pub script_fault : Bool → List ℕ → Option PlayFault
script_fault guarded bytes = option_or (input_size_fault Input.Script bytes)
    (option_map script_refusal (result_err (script_by guarded bytes)))

-- ---- the fault of an output

-- the fault of an output of this many bytes: a log and a script may have as many as an input
abbrev pub size_fault : EditView → ℕ → Option PlayFault
size_fault EditView.Log bytes = if_large PlayFault.LargeLog bytes
size_fault EditView.Undo bytes = if_large PlayFault.LargeScript bytes
size_fault EditView.Guarded bytes = if_large PlayFault.LargeScript bytes
size_fault _ bytes = None

abbrev pub bytes_to_read : EditView → Bool → List Applied → Game → EndsOfLog → ℕ
bytes_to_read view guarded items game ends =
    length (printed_text (Some view) (ends_after_items items game ends)
    (text_to_read view guarded items game))

-- ---- stages

-- a stage of a run: the input that is read there, if one is, and the fault that is decided there
pub record Stage : Type 0 where
  pub reads : Option Input
  pub decides : Option PlayFault

abbrev pub reading_stage : Input → Option PlayFault → Stage
reading_stage input decides = record { reads = Some input; decides = decides }

abbrev pub judging_stage : Option PlayFault → Stage
judging_stage decides = record { reads = None; decides = decides }

abbrev pub first_decided : List Stage → Option PlayFault
first_decided [] = None
first_decided (stage ∷ stages) = option_or stage.decides (first_decided stages)

-- the database is read, then its bindings, and then both are judged
abbrev pub cave_stages : List ℕ → List ℕ → List Stage
cave_stages database bindings =
    reading_stage Input.Cave (input_size_fault Input.Cave database)
    ∷ reading_stage Input.Bindings (input_size_fault Input.Bindings bindings)
    ∷ judging_stage (inputs_fault database bindings)
    ∷ []

abbrev pub known_stage : List ℕ → Stage
known_stage known = reading_stage Input.Known (input_size_fault Input.Known known)

-- then the list of known doubts is read
abbrev pub doubts_stages : List ℕ → List ℕ → List ℕ → List Stage
doubts_stages database bindings known =
    cave_stages database bindings ++ known_stage known ∷ []

abbrev pub log_stage : List ℕ → Stage
log_stage log = reading_stage Input.Log (log_fault log)

abbrev pub script_stage : Bool → List ℕ → Stage
script_stage guarded script = reading_stage Input.Script (script_fault guarded script)

abbrev pub play_stages : List ℕ → List ℕ → List ℕ → ℕ → List Stage
play_stages database bindings log seed =
    judging_stage (large_seed seed) ∷ cave_stages database bindings ++ log_stage log ∷ []

-- what is decided of the items that the script spells, if it spells some
abbrev pub items_stage : (List Applied → Option PlayFault) → Bool → List ℕ → Stage
items_stage decides guarded script =
    judging_stage (option_and_then decides (result_ok (script_by guarded script)))

-- if the run is strict, the first item that is refused, each in the game that those before it left
abbrev pub strict_stage : Bool → Game → Bool → List ℕ → Stage
strict_stage strict game guarded script = items_stage
    (λ items. option_map PlayFault.Refused (ending_refusal strict items game)) guarded script

-- the size of what is printed, if a run may read it again
abbrev pub size_stage : List ℕ → List ℕ → Editing → Stage
size_stage log script editing = items_stage
    (λ items. size_fault editing.view (bytes_to_read editing.view editing.guarded items
    (game_of editing.seed (lines log)) (log_ends log script))) editing.guarded script

-- first the seed is judged, then the distance of checkpoints, the cave, the log, the script, its
-- items, and last the size of what is printed
abbrev pub edit_stages : List ℕ → List ℕ → List ℕ → List ℕ → Editing → List Stage
edit_stages database bindings log script editing =
    judging_stage (large_seed editing.seed) ∷ judging_stage (every_fault editing.every)
    ∷ cave_stages database bindings
    ++ log_stage log ∷ script_stage editing.guarded script
    ∷ strict_stage editing.strict (game_of editing.seed (lines log)) editing.guarded script
    ∷ size_stage log script editing ∷ []

-- ---- where a fault is found

-- no bytes decide the fault: the reading of the input failed, or memory was refused
abbrev pub IsOutsideOf : Option Input → PlayFault → Type 0
IsOutsideOf reads (PlayFault.Read from) = reads ≡ Some from
IsOutsideOf reads PlayFault.Memory = ⊤
IsOutsideOf reads _ = ⊥

abbrev pub IsFoundAt : Stage → PlayFault → Type 0
IsFoundAt stage found = IsOutsideOf stage.reads found ⊎ (stage.decides ≡ Some found)

-- the fault is found at a stage before which none decides a fault; after the last, memory may run
-- out
abbrev pub IsFoundIn : List Stage → PlayFault → Type 0
IsFoundIn [] found = found ≡ PlayFault.Memory
IsFoundIn (stage ∷ stages) found =
    IsFoundAt stage found ⊎ ((stage.decides ≡ None) × IsFoundIn stages found)

-- if the stages decide no fault, what was made is right, and otherwise the fault is found in them
abbrev pub Judges : {X : Type 0} → List Stage → (X → Type 0) → Result X PlayFault → Type 0
Judges stages P (Ok made) = (first_decided stages ≡ None) × P made
Judges stages P (Err found) = IsFoundIn stages found

-- ---- what a run leaves

-- what was made was written, and what is found with it is returned; or the writer failed, which the
-- fault says, and a prefix of it was; or nothing was made, and nothing is written
abbrev pub Writes : {A F : Type 0} → (F → Type 0) → Result (Reported A) F → Option (List ℕ)
    → Option (List ℕ) → Result A F → Type 0
Writes IsUnwritten (Ok made) old new ended = MatchResult ended
    (λ found. (found ≡ made.found) × Appends old new made.text.items)
    (λ found. IsUnwritten found × ((n : ℕ) × Appends old new (take n made.text.items)))
Writes IsUnwritten (Err found) old new ended = (ended ≡ Err found) × Keeps old new

-- what a run leaves whose writer may fail with this fault: what it makes was written
abbrev pub Leaves : {A F : Type 0} → F → (Result (Reported A) F → Type 0) → Option (List ℕ)
    → Option (List ℕ) → Result A F → Type 0
Leaves {A} {F} unwritten IsMade old new ended = (made : Result (Reported A) F) × IsMade made
    × Writes (λ found. found ≡ unwritten) made old new ended

-- what a run leaves that returns something: if its stages decide no fault, an output that is right
-- with that
abbrev pub RunsWith : {A : Type 0} → List Stage → (A → List ℕ → Type 0)
    → Option (List ℕ) → Option (List ℕ) → Result A PlayFault → Type 0
RunsWith stages IsOutput old new ended = Leaves PlayFault.Write
    (Judges stages (λ made. IsOutput made.found made.text.items)) old new ended

-- the same of a run that returns nothing
abbrev pub Runs : List Stage → (List ℕ → Type 0)
    → Option (List ℕ) → Option (List ℕ) → Result (Unit {0}) PlayFault → Type 0
Runs stages IsOutput old new ended = RunsWith stages (λ _. IsOutput) old new ended

-- at most one output is right
abbrev pub AtMostOne : (List ℕ → Type 0) → Type 0
AtMostOne IsOutput = (one other : List ℕ) → IsOutput one → IsOutput other → one ≡ other
