-- The first fault of an edit, and of a group of edits.
use Rattle.std.specs.Prelude.{◌≡◌, ℕ, ◌+◌, ◌-◌, ◌^◌, not, nat_lt, nat_le, if◌then◌else◌, List, []}
use Rattle.std.specs.Prelude.{◌∷◌, length, Option, None, Some, MatchOption, IfErr, Result, Err}
use Rattle.std.specs.Prelude.{MatchResult, ◌++◌, codes}
use Rattle.std.specs.Fmt.{decimal}
use Rattle.base_lines.specs.Line.{flaw_of, is_line, line_fault_text}
use Rattle.replay_edits.specs.declared.fault.EditFault.{EditFault}
use Rattle.replay_edits.specs.declared.fault.EditFault.TheVariants.{NoSuchPlace, BadLine, LogFull}
use Rattle.replay_edits.specs.declared.fault.EditFault.TheVariants.{BadSeed, MeterFull, EmptyGroup}
use Rattle.replay_edits.specs.declared.fault.EditFault.TheVariants.{Memory}
use Rattle.replay_edits.specs.declared.fault.GroupFault.{GroupFault}
use Rattle.base_lines.specs.Limits.{MAX_LOG_LINES, MAX_SEED}
use Rattle.replay_edits.specs.Edit.{Game, Change, inserts, deletes, replaces, reseeds, log_after}
use Rattle.replay_edits.specs.Edit.{apply_all, inverses_of, margins_of}
use Rattle.replay_edits.specs.declared.plan.Plan.{Plan}

-- what is said of a fault
abbrev pub edit_fault_text : EditFault → List ℕ
edit_fault_text (NoSuchPlace lines) = codes "no such line: the log has " ++ decimal lines
edit_fault_text (BadLine flaw) = codes "a bad line: " ++ line_fault_text flaw
edit_fault_text LogFull = codes "a full log: a log has at most 65,535 lines"
edit_fault_text BadSeed = codes "a bad seed: a seed is at most 2147483647"
edit_fault_text MeterFull =
    codes "a full meter: it has fewer steps left than the log would have lines"
edit_fault_text Memory = codes "there isn't enough memory"
edit_fault_text EmptyGroup = codes "an empty group: it has no edit"

abbrev pub replaced_fault : List ℕ → Option EditFault
replaced_fault line = if is_line line then None else Some (BadLine (flaw_of line))

-- the first fault of a line that is added to a log
abbrev pub added_fault : List ℕ → List (List ℕ) → Option EditFault
added_fault line log =
    if not (is_line line) then Some (BadLine (flaw_of line))
    else (if nat_le MAX_LOG_LINES (length log) then Some LogFull else None)

-- the first fault that a change meets in a log, if memory and the meter suffice
abbrev pub fault_of : Change → List (List ℕ) → Option EditFault
fault_of (inserts place line) log =
    if nat_lt (length log) place then Some (NoSuchPlace (length log)) else added_fault line log
fault_of (deletes place) log =
    if nat_le (length log) place then Some (NoSuchPlace (length log)) else None
fault_of (replaces place line) log =
    if nat_le (length log) place then Some (NoSuchPlace (length log)) else replaced_fault line
fault_of (reseeds seed) log = if nat_lt MAX_SEED seed then Some BadSeed else None

-- a fault, with the number of the change that met it, or otherwise the fault of a later one
abbrev pub first_of_two : Option EditFault → ℕ → Option GroupFault → Option GroupFault
first_of_two (Some cause) number later = Some (record { cause = cause; at = number })
first_of_two None number later = later

-- the first fault that one of several changes meets in the log that those before it left; they are
-- numbered from `number` on
abbrev pub fault_of_all : List Change → List (List ℕ) → ℕ → Option GroupFault
fault_of_all [] log number = None
fault_of_all (change ∷ changes) log number =
    first_of_two (fault_of change log) number
    (fault_of_all changes (log_after change log) (number + 1))

abbrev pub log_after_all : List Change → List (List ℕ) → List (List ℕ)
log_after_all [] log = log
log_after_all (change ∷ changes) log = log_after_all changes (log_after change log)

-- the fault of a group, if one was found, or otherwise that the meter has no room for the new log
abbrev pub or_group_meter_full : Option GroupFault → List (List ℕ) → ℕ → Option GroupFault
or_group_meter_full (Some fault) log left = Some fault
or_group_meter_full None log left =
    if nat_lt left (length log) then Some (record { cause = MeterFull; at = 0 }) else None

-- the fault of a group of changes of a log if the meter has this many steps left, and memory
-- suffices
abbrev pub group_fault : List Change → List (List ℕ) → ℕ → Option GroupFault
group_fault [] log left = Some (record { cause = EmptyGroup; at = 0 })
group_fault (change ∷ changes) log left =
    or_group_meter_full (fault_of_all (change ∷ changes) log 0)
    (log_after_all (change ∷ changes) log)
    left

-- A result is this fault, if there is one; otherwise it is an error only if memory runs out.
abbrev pub IsFaultOr : {A F : Type 0} → F → Option F → Result A F → Type 0
IsFaultOr memory fault result =
    MatchOption fault (IfErr result (λ refused. refused ≡ memory)) (λ found. result ≡ Err found)

-- a group of edits is refused for this fault, if there is one
abbrev pub IsAnswerTo : {A : Type 0} → Option GroupFault → Result A GroupFault → Type 0
IsAnswerTo fault result = IsFaultOr (record { cause = Memory; at = 0 }) fault result

-- Changes take back others that were made in the game `old`: they are the inverses of these, meet
-- no fault in the game `new`, and give the old one.
pub record TakesBack (inverse changes : List Change) (old new : Game) : Type 0 where
  pub inverses : inverse ≡ inverses_of changes old
  pub accepted : fault_of_all inverse new.log 0 ≡ None
  pub back : apply_all inverse new ≡ old

-- how many steps a meter that has counted this many has left: it counts in 64 bits
abbrev pub steps_left : ℕ → ℕ
steps_left count = 2 ^ 64 - 1 - count

-- the fault of one edit, if one was found, or otherwise that the meter has no room for the new log
abbrev pub or_edit_meter_full : Option EditFault → List (List ℕ) → ℕ → Option EditFault
or_edit_meter_full (Some fault) log left = Some fault
or_edit_meter_full None log left = if nat_lt left (length log) then Some MeterFull else None

-- the fault of one change of a log if the meter has this many steps left, and memory suffices
abbrev pub edit_fault : Change → List (List ℕ) → ℕ → Option EditFault
edit_fault change log left = or_edit_meter_full (fault_of change log) (log_after change log) left

pub record HasLinesAfter (change : Change) (log : List (List ℕ)) (lines : ℕ) : Type 0 where
  pub free : fault_of change log ≡ None
  pub lines_are : lines ≡ length (log_after change log)

abbrev pub IsLinesOrFault : Change → List (List ℕ) → Result ℕ EditFault → Type 0
IsLinesOrFault change log result =
    MatchResult result (HasLinesAfter change log) (λ fault. fault_of change log ≡ Some fault)

-- what changes do to a log, if this is their fault: none
pub record IsPlan (changes : List Change) (log : List (List ℕ)) (fault : Option GroupFault)
    (plan : Plan) : Type 0 where
  pub free : fault ≡ None
  pub lines : plan.lines ≡ length (log_after_all changes log)
  pub margins : plan.margins ≡ margins_of changes log

abbrev pub IsPlanOrFault : List Change → List (List ℕ) → Option GroupFault
    → Result Plan GroupFault → Type 0
IsPlanOrFault changes log fault result =
    MatchResult result (IsPlan changes log fault) (λ found. fault ≡ Some found)
