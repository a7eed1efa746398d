-- Why an item of a script is refused.
use Rattle.std.specs.Prelude.{◌≡◌, ◌<◌, ◌≤◌, ℕ, ◌+◌, ◌-◌, ◌^◌, ◌++◌, nat_le, nat_lt, List, [], ◌∷◌}
use Rattle.std.specs.Prelude.{length, take, replicate, bytes_eq, Option, None, Some, option_map}
use Rattle.std.specs.Prelude.{is_none, slice_get, if◌then◌else◌}
use Rattle.std.specs.Option.{option_or}
use Rattle.base_lines.specs.Line.{is_line}
use Rattle.replay_edits.specs.Draft.{edits_in, log_before, made_in}
use Rattle.replay_edits.specs.Edit.{Change, changes_of, log_of}
use Rattle.replay_edits.specs.declared.draft.Draft.{Draft}
use Rattle.replay_edits.specs.Faults.{fault_of_all, group_fault, log_after_all}
use Rattle.replay_edits.specs.declared.fault.EditFault.{EditFault}
use Rattle.replay_edits.specs.declared.fault.GroupFault.{GroupFault}
use Rattle.replay_scripts.specs.Script.{Applied, Expectation, line_of_refusal}
use Rattle.play_edits.specs.declared.refusal.LineCopy.{LineCopy}
use Rattle.play_edits.specs.declared.refusal.ExpectedLine.{ExpectedLine}
use Rattle.play_edits.specs.declared.refusal.ExpectedLine.TheVariants.{At, Impossible, Nowhere}
use Rattle.play_edits.specs.declared.refusal.Refusal.{Refusal}
use Rattle.play_edits.specs.declared.refusal.Refusal.TheVariants.{Edit, NoLine, OtherLine}

-- ---- a line that is kept

-- how many bytes of a line are kept: the most that a line of a log may have
abbrev pub MAX_KEPT : ℕ
MAX_KEPT = 255

-- the text, filled up with zeros
abbrev pub filled : List ℕ → List ℕ
filled text = text ++ replicate (MAX_KEPT - length text) 0

abbrev pub line_copy : List ℕ → LineCopy
line_copy line =
    record { bytes = filled (take MAX_KEPT line); len = length (take MAX_KEPT line) }

abbrev pub shown_copy : LineCopy → List ℕ
shown_copy kept = take kept.len kept.bytes

-- ---- the number of a refusal

abbrev pub edit_number : EditFault → ℕ
edit_number (EditFault.NoSuchPlace lines) = 1
edit_number (EditFault.BadLine flaw) = 2
edit_number EditFault.LogFull = 3
edit_number EditFault.BadSeed = 4
edit_number EditFault.MeterFull = 5
edit_number EditFault.Memory = 6
edit_number EditFault.EmptyGroup = 7

-- the number by which a report names a refusal
abbrev pub refusal_number : Refusal → ℕ
refusal_number (Edit at fault) = edit_number fault
refusal_number (NoLine at lines expected) = 8
refusal_number (OtherLine at line expected) = 8

-- the line of the script that reports name for it
abbrev pub refusal_line : Refusal → ℕ
refusal_line (Edit at fault) = at
refusal_line (NoLine at lines expected) = at
refusal_line (OtherLine at line expected) = at

-- ---- where the log has an expected line

abbrev pub distance : ℕ → ℕ → ℕ
distance one other = (one - other) + (other - one)

-- of a place that was found, if one was, and a later one, the one nearer to `place`; of two that
-- are as near, the first
abbrev pub nearer : ℕ → Option ℕ → ℕ → Option ℕ
nearer place None later = Some later
nearer place (Some found) later =
    if nat_lt (distance later place) (distance found place) then Some later else Some found

-- the place that is found after a line at a place, if this one was found before it
abbrev pub found_with : ℕ → List ℕ → Option ℕ → ℕ → List ℕ → Option ℕ
found_with place text found at line =
    if bytes_eq line text then nearer place found at else found

-- the place nearest to `place` at which lines have this text, if the first of them is at `at`, and
-- this place was found before it
abbrev pub nearest_from : ℕ → List ℕ → ℕ → Option ℕ → List (List ℕ) → Option ℕ
nearest_from place text at found [] = found
nearest_from place text at found (line ∷ lines) =
    nearest_from place text (at + 1) (found_with place text found at line) lines

abbrev pub nearest : ℕ → List ℕ → List (List ℕ) → Option ℕ
nearest place text log = nearest_from place text 0 None log

-- A log has this text at the place `found`. Each other place that has it is farther from `place`, or
-- as far and later.
pub record IsNearestAt (place : ℕ) (text : List ℕ) (log : List (List ℕ)) (found : ℕ)
    : Type 0 where
  pub there : slice_get log found ≡ Some text
  pub closest : (at : ℕ) → slice_get log at ≡ Some text → distance found place ≤ distance at place
  pub first : (at : ℕ) → slice_get log at ≡ Some text → at < found
      → distance found place < distance at place

-- no place of a log has this text
abbrev pub IsNowhere : List ℕ → List (List ℕ) → Type 0
IsNowhere text log = (at : ℕ) → ¬ (slice_get log at ≡ Some text)

-- the place nearest to `place` at which a log has this text, or none if no place has it
abbrev pub IsNearest : ℕ → List ℕ → List (List ℕ) → Option ℕ → Type 0
IsNearest place text log None = IsNowhere text log
IsNearest place text log (Some found) = IsNearestAt place text log found

-- what a log may have, by the place where it has it
abbrev pub expected_by : List ℕ → Option ℕ → ExpectedLine
expected_by text None = Nowhere (line_copy text)
expected_by text (Some at) = At (line_copy text) at

-- the line that a guard expects, with the place nearest to the guard's where the log has it
unfoldable pub expected_line : Expectation → List (List ℕ) → ExpectedLine
expected_line guard log =
    if is_line guard.text then expected_by guard.text (nearest guard.place guard.text log)
    else Impossible

-- ---- what is refused

-- why the changes of an item are refused as a group, if they are, while the meter has counted no
-- step yet
unfoldable pub group_refusal : List Change → List (List ℕ) → Option GroupFault
group_refusal changes log = group_fault changes log (2 ^ 64 - 1)

-- an item is refused for a fault of one of its changes
abbrev pub edit_refusal : Applied → GroupFault → Refusal
edit_refusal item fault = Edit (line_of_refusal item fault.at) fault.cause

-- why a guard is refused if the log that it is about has this many lines, and this line at its
-- place, or none
abbrev pub other_line : Expectation → ExpectedLine → ℕ → Option (List ℕ) → Option Refusal
other_line guard expected lines None = Some (NoLine guard.line lines expected)
other_line guard expected lines (Some line) =
    if bytes_eq line guard.text then None
    else Some (OtherLine guard.line (line_copy line) expected)

abbrev pub other_line_in : Expectation → List (List ℕ) → Option Refusal
other_line_in guard log =
    other_line guard (expected_line guard log) (length log) (slice_get log guard.place)

-- a guard is about the log that the changes before it leave, if none of them is refused
abbrev pub unmet_after : List Change → Expectation → List (List ℕ) → Option Refusal
unmet_after before guard log =
    if is_none (fault_of_all before log 0)
    then other_line_in guard (log_after_all before log) else None

unfoldable pub unmet : List Change → Expectation → List (List ℕ) → Option Refusal
unmet changes guard log = unmet_after (take guard.after changes) guard log

-- the log that a draft has in the course of its edits
abbrev pub log_in : Draft → List (List ℕ)
log_in draft = log_after_all (take (made_in draft) (changes_of (edits_in draft)))
    (log_of (log_before draft))

-- this many of the changes are made in a log before one is refused
pub record IsFreeCount (changes : List Change) (log : List (List ℕ)) (count : ℕ) : Type 0 where
  pub within : count ≤ length changes
  pub tells : (k : ℕ) → k ≤ length changes
      → is_none (fault_of_all (take k changes) log 0) ≡ nat_le k count

-- the first guard among the changes that the log doesn't meet
abbrev pub first_unmet : List Change → List Expectation → List (List ℕ) → Option Refusal
first_unmet changes [] log = None
first_unmet changes (guard ∷ guards) log =
    option_or (unmet changes guard log) (first_unmet changes guards log)

-- why an item is refused, if it is: for a guard that the log doesn't meet, or for its changes
unfoldable pub item_refusal : Applied → List (List ℕ) → Option Refusal
item_refusal item log =
    option_or (first_unmet item.changes item.guards log)
    (option_map (edit_refusal item) (group_refusal item.changes log))
