-- The bytes of the inputs of a run, and what is known of them before they are read.
use Rattle.std.specs.Prelude.{◌≡◌, ℕ, ⊤, List, Option, None, Some, ◌⊎◌, ◌<◌, ◌≤◌, false, length}
use Rattle.std.specs.Prelude.{MatchResult, Result, [], ◌∷◌, drop, map, if◌then◌else◌}
use Rattle.cave_play.specs.declared.inputs.CaveReaders.{CaveReaders}
use Rattle.cave_play.specs.declared.inputs.Inputs.{Inputs}
use Rattle.cave_play.specs.declared.inputs.OneLog.{OneLog}
use Rattle.cave_play.specs.declared.fault.PlayFault.{PlayFault}
use Rattle.cave_play.specs.declared.inputs.Readers.{Readers}
use Rattle.std.specs.Global.{Vec}
use Rattle.base_lines.specs.Limits.{MAX_INPUT_BYTES}
use Rattle.cave_play.specs.Stages.{too_large, IsOutsideOf}
use Rattle.play_command.specs.declared.line.Input.{Input}

-- the bytes are those that a reader is known to have left, if that is known
abbrev pub Says : Option (List ℕ) → List ℕ → Type 0
Says None bytes = ⊤
Says (Some known) bytes = bytes ≡ known

-- the bytes of each input
pub record InputTexts : Type 0 where
  pub database : List ℕ
  pub bindings : List ℕ
  pub log : List ℕ
  pub new_log : List ℕ
  pub script : List ℕ
  pub known : List ℕ

-- a reading failed, or the input is too large
abbrev pub IsUnread : Input → List ℕ → PlayFault → Type 0
IsUnread from bytes found =
    IsOutsideOf (Some from) found ⊎ ((MAX_INPUT_BYTES < length bytes) × (found ≡ too_large from))

-- what a reading of an input returns that is known to have these bytes
abbrev pub IsReading : Option (List ℕ) → Input → Result (Vec ℕ) PlayFault → Type 0
IsReading known from result = (bytes : List ℕ) × Says known bytes
    × MatchResult result (λ text. (text.items ≡ bytes) × (length bytes ≤ MAX_INPUT_BYTES))
    (IsUnread from bytes)

-- the bytes of each input that wasn't read, if they are known; the logs come one after another, and
-- a run has at most one of the last three
pub record Held : Type 0 where
  pub cave : Option (List ℕ)
  pub bindings : Option (List ℕ)
  pub logs : List (Option (List ℕ))
  pub new_log : Option (List ℕ)
  pub script : Option (List ℕ)
  pub known : Option (List ℕ)

-- nothing is known of a log after the last
abbrev pub next_log : List (Option (List ℕ)) → Option (List ℕ)
next_log [] = None
next_log (log ∷ logs) = log

abbrev pub held_for : Input → Held → Option (List ℕ)
held_for Input.Cave held = held.cave
held_for Input.Bindings held = held.bindings
held_for Input.Log held = next_log held.logs
held_for Input.NewLog held = held.new_log
held_for Input.Script held = held.script
held_for Input.Known held = held.known

-- ---- one reading

-- what is known of all inputs but this one
abbrev pub without : Input → Held → Held
without Input.Cave held = record held { cave = None }
without Input.Bindings held = record held { bindings = None }
without Input.Log held = record held { logs = [] }
without _ held = record held { new_log = None; script = None; known = None }

-- an input was read: what is known of the others is as before, and the logs after the first come
-- next
abbrev pub logs_after : Input → Held → List (Option (List ℕ))
logs_after Input.Log held = drop 1 held.logs
logs_after _ held = held.logs

pub record IsTaken (from : Input) (old new : Held) : Type 0 where
  pub others : without from new ≡ without from old
  pub logs : new.logs ≡ logs_after from old

-- ---- a run

-- what is known of all inputs but those of a cave
abbrev pub without_cave : Held → Held
without_cave held = record held { cave = None; bindings = None }

-- the texts are those that the inputs are known to have, if that is known
pub record AreHeld (held : Held) (texts : InputTexts) : Type 0 where
  pub database : Says held.cave texts.database
  pub bindings : Says held.bindings texts.bindings
  pub log : Says (next_log held.logs) texts.log
  pub new_log : Says held.new_log texts.new_log
  pub script : Says held.script texts.script
  pub known : Says held.known texts.known

-- inputs were read, one after another
abbrev pub AreRead : {I : Type 0} → (Input → I → I → Type 0) → List Input → I → I → Type 0
AreRead reads [] old new = new ≡ old
AreRead {I} reads (input ∷ inputs) old new =
    (next : I) × reads input old next × AreRead reads inputs next new

-- nothing was done but that some inputs were read
abbrev pub Leads : {I : Type 0} → (Input → I → I → Type 0) → I → I → Type 0
Leads reads old new = (inputs : List Input) × AreRead reads inputs old new

-- ---- readers

-- these are readers of a cave, logs and a script, before anything is read
pub record AreReadersOf {C B L S : Type 0} (cave : CaveReaders C B) (logs : List L) (script : S)
    (readers : Readers C B L S) : Type 0 where
  pub cave_is : readers.cave.now ≡ cave
  pub logs_are : readers.logs.now ≡ logs
  pub script_is : readers.script.now ≡ script
  pub unread : readers.read ≡ 0

-- and these of one log
abbrev pub IsOneLogOf : {C B L S : Type 0} → Inputs C B L S → OneLog C B L S → Type 0
IsOneLogOf inputs readers = (readers.inputs.now ≡ inputs) × (readers.is_read ≡ false)

-- what they have, if these functions say what one has left
module _ {C B L S : Type 0} (left_database : C → Option (List ℕ))
    (left_bindings : B → Option (List ℕ)) (left_log : L → Option (List ℕ))
    (left_script : S → Option (List ℕ)) where
  abbrev pub held_of : CaveReaders C B → List L → S → Held
  held_of cave logs script = record {
    cave = left_database cave.database;
    bindings = left_bindings cave.bindings;
    logs = map left_log logs;
    new_log = left_script script;
    script = left_script script;
    known = left_script script;
  }

  abbrev pub held_by : Readers C B L S → Held
  held_by readers =
      held_of readers.cave.now (drop readers.read readers.logs.now) readers.script.now

  abbrev pub held_by_one : OneLog C B L S → Held
  held_by_one readers = let inputs = readers.inputs.now in
      held_of inputs.cave (if readers.is_read then [] else inputs.log ∷ []) inputs.script

  -- the texts are those that the readers of the inputs are known to have left, if that is known
  abbrev pub AreTextsOf : Inputs C B L S → InputTexts → Type 0
  AreTextsOf inputs texts =
      AreHeld (held_of inputs.cave (inputs.log ∷ []) inputs.script) texts
