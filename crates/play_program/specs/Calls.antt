-- What the program asks of its system, what it says, and with which status it ends.
use Rattle.std.specs.Prelude.{◌≡◌, ℕ, Bool, true, false, List, [], ◌∷◌, ◌++◌, Option, None, Some}
use Rattle.std.specs.Prelude.{⊤, Result, if◌then◌else◌, option_map}
use Rattle.std.specs.IoError.{error_kind}
use Rattle.std.specs.Result.{result_map_both}
use Rattle.std.specs.declared.io.Error.{Error}
use Rattle.std.specs.declared.io.ErrorKind.{ErrorKind}
use Rattle.cave_play.specs.Fault.{status_of}
use Rattle.cave_play.specs.declared.fault.PlayFault.{PlayFault}
use Rattle.play_program.specs.declared.message.Message.{Message}

-- ---- what is said

-- what a message reports: a fault and the file that it is about; a file that can't be opened or
-- written, and an output that can't be written, with the system's reason; what is wrong with the
-- words, in two parts, or why they can't be read; what the head of a log says, and the words don't:
-- the log, the option and its text; a file that is read, over which the output may not go, with the
-- view that may; and a seed that edits set and their log doesn't hold
pub data Told : Type 0 where
  faulty : PlayFault → Option (List ℕ) → Told
  unopened : List ℕ → Error → Told
  unwritten : List ℕ → Error → Told
  unprinted : Error → Told
  misused : List ℕ → List ℕ → Told
  unread : Error → Told
  headed : List ℕ → List ℕ → List ℕ → Told
  clashing : List ℕ → Option (List ℕ) → Told
  reseeded : ℕ → Told

-- what a message reports, regardless of where its names are borrowed from
abbrev pub told_of : Message → Told
told_of (Message.Fault found file) = faulty found (option_map (λ s. s.now) file)
told_of (Message.Unopened file reason) = unopened file.now reason
told_of (Message.Unwritten file reason) = unwritten file.now reason
told_of (Message.Unprinted reason) = unprinted reason
told_of (Message.Usage before after) = misused before.now after.now
told_of (Message.Unread reason) = unread reason
told_of (Message.Head log said) = headed log.now said.option.now said.text.now
told_of (Message.Clash file view) = clashing file.now (option_map (λ s. s.now) view)
told_of (Message.Reseeded seed) = reseeded seed

-- what a message reports of what wasn't done
abbrev pub told_by : {A : Type 0} → Result A Message → Result A Told
told_by done = result_map_both (λ is. is) told_of done

abbrev pub out_of_memory : Told
out_of_memory = faulty PlayFault.Memory None

-- the status of a program that ends with this; a notice ends none
abbrev pub status_told : Told → ℕ
status_told (faulty found file) = status_of found
status_told (unopened file reason) = 5
status_told (unwritten file reason) = 6
status_told (unprinted reason) = 6
status_told (headed log option text) = 0
status_told (reseeded seed) = 0
status_told _ = 2

-- nobody reads any more what is written
abbrev pub is_closed_pipe : ErrorKind → Bool
is_closed_pipe ErrorKind.BrokenPipe = true
is_closed_pipe _ = false

abbrev pub is_no_memory : ErrorKind → Bool
is_no_memory ErrorKind.OutOfMemory = true
is_no_memory _ = false

-- nothing is said about an output that nobody reads any more
abbrev pub is_silent : Told → Bool
is_silent (unprinted reason) = is_closed_pipe (error_kind reason)
is_silent _ = false

-- ---- what is asked

-- one call of the system: a file is opened; bytes are put into a file, or aren't, for this reason;
-- or something is reported
pub data Call : Type 0 where
  Opens : List ℕ → Call
  Puts : List ℕ → List ℕ → Option Error → Call
  Tells : Told → Call

-- what is known of a system: the calls that it got, the bytes of the file of a name, and whether
-- two names are of one file
abbrev pub Calls : Type 0
Calls = Option (List Call)

abbrev pub BytesOf : Type 0
BytesOf = List ℕ → Option (List ℕ)

abbrev pub OneFile : Type 0
OneFile = List ℕ → List ℕ → Option Bool

-- the known calls, followed by these
abbrev pub and_then : Calls → List Call → Calls
and_then known more = option_map (λ calls. calls ++ more) known

-- so the program ends: this is said, unless nothing is to be said about it, and nothing else is asked
abbrev pub EndsTold : Told → Calls → Calls → ℕ → Type 0
EndsTold said calls called status = (status ≡ status_told said)
    × (called ≡ (if is_silent said then calls else and_then calls (Tells said ∷ [])))

-- ---- a file that is replaced

-- if the bytes of a file are known, those of it, or of its draft, become these
abbrev pub Becomes : Option (List ℕ) → Option (List ℕ) → Option (List ℕ) → Type 0
Becomes None new made = ⊤
Becomes (Some old) new made = new ≡ made
