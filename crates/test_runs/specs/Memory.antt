-- The files of a system in memory, and the calls that it keeps.
use Rattle.std.specs.Prelude.{ℕ, List, map, Option, None, Some, option_map, string_bytes, codes}
use Rattle.std.specs.Prelude.{bytes_eq, if◌then◌else◌}
use Rattle.play_program.specs.Calls.{Call, Told}
use Rattle.play_program.specs.Calls.Call.{Opens, Puts, Tells}
use Rattle.play_program.specs.Calls.Told.{faulty, misused, unopened, unprinted, unread, headed}
use Rattle.play_program.specs.Calls.Told.{unwritten, clashing, reseeded}
use Rattle.test_runs.specs.declared.calls.KeptCall.{KeptCall}
use Rattle.test_runs.specs.declared.calls.KeptMessage.{KeptMessage}
use Rattle.test_runs.specs.declared.calls.MemoryFile.{MemoryFile}
use Rattle.test_runs.specs.declared.calls.MemoryFile.TheVariants.{Cave, Log, Script}

-- what a message that was kept reports
abbrev pub told_by : KeptMessage → Told
told_by (KeptMessage.Fault fault file) = faulty fault (option_map string_bytes file)
told_by (KeptMessage.Unopened file reason) = unopened (string_bytes file) reason
told_by (KeptMessage.Unwritten file reason) = unwritten (string_bytes file) reason
told_by (KeptMessage.Unprinted reason) = unprinted reason
told_by (KeptMessage.Usage before after) = misused (string_bytes before) (string_bytes after)
told_by (KeptMessage.Unread reason) = unread reason
told_by (KeptMessage.Head log option text) = headed (string_bytes log) option.now text.items
told_by (KeptMessage.Clash file view) = clashing (string_bytes file) (option_map string_bytes view)
told_by (KeptMessage.Reseeded seed) = reseeded seed

-- which call was kept
abbrev pub call_by : KeptCall → Call
call_by (KeptCall.Opens file) = Opens (string_bytes file)
call_by (KeptCall.Puts file bytes failed) = Puts (string_bytes file) bytes.items failed
call_by (KeptCall.Tells message) = Tells (told_by message)

-- the calls that were kept, in order
abbrev pub calls_by : List KeptCall → List Call
calls_by all = map call_by all

-- the file of a name, if there is one
abbrev pub file_named : List ℕ → Option MemoryFile
file_named name =
    if bytes_eq name (codes "cave") then Some Cave
    else (if bytes_eq name (codes "log") then Some Log
    else (if bytes_eq name (codes "script") then Some Script else None))

-- the bytes of a file, if there is one
abbrev pub bytes_at : List ℕ → List ℕ → List ℕ → Option MemoryFile → Option (List ℕ)
bytes_at cave log script (Some Cave) = Some cave
bytes_at cave log script (Some Log) = Some log
bytes_at cave log script (Some Script) = Some script
bytes_at cave log script None = None
