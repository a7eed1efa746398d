-- The files of a run as its inputs: which are opened before it, what they have, and what is asked of
-- the system to read them.
use Rattle.std.specs.Prelude.{◌≡◌, ◌⊎◌, ◌&&◌, ℕ, Bool, true, not, List, [], ◌∷◌, ◌++◌, map, Option}
use Rattle.std.specs.Prelude.{None, Some, Result, Ok, Err, if◌then◌else◌, is_some, ◌||◌, option_map}
use Rattle.std.specs.Prelude.{string_bytes, unwrap_or}
use Rattle.std.specs.List.{filter, flat_map}
use Rattle.std.specs.Option.{option_map_or}
use Rattle.std.specs.declared.io.Error.{Error}
use Rattle.cave_play.specs.Sources.{Says, Held}
use Rattle.play_command.specs.declared.line.Input.{Input}
use Rattle.play_command.specs.declared.line.Request.{Request}
use Rattle.play_command.specs.declared.line.What.{What}
use Rattle.play_program.specs.Calls.{BytesOf, Call, Calls, Told, and_then, out_of_memory}
use Rattle.play_program.specs.Calls.Call.{Opens, Tells}
use Rattle.play_program.specs.Calls.Told.{headed, unopened}
use Rattle.play_program.specs.Files.{FileName, files_in, is_same_input}
use Rattle.play_program.specs.Head.{head_notice}
use Rattle.play_program.specs.declared.sources.Files.{Files}
use Rattle.play_program.specs.declared.sources.WaitingFile.{WaitingFile}

-- ---- opening

-- a file of an input is opened before the run, unless it is one of several logs
abbrev pub is_first : What → Input → Bool
is_first (What.Cover seed view strict) from = not (is_same_input from Input.Log)
is_first (What.Map seed part) from = not (is_same_input from Input.Log)
is_first _ from = true

-- the calls that open files before the run, one after another
abbrev pub opening : What → List FileName → List Call
opening what files =
    flat_map (λ file. if is_first what file.0 then Opens file.1 ∷ [] else []) files

-- the files up to this one were opened, and it can't be opened, or memory ran out there
abbrev pub Stops : What → List FileName → Calls → Calls → Told → Type 0
Stops what files old new said =
    (before : List FileName) × (last : FileName) × (after : List FileName)
    × (files ≡ before ++ last ∷ after)
    × (new ≡ and_then old (opening what (before ++ last ∷ [])))
    × ((said ≡ out_of_memory)
    ⊎ ((is_first what last.0 ≡ true) × ((reason : Error) × (said ≡ unopened last.1 reason))))

-- the files were opened in their order: all of them, or none after one that couldn't be opened
abbrev pub Opened : {X : Type 0} → What → List FileName → Calls → Calls → Result X Told → Type 0
Opened what files old new (Ok opened) = new ≡ and_then old (opening what files)
Opened what files old new (Err said) = Stops what files old new said

-- ---- what the files have

-- a file that is still to be read, its bytes, if they are known, and whether it is open
pub record Entry : Type 0 where
  pub file : FileName
  pub known : Option (List ℕ)
  pub is_open : Bool

abbrev pub waiting_entry : {F : Type 0} → BytesOf → (F → Option (List ℕ)) → WaitingFile F → Entry
waiting_entry bytes_of left waiting = record {
  file = (waiting.input, waiting.name.now);
  known = option_map_or left waiting.file (bytes_of waiting.name.now);
  is_open = is_some waiting.file;
}

-- before the run
abbrev pub entry_of : What → BytesOf → FileName → Entry
entry_of what bytes_of file =
    record { file = file; known = bytes_of file.1; is_open = is_first what file.0 }

abbrev pub entries_by : BytesOf → Request → List Entry
entries_by bytes_of request = map (entry_of request.what bytes_of) (files_in request)

-- the files of an input, and the first of some files
abbrev pub of_input : Input → List Entry → List Entry
of_input from entries = filter (λ entry. is_same_input entry.file.0 from) entries

abbrev pub first_among : List Entry → Option Entry
first_among [] = None
first_among (entry ∷ entries) = Some entry

-- the files without the first one of an input
abbrev pub without_first : Input → List Entry → List Entry
without_first from [] = []
without_first from (entry ∷ entries) =
    if is_same_input entry.file.0 from then entries else entry ∷ without_first from entries

-- the first file of an input was taken out, if there is one
abbrev pub IsTakenFrom : Input → List Entry → List Entry → Option Entry → Type 0
IsTakenFrom from old new taken =
    (taken ≡ first_among (of_input from old)) × (new ≡ without_first from old)

-- what is known of an input by its first file; without one it has these bytes
abbrev pub first_known : List ℕ → List Entry → Option (List ℕ)
first_known missing entries =
    option_map_or (λ entry. entry.known) (first_among entries) (Some missing)

-- the lines of a script that are on the command line
abbrev pub typed_text : Request → List ℕ
typed_text request = unwrap_or (option_map string_bytes request.typed) []

-- what an input without a file has
abbrev pub missing_text : List ℕ → Input → List ℕ
missing_text typed Input.Script = typed
missing_text typed _ = []

-- what a run has
abbrev pub held_of : List ℕ → List Entry → Held
held_of typed entries = record {
  cave = first_known [] (of_input Input.Cave entries);
  bindings = first_known [] (of_input Input.Bindings entries);
  logs = map (λ entry. entry.known) (of_input Input.Log entries);
  new_log = first_known [] (of_input Input.NewLog entries);
  script = first_known typed (of_input Input.Script entries);
  known = first_known [] (of_input Input.Known entries);
}

abbrev pub entries_in : {S F : Type 0} → (S → BytesOf) → (F → Option (List ℕ)) → Files S F
    → List Entry
entries_in bytes_of left files =
    map (waiting_entry (bytes_of files.system.now) left) files.waiting.now.items

abbrev pub held_in : {S F : Type 0} → (S → BytesOf) → (F → Option (List ℕ)) → Files S F → Held
held_in bytes_of left files =
    held_of (typed_text files.request.now) (entries_in bytes_of left files)

-- ---- what reading asks of the system

-- a file that was read: the bytes that it has, and whether its reader gave all of them
pub record ReadFile : Type 0 where
  pub entry : Entry
  pub text : List ℕ
  pub is_whole : Bool

-- a file is opened, if it isn't open
abbrev pub opening_unless : Bool → List ℕ → List Call
opening_unless is_open name = if is_open then [] else Opens name ∷ []

-- if it is a log that was read whole, it is reported what its head says differently
abbrev pub telling_if : Bool → Request → FileName → List ℕ → List Call
telling_if whole request file text =
    if whole && (is_same_input file.0 Input.Log || is_same_input file.0 Input.NewLog)
    then option_map_or (λ said. Tells (headed file.1 said.0 said.1) ∷ []) (head_notice request text) []
    else []

-- what is asked for one file
abbrev pub calls_for : Request → ReadFile → List Call
calls_for request read = opening_unless read.entry.is_open read.entry.file.1
    ++ telling_if read.is_whole request read.entry.file read.text

-- what is asked to read a file, if there is one
abbrev pub AsksFor : Request → Option Entry → Calls → Calls → Type 0
AsksFor request None old new = new ≡ old
AsksFor request (Some entry) old new = (text : List ℕ) × (is_whole : Bool)
    × Says entry.known text
    × (new ≡ and_then old (calls_for request
    (record { entry = entry; text = text; is_whole = is_whole })))

-- the first file of an input was read
pub record ReadsOne {S F : Type 0} (calls_of : S → Calls) (bytes_of : S → BytesOf)
    (left : F → Option (List ℕ)) (from : Input) (old new : Files S F) : Type 0 where
  pub request : new.request.now ≡ old.request.now
  pub system : new.system.ghost_name ≡ old.system.ghost_name
  pub bytes : bytes_of new.system.now ≡ bytes_of old.system.now
  pub entries : entries_in bytes_of left new ≡ without_first from (entries_in bytes_of left old)
  pub asks : AsksFor old.request.now (first_among (of_input from (entries_in bytes_of left old)))
      (calls_of old.system.now) (calls_of new.system.now)
