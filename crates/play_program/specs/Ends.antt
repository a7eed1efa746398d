-- What the program leaves for its words: what it makes of its files, where that goes, what it says,
-- and with which status it ends.
use Rattle.std.specs.Prelude.{◌≡◌, ◌<◌, ◌⊎◌, ◌==◌, ◌&&◌, ℕ, Bool, not, List, [], ◌∷◌, ◌++◌, length}
use Rattle.std.specs.Prelude.{map, take, All, Option, None, Some, IfSome, Result, Ok, Err}
use Rattle.std.specs.Prelude.{MatchResult, if◌then◌else◌, ⊤, nat_lt, unwrap_or}
use Rattle.std.specs.Io.KnownBytes.{Appends}
use Rattle.std.specs.IoError.{error_kind}
use Rattle.std.specs.List.{AllZip, flat_map}
use Rattle.std.specs.Option.{option_map_or}
use Rattle.std.specs.Result.{result_map_both}
use Rattle.std.specs.declared.io.Error.{Error}
use Rattle.cave_play.specs.Fault.{input_of}
use Rattle.cave_play.specs.Sources.{InputTexts, Says, AreHeld, Held}
use Rattle.play_edits.specs.declared.items.EditRun.{EditRun}
use Rattle.play_command.specs.declared.fault.CommandFault.{CommandFault}
use Rattle.play_command.specs.declared.line.EditAsked.{EditAsked}
use Rattle.play_command.specs.declared.views.EditView.{EditView}
use Rattle.play_command.specs.contracts.views.EditViewPartialEq.TheImpl as view_eq
use Rattle.play_command.specs.declared.line.Input.{Input}
use Rattle.play_command.specs.declared.line.Line.{Line}
use Rattle.play_command.specs.declared.line.Request.{Request}
use Rattle.play_command.specs.declared.line.What.{What}
use Rattle.cave_play.specs.declared.logs.LogsFault.{LogsFault}
use Rattle.cave_play.specs.declared.fault.PlayFault.{PlayFault}
use Rattle.play_command.specs.Line.{IsAnswer, refusal_text, status_of_command}
use Rattle.play_edits.specs.declared.refusal.Refusal.{Refusal}
use Rattle.play_program.specs.Calls.{BytesOf, Call, Calls, EndsTold, OneFile, Told, and_then}
use Rattle.play_program.specs.Calls.{is_no_memory, out_of_memory}
use Rattle.play_program.specs.Calls.Call.{Puts, Tells}
use Rattle.play_program.specs.Calls.Told.{faulty, misused, reseeded, unopened, unprinted, unread}
use Rattle.play_program.specs.Calls.Told.{unwritten}
use Rattle.play_program.specs.Files.{IsApart, IsClash, fault_told, file_of, file_of_input, files_in}
use Rattle.play_program.specs.Files.{output_of}
use Rattle.play_program.specs.Sources.{Entry, ReadFile, Stops, calls_for, entries_by, held_of}
use Rattle.play_program.specs.Sources.{of_input, opening, typed_text}
use Rattle.play_program.specs.declared.make.Made.{Made}
use Rattle.std.specs.Global.{Vec}
use Rattle.cave_play.specs.Output.{AreLeftIn, first_doubt, IsMadeEdit, IsChecked, IsPlayed}
use Rattle.cave_play.specs.Output.{JudgesEditTo, JudgesScript}
use Rattle.cave_play.specs.Logs.{IsMadeReport, JudgesLogs, at_none}
use Rattle.cave_play.specs.Stages.{Judges, cave_stages, doubts_stages, edit_stages, play_stages}
use Rattle.check_doubts.specs.declared.flaw.Doubt.{Doubt}
use Rattle.play_command.specs.declared.line.EditsFrom.{EditsFrom}
use Rattle.cave_play.specs.declared.output.Reported.{Reported}
use Rattle.check_doubts.specs.declared.listing.DoubtFiles.{DoubtFiles}
use Rattle.check_tables.specs.Known.{known_entries}
use Rattle.play_cover.specs.Plays.{IsCovered, cover_stages}
use Rattle.play_map.specs.Plays.{JudgesMap}

-- ---- what a run makes

-- what is made of what a run reports: its text, with what edits return, and what is left; and where
-- its fault is met
abbrev pub made_by : {A F : Type 0} → (A → Option EditRun) → (A → Option PlayFault)
    → (F → LogsFault) → Result (Reported A) F → Result Made LogsFault
made_by edits left at reported = result_map_both (λ made. record {
  output = made.text;
  edits = edits made.found;
  left = left made.found;
}) at reported

-- a strict run fails if something is left that no log shows
abbrev pub unshown : Bool → ℕ → Option PlayFault
unshown strict count =
    if strict && nat_lt 0 count then Some (PlayFault.Unshown count) else None

-- doubts name the files of the cave, and the file of the list of known ones
pub record AreListed (request : Request) (files : DoubtFiles) : Type 0 where
  pub database : files.database.now ≡ unwrap_or (file_of request Input.Cave 0) []
  pub bindings : files.bindings.now ≡ unwrap_or (file_of request Input.Bindings 0) []
  pub known : files.known.now ≡ unwrap_or (file_of request Input.Known 0) []

-- a text is made, as a run makes it
abbrev pub IsText : (Result (Reported (Unit {0})) PlayFault → Type 0) → Result Made LogsFault
    → Type 0
IsText IsReport made = (text : Result (Reported (Unit {0})) PlayFault) × IsReport text
    × (made ≡ made_by (λ _. None) (λ _. None) at_none text)

-- what edits make: those of a script, or those that make a log
abbrev pub IsMadeFrom : EditsFrom → EditAsked → InputTexts → Result (Reported EditRun) PlayFault → Type 0
IsMadeFrom EditsFrom.Script asked texts edited =
    Judges (edit_stages texts.database texts.bindings texts.log texts.script asked.editing)
    (IsMadeEdit texts asked.editing asked.report) edited
IsMadeFrom EditsFrom.NewLog asked texts edited =
    JudgesEditTo texts asked.editing asked.report edited

-- what a command makes of the texts of its inputs
abbrev pub IsMadeBy : What → Request → InputTexts → List (List ℕ) → Result Made LogsFault → Type 0
IsMadeBy (What.Check view) request texts logs made =
    IsText (Judges (cave_stages texts.database texts.bindings)
    (λ whole. IsChecked view texts.database texts.bindings whole.text.items)) made
IsMadeBy (What.Doubts strict) request texts logs made =
    (listed : Result (Reported (Vec Doubt)) PlayFault) × (files : DoubtFiles)
    × AreListed request files
    × Judges (doubts_stages texts.database texts.bindings texts.known)
    (AreLeftIn files texts.database texts.bindings texts.known) listed
    × (made ≡ made_by (λ _. None) (λ left. first_doubt strict left.items) at_none listed)
IsMadeBy (What.Play seed view) request texts logs made =
    IsText (Judges (play_stages texts.database texts.bindings texts.log seed)
    (λ whole. IsPlayed texts.database texts.bindings texts.log seed view whole.text.items)) made
IsMadeBy (What.Edit asked) request texts logs made =
    (edited : Result (Reported EditRun) PlayFault) × IsMadeFrom asked.edits_from asked texts edited
    × (made ≡ made_by Some (λ _. None) at_none edited)
IsMadeBy (What.Script form) request texts logs made = IsText (JudgesScript form texts) made
IsMadeBy (What.Cover seed view strict) request texts logs made =
    (reported : Result (Reported ℕ) LogsFault)
    × JudgesLogs (cover_stages texts.database texts.bindings texts.known seed) logs
    (IsMadeReport (IsCovered texts.database texts.bindings
    (known_entries (unwrap_or (file_of request Input.Known 0) []) texts.known) logs seed view))
    reported
    × (made ≡ made_by (λ _. None) (unshown strict) (λ found. found) reported)
IsMadeBy (What.Map seed part) request texts logs made =
    (reported : Result (Reported (Unit {0})) LogsFault)
    × JudgesMap texts.database texts.bindings logs seed part reported
    × (made ≡ made_by (λ _. None) (λ _. None) (λ found. found) reported)

-- of a command that reads several logs, none of these is left
abbrev pub HasReadAll : {L : Type 0} → What → List L → Type 0
HasReadAll (What.Cover seed view strict) logs = logs ≡ []
HasReadAll (What.Map seed part) logs = logs ≡ []
HasReadAll _ logs = ⊤

-- ---- what is made of the files

-- what is known of the inputs of a request
abbrev pub held_by : BytesOf → Request → Held
held_by bytes_of request = held_of (typed_text request) (entries_by bytes_of request)

-- why nothing was made: a fault was met, or its file can't be opened, for this reason
abbrev pub unmade_told : Option (List ℕ) → PlayFault → Option Error → Told
unmade_told (Some name) (PlayFault.Read from) (Some reason) = unopened name reason
unmade_told file found reason = faulty found file

abbrev pub why_unmade : Request → LogsFault → Option Error → Told
why_unmade request found reason =
    unmade_told (file_of_input request (input_of found.fault) found.log) found.fault reason

-- from the bytes of files that are open this was made; these were read, of each input the first
-- ones, and of several logs all, if something was made
abbrev pub MakesOpened : BytesOf → Request → Calls → Calls → Result Made Told → Type 0
MakesOpened bytes_of request calls called made =
    ((read : List ReadFile) × (left : Input → List Entry)
    × (called ≡ and_then calls (flat_map (calls_for request) read))
    × All (λ file. Says file.entry.known file.text) read
    × ((from : Input) → of_input from (entries_by bytes_of request)
    ≡ of_input from (map (λ file. file.entry) read) ++ left from)
    × MatchResult made (λ _. HasReadAll request.what (left Input.Log)) (λ _. Unit {0}))
    × ((found : Result Made LogsFault) × (reason : Option Error) × (texts : InputTexts)
    × (each : List (List ℕ)) × AreHeld (held_by bytes_of request) texts
    × AllZip Says (held_by bytes_of request).logs each × IsMadeBy request.what request texts each found
    × (made ≡ result_map_both (λ is. is) (λ fault. why_unmade request fault reason) found))

-- or one of them couldn't be opened
abbrev pub MakesOf : BytesOf → Request → Calls → Calls → Result Made Told → Type 0
MakesOf bytes_of request calls called made =
    MakesOpened bytes_of request (and_then calls (opening request.what (files_in request))) called
    made
    ⊎ ((said : Told) × (made ≡ Err said)
    × Stops request.what (files_in request) calls called said)

-- ---- what is delivered

-- the report that a run has made, if it was asked for one
abbrev pub report_in : Option EditRun → List ℕ
report_in edits = option_map_or (λ run. run.report.items) edits []

-- a text was printed; or a part of it was, and no more could be, unless there is no text
abbrev pub Prints : List ℕ → Option (List ℕ) → Option (List ℕ) → Result (Unit {0}) Told → Type 0
Prints text old new ended = MatchResult ended (λ _. Appends old new text)
    (λ said. (said ≡ faulty PlayFault.Write None) × (0 < length text)
    × ((n : ℕ) × Appends old new (take n text)))

-- why bytes aren't in a file, if they aren't
abbrev pub put_told : List ℕ → Option Error → Result (Unit {0}) Told
put_told file None = Ok tt
put_told file (Some reason) =
    Err (if is_no_memory (error_kind reason) then out_of_memory else unwritten file reason)

-- bytes were put into a file; if the system says that they couldn't be, that is the end
abbrev pub IsPut : List ℕ → List ℕ → Calls → Calls → Result (Unit {0}) Told → Type 0
IsPut file bytes calls called ended = (failed : Option Error)
    × (called ≡ and_then calls (Puts file bytes failed ∷ [])) × (ended ≡ put_told file failed)

-- what comes once this is done; if it isn't, why it isn't is said, and all else is as before
abbrev pub OnceDone : {A B : Type 0} → Result A Told → Result B Told → Type 0 → (A → Type 0) → Type 0
OnceDone (Ok done) ended IsAsBefore Follows = Follows done
OnceDone (Err said) ended IsAsBefore Follows = IsAsBefore × (ended ≡ Err said)

-- the report was printed, and then the output went into the file; or the output was printed, if it
-- goes into none, and then the report
abbrev pub Delivers : Option (List ℕ) → Made → Calls → Calls → Option (List ℕ) → Option (List ℕ)
    → Result (Unit {0}) Told → Type 0
Delivers (Some file) made calls called old new ended =
    (printed : Result (Unit {0}) Told) × Prints (report_in made.edits) old new printed
    × OnceDone printed ended (called ≡ calls)
    (λ _. IsPut file made.output.items calls called ended)
Delivers None made calls called old new ended =
    (called ≡ calls)
    × ((mid : Option (List ℕ)) × (printed : Result (Unit {0}) Told)
    × Prints made.output.items old mid printed
    × OnceDone printed ended (new ≡ mid) (λ _. Prints (report_in made.edits) mid new ended))

-- ---- how the run ends

-- the output goes over no file that is read, or over one that it may replace, and the run was done,
-- which fails if something is left, since it is strict; or nothing was done
abbrev pub RunsApart : OneFile → BytesOf → Request → Calls → Calls → Option (List ℕ)
    → Option (List ℕ) → Result (Option EditRun) Told → Type 0
RunsApart one_file bytes_of request calls called old new ended =
    (IfSome (output_of request)
    (λ output. All (IsApart one_file request.what output) (files_in request))
    × ((ran : Option (List Call)) × (found : Result Made Told)
    × MakesOf bytes_of request calls ran found
    × OnceDone found ended ((called ≡ ran) × (new ≡ old))
    (λ made. (delivered : Result (Unit {0}) Told)
    × Delivers (output_of request) made ran called old new delivered
    × OnceDone delivered ended (Unit {0}) (λ _. ended ≡ option_map_or
    (λ found. Err (fault_told request found None)) made.left (Ok made.edits)))))
    ⊎ ((said : Told) × (ended ≡ Err said)
    × IsClash one_file request.what (output_of request) (files_in request) said
    × (called ≡ calls) × (new ≡ old))

-- ---- what is said

-- each refused item is reported as it is if the run is strict, in their order, if that is asked for
abbrev pub refusal_notice : Request → Refusal → Call
refusal_notice request refusal = Tells (fault_told request (PlayFault.Refused refusal) None)

abbrev pub refusal_notices : Request → EditAsked → EditRun → List Call
refusal_notices request asked run =
    if asked.refusals then map (refusal_notice request) run.refused.items else []

-- if edits set another seed than that of the run, and their log is printed, which doesn't hold it,
-- that is reported, unless nothing is to be said beside the output
abbrev pub seed_notice : Request → EditAsked → EditRun → List Call
seed_notice request asked run =
    if not request.quiet && view_eq.eq-value.it asked.editing.view EditView.Log
    && not (asked.editing.seed == run.seed)
    then Tells (reseeded run.seed) ∷ [] else []

abbrev pub notices_by : What → Request → EditRun → List Call
notices_by (What.Edit asked) request run =
    refusal_notices request asked run ++ seed_notice request asked run
notices_by _ request run = []

-- what is reported of a run that ended well
abbrev pub notices : Request → Option EditRun → List Call
notices request edits = option_map_or (notices_by request.what request) edits []

-- what is said, with the reason that the writer of the output gave, if that is what failed
abbrev pub with_reason : Told → Option Error → Told
with_reason (faulty PlayFault.Write file) (Some reason) = unprinted reason
with_reason said reason = said

-- what is reported of a run that ended like this, and the status
abbrev pub SaysEnd : Request → Option Error → Calls → Calls → Result (Option EditRun) Told → ℕ
    → Type 0
SaysEnd request reason calls called (Ok edits) status =
    (called ≡ and_then calls (notices request edits)) × (status ≡ 0)
SaysEnd request reason calls called (Err said) status =
    EndsTold (with_reason said reason) calls called status

-- what the run of a request leaves, with what the program reports of it: this is the reason that the
-- writer of the output gave last, if it failed
abbrev pub EndsRun : OneFile → BytesOf → Request → Calls → Calls → Option (List ℕ)
    → Option (List ℕ) → Option Error → ℕ → Type 0
EndsRun one_file bytes_of request calls called old new reason status =
    (ran : Option (List Call)) × (ended : Result (Option EditRun) Told)
    × RunsApart one_file bytes_of request calls ran old new ended
    × SaysEnd request reason ran called ended status

-- ---- the program

-- help or the version was printed, and nothing is asked of the system; or it couldn't be, for the
-- reason that the writer gave last, if it failed
abbrev pub EndsText : Calls → Calls → Option Error → ℕ → Type 0
EndsText calls called reason status =
    ((called ≡ calls) × (status ≡ 0))
    ⊎ ((found : Error) × IfSome reason (λ given. found ≡ given)
    × EndsTold (unprinted found) calls called status)

-- what a refused line leaves: the reason is reported, unless memory runs out, and nothing else is
-- asked of the system; its two parts are free if the parser words it
abbrev pub EndsRefused : CommandFault → Calls → Calls → ℕ → Type 0
EndsRefused found calls called status =
    ((before : List ℕ) × (after : List ℕ)
    × (called ≡ and_then calls (Tells (misused before after) ∷ []))
    × IfSome (refusal_text found) (λ text. (before ≡ text) × (after ≡ []))
    × (status ≡ status_of_command found))
    ⊎ EndsTold out_of_memory calls called status

-- what the program leaves for a command line
abbrev pub EndsLine : Result Line CommandFault → OneFile → BytesOf → Calls → Calls
    → Option (List ℕ) → Option (List ℕ) → Option Error → ℕ → Type 0
EndsLine (Ok (Line.Run request)) one_file bytes_of calls called old new reason status =
    EndsRun one_file bytes_of request calls called old new reason status
EndsLine (Ok (Line.Text text)) one_file bytes_of calls called old new reason status =
    EndsText calls called reason status
EndsLine (Err found) one_file bytes_of calls called old new reason status =
    (new ≡ old) × EndsRefused found calls called status

-- what the program leaves for these words
abbrev pub EndsWords : List (List ℕ) → OneFile → BytesOf → Calls → Calls → Option (List ℕ)
    → Option (List ℕ) → Option Error → ℕ → Type 0
EndsWords words one_file bytes_of calls called old new reason status =
    (line : Result Line CommandFault) × IsAnswer words line
    × EndsLine line one_file bytes_of calls called old new reason status

-- the words can't be read, or memory ran out
abbrev pub EndsUnread : Calls → Calls → ℕ → Type 0
EndsUnread calls called status =
    ((reason : Error) × EndsTold (unread reason) calls called status)
    ⊎ EndsTold out_of_memory calls called status
