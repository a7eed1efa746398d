-- The files that a request names, and over which of them its output may go.
use Rattle.std.specs.Prelude.{◌≡◌, ◌⊎◌, ℕ, ◌-◌, ◌==◌, Bool, true, false, List, [], ◌∷◌, length, map}
use Rattle.std.specs.Prelude.{Contains, IfSome, codes, Option, None, Some, if◌then◌else◌}
use Rattle.std.specs.Prelude.{option_and_then, option_map, unwrap_or}
use Rattle.std.specs.List.{filter}
use Rattle.std.specs.Option.{option_or}
use Rattle.cave_play.specs.Fault.{input_of}
use Rattle.play_command.specs.declared.views.EditView.{EditView}
use Rattle.play_command.specs.declared.line.Input.{Input}
use Rattle.play_command.specs.declared.line.Request.{Request}
use Rattle.play_command.specs.declared.line.What.{What}
use Rattle.cave_play.specs.declared.fault.PlayFault.{PlayFault}
use Rattle.play_command.specs.Asked.{named_file}
use Rattle.play_command.specs.contracts.line.InputPartialEq.TheImpl as input_eq
use Rattle.play_program.specs.Calls.{OneFile, Told, out_of_memory}
use Rattle.play_program.specs.Calls.Told.{clashing, faulty}

-- a file that is read: its input, and its name
abbrev pub FileName : Type 0
FileName = Input × List ℕ

-- two inputs are the same, as the code compares them
abbrev pub is_same_input : Input → Input → Bool
is_same_input one other = input_eq.eq-value.it one other

abbrev pub files_in : Request → List FileName
files_in request = map named_file request.files.items

-- the file of an input; of several that at a place, from 0
abbrev pub name_at : Input → List FileName → ℕ → Option (List ℕ)
name_at from [] place = None
name_at from (file ∷ files) place =
    if is_same_input file.0 from
    then (if place == 0 then Some file.1 else name_at from files (place - 1))
    else name_at from files place

-- what else has the lines of a script: the option, if they are on the command line, or the log that
-- the script is to make
abbrev pub made_name : Request → Input → Option (List ℕ)
made_name request Input.Script = option_or (option_map (λ text. codes "--edit") request.typed)
    (name_at Input.NewLog (files_in request) 0)
made_name request _ = None

-- how a message calls an input: by its file, if one is named, or by what else has it
abbrev pub file_of : Request → Input → ℕ → Option (List ℕ)
file_of request from place =
    option_or (name_at from (files_in request) place) (made_name request from)

-- the file that a fault is about, of several logs that at a place
abbrev pub file_of_input : Request → Option Input → Option ℕ → Option (List ℕ)
file_of_input request found place =
    option_and_then (λ from. file_of request from (unwrap_or place 0)) found

abbrev pub fault_told : Request → PlayFault → Option ℕ → Told
fault_told request found log = faulty found (file_of_input request (input_of found) log)

-- how many of the files are logs
abbrev pub log_count : List FileName → ℕ
log_count files = length (filter (λ file. is_same_input file.0 Input.Log) files)

-- ---- the file of the output

abbrev pub output_of : Request → Option (List ℕ)
output_of request = option_map (λ s. s.now) request.output

-- the output of an edit may go over an input of its own kind: the edited log over the log, and the
-- script with guards over the script
abbrev pub MayReplace : What → Input → Type 0
MayReplace (What.Edit what) Input.Log = what.editing.view ≡ EditView.Log
MayReplace (What.Edit what) Input.Script = what.editing.view ≡ EditView.Guarded
MayReplace _ _ = ⊥

-- the name of the view whose output may go over an input, if there is one
abbrev pub view_over : What → Input → Option (List ℕ)
view_over (What.Edit what) Input.Log = Some (codes "log")
view_over (What.Edit what) Input.Script = Some (codes "guarded")
view_over _ _ = None

-- the output doesn't go over a file that is read, or may
abbrev pub IsApart : OneFile → What → List ℕ → FileName → Type 0
IsApart one_file what output file =
    MayReplace what file.0 ⊎ IfSome (one_file output file.1) (λ same. false ≡ same)

-- it would go over one of them, which is said, with the view that may, if there is one; or memory
-- ran out
abbrev pub IsClash : OneFile → What → Option (List ℕ) → List FileName → Told → Type 0
IsClash one_file what None files said = ⊥
IsClash one_file what (Some output) files said =
    ((file : FileName) × Contains files file × (¬ MayReplace what file.0)
    × IfSome (one_file output file.1) (λ same. true ≡ same)
    × (said ≡ clashing file.1 (view_over what file.0)))
    ⊎ (said ≡ out_of_memory)
