-- Which run the words ask for, why they are refused, what is said then, and the status.
use Rattle.std.specs.Prelude.{◌≡◌, ◌⊎◌, ℕ, Bool, List, [], Option, Some, None, codes, map}
use Rattle.std.specs.Prelude.{option_and_then, option_map, string_bytes, Result, Ok, Err}
use Rattle.std.specs.Prelude.{if◌then◌else◌, slice_get, unwrap_or, ◌++◌}
use Rattle.std.specs.Option.{option_map_or}
use Rattle.clap.specs.Words.{App, IsAmong, Kinds, Row, all_of, fault_of, first_of, kind_of}
use Rattle.clap.specs.Words.{subcommand_of}
use Rattle.clap.specs.declared.error.kind.ErrorKind.{ErrorKind}
use Rattle.play_command.specs.Asked.{◌>>=◌, what_of, files_of, is_set, named, named_file}
use Rattle.play_command.specs.Asked.{number_row, output_of}
use Rattle.play_command.specs.Commands.{ForCave, commands, has_files, meant_in}
use Rattle.play_command.specs.declared.fault.CommandFault.{CommandFault}
use Rattle.play_command.specs.declared.fault.Misuse.{Misuse}
use Rattle.play_command.specs.declared.line.Input.{Input}
use Rattle.play_command.specs.declared.line.Line.{Line}
use Rattle.play_command.specs.declared.line.Request.{Request}
use Rattle.play_command.specs.declared.line.What.{What}
use Rattle.replay_scripts.specs.ScriptText.{text_of_lines}
use Rattle.play_command.specs.declared.found.NumberOption.TheVariants.{Every, From, Seed, Within}

-- ---- the run of a command

-- a run that is asked for, wherever its names are borrowed from
pub record Asked : Type 0 where
  pub files : List (Input × List ℕ)
  pub typed : Option (List ℕ)
  pub output : Option (List ℕ)
  pub quiet : Bool
  pub what : What

abbrev pub run_in : Request → Asked
run_in request = record {
  files = map named_file request.files.items;
  typed = option_map string_bytes request.typed;
  output = option_map (λ file. file.now) request.output;
  quiet = request.quiet;
  what = request.what;
}

-- what the command of a name asks with all the files that it needs
abbrev pub asked_by : List ℕ → List Row → Result What Misuse
asked_by name rows =
    option_map_or (λ needs. if has_files needs.1 rows then what_of needs.0 rows
    else Err Misuse.Incomplete)
    (named commands name) (Err Misuse.Incomplete)

-- a command that was met, with what was found for its arguments
abbrev pub MetCommand : Type 0
MetCommand = Option (List ℕ × List Row)

abbrev pub run_of : MetCommand → Result Asked Misuse
run_of None = Err Misuse.Incomplete
run_of (Some (name, rows)) = asked_by name rows >>= (λ what. Ok (record {
  files = files_of rows;
  typed = option_map text_of_lines (all_of (codes "edit") rows);
  output = output_of rows;
  quiet = is_set (codes "quiet") rows;
  what = what;
}))

-- what was given for the option of a number, if the misuse is of one
abbrev pub given_for : Misuse → List Row → List ℕ
given_for (Misuse.BadNumber option) rows = unwrap_or (first_of (number_row option).0 rows) []
given_for _ rows = []

-- ---- the answer to words

abbrev pub IsHelp : ErrorKind → Type 0
IsHelp kind = (kind ≡ ErrorKind.DisplayHelp) ⊎ (kind ≡ ErrorKind.DisplayVersion)

-- the command for which people type the word in its place, which is the first after the program
abbrev pub meant_by : List (List ℕ) → Option (List ℕ)
meant_by words = option_and_then (meant_in commands) (slice_get words 1)

-- the answer to words with an error of one of these kinds, unless memory ran out: a text, if they
-- ask for help or the version, or what is wrong with them; where no command is, that may be the
-- command that is meant
abbrev pub IsErrorAnswer : List (List ℕ) → Kinds → Result Line CommandFault → Type 0
IsErrorAnswer words kinds (Ok (Line.Text error)) =
    IsHelp (kind_of error) × IsAmong (kind_of error) kinds
IsErrorAnswer words kinds (Err CommandFault.Memory) = Unit {0}
IsErrorAnswer words kinds (Err (CommandFault.Usage error)) =
    (¬ IsHelp (kind_of error)) × IsAmong (kind_of error) kinds
    × (kind_of error ≡ ErrorKind.InvalidSubcommand → meant_by words ≡ None)
IsErrorAnswer words kinds (Err (CommandFault.OtherName word command)) =
    IsAmong ErrorKind.InvalidSubcommand kinds × (slice_get words 1 ≡ Some word.now)
    × (meant_by words ≡ Some command.now)
IsErrorAnswer words kinds _ = ⊥

-- the answer to words with which nothing is wrong, unless memory ran out: the run of the command
-- that was met, or how its arguments are misused
abbrev pub IsRunAnswer : MetCommand → Result Line CommandFault → Type 0
IsRunAnswer met (Ok (Line.Run request)) = run_of met ≡ Ok (run_in request)
IsRunAnswer met (Err CommandFault.Memory) = Unit {0}
IsRunAnswer met (Err (CommandFault.Misuse wrong given)) = (run_of met ≡ Err wrong)
    × (given.now ≡ option_map_or (λ found. given_for wrong found.1) met [])
IsRunAnswer met _ = ⊥

-- the answer to words, in which the parser of a program's command finds what is wrong with them, or
-- a command
abbrev pub IsAnswerBy : App → List (List ℕ) → Result Line CommandFault → Type 0
IsAnswerBy app words answer = IsErrorAnswer words (fault_of app words) answer
    ⊎ ((fault_of app words ≡ []) × IsRunAnswer (subcommand_of app words) answer)

abbrev pub IsAnswer : List (List ℕ) → Result Line CommandFault → Type 0
IsAnswer words answer = ForCave (λ app. IsAnswerBy app words answer)

-- ---- what is said of a refusal, and the status

-- 7 if memory ran out, and 2 for anything wrong with the words
abbrev pub status_of_command : CommandFault → ℕ
status_of_command CommandFault.Memory = 7
status_of_command _ = 2

-- where the texts end
abbrev pub help : List ℕ
help = codes "\n\nFor more information, try '--help'.\n"

-- what is said of a misuse; of a number after what was given for it
unfoldable pub misuse_text : Misuse → List ℕ
misuse_text Misuse.Incomplete = codes "a command and its files are required"
misuse_text (Misuse.BadNumber Seed) =
    codes "' for '--seed <N>': expected 1 to 10 digits, from 0 to 2147483647"
misuse_text (Misuse.BadNumber Every) =
    codes "' for '--every <K>': expected 1 to 10 digits, from 1 to 10000"
misuse_text (Misuse.BadNumber From) =
    codes "' for '--from <PLACE>': expected 1 to 10 digits, from 1 to 300"
misuse_text (Misuse.BadNumber Within) =
    codes "' for '--within <N>': expected 1 to 10 digits, from 0 to 300"
misuse_text Misuse.NoScript = codes "SCRIPT, '--edit <EDIT>' or '--to <FILE>' is required"
misuse_text Misuse.TwoScripts =
    codes "only one of SCRIPT, '--edit <EDIT>' and '--to <FILE>' can be used"
misuse_text Misuse.ReportAlone =
    codes "'--report <WHAT>' is for '--output <FILE>' or '--in-place': "
    ++ codes "without these, '--print <WHAT>' prints reports"
misuse_text Misuse.TwoOutputs =
    codes "'--in-place' can be used neither with '--output <FILE>' nor with '--print <WHAT>': "
    ++ codes "it is short for '--print log --output LOG'"
misuse_text Misuse.DoubtsAlone = codes "'--strict' and '--known <FILE>' are for '--print doubts'"
misuse_text Misuse.ListAlone = codes "'--strict' and '--known <FILE>' are not for '--print known'"
misuse_text Misuse.WithinAlone = codes "'--within <N>' is for '--from <PLACE>'"
misuse_text Misuse.SeenAlone = codes "'--seen' needs a LOG"
misuse_text Misuse.SeedAlone = codes "'--seed <N>' needs a LOG"

-- what is said of each fault, but not the parser's words: a word that isn't a command, and the one
-- that is meant; a misuse, with what was given for the option of a number
abbrev pub refusal_text : CommandFault → Option (List ℕ)
refusal_text (CommandFault.Usage error) = None
refusal_text (CommandFault.OtherName word command) =
    Some (codes "error: unrecognized subcommand '" ++ (word.now
    ++ (codes "'\n\n  tip: did you mean '" ++ (command.now
    ++ (codes "'?\n\nUsage: cave <COMMAND>" ++ help)))))
refusal_text (CommandFault.Misuse (Misuse.BadNumber option) given) =
    Some (codes "error: invalid value '"
    ++ (given.now ++ (misuse_text (Misuse.BadNumber option) ++ help)))
refusal_text (CommandFault.Misuse found given) =
    Some (codes "error: " ++ (misuse_text found ++ help))
refusal_text CommandFault.Memory = Some (codes "cave: there isn't enough memory\n")
