-- The commands, and the program's command as the parser knows it.
use Prim.Native.String.{String}
use Rattle.std.specs.Prelude.{◌≡◌, ℕ, Bool, true, false, List, [], ◌∷◌, Option, None, Some, codes}
use Rattle.std.specs.Prelude.{fold, if◌then◌else◌, map}
use Rattle.std.specs.Borrow.{Bor}
use Rattle.std.specs.List.{filter, list_all, list_any, slice_get}
use Rattle.base_lines.specs.Nearest.{is_near_name}
use Rattle.clap.specs.Words.{App, Row, Rule, app_of, new_app, new_rule, with_rule, with_subcommand}
use Rattle.clap.specs.declared.builder.action.ArgAction.TheVariants.{Append, SetTrue}
use Rattle.clap.specs.declared.builder.command.Command.{Command}
use Rattle.clap.specs.declared.builder.command.Command.TheViews.{out-Command}
use Rattle.clap.specs.declared.builder.value_parser.ValueParser.{ValueParser}
use Rattle.play_command.specs.Asked.{check_views, cover_views, edit_views, play_views, report_views}
use Rattle.play_command.specs.Asked.{is_given}
use Rattle.play_command.specs.declared.commands.Argument.{Argument}
use Rattle.play_command.specs.declared.commands.Form.{Form}
use Rattle.play_command.specs.declared.commands.CommandName.{CommandName}
use Rattle.play_command.specs.declared.commands.CommandRow.{CommandRow}
use Rattle.play_command.specs.declared.commands.Form.TheVariants.{File, Files, Flag, NeededFile}
use Rattle.play_command.specs.declared.commands.Form.TheVariants.{NeededFiles, Report, Value}
use Rattle.play_command.specs.declared.commands.Form.TheVariants.{Values, View}

-- ---- the commands by their names

-- which command it is, the files that it needs, and what people type in place of its name
abbrev pub Needs : Type 0
Needs = CommandName × List (List ℕ) × List (List ℕ)

abbrev pub entry : String → CommandName → List String → List String → List ℕ × Needs
entry name command files others = (codes name, (command, map codes files, map codes others))

abbrev pub commands : List (List ℕ × Needs)
commands = entry "check" CommandName.Check ("cave" ∷ []) ("test" ∷ "verify" ∷ [])
    ∷ entry "play" CommandName.Play ("cave" ∷ "log" ∷ []) ("run" ∷ [])
    ∷ entry "edit" CommandName.Edit ("cave" ∷ "log" ∷ []) ("replay" ∷ "patch" ∷ [])
    ∷ entry "script" CommandName.Script ("old" ∷ "new" ∷ []) ("diff" ∷ [])
    ∷ entry "cover" CommandName.Cover ("cave" ∷ "log" ∷ []) ("coverage" ∷ [])
    ∷ entry "map" CommandName.Map ("cave" ∷ []) ("graph" ∷ []) ∷ []

-- all the files that a command needs were found
abbrev pub has_files : List (List ℕ) → List Row → Bool
has_files ids rows = list_all (λ id. is_given id rows) ids

-- a command isn't complete without an argument that is given so
abbrev pub is_needed : Form → Bool
is_needed NeededFile = true
is_needed NeededFiles = true
is_needed _ = false

-- the arguments of which that is so
abbrev pub needed_in : List Argument → List (List ℕ)
needed_in arguments =
    map (λ argument. argument.id.now) (filter (λ argument. is_needed argument.form) arguments)

-- a row of the code's table
abbrev pub with_needs : Bor (List ℕ) × CommandRow → List ℕ × Needs
with_needs row = (
  row.0.now,
  (row.1.command, needed_in row.1.arguments.now, map (λ name. name.now) row.1.others.now),
)

-- the first of some commands for which people type this word, or one that it is near to
abbrev pub meant_in : List (List ℕ × Needs) → List ℕ → Option (List ℕ)
meant_in [] word = None
meant_in (entry ∷ entries) word =
    if list_any (is_near_name word) entry.1.2 then Some entry.0 else meant_in entries word

-- a command that is this one, with no argument that other commands share
abbrev pub IsLocal : App → Command → Type 0
IsLocal app command = (app_of command ≡ app) × ((out-Command command).has_globals ≡ false)

-- ---- arguments

-- names, wherever they lie in memory
abbrev pub Names : Type 0
Names = Bor (List (Bor (List ℕ)))

-- an argument whose value is one of these names
abbrev pub with_names : Names → Rule → Rule
with_names names rule = record rule { parser = Some (ValueParser.Names names) }

-- a file by its place, and an option with a value
abbrev pub file : List ℕ → Rule
file id = record (new_rule id) { value_names = 1 }

abbrev pub option : List ℕ → Rule
option id = record (new_rule id) { long = Some id; value_names = 1 }

-- an argument by how it is given; a report is `reports` if its value is left out
abbrev pub plain_argument : Form → List ℕ → Rule
plain_argument File id = file id
plain_argument Files id = record (file id) { action = Some Append }
plain_argument NeededFile id = record (file id) { required = true }
plain_argument NeededFiles id = record (file id) { action = Some Append; required = true }
plain_argument Value id = option id
plain_argument Values id = record (option id) { action = Some Append }
plain_argument (View names) id = with_names names (option id)
plain_argument (Report names) id = record (with_names names (option id)) {
  range = Some (record { start_inclusive = 0; end_inclusive = 1 });
  missing = codes "reports" ∷ [];
}
plain_argument Flag id = record (new_rule id) { long = Some id; action = Some SetTrue }

abbrev pub with_letter : Option ℕ → Rule → Rule
with_letter None rule = rule
with_letter (Some letter) rule = record rule { short = Some letter }

abbrev pub argument_rule : Argument → Rule
argument_rule argument =
    with_letter argument.letter (plain_argument argument.form argument.id.now)

-- a command of the code's table
abbrev pub shape_of_row : Bor (List ℕ) × CommandRow → App
shape_of_row row =
    fold with_rule (new_app row.0.now) (map argument_rule row.1.arguments.now)

abbrev pub with_command : App → App → App
with_command program command = with_subcommand program command.top

-- ---- the program

-- the names of these views, wherever they lie in memory
abbrev pub NamesOf : {T : Type 0} → List (List ℕ × T) → Type 0
NamesOf views = (names : Names) × (map (λ name. name.now) names.now ≡ map (λ view. view.0) views)

-- where the names of views lie, for each option that takes some
pub record ViewNames : Type 0 where
  pub check : NamesOf check_views
  pub play : NamesOf play_views
  pub edit : NamesOf edit_views
  pub report : NamesOf report_views
  pub cover : NamesOf cover_views

-- an argument of this name, by how it is given
abbrev pub argument : Form → String → Rule
argument given id = plain_argument given (codes id)

-- an option that may also be given by the first letter of its name
abbrev pub lettered : Form → String → Rule
lettered given id = with_letter (slice_get (codes id) 0) (argument given id)

abbrev pub print : Names → Rule
print names = lettered (View names) "print"

-- the arguments of each command
abbrev pub rules_of : ViewNames → CommandName → List Rule
rules_of names CommandName.Check = argument NeededFile "cave" ∷ lettered Value "bind"
    ∷ print names.check.0 ∷ argument Flag "strict" ∷ argument Value "known"
    ∷ lettered Value "output" ∷ []
rules_of names CommandName.Play = argument NeededFile "cave" ∷ argument NeededFile "log"
    ∷ lettered Value "bind" ∷ lettered Value "seed" ∷ print names.play.0 ∷ lettered Value "output"
    ∷ []
rules_of names CommandName.Edit = argument NeededFile "cave" ∷ argument NeededFile "log"
    ∷ argument File "script" ∷ lettered Values "edit" ∷ argument Value "to" ∷ lettered Value "bind"
    ∷ lettered Value "seed" ∷ argument Value "every" ∷ print names.edit.0 ∷ argument Flag "strict"
    ∷ argument Flag "guarded" ∷ lettered Flag "quiet" ∷ argument (Report names.report.0) "report"
    ∷ lettered Value "output" ∷ argument Flag "in-place" ∷ []
rules_of names CommandName.Script = argument NeededFile "old" ∷ argument NeededFile "new"
    ∷ argument Flag "guarded" ∷ argument Flag "group" ∷ lettered Value "output" ∷ []
rules_of names CommandName.Cover = argument NeededFile "cave" ∷ argument NeededFiles "log"
    ∷ lettered Value "bind" ∷ lettered Value "seed" ∷ print names.cover.0 ∷ argument Flag "strict"
    ∷ argument Value "known" ∷ lettered Value "output" ∷ []
rules_of names CommandName.Map = argument NeededFile "cave" ∷ argument Files "log"
    ∷ lettered Value "bind" ∷ lettered Value "seed" ∷ argument Flag "seen" ∷ argument Value "from"
    ∷ argument Value "within" ∷ lettered Value "output" ∷ []

-- the program, which requires one of its commands
abbrev pub plain_app : App
plain_app = record {
  top = record (new_app (codes "cave")).top {
    has_version = true;
    subcommand_required = true;
    arg_required_else_help = true;
  };
  subs = [];
}

abbrev pub cave_app : ViewNames → App
cave_app names = record {
  top = record plain_app.top { is_leaf = false };
  subs = map (λ entry. record (new_app entry.0).top { rules = rules_of names entry.1.0 }) commands;
}

-- the fact holds of the program's command, wherever the names of views lie
abbrev pub ForCave : (App → Type 0) → Type 0
ForCave Holds = (names : ViewNames) × Holds (cave_app names)

abbrev pub IsCave : Command → Type 0
IsCave command = ForCave (λ app. app_of command ≡ app)
