-- What the parser found for the arguments of a command: names, numbers and files; and what each
-- command alone asks by that, or the first of its arguments' misuses.
use Rattle.std.specs.Prelude.{◌&&◌, ◌==◌, ℕ, Bool, false, List, [], ◌∷◌, length, map, nat_le}
use Rattle.std.specs.Prelude.{bytes_eq, codes, Option, None, Some, is_some, ok_or, unwrap_or}
use Rattle.std.specs.Prelude.{Result, Ok, if◌then◌else◌, ◌||◌, true, is_none, not, nat_lt, Err}
use Rattle.std.specs.Borrow.{Bor}
use Rattle.std.specs.List.{flat_map}
use Rattle.std.specs.Option.{option_map_or}
use Rattle.base_lines.specs.Bytes as bytes
use Rattle.base_lines.specs.Limits.{MAX_DIGITS, MAX_EVERY, MAX_SEED}
use Rattle.clap.specs.Words.{Row, all_of, first_of, found_of, rows_of}
use Rattle.clap.specs.declared.parser.matches.ArgMatches.{ArgMatches}
use Rattle.play_command.specs.declared.fault.Misuse.{Misuse}
use Rattle.play_command.specs.declared.found.NumberOption.{NumberOption}
use Rattle.play_command.specs.declared.line.Input.{Input}
use Rattle.play_command.specs.declared.line.NamedFile.{NamedFile}
use Rattle.play_command.specs.declared.commands.CommandName.{CommandName}
use Rattle.play_command.specs.declared.line.EditAsked.{EditAsked}
use Rattle.play_command.specs.declared.line.EditsFrom.{EditsFrom}
use Rattle.play_command.specs.declared.line.MapPart.{MapPart}
use Rattle.play_command.specs.declared.line.Surroundings.{Surroundings}
use Rattle.play_command.specs.declared.line.What.{What}
use Rattle.play_command.specs.declared.views.CheckView.{CheckView}
use Rattle.play_command.specs.declared.views.CoverView.{CoverView}
use Rattle.play_command.specs.declared.views.EditView.{EditView}
use Rattle.play_command.specs.declared.views.PlayView.{PlayView}
use Rattle.play_command.specs.declared.views.ReportView.{ReportView}
use Rattle.play_command.specs.declared.views.TextView.TheVariants.{Counts, Texts}

-- ---- what was found

-- what was found for the arguments of a command
abbrev pub rows_in : ArgMatches → List Row
rows_in found = rows_of (found_of found)

abbrev pub is_given : List ℕ → List Row → Bool
is_given id rows = is_some (first_of id rows)

-- whether an option without a value was given: what was found for it, or that it wasn't
abbrev pub is_set : List ℕ → List Row → Bool
is_set id rows = option_map_or (bytes_eq (codes "true")) (first_of id rows) false

-- what follows from a value, unless there is a misuse
infixl 10 ◌>>=◌
abbrev pub ◌>>=◌ : {A B : Type 0} → Result A Misuse → (A → Result B Misuse) → Result B Misuse
Ok value >>= next = next value
Err found >>= next = Err found

-- ---- names

-- the item of a name in a table, if one has it
abbrev pub named : {T : Type 0} → List (List ℕ × T) → List ℕ → Option T
named [] name = None
named (item ∷ items) name = if bytes_eq name item.0 then Some item.1 else named items name

-- an item of a table of the code
abbrev pub with_text : {T : Type 0} → Bor (List ℕ) × T → List ℕ × T
with_text item = (item.0.now, item.1)

-- ---- numbers

-- an option whose value is a number, by its name, with the least and the most that it may be
abbrev pub number_row : NumberOption → List ℕ × ℕ × ℕ
number_row NumberOption.Seed = (codes "seed", 0, MAX_SEED)
number_row NumberOption.Every = (codes "every", 1, MAX_EVERY)
number_row NumberOption.From = (codes "from", 1, 300)
number_row NumberOption.Within = (codes "within", 0, 300)

-- the number that the text writes in 1 to 10 digits and nothing else
unfoldable pub number_written : List ℕ → Option ℕ
number_written text =
    let digits = bytes.prefix_while bytes.is_digit text in
    if length (bytes.after_prefix bytes.is_digit text) == 0 && nat_lt 0 (length digits)
    && nat_le (length digits) MAX_DIGITS
    then Some (bytes.number_of digits) else None

-- the number that the text writes, if the option may have it
abbrev pub number_said : NumberOption → List ℕ → Result ℕ Misuse
number_said option text = do
  number ← ok_or (number_written text) (Misuse.BadNumber option)
  if nat_le (number_row option).1 number && nat_le number (number_row option).2 then Ok number
      else Err (Misuse.BadNumber option)

-- the number that was found for an option, or the usual one
unfoldable pub number_of : NumberOption → ℕ → List Row → Result ℕ Misuse
number_of option usual rows =
    option_map_or (number_said option) (first_of (number_row option).0 rows) (Ok usual)

-- ---- the files that a run reads, and the one that it writes

abbrev pub named_file : NamedFile → Input × List ℕ
named_file file = (file.input, file.name.now)

-- all that was found for an argument, as files of its input
abbrev pub files_at : List Row → List ℕ × Input → List (Input × List ℕ)
files_at rows argument =
    map (λ name. (argument.1, name)) (unwrap_or (all_of argument.0 rows) [])

-- those of the arguments that are files to read, in the order in which they are opened
abbrev pub files_of : List Row → List (Input × List ℕ)
files_of rows = flat_map (files_at rows) ((codes "cave", Input.Cave) ∷ (codes "bind", Input.Bindings)
    ∷ (codes "old", Input.Log) ∷ (codes "log", Input.Log) ∷ (codes "script", Input.Script)
    ∷ (codes "new", Input.NewLog) ∷ (codes "to", Input.NewLog) ∷ (codes "known", Input.Known) ∷ [])

-- the output goes over the log in place, or into the file that was found for it, if one was
abbrev pub output_of : List Row → Option (List ℕ)
output_of rows =
    if is_set (codes "in-place") rows then first_of (codes "log") rows
    else first_of (codes "output") rows

-- ---- what runs may print, by the names of views

-- the list of doubts is no view
abbrev pub check_views : List (List ℕ × Option CheckView)
check_views = (codes "maximum", Some CheckView.Maximum) ∷ (codes "bindings", Some CheckView.Bindings)
    ∷ (codes "names", Some CheckView.Names) ∷ (codes "unused", Some CheckView.Unused)
    ∷ (codes "words", Some CheckView.Words) ∷ (codes "doubts", None)
    ∷ (codes "known", Some CheckView.Known) ∷ []

abbrev pub play_views : List (List ℕ × PlayView)
play_views = (codes "transcript", PlayView.Transcript) ∷ (codes "steps", PlayView.Steps)
    ∷ (codes "walk", PlayView.Walk) ∷ (codes "score", PlayView.Score)
    ∷ (codes "state", PlayView.FinalState) ∷ []

abbrev pub edit_views : List (List ℕ × EditView)
edit_views = (codes "transcript", EditView.Transcript) ∷ (codes "play", EditView.Play)
    ∷ (codes "log", EditView.Log) ∷ (codes "undo", EditView.Undo)
    ∷ (codes "guarded", EditView.Guarded) ∷ (codes "reports", EditView.Reports)
    ∷ (codes "table", EditView.Table) ∷ (codes "steps", EditView.Steps)
    ∷ (codes "walk", EditView.Walk) ∷ (codes "score", EditView.Score)
    ∷ (codes "state", EditView.FinalState) ∷ []

abbrev pub cover_views : List (List ℕ × CoverView)
cover_views = (codes "counts", CoverView.Said Counts) ∷ (codes "texts", CoverView.Said Texts)
    ∷ (codes "rules", CoverView.Rules) ∷ (codes "known", CoverView.Known) ∷ []

abbrev pub report_views : List (List ℕ × ReportView)
report_views = (codes "reports", ReportView.Reports) ∷ (codes "table", ReportView.Table) ∷ []

-- the view that prints a report alone
abbrev pub edit_view_of : ReportView → EditView
edit_view_of ReportView.Reports = EditView.Reports
edit_view_of ReportView.Table = EditView.Table

-- ---- what several commands ask

-- the view that was found, or the usual one; the parser should have refused the name of none
abbrev pub view_of : {V : Type 0} → List (List ℕ × V) → V → List Row → Result V Misuse
view_of views usual rows =
    option_map_or (λ name. ok_or (named views name) Misuse.Incomplete)
    (first_of (codes "print") rows) (Ok usual)

-- what is doubtful, or never shown, is to be judged or left out
abbrev pub judges_left : List Row → Bool
judges_left rows = is_set (codes "strict") rows || is_given (codes "known") rows

-- doubts alone are judged or left out
abbrev pub check_by : List Row → Option CheckView → Result What Misuse
check_by rows None = Ok (What.Doubts (is_set (codes "strict") rows))
check_by rows (Some view) =
    if judges_left rows then Err Misuse.DoubtsAlone else Ok (What.Check view)

-- a check prints what was found for it; otherwise the doubts if they are to be judged or left out,
-- and else the greatest score
abbrev pub check_of : List Row → Result What Misuse
check_of rows =
    let usual = if judges_left rows then None else Some CheckView.Maximum in
    view_of check_views usual rows >>= check_by rows

-- ---- what an edit asks

-- there is the file of a script, or there are lines of one, or there is the file of a log, and no
-- other of the three
abbrev pub edits_from : Bool → Bool → Bool → Result EditsFrom Misuse
edits_from true false false = Ok EditsFrom.Script
edits_from false true false = Ok EditsFrom.Script
edits_from false false true = Ok EditsFrom.NewLog
edits_from false false false = Err Misuse.NoScript
edits_from _ _ _ = Err Misuse.TwoScripts

abbrev pub edits_from_of : List Row → Result EditsFrom Misuse
edits_from_of rows = edits_from (is_given (codes "script") rows)
    (is_some (all_of (codes "edit") rows)) (is_given (codes "to") rows)

-- the report of a name goes to standard output, so the output has to go into a file
abbrev pub report_by : Option (List ℕ) → Option (List ℕ) → Result (Option ReportView) Misuse
report_by None output = Ok None
report_by (Some name) None = Err Misuse.ReportAlone
report_by (Some name) (Some file) =
    ok_or (named report_views name) Misuse.Incomplete >>= (λ view. Ok (Some view))

abbrev pub report_of : List Row → Result (Option ReportView) Misuse
report_of rows = report_by (first_of (codes "report") rows) (output_of rows)

-- what is printed has reports on the items of the script: the view has, or they are beside it
abbrev pub has_reports : EditView → Option ReportView → Bool
has_reports view (Some ReportView.Reports) = true
has_reports EditView.Transcript beside = true
has_reports EditView.Reports beside = true
has_reports _ beside = false

-- an edit in place has its own file and its own view, the log, so neither may be given; else what is
-- printed is what was found, or the transcript; why items are refused is said beside what is printed
-- without reports, unless the edit is quiet
unfoldable pub edit_of : List Row → Result EditAsked Misuse
edit_of rows =
    let in_place = is_set (codes "in-place") rows in
    if in_place && (is_given (codes "output") rows || is_given (codes "print") rows)
    then Err Misuse.TwoOutputs else do
      seed ← number_of NumberOption.Seed 0 rows
      every ← number_of NumberOption.Every 50 rows
      view ← if in_place then Ok EditView.Log else view_of edit_views EditView.Transcript rows
      source ← edits_from_of rows
      beside ← report_of rows
      Ok (record {
        edits_from = source;
        editing = record {
          seed = seed;
          every = every;
          view = view;
          strict = is_set (codes "strict") rows;
          guarded = is_set (codes "guarded") rows;
        };
        report = beside;
        refusals = not (is_set (codes "quiet") rows) && not (has_reports view beside);
      })

-- ---- which part of a cave a map draws

-- what is drawn around a place; ways from it are 2 if none are given, and there are none from no
-- place
abbrev pub around_by : Option (List ℕ) → List Row → Result (Option Surroundings) Misuse
around_by None rows = if is_given (codes "within") rows then Err Misuse.WithinAlone else Ok None
around_by (Some text) rows = do
  place ← number_said NumberOption.From text
  ways ← number_of NumberOption.Within 2 rows
  Ok (Some (record { place = place; ways = ways }))

unfoldable pub around_of : List Row → Result (Option Surroundings) Misuse
around_of rows = around_by (first_of (codes "from") rows) rows

-- only what logs saw is drawn, and a seed is theirs, so there are some if one of both was given
unfoldable pub part_of : List Row → Result MapPart Misuse
part_of rows =
    let seen = is_set (codes "seen") rows in
    let is_logless = is_none (all_of (codes "log") rows) in
    if is_logless && seen then Err Misuse.SeenAlone
    else if is_logless && is_given (codes "seed") rows then Err Misuse.SeedAlone
    else around_of rows >>= (λ around. Ok (record { seen = seen; around = around }))

-- ---- what a command asks

-- nothing is judged or left out where all is listed
abbrev pub lists_all : CoverView → Bool
lists_all CoverView.Known = true
lists_all view = false

-- of texts is printed what was found for it; otherwise each that is left if they are to be judged
-- or left out, and else how many there are
abbrev pub cover_of : List Row → Result What Misuse
cover_of rows = do
  seed ← number_of NumberOption.Seed 0 rows
  view ← view_of cover_views (CoverView.Said (if judges_left rows then Texts else Counts)) rows
  if judges_left rows && lists_all view then Err Misuse.ListAlone
      else Ok (What.Cover seed view (is_set (codes "strict") rows))

abbrev pub what_of : CommandName → List Row → Result What Misuse
what_of CommandName.Check rows = check_of rows
what_of CommandName.Play rows = do
  seed ← number_of NumberOption.Seed 0 rows
  view ← view_of play_views PlayView.Transcript rows
  Ok (What.Play seed view)
what_of CommandName.Edit rows = edit_of rows >>= (λ asked. Ok (What.Edit asked))
what_of CommandName.Script rows = Ok (What.Script (record {
  guarded = is_set (codes "guarded") rows;
  grouped = is_set (codes "group") rows;
}))
what_of CommandName.Cover rows = cover_of rows
what_of CommandName.Map rows = do
  seed ← number_of NumberOption.Seed 0 rows
  part ← part_of rows
  Ok (What.Map seed part)
