-- What the parser answers to the words, by the program's command.
use Rattle.std.proofs.Common.{◌≡◌, ◌∙◌, List, [], true, Result, Ok, Err, IfOk, MatchResult, refl}
use Rattle.std.proofs.Common.{ap, map, subst}
use Rattle.clap.specs.Words.{App, HasKind, HasMatchesOf, FailsBy, app_of, fault_of, is_simple}
use Rattle.clap.specs.Words.{is_simple_and_free, subcommand_of, subcommand_rows_of}
use Rattle.clap.specs.Walk.{Text}
use Rattle.clap.specs.declared.builder.command.Command.{Command}
use Rattle.clap.specs.declared.error.Error.{Error}
use Rattle.clap.specs.declared.parser.matches.ArgMatches.{ArgMatches}
use Rattle.clap.proofs.OnLiterals.{clap_on_literals}
use Rattle.play_command.specs.Asked.{check_views, cover_views, edit_views, play_views, report_views}
use Rattle.play_command.specs.Commands.{ForCave, IsCave, Names, ViewNames, cave_app}

-- the parser's answer to words: what they say, if nothing is wrong with them, and otherwise an
-- error that says what is wrong, unless memory ran out
abbrev IsParseBy : List Text → Result ArgMatches Error → App → Type 0
IsParseBy words answer app = MatchResult answer
    (λ matches. (fault_of app words ≡ []) × (subcommand_rows_of matches ≡ subcommand_of app words))
    (HasKind (fault_of app words))

abbrev pub IsParse : List Text → Result ArgMatches Error → Type 0
IsParse words answer = ForCave (IsParseBy words answer)

cave_is_simple : (names : ViewNames) → is_simple (cave_app names) ≡ true
unfolding clap_on_literals
cave_is_simple names = refl

cave_is_free : (names : ViewNames) → is_simple_and_free (cave_app names) ≡ true
unfolding clap_on_literals
cave_is_free names = refl

parse_of_cave : (names : ViewNames) (words : List Text) (answer : Result ArgMatches Error)
    → IfOk answer (HasMatchesOf (cave_app names) words)
    → FailsBy (fault_of (cave_app names) words) answer → IsParseBy words answer (cave_app names)
parse_of_cave names words (Ok matches) has fails = (fails, (has (cave_is_simple names)).1)
parse_of_cave names words (Err error) has fails = fails

parse_of : (names : ViewNames) (app : App) (words : List Text) (answer : Result ArgMatches Error)
    → app ≡ cave_app names → IfOk answer (HasMatchesOf app words)
    → (is_simple_and_free app ≡ true → FailsBy (fault_of app words) answer)
    → IsParseBy words answer (cave_app names)
parse_of names app words answer same has fails =
    parse_of_cave names words answer
    (subst (λ (a : App). IfOk answer (HasMatchesOf a words)) same has)
    (subst (λ (a : App). FailsBy (fault_of a words) answer) same
    (fails (ap is_simple_and_free same ∙ cave_is_free names)))

pub parse_is : (command : Command) (words : List Text) (answer : Result ArgMatches Error)
    → IsCave command → IfOk answer (HasMatchesOf (app_of command) words)
    → (is_simple_and_free (app_of command) ≡ true
    → FailsBy (fault_of (app_of command) words) answer) → IsParse words answer
parse_is command words answer (names, same) has fails =
    (names, parse_of names (app_of command) words answer same has fails)

-- ---- names that lie somewhere

abbrev somewhere : List Text → Names
somewhere names = record {
  ref_ptr = (0, 0);
  now = map (λ (name : Text). record { ref_ptr = (0, 0); now = name }) names;
}

abbrev pub some_names : ViewNames
some_names = record {
  check = (somewhere (map (λ view. view.0) check_views), refl);
  play = (somewhere (map (λ view. view.0) play_views), refl);
  edit = (somewhere (map (λ view. view.0) edit_views), refl);
  report = (somewhere (map (λ view. view.0) report_views), refl);
  cover = (somewhere (map (λ view. view.0) cover_views), refl);
}
