-- The list of what is doubtful about a cave.
use Rattle.std.specs.Prelude.{ℕ, ◌==◌, if◌then◌else◌, List, [], ◌++◌, codes, length, slice_index_or}
use Rattle.std.specs.Fmt.{decimal}
use Rattle.std.specs.List.{flat_map}
use Rattle.data_rows.specs.PlaceRole.{PLACE_NAMES}
use Rattle.data_rows.specs.Role.{ROLE_NAMES}
use Rattle.check_doubts.specs.declared.flaw.Doubt.{Doubt}
use Rattle.check_doubts.specs.declared.flaw.CaveFlaw.{CaveFlaw}
use Rattle.check_doubts.specs.declared.flaw.Source.{Source}
use Rattle.check_doubts.specs.declared.flaw.Subject.{Subject}
use Rattle.check_doubts.specs.declared.flaw.Source.TheVariants.{Database, Bindings}
use Rattle.check_doubts.specs.declared.listing.DoubtFiles.{DoubtFiles}

abbrev pub role_name : ℕ → List ℕ
role_name role = slice_index_or ROLE_NAMES role []

abbrev pub place_role_name : ℕ → List ℕ
place_role_name role = slice_index_or PLACE_NAMES role []

-- what is said of what names a place or a message
abbrev pub subject_words : Subject → List ℕ
subject_words Subject.WayTo = codes "the way leads to place"
subject_words Subject.WaySays = codes "the way says message"
subject_words (Subject.Treasure object) =
    codes "treasure " ++ (decimal object ++ codes " begins at place")
subject_words (Subject.Needed object) =
    codes "object " ++ (decimal object ++ codes ", which players need, begins at place")
subject_words (Subject.Action action) =
    codes "action " ++ (decimal action ++ codes " says message")
subject_words (Subject.Asking hint) = codes "hint " ++ (decimal hint ++ codes " asks by message")
subject_words (Subject.Giving hint) = codes "hint " ++ (decimal hint ++ codes " gives message")
subject_words (Subject.MessageRole role) = codes "msg." ++ (role_name role ++ codes " is message")
subject_words (Subject.PlaceRole role) =
    codes "place." ++ (place_role_name role ++ codes " is place")

-- what is said about each kind of doubt
abbrev pub words : CaveFlaw → List ℕ
words (CaveFlaw.NoWayTo place) = codes "no way leads to place " ++ decimal place
words (CaveFlaw.Textless subject number) =
    subject_words subject ++ (codes " " ++ (decimal number ++ codes ", which has no text"))
words (CaveFlaw.HasNoRule number) =
    codes "the way leads to " ++ (decimal number ++ codes ", for which there is no rule")
words CaveFlaw.NeverTaken = codes "no player takes this way: an earlier one is always taken"
words CaveFlaw.Hidden = codes "an earlier row of this word hides it"
words (CaveFlaw.Nowhere object) = codes "no place holds treasure " ++ decimal object
words (CaveFlaw.Nameless object) =
    codes "treasure " ++ (decimal object ++ codes " has no inventory text")
words (CaveFlaw.Unplaced object) =
    codes "no place holds object " ++ (decimal object ++ codes ", which players need")
words (CaveFlaw.PropTextless object prop) =
    codes "object " ++ (decimal object
    ++ (codes " has no text for prop " ++ (decimal prop ++ codes ", which rules need")))
words (CaveFlaw.PlaceUnbound role object) =
    codes "rules about object " ++ (decimal object
    ++ (codes " need place." ++ (place_role_name role ++ codes ", which is unbound")))
words (CaveFlaw.EndUnbound role) =
    codes "the way leads to 301, which needs place." ++ (place_role_name role
    ++ codes ", which is unbound")
words (CaveFlaw.Wordless action) = codes "no word means action " ++ decimal action
words CaveFlaw.TakenClass = codes "an earlier class takes its scores"
words CaveFlaw.UnscoredClass = codes "no score reaches this class"
words (CaveFlaw.Classless score) = codes "no class has the greatest score, " ++ decimal score
words (CaveFlaw.AsksNothing hint) = codes "hint " ++ (decimal hint ++ codes " asks by no message")
words (CaveFlaw.GivesNothing hint) = codes "hint " ++ (decimal hint ++ codes " gives no message")
words (CaveFlaw.Rowless hint) =
    codes "hint " ++ (decimal hint ++ codes " has places here, but no row in section 11")
words CaveFlaw.TextOfBlanks = codes "no tab is before this text, and it begins with blanks"
words CaveFlaw.TabPrinted = codes "a blank is before this text's tab, which is printed"
words CaveFlaw.NotSilent = codes "this is printed, since more than >$< is there"
words (CaveFlaw.RoleSilent role message) =
    codes "msg." ++ (role_name role
    ++ (codes " is message " ++ (decimal message ++ codes ", whose text prints nothing")))
words (CaveFlaw.SaidNowhere role place) =
    codes "msg." ++ (role_name role
    ++ (codes " is said at place." ++ (place_role_name place ++ codes ", which is unbound")))

abbrev pub file_of : DoubtFiles → Source → List ℕ
file_of files Database = files.database.now
file_of files Bindings = files.bindings.now

-- the line of a doubt: where it is, and what
abbrev pub doubt_line : DoubtFiles → Doubt → List ℕ
doubt_line files doubt =
    file_of files doubt.source
    ++ (codes ":" ++ (decimal doubt.line ++ (codes ": " ++ (words doubt.flaw ++ codes "\n"))))

abbrev pub sum_line : ℕ → List ℕ
sum_line count = if count == 1 then codes "-- 1 doubt\n"
    else codes "-- " ++ (decimal count ++ codes " doubts\n")

-- a line for each doubt, and how many there are
unfoldable pub doubts_text : DoubtFiles → List Doubt → List ℕ
doubts_text files doubts = flat_map (doubt_line files) doubts ++ sum_line (length doubts)
