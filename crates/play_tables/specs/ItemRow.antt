-- The row of an item of a script.
use Rattle.std.specs.Prelude.{ℕ, List, [], ◌∷◌, ◌++◌, codes, length, Option, None, Some}
use Rattle.std.specs.Fmt.{decimal}
use Rattle.play_tables.specs.Columns.{without_tabs, ending_column}
use Rattle.cave_world.specs.declared.state.State.{State}
use Rattle.replay_edits.specs.Edit.{Change, inserts, deletes, replaces, reseeds, own_line}
use Rattle.play_tables.specs.Differences.{differences_text}

-- the names of the columns
unfoldable pub item_head_row : List ℕ
item_head_row =
    codes "line\tedit\ttext\tresult\tfrom\tmet\tplayed\tscore\tturns\tplace\tended\tdiffers\n"

-- ---- what an item is

abbrev pub edit_words : Change → List ℕ
edit_words (inserts place line) = codes "insert " ++ decimal place
edit_words (deletes place) = codes "delete " ++ decimal place
edit_words (replaces place line) = codes "replace " ++ decimal place
edit_words (reseeds seed) = codes "seed " ++ decimal seed

-- one change in words, or how many a group has
abbrev pub item_words : List Change → List ℕ
item_words (change ∷ []) = edit_words change
item_words changes = codes "group of " ++ decimal (length changes)

-- the text that a change inserted, or deleted: then its inverse inserts it
abbrev pub text_of_change : Change → Change → List ℕ
text_of_change (inserts place line) inverse = line
text_of_change (deletes place) inverse = own_line inverse
text_of_change (replaces place line) inverse = line
text_of_change (reseeds seed) inverse = []

-- the text of changes with those that take them back; a group has no text of its own
abbrev pub item_text : List Change → List Change → List ℕ
item_text (change ∷ []) (inverse ∷ []) = text_of_change change inverse
item_text changes inverses = []

unfoldable pub item_columns : ℕ → List Change → List Change → List ℕ
item_columns line changes inverses =
    decimal line ++ (codes "\t" ++ (item_words changes ++ (codes "\t"
    ++ (without_tabs (item_text changes inverses) ++ codes "\t"))))

-- ---- what it did

-- the place at which the plays met
abbrev pub met_column : Option ℕ → List ℕ
met_column None = codes "none"
met_column (Some place) = decimal place

-- where the replay began and met the old play, and how many lines it played
unfoldable pub replay_columns : ℕ → Option ℕ → ℕ → List ℕ
replay_columns from met played =
    codes "ok\t" ++ (decimal from ++ (codes "\t" ++ (met_column met ++ (codes "\t"
    ++ (decimal played ++ codes "\t")))))

-- the score and the turns of the edited log, where the player then is and how the game has ended,
-- and the kinds of facts in which that state differs from the one before the edit
unfoldable pub state_columns : ℕ → ℕ → State → State → List ℕ
state_columns score turns s t =
    decimal score ++ (codes "\t" ++ (decimal turns ++ (codes "\t" ++ (decimal t.trail.here
    ++ (codes "\t" ++ (ending_column t.ending ++ (codes "\t"
    ++ (differences_text s t ++ codes "\n"))))))))

-- an item was accepted: how far it was replayed, and the last states of the log before and after it
unfoldable pub accepted_row : ℕ → List Change → List Change → ℕ → Option ℕ → ℕ → ℕ → ℕ
    → State → State → List ℕ
accepted_row line changes inverses from met played score turns s t =
    item_columns line changes inverses
    ++ (replay_columns from met played ++ state_columns score turns s t)

-- an item was refused, for the reason with this number, and inserted nothing
unfoldable pub refused_row : ℕ → List Change → ℕ → List ℕ
refused_row line changes number =
    item_columns line changes [] ++ (codes "refused " ++ (decimal number
    ++ codes "\t-\t-\t-\t-\t-\t-\t-\t-\n"))
