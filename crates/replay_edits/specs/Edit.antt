-- A game, what edits change and leave alone, and what takes them back.
use Rattle.std.specs.Prelude.{ℕ, List, [], ◌∷◌, map, reverse, insert, remove, slice_set, ◌≤◌}
use Rattle.std.specs.Prelude.{IsTrue, length, All, ◌-◌, min, ◌≡◌, ◌<◌}
use Rattle.std.specs.List.{slice_index_or}
use Rattle.replay_edits.specs.declared.edit.Edit.{Edit}
use Rattle.replay_edits.specs.declared.edit.Edit.TheVariants.{Insert, Delete, Replace, Reseed}
use Rattle.std.specs.Global.{Vec}
use Rattle.replay_edits.specs.LineText.{LineText}
use Rattle.base_lines.specs.Line.{is_line}
use Rattle.base_lines.specs.Limits.{MAX_LOG_LINES, MAX_SEED}
use Rattle.replay_edits.specs.declared.margins.Margins.{Margins}

-- what is played: a seed, and a log of lines
pub record Game : Type 0 where
  pub seed : ℕ
  pub log : List (List ℕ)

abbrev pub game_of : ℕ → List (List ℕ) → Game
game_of seed log = record { seed = seed; log = log }

-- a log, by the bytes of its lines
abbrev pub log_of : List LineText → List (List ℕ)
log_of lines = map (λ line. line.items) lines

abbrev pub game_in : ℕ → Vec LineText → Game
game_in seed log = game_of seed (log_of log.items)

-- a game that a session may hold
pub record IsGame (game : Game) : Type 0 where
  pub lines : All (λ line. IsTrue (is_line line)) game.log
  pub few : length game.log ≤ MAX_LOG_LINES
  pub seed_fits : game.seed ≤ MAX_SEED

-- a change of a game, by what it says
pub data Change : Type 0 where
  inserts : ℕ → List ℕ → Change
  deletes : ℕ → Change
  replaces : ℕ → List ℕ → Change
  reseeds : ℕ → Change

abbrev pub change_of : Edit → Change
change_of (Insert place line) = inserts place line.items
change_of (Delete place) = deletes place
change_of (Replace place line) = replaces place line.items
change_of (Reseed seed) = reseeds seed

abbrev pub changes_of : List Edit → List Change
changes_of edits = map change_of edits

abbrev pub line_at : List (List ℕ) → ℕ → List ℕ
line_at log place = slice_index_or log place []

-- the log after a change
abbrev pub log_after : Change → List (List ℕ) → List (List ℕ)
log_after (inserts place line) log = insert log place line
log_after (deletes place) log = remove log place
log_after (replaces place line) log = slice_set log place line
log_after (reseeds seed) log = log

abbrev pub own_line : Change → List ℕ
own_line (inserts place line) = line
own_line (deletes place) = []
own_line (replaces place line) = line
own_line (reseeds seed) = []

abbrev pub seed_after : Change → ℕ → ℕ
seed_after (reseeds new) seed = new
seed_after _ seed = seed

-- what a change does to a game
abbrev pub apply : Change → Game → Game
apply change game = game_of (seed_after change game.seed) (log_after change game.log)

-- what several changes do to a game, one after another
abbrev pub apply_all : List Change → Game → Game
apply_all [] game = game
apply_all (change ∷ changes) game = apply_all changes (apply change game)

-- the change that takes this one back
abbrev pub inverse_of : Change → Game → Change
inverse_of (inserts place line) game = deletes place
inverse_of (deletes place) game = inserts place (line_at game.log place)
inverse_of (replaces place line) game = replaces place (line_at game.log place)
inverse_of (reseeds seed) game = reseeds game.seed

-- the changes that take each of these back, from the game in which it was made
abbrev pub inverse_of_each : List Change → Game → List Change
inverse_of_each [] game = []
inverse_of_each (change ∷ changes) game =
    inverse_of change game ∷ inverse_of_each changes (apply change game)

-- the changes that take these back, the last one first
abbrev pub inverses_of : List Change → Game → List Change
inverses_of changes game = reverse (inverse_of_each changes game)

-- margins of at most this many lines at the start, and at most this many at the end
abbrev pub narrowed_margins : Margins → ℕ → ℕ → Margins
narrowed_margins margins head tail =
    record { head = min margins.head head; tail = min margins.tail tail }

-- what a change of a log of this many lines leaves of margins; another seed is felt from the first
-- line on
abbrev pub margins_after : Change → ℕ → Margins → Margins
margins_after (inserts place line) lines margins = narrowed_margins margins place (lines - place)
margins_after (deletes place) lines margins = narrowed_margins margins place (lines - place - 1)
margins_after (replaces place line) lines margins =
    narrowed_margins margins place (lines - place - 1)
margins_after (reseeds seed) lines margins = narrowed_margins margins 0 margins.tail

-- and what several changes leave alone, one after another
abbrev pub margins_after_all : List Change → List (List ℕ) → Margins → Margins
margins_after_all [] log margins = margins
margins_after_all (change ∷ changes) log margins =
    margins_after_all changes (log_after change log) (margins_after change (length log) margins)

-- what changes of a log leave alone
abbrev pub margins_of : List Change → List (List ℕ) → Margins
margins_of changes log =
    margins_after_all changes log (record { head = length log; tail = length log })

-- the line at a place of a log after a change is the one that was at the place `old`
pub record IsOldLine (change : Change) (log : List (List ℕ)) (place old : ℕ) : Type 0 where
  pub inside : old < length log
  pub same : line_at (log_after change log) place ≡ line_at log old
