-- What edits do to a game: the lines between those that they leave alone, and what takes them back.
use Rattle.std.specs.Prelude.{◌≡◌, ℕ, ◌+◌, ◌<◌, ◌≤◌, List, [], ◌∷◌, ◌++◌, length, map, take}
use Rattle.std.specs.Prelude.{drop, slice_set, All}
use Rattle.replay_edits.specs.declared.new_line.NewLine.{NewLine}
use Rattle.replay_edits.specs.declared.new_line.NewLine.TheVariants.{Old, Own}
use Rattle.replay_edits.specs.declared.outcome.EditOutcome.{EditOutcome}
use Rattle.replay_edits.specs.declared.stock.Stock.{Stock}
use Rattle.replay_edits.specs.declared.stock.NumberedGame.{NumberedGame}
use Rattle.replay_edits.specs.Edit.{Game, game_of, log_of, Change, changes_of, apply_all}
use Rattle.replay_edits.specs.Edit.{inverses_of, line_at, own_line}

-- the bytes of a new line, if this is the log before the edits
abbrev pub text_of : List (List ℕ) → NewLine → List ℕ
text_of log (Old place) = line_at log place
text_of log (Own line) = line.items

abbrev pub new_texts : List (List ℕ) → List NewLine → List (List ℕ)
new_texts log lines = map (text_of log) lines

-- the log in which new lines replace those from `head` up to `rest`
abbrev pub log_with : List (List ℕ) → ℕ → ℕ → List NewLine → List (List ℕ)
log_with log head rest lines = take head log ++ (new_texts log lines ++ drop rest log)

-- if the line is an old one, its place is before the end of a log of this many lines
abbrev pub IsOldWithin : ℕ → NewLine → Type 0
IsOldWithin lines (Old place) = place < lines
IsOldWithin lines (Own line) = Unit {0}

-- the places of the old lines ascend, from `from` on and before `to`
abbrev pub AreRising : ℕ → ℕ → List NewLine → Type 0
AreRising from to [] = from ≤ to
AreRising from to (Old place ∷ lines) = (from ≤ place) × AreRising (place + 1) to lines
AreRising from to (Own line ∷ lines) = AreRising from to lines

-- the log with an empty line in the place of this one, if it is an old one
abbrev pub log_without : List (List ℕ) → NewLine → List (List ℕ)
log_without log (Old place) = slice_set log place []
log_without log (Own line) = log

-- What changes do to a game, if they leave its lines before `head`, and those from `rest` on,
-- alone.
pub record IsOutcome (changes : List Change) (seed : ℕ) (log : List (List ℕ)) (head rest : ℕ)
    (outcome : EditOutcome) : Type 0 where
  pub game : game_of outcome.seed (log_with log head rest outcome.lines.items)
      ≡ apply_all changes (game_of seed log)
  pub rising : AreRising head rest outcome.lines.items
  pub inverse : changes_of outcome.inverse.items ≡ inverses_of changes (game_of seed log)

-- ---- by numbers

-- the lines that have numbers: those of the log, and then the own line of each edit
abbrev pub lines_of : Stock → List (List ℕ)
lines_of stock = log_of stock.log.now.items ++ map own_line (changes_of stock.edits.now)

-- the numbers are numbers of lines
abbrev pub AreNumbers : Stock → List ℕ → Type 0
AreNumbers stock numbers =
    All (λ number. number < length stock.log.now.items + length stock.edits.now) numbers

abbrev pub lines_by : Stock → List ℕ → List (List ℕ)
lines_by stock numbers = map (line_at (lines_of stock)) numbers

-- the log in which the lines with these numbers come between those that stay
abbrev pub log_by : Stock → List ℕ → List (List ℕ)
log_by stock numbers = take stock.head (log_of stock.log.now.items)
    ++ (lines_by stock numbers ++ drop stock.rest (log_of stock.log.now.items))

abbrev pub game_by : Stock → NumberedGame → Game
game_by stock game = game_of game.seed (log_by stock game.numbers)
