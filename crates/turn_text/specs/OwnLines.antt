-- The lines that the game itself words, around numbers and words.
use Rattle.std.specs.Prelude.{ℕ, ◌==◌, if◌then◌else◌, List, ◌++◌, codes, decimal}
use Rattle.base_lines.specs.Bytes.{prefix_while, is_nonblank}
use Rattle.cave_world.specs.declared.part.NumberLine.{NumberLine}
use Rattle.cave_world.specs.declared.part.WordLine.{WordLine}

-- a line with a number
abbrev pub number_between : List ℕ → ℕ → List ℕ → List ℕ
number_between before n after = before ++ (decimal n ++ after)

-- `point` or `points`, and the end of the line
abbrev pub points_end : ℕ → List ℕ
points_end n = if n == 1 then codes " point.\n" else codes " points.\n"

abbrev pub more_points : ℕ → List ℕ
more_points n = if n == 1 then codes " more point.\n" else codes " more points.\n"

abbrev pub turn_count : ℕ → List ℕ
turn_count n = if n == 1 then codes " turn.\n" else codes " turns.\n"

-- a score and the greatest one, between two texts
abbrev pub score_line : List ℕ → ℕ → ℕ → List ℕ → List ℕ
score_line before score most after =
    number_between before score (codes " out of a possible ")
    ++ number_between (codes "") most after

-- the line of its kind; only the line of a score uses `most`
unfoldable pub number_line : NumberLine → ℕ → ℕ → List ℕ
number_line NumberLine.DwarvesHere n most =
    number_between (codes "There are ") n
    (codes " threatening little dwarves in the room with you.\n")
number_line NumberLine.KnivesThrown n most =
    number_between (codes "") n (codes " of them throw knives at you!\n")
number_line NumberLine.KnivesHit n most = number_between (codes "") n (codes " of them get you!\n")
number_line NumberLine.HintCosts n most =
    number_between (codes "I am prepared to give you a hint, but it will cost you ") n
    (points_end n)
number_line NumberLine.ScoreNow n most =
    score_line (codes "If you were to quit now, you would score ") n most (codes ".\n")
number_line NumberLine.PointsWanted n most =
    number_between (codes "To achieve the next higher rating, you need ") n (more_points n)

-- the line that ends a game
unfoldable pub final_line : ℕ → ℕ → ℕ → List ℕ
final_line score most turns =
    score_line (codes "You scored ") score most (codes ", using ")
    ++ number_between (codes "") turns (turn_count turns)

-- a word as it is printed: without the spaces that fill it up
abbrev pub word_between : List ℕ → List ℕ → List ℕ → List ℕ
word_between before w after = before ++ (prefix_while is_nonblank w ++ after)

unfoldable pub word_line : WordLine → List ℕ → List ℕ
word_line WordLine.NotSeen w = word_between (codes "I see no ") w (codes " here.\n")
word_line WordLine.WhatToDo w = word_between (codes "What do you want to do with the ") w (codes "?\n")
word_line WordLine.Okay w = word_between (codes "Okay, \"") w (codes "\".\n")
word_line WordLine.What w = word_between (codes "") w (codes " what?\n")
