-- Classes that no score reaches, or that an earlier one takes, and a score without a class.
use Rattle.std.specs.Prelude.{ℕ, Bool, ◌&&◌, not, is_some, if◌then◌else◌, List, Option, Some, None}
use Rattle.std.specs.List.{list_any}
use Rattle.cave_data.specs.CaveView.{CaveView, class_of}
use Rattle.turn_ends.specs.Score.{max_score_of}
use Rattle.data_lines.specs.Marks.{is_class_from}
use Rattle.check_doubts.specs.declared.flaw.CaveFlaw.{CaveFlaw}
use Rattle.data_lines.specs.declared.mark.MarkedRow.{MarkedRow}

-- an earlier class has all scores up to this one
abbrev pub is_taken : ℕ → List MarkedRow → Bool
is_taken score before = list_any (is_class_from score) before

-- a class is the first one
abbrev pub is_first_class : List MarkedRow → Bool
is_first_class before = not (is_taken 0 before)

abbrev pub has_class : CaveView → ℕ → Bool
has_class cave score = is_some (class_of cave score)

-- all scores of a class are above the greatest one, or no class has that
abbrev pub scores_flaw : CaveView → List MarkedRow → Option CaveFlaw
scores_flaw cave before = if is_taken (max_score_of cave) before then Some CaveFlaw.UnscoredClass
    else (if is_first_class before && not (has_class cave (max_score_of cave))
    then Some (CaveFlaw.Classless (max_score_of cave)) else None)

abbrev pub class_flaw : CaveView → ℕ → List MarkedRow → Option CaveFlaw
class_flaw cave bound before = if is_taken bound before then None else scores_flaw cave before
