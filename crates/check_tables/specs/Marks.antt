-- What may be covered, each by its mark, and the set of the marks that were made.
use Rattle.std.specs.Prelude.{◌≡◌, ℕ, Bool, false, ◌==◌, ◌&&◌, ◌||◌, List, [], slice_index_or}
use Rattle.std.specs.List.{list_any}
use Rattle.check_tables.specs.declared.marks.Mark.{Mark}

-- the mark of a group's thing, by their numbers
abbrev pub mark : ℕ → ℕ → Mark
mark group number = record { group = group; number = number }

abbrev pub is_same : Mark → Mark → Bool
is_same one other = one.group == other.group && one.number == other.number

abbrev pub is_among : Mark → List Mark → Bool
is_among one marks = list_any (is_same one) marks

-- in lists of marks, one for each group
abbrev pub is_marked : List (List Bool) → Mark → Bool
is_marked groups one = slice_index_or (slice_index_or groups one.group []) one.number false

-- these were made, and no others
pub record AreMarksOf (marks : List Mark) (groups : List (List Bool)) : Type 0 where
  pub is : (one : Mark) → is_marked groups one ≡ is_among one marks

-- these were added: a thing is marked now if it is one of them or was marked before
pub record Notes (marks : List Mark) (old new : List (List Bool)) : Type 0 where
  pub is : (one : Mark) → is_marked new one ≡ (is_among one marks || is_marked old one)
