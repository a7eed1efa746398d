-- What a verb without an object could be meant for.
use Rattle.std.specs.Prelude.{ℕ, Bool, ◌==◌, ◌&&◌, not, nat_le, if◌then◌else◌, List, [], ◌∷◌, ◌++◌}
use Rattle.std.specs.Prelude.{length, fold}
use Rattle.cave_words.specs.declared.named.Named.{Named}
use Rattle.turn_scene.specs.Rows.{Deed, Test, Thing}
use Rattle.turn_scene.specs.Tests.{the}
use Rattle.cave_verbs.specs.declared.task.Task.{Task}

-- how many objects a verb without an object could be meant for
abbrev pub MAX_MEANT : ℕ
MAX_MEANT = 5

-- an object, and when the verb could be meant for it
pub record Candidate : Type 0 where
  pub object : Thing Task
  pub test : Test Task

abbrev pub candidate : Named → Test Task → Candidate
candidate n test = record { object = the n; test = test }

-- one more object, if the cave has it and the verb could be meant for it
unfoldable pub with_meant : Bool → ℕ → List ℕ → List ℕ
with_meant could_be x xs = if could_be && not (x == 0) then xs ++ x ∷ [] else xs

-- those of the candidates that the verb could be meant for
abbrev pub objects_meant : List Candidate → Deed Task → List ℕ
objects_meant candidates d =
    fold (λ xs (c : Candidate). with_meant (c.test d) (c.object d) xs) [] candidates

abbrev pub first_or_none : List ℕ → ℕ
first_or_none [] = 0
first_or_none (x ∷ xs) = x

abbrev pub only_of : List ℕ → ℕ
only_of (x ∷ []) = x
only_of _ = 0

-- two or more
abbrev pub several : (Deed Task → List ℕ) → Test Task
several xs d = nat_le 2 (length (xs d))

-- the first; 0 if there is none
abbrev pub first : (Deed Task → List ℕ) → Thing Task
first xs d = first_or_none (xs d)

-- the only one; 0 if there are more, or none
abbrev pub only : (Deed Task → List ℕ) → Thing Task
only xs d = only_of (xs d)
