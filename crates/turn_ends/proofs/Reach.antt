-- The class of a score reaches up to it.
use Rattle.std.proofs.Common.{◌≡◌, ℕ, ◌+◌, ◌≤◌, Bool, true, false, cond, leb, List, [], ◌∷◌, Option}
use Rattle.std.proofs.Common.{Some, refl, sym, subst}
use Rattle.std.specs.Prelude.{IfSome}
use Rattle.std.proofs.lemmas.Bool.{leb-true}
use Rattle.cave_data.specs.CaveView.{CaveView, ClassEntry, Rated, rating_at_row, class_from}
use Rattle.cave_data.specs.CaveView.{class_of}

-- a class, if there is one, reaches up to a score
abbrev Reaches : ℕ → Option Rated → Type 0
Reaches score class = IfSome class (λ c. score ≤ c.bound)

reaches_from : (row score : ℕ) (classes : List ClassEntry)
    → Reaches score (class_from row score classes)
reaches_from row score [] = tt
reaches_from row score (class ∷ classes) =
    let later = reaches_from (row + 1) score classes in
    here (leb score class.bound) refl (class_from (row + 1) score classes) later
  where
    here : (b : Bool) → leb score class.bound ≡ b → (next : Option Rated) → Reaches score next
        → Reaches score (cond b (Some (rating_at_row row class classes)) next)
    here true e next later = leb-true score class.bound e
    here false e next later = later

pub class_reaches : (cave : CaveView) (score : ℕ) (c : Rated)
    → Some c ≡ class_of cave score → score ≤ c.bound
class_reaches cave score c e = subst (Reaches score) (sym e) (reaches_from 1 score cave.classes)

pub ruleset classes = class_reaches
