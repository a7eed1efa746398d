-- What several notings make together.
use Rattle.std.proofs.Common.{◌≡◌, ℕ, ◌+◌, ◌<◌, ◌≤◌, Bool, true, false, List, [], ◌∷◌, ◌++◌, length}
use Rattle.std.proofs.Common.{append-nil, get_or, map, take, refl, sym, ap, ◌∙◌, subst}
use Rattle.std.specs.Prelude.{◌||◌, ◌&&◌, ◌==◌, slice_index_or}
use Rattle.std.proofs.lemmas.Bool.{eqb-true}
use Rattle.std.specs.List.{flat_map}
use Rattle.std.proofs.lemmas.List.{map-append, take_all, take_more}
use Rattle.std.proofs.lemmas.Grind.{flat_map-append}
use Rattle.std.proofs.lemmas.List.Folds.{list_any-append}
use Rattle.check_tables.specs.Marks.{AreMarksOf, Notes, is_among, is_marked, is_same}
use Rattle.check_tables.specs.declared.marks.Mark.{Mark}

regrouped : (p q r : Bool) → (q || (p || r)) ≡ ((p || q) || r)
regrouped true true r = refl
regrouped true false r = refl
regrouped false true r = refl
regrouped false false r = refl

or_swapped : (p q : Bool) → (q || p) ≡ (p || q)
or_swapped true true = refl
or_swapped true false = refl
or_swapped false true = refl
or_swapped false false = refl

pub Notes-none : (marks : List (List Bool)) → Notes [] marks marks
Notes-none marks = record { is = λ one. refl }

-- one noting and then another
pub Notes-append : (first later : List Mark) (old between new : List (List Bool))
    → Notes first old between → Notes later between new → Notes (first ++ later) old new
Notes-append first later old between new one other = record {
  is = λ mark.
      other.is mark ∙ ap (λ b. is_among mark later || b) (one.is mark)
      ∙ regrouped (is_among mark first) (is_among mark later) (is_marked old mark)
      ∙ ap (λ b. b || is_marked old mark) (sym (list_any-append (is_same mark) first later));
}

-- what one more element says is noted too
pub Notes-more : {X : Type 0} (says : X → List Mark) (xs : List X) (place : ℕ) (x : X)
    (old between new : List (List Bool))
    → place < length xs → x ≡ get_or xs place x
    → Notes (flat_map says (take place xs)) old between → Notes (says x) between new
    → Notes (flat_map says (take (place + 1) xs)) old new
Notes-more says xs place x old between new inside is before now =
    let marks : flat_map says (take (place + 1) xs) ≡ flat_map says (take place xs) ++ says x =
    ap (flat_map says) (take_more xs place x inside)
    ∙ flat_map-append says (take place xs) (get_or xs place x ∷ [])
    ∙ ap (λ y. flat_map says (take place xs) ++ y)
    (append-nil (says (get_or xs place x)) ∙ ap says (sym is)) in
    subst (λ marks. Notes marks old new) (sym marks)
    (Notes-append (flat_map says (take place xs)) (says x) old between new before now)

-- no element is left
pub Notes-all : {X : Type 0} (says : X → List Mark) (xs : List X) (place : ℕ)
    (old new : List (List Bool)) → length xs ≤ place
    → Notes (flat_map says (take place xs)) old new → Notes (flat_map says xs) old new
Notes-all says xs place old new past noted =
    subst (λ ys. Notes (flat_map says ys) old new) (take_all place xs past) noted

-- one more element was marked
pub map-more : {X : Type 0} (mark_of : X → Mark) (xs : List X) (place : ℕ) (x : X)
    (old between new : List (List Bool))
    → place < length xs → Notes (map mark_of (take place xs)) old between
    → Notes (mark_of (get_or xs place x) ∷ []) between new
    → Notes (map mark_of (take (place + 1) xs)) old new
map-more mark_of xs place x old between new inside before now =
    subst (λ marks. Notes marks old new)
    (sym (ap (map mark_of) (take_more xs place x inside)
    ∙ map-append mark_of (take place xs) (get_or xs place x ∷ [])))
    (Notes-append (map mark_of (take place xs)) (mark_of (get_or xs place x) ∷ [])
    old between new before now)

-- no element is left
pub map-all : {X : Type 0} (mark_of : X → Mark) (xs : List X) (place : ℕ) (old new : List (List Bool))
    → length xs ≤ place → Notes (map mark_of (take place xs)) old new
    → Notes (map mark_of xs) old new
map-all mark_of xs place old new past noted =
    subst (λ all. Notes (map mark_of all) old new) (take_all place xs past) noted

in_both : (p q marked : Bool) → (p ≡ true → q ≡ true → marked ≡ true)
    → marked ≡ (((p && q) || false) || marked)
in_both true true marked is = is refl refl
in_both true false marked is = refl
in_both false q marked is = refl

-- it was marked before
pub noted_before : (groups : List (List Bool)) (one : Mark) → is_marked groups one ≡ true
    → Notes (one ∷ []) groups groups
noted_before groups one is = record {
  is = λ other. in_both (other.group == one.group) (other.number == one.number)
      (is_marked groups other)
      (λ group number. (λ i. slice_index_or
      (slice_index_or groups (eqb-true other.group one.group group i) [])
      (eqb-true other.number one.number number i) false) ∙ is);
}

-- nothing is marked yet
pub none_marked : AreMarksOf [] []
none_marked = record { is = λ one. refl }

-- more was marked
pub more_marked : (marks more : List Mark) (old new : List (List Bool)) → AreMarksOf marks old
    → Notes more old new → AreMarksOf (marks ++ more) new
more_marked marks more old new marked noted = record {
  is = λ one.
      noted.is one ∙ ap (λ b. is_among one more || b) (marked.is one)
      ∙ or_swapped (is_among one marks) (is_among one more)
      ∙ sym (list_any-append (is_same one) marks more);
}
