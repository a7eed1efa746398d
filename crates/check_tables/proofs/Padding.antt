-- Marks after what is put at the end of a list of them.
use Rattle.std.proofs.Common.{◌≡◌, ℕ, zero, suc, Bool, List, [], ◌∷◌, ◌++◌, map, get_or, refl, sym}
use Rattle.std.proofs.Common.{ap, ◌∙◌, false, true, ◌<◌, length, set, subst, inl, inr}
use Rattle.std.specs.Prelude.{slice_index_or, ◌||◌, ◌&&◌, ◌==◌, ◌⊎◌, ◌≢◌}
use Rattle.std.specs.Global.{Vec}
use Rattle.std.proofs.lemmas.Bool.Decides.{eqb_tells}
use Rattle.std.proofs.lemmas.Grind.{get_or-set_at}
use Rattle.std.proofs.lemmas.List.{get_or-map, get_or-set_other, length-map, map-append, map-set}
use Rattle.check_tables.specs.Marks.{Notes, is_among, is_marked}
use Rattle.check_tables.specs.declared.marks.Mark.{Mark}

-- one that is what is read past the end
pub padded : {X : Type 0} (xs : List X) (n : ℕ) (d : X)
    → slice_index_or (xs ++ d ∷ []) n d ≡ slice_index_or xs n d
padded [] zero d = refl
padded [] (suc n) d = refl
padded (x ∷ xs) zero d = refl
padded (x ∷ xs) (suc n) d = padded xs n d

-- a group in which nothing is marked
pub with_empty : (groups : List (Vec Bool)) (fresh : Vec Bool) → fresh.items ≡ [] → (mark : Mark)
    → is_marked (map (λ (group : Vec Bool). group.items) (groups ++ fresh ∷ [])) mark
    ≡ is_marked (map (λ (group : Vec Bool). group.items) groups) mark
with_empty groups fresh none mark =
    let items = λ (group : Vec Bool). group.items in
    ap (λ all. is_marked all mark) (map-append items groups (fresh ∷ [])
    ∙ ap (λ last. map items groups ++ last ∷ []) none)
    ∙ ap (λ row. slice_index_or row mark.number false) (padded (map items groups) mark.group [])

in_group : (p q r : Bool) → p ≡ true → (q || r) ≡ (((p && q) || false) || r)
in_group p true r is = rw is refl
in_group p false r is = rw is refl

elsewhere : (p q r : Bool) → p ≡ false → r ≡ (((p && q) || false) || r)
elsewhere p q r isnt = rw isnt refl

-- one more is marked in its group
noted_in : (groups : List (List Bool)) (row : List Bool) (one other : Mark)
    → one.group < length groups
    → ((number : ℕ) → slice_index_or row number false
    ≡ (number == one.number || slice_index_or (slice_index_or groups one.group []) number false))
    → is_marked (set groups one.group row) other
    ≡ (is_among other (one ∷ []) || is_marked groups other)
noted_in groups row one other within marked = go (eqb_tells other.group one.group)
  where
    go : (((other.group == one.group) ≡ true) × (other.group ≡ one.group))
        ⊎ (((other.group == one.group) ≡ false) × (other.group ≢ one.group))
        → is_marked (set groups one.group row) other
        ≡ (is_among other (one ∷ []) || is_marked groups other)
    go (inl (is, same)) =
        ap (λ found. slice_index_or found other.number false)
        (get_or-set_at groups one.group other.group row [] same within)
        ∙ marked other.number
        ∙ in_group (other.group == one.group) (other.number == one.number)
        (slice_index_or (slice_index_or groups one.group []) other.number false) is
        ∙ ap (λ group. is_among other (one ∷ [])
        || slice_index_or (slice_index_or groups group []) other.number false) (sym same)
    go (inr (isnt, differs)) =
        ap (λ found. slice_index_or found other.number false)
        (get_or-set_other groups one.group other.group row [] differs)
        ∙ elsewhere (other.group == one.group) (other.number == one.number)
        (is_marked groups other) isnt

pub noted_at : (groups : List (Vec Bool)) (row old : Vec Bool) (was now : List (List Bool))
    (one : Mark)
    → map (λ (group : Vec Bool). group.items) groups ≡ now
    → one.group < length now
    → ((other : Mark) → is_marked now other ≡ is_marked was other)
    → old ≡ get_or groups one.group old
    → ((number : ℕ) → slice_index_or row.items number false
    ≡ (number == one.number || slice_index_or old.items number false))
    → Notes (one ∷ []) was (map (λ (group : Vec Bool). group.items) (set groups one.group row))
noted_at groups row old was now one view_is within kept old_is marked =
    let items = λ (group : Vec Bool). group.items in
    let inside : one.group < length (map items groups) =
    subst (λ all. one.group < length all) (sym view_is) within in
    let few : one.group < length groups =
    subst (λ n. one.group < n) (length-map groups items) inside in
    let old_row : slice_index_or (map items groups) one.group [] ≡ old.items =
    get_or-map items groups one.group old [] few ∙ ap items (sym old_is) in
    let more = λ (number : ℕ). marked number
    ∙ ap (λ (found : List Bool). number == one.number || slice_index_or found number false)
    (sym old_row) in
    record {
      is = λ other. ap (λ all. is_marked all other) (map-set items groups one.group row)
          ∙ noted_in (map items groups) row.items one other inside more
          ∙ ap (λ b. is_among other (one ∷ []) || b)
          (ap (λ all. is_marked all other) view_is ∙ kept other);
    }
