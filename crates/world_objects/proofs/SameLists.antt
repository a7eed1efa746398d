-- Two lists that are in order, and the same at each place, are the same.
use Rattle.std.proofs.Common.{◌≡◌, ℕ, ◌<◌, Bool, true, false, List, [], ◌∷◌, eqb, refl, sym, ◌∙◌}
use Rattle.std.proofs.Common.{arith}
use Rattle.std.proofs.lemmas.Bool.Decides.{nat_tests}
use Rattle.world_objects.specs.declared.lists.PlacedHalf.{PlacedHalf}
use Rattle.world_objects.specs.Lists.{halves_at, StartsAt, AreLists}

-- nothing is at a place before the first
pub no_halves : (p q : ℕ) (es : List PlacedHalf) → q < p → StartsAt p es → halves_at q es ≡ []
no_halves p q [] h s = refl
no_halves p q (e ∷ es) h s =
    let far : eqb e.place q ≡ false = unequal e.place q (omega (arith, s.0)) in
    rw far (no_halves p q es h s.1)
  where
    unequal : (a b : ℕ) → b < a → eqb a b ≡ false
    unequal a b h = grind (arith, nat_tests)

begins_at : (e : PlacedHalf) (es : List PlacedHalf) (q : ℕ) → q ≡ e.place
    → halves_at q (e ∷ es) ≡ e.half ∷ halves_at q es
begins_at e es q h = let here : eqb e.place q ≡ true = grind (arith, nat_tests) in rw here refl

not_before : (e f : PlacedHalf) (es fs : List PlacedHalf) → StartsAt f.place fs
    → halves_at e.place (e ∷ es) ≡ halves_at e.place (f ∷ fs) → e.place < f.place → ⊥
not_before e f es fs s h before =
    let nothing = no_halves f.place e.place (f ∷ fs) before (omega arith, s) in
    let first = begins_at e es e.place refl in
    let clash : e.half ∷ halves_at e.place es ≡ [] = sym first ∙ (h ∙ nothing) in
    cc

-- if the first entries are the same, so is what follows
rest_same : (e f : PlacedHalf) (es fs : List PlacedHalf) (q : ℕ) (b : Bool) → eqb e.place q ≡ b
    → e.place ≡ f.place → halves_at q (e ∷ es) ≡ halves_at q (f ∷ fs)
    → halves_at q es ≡ halves_at q fs
rest_same e f es fs q true here same h =
    let there : eqb f.place q ≡ true = rw same at here in
    let both : e.half ∷ halves_at q es ≡ f.half ∷ halves_at q fs = rw (here, there) at h in
    cc
rest_same e f es fs q false here same h =
    let there : eqb f.place q ≡ false = rw same at here in rw (here, there) at h

abbrev pub Ascend : List PlacedHalf → Type 0
Ascend [] = Unit {0}
Ascend (e ∷ es) = StartsAt e.place es × Ascend es

pub Ascend-AreLists : (es : List PlacedHalf) → AreLists es → Ascend es
Ascend-AreLists [] l = tt
Ascend-AreLists (e ∷ es) l = (l.1.1.1.0, Ascend-AreLists es l.1.1.1.1)

-- the smaller of the first places decides
pub same_lists : (es fs : List PlacedHalf) → Ascend es → Ascend fs
    → ((place : ℕ) → halves_at place es ≡ halves_at place fs) → es ≡ fs
same_lists [] [] x y h = refl
same_lists [] (f ∷ fs) x y h =
    let first = begins_at f fs f.place refl in let at = h f.place in cc
same_lists (e ∷ es) [] x y h =
    let first = begins_at e es e.place refl in let at = h e.place in cc
same_lists (e ∷ es) (f ∷ fs) x y h =
    let here : e.place ≡ f.place = level e.place f.place
    (not_before e f es fs y.0 (h e.place))
    (not_before f e fs es x.0 (sym (h f.place))) in
    let first : e.half ∷ halves_at e.place es ≡ halves_at e.place (f ∷ fs) =
    sym (begins_at e es e.place refl) ∙ h e.place in
    let second : halves_at e.place (f ∷ fs) ≡ f.half ∷ halves_at e.place fs =
    begins_at f fs e.place here in
    let halves : e.half ≡ f.half = cc in
    let rest = same_lists es fs x.1 y.1
    (λ q. rest_same e f es fs q (eqb e.place q) refl here (h q)) in
    λ i. record { place = here i; half = halves i } ∷ rest i
  where
    level : (a b : ℕ) → (a < b → ⊥) → (b < a → ⊥) → a ≡ b
    level a b h k = grind arith
