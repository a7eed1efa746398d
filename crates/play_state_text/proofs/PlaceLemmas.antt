-- What is at places is read back from its lines.
use Rattle.std.proofs.Common.{◌≡◌, ℕ, ◌+◌, ◌-◌, ◌≤◌, ◌<◌, Bool, true, false, List, [], ◌∷◌, ◌++◌}
use Rattle.std.proofs.Common.{refl, sym, ap, ◌∙◌, arith, append_assoc, subst, ◌⊎◌, inl, inr}
use Rattle.std.specs.Prelude.{◌==◌, codes}
use Rattle.std.specs.Bool.{Decides}
use Rattle.std.specs.Cmp.{unsigned_Decides}
use Rattle.std.specs.Cmp.Lexicographic.{pointwise, pointwise_decides}
use Rattle.std.specs.Fmt.{decimal}
use Rattle.std.proofs.lemmas.Bool.{false≢true, cases_lt}
use Rattle.std.proofs.lemmas.List.{append_cancel_left}
use Rattle.cave_data.specs.CaveView.{CaveView}
use Rattle.world_objects.specs.Lists.{half_number, object_of, AreLists, halves_at}
use Rattle.world_objects.specs.Objects.{Layout}
use Rattle.world_objects.specs.Links.{AreEntriesWithin}
use Rattle.world_objects.specs.declared.lists.PlacedHalf.{PlacedHalf}
use Rattle.world_objects.specs.declared.object.Half.{Half}
use Rattle.world_objects.specs.declared.object.Half.TheVariants.{First, Second}
use Rattle.world_objects.specs.contracts.object.HalfPartialEq.TheImpl as half_eq
use Rattle.play_state_text.specs.Things.{text_up_to, half_text, more_halves_text, halves_text}
use Rattle.play_state_text.specs.Things.{place_line}
use Rattle.play_state_text.specs.Words.{named_object, word_of_object}
use Rattle.play_state_text.proofs.WordLemmas.{object_read}
use Rattle.play_state_text.specs.Within.{IsWide, IsUpTo, AreObjectsWithin}
use Rattle.play_state_text.proofs.EntryLemmas.{IsPast, entries_read}
use Rattle.play_state_text.proofs.Reading.{GoesOn, is_number_byte, number_first, after_name, differ}
use Rattle.play_state_text.proofs.Reading.{peel}
use Rattle.play_state_text.proofs.ListedLemmas.{not_zero, unequal}

half_decides : (a b : Half) → Decides (half_eq.eq-value.it a b) (a ≡ b)
half_decides (First x) (First y) =
    (λ e i. First ((unsigned_Decides x y).0 e i), λ e. (unsigned_Decides x y).1 cc)
half_decides (Second x) (Second y) =
    (λ e i. Second ((unsigned_Decides x y).0 e i), λ e. (unsigned_Decides x y).1 cc)
half_decides _ _ = (λ e. absurd (false≢true e), λ e. cc)

abbrev AreHalvesWithin : List Half → Type 0
AreHalvesWithin [] = Unit {0}
AreHalvesWithin (half ∷ halves) = IsWide (object_of half) × AreHalvesWithin halves

-- an object begins with a digit
object_first : (cave : CaveView) (x byte : ℕ) (s t : List ℕ) → IsWide x
    → is_number_byte byte ≡ false → named_object cave x ++ s ≡ byte ∷ t → ⊥
unfolding named_object
object_first cave x byte s t h other e =
    number_first x byte (word_of_object cave x ++ s) t h other
    (sym (append_assoc (decimal x) (word_of_object cave x) s) ∙ e)

half_read : (cave : CaveView) (a b : Half) (s t : List ℕ) → IsWide (object_of a)
    → IsWide (object_of b) → GoesOn s → GoesOn t
    → half_text cave a ++ s ≡ half_text cave b ++ t → (a ≡ b) × (s ≡ t)
half_read cave (First m) (First n) s t ha hb g h e =
    let object = object_read cave m n s t ha hb g h (after_name (codes " ") _ _ s t e) in
    (λ i. First (object.0 i), object.1)
half_read cave (Second m) (Second n) s t ha hb g h e =
    let object = object_read cave m n s t ha hb g h (after_name (codes " also ") _ _ s t e) in
    (λ i. Second (object.0 i), object.1)
half_read cave (First m) (Second n) s t ha hb g h e =
    let rest =
    after_name (codes " ") (named_object cave m) (codes "also " ++ named_object cave n) s t e in
    absurd (object_first cave m 97 s (codes "lso " ++ (named_object cave n ++ t)) ha refl rest)
half_read cave (Second m) (First n) s t ha hb g h e =
    let rest =
    after_name (codes " ") (codes "also " ++ named_object cave m) (named_object cave n) s t e in
    absurd
    (object_first cave n 97 t (codes "lso " ++ (named_object cave m ++ s)) hb refl (sym rest))

halves_go_on : (cave : CaveView) (halves : List Half) (s : List ℕ)
    → GoesOn (more_halves_text cave halves ++ (codes "\n" ++ s))
halves_go_on cave [] s = refl
halves_go_on cave (half ∷ halves) s = refl

more_read : (cave : CaveView) (xs ys : List Half) (s t : List ℕ) → AreHalvesWithin xs
    → AreHalvesWithin ys
    → more_halves_text cave xs ++ (codes "\n" ++ s) ≡ more_halves_text cave ys ++ (codes "\n" ++ t)
    → (xs ≡ ys) × (s ≡ t)
more_read cave [] [] s t ha hb e = (refl, append_cancel_left (codes "\n") s t e)
more_read cave [] (b ∷ ys) s t ha hb e = absurd (false≢true (differ 0 _ _ e))
more_read cave (a ∷ xs) [] s t ha hb e = absurd (false≢true (differ 0 _ _ e))
more_read cave (a ∷ xs) (b ∷ ys) s t ha hb e =
    let more = more_halves_text cave xs ++ (codes "\n" ++ s) in
    let others = more_halves_text cave ys ++ (codes "\n" ++ t) in
    let halves =
    peel (codes "," ++ half_text cave a) (codes "," ++ half_text cave b) (more_halves_text cave xs)
    (more_halves_text cave ys) (codes "\n" ++ s) (codes "\n" ++ t) e in
    let first =
    half_read cave a b more others ha.0 hb.0 (halves_go_on cave xs s) (halves_go_on cave ys t)
    (after_name (codes ",") (half_text cave a) (half_text cave b) more others halves) in
    let rest = more_read cave xs ys s t ha.1 hb.1 first.1 in
    (λ i. first.0 i ∷ rest.0 i, rest.1)

not_nothing : (cave : CaveView) (a : Half) (s t : List ℕ) → IsWide (object_of a)
    → half_text cave a ++ s ≡ codes " nothing\n" ++ t → ⊥
not_nothing cave (First m) s t h e =
    object_first cave m 110 s (codes "othing\n" ++ t) h refl
    (append_cancel_left (codes " ") (named_object cave m ++ s) (codes "nothing\n" ++ t) e)
not_nothing cave (Second m) s t h e = false≢true (differ 1 _ _ e)

-- the halves of a place after the first, with the end of the line
line_end : (cave : CaveView) (a : Half) (xs : List Half) (s : List ℕ)
    → halves_text cave (a ∷ xs) ++ s
    ≡ codes ":" ++ (half_text cave a ++ (more_halves_text cave xs ++ (codes "\n" ++ s)))
line_end cave a xs s =
    ap (λ t. codes ":" ++ t)
    (append_assoc (half_text cave a) (more_halves_text cave xs ++ codes "\n") s
    ∙ ap (λ t. half_text cave a ++ t) (append_assoc (more_halves_text cave xs) (codes "\n") s))

halves_read : (cave : CaveView) (xs ys : List Half) (s t : List ℕ) → AreHalvesWithin xs
    → AreHalvesWithin ys → halves_text cave xs ++ s ≡ halves_text cave ys ++ t
    → (xs ≡ ys) × (s ≡ t)
halves_read cave [] [] s t ha hb e = (refl, append_cancel_left (codes ": nothing\n") s t e)
halves_read cave (a ∷ xs) (b ∷ ys) s t ha hb e =
    let more = more_halves_text cave xs ++ (codes "\n" ++ s) in
    let others = more_halves_text cave ys ++ (codes "\n" ++ t) in
    let lists = sym (line_end cave a xs s) ∙ (e ∙ line_end cave b ys t) in
    let first =
    half_read cave a b more others ha.0 hb.0 (halves_go_on cave xs s) (halves_go_on cave ys t)
    (append_cancel_left (codes ":") (half_text cave a ++ more) (half_text cave b ++ others) lists)
    in
    let rest = more_read cave xs ys s t ha.1 hb.1 first.1 in
    (λ i. first.0 i ∷ rest.0 i, rest.1)
halves_read cave [] (b ∷ ys) s t ha hb e =
    let others = more_halves_text cave ys ++ (codes "\n" ++ t) in
    absurd (not_nothing cave b others s hb.0
    (append_cancel_left (codes ":") (half_text cave b ++ others) (codes " nothing\n" ++ s)
    (sym (line_end cave b ys t) ∙ sym e)))
halves_read cave (a ∷ xs) [] s t ha hb e =
    let more = more_halves_text cave xs ++ (codes "\n" ++ s) in
    absurd (not_nothing cave a more t ha.0
    (append_cancel_left (codes ":") (half_text cave a ++ more) (codes " nothing\n" ++ t)
    (sym (line_end cave a xs s) ∙ e)))

halves_on : (cave : CaveView) (xs : List Half) (s : List ℕ) → GoesOn (halves_text cave xs ++ s)
halves_on cave [] s = refl
halves_on cave (a ∷ xs) s = refl

object_within : (half : Half) → half_number half ≤ 200 → IsWide (object_of half)
object_within (First x) h = omega (arith, h)
object_within (Second x) h = omega (arith, h)

more_halves : (place : ℕ) (e : PlacedHalf) (es : List PlacedHalf) (b : Bool) → e.place == place ≡ b
    → IsWide (object_of e.half) → AreHalvesWithin (halves_at place es)
    → AreHalvesWithin (halves_at place (e ∷ es))
more_halves place e es true here h rest = rw here (h, rest)
more_halves place e es false here h rest = rw here rest

halves_of_lists : (place : ℕ) (es : List PlacedHalf) → AreLists es
    → AreHalvesWithin (halves_at place es)
halves_of_lists place [] l = tt
halves_of_lists place (e ∷ es) l =
    more_halves place e es (e.place == place) refl (object_within e.half l.1.0)
    (halves_of_lists place es l.1.1.1.1)

-- nothing is at a place after the last
past_places : (place : ℕ) (es : List PlacedHalf) → AreEntriesWithin es → 300 < place
    → halves_at place es ≡ []
past_places place [] w h = refl
past_places place (e ∷ es) w h =
    let other : e.place == place ≡ false = unequal e.place place (omega (arith, w.0.0, h)) in
    rw other (past_places place es w.1 h)

-- nothing is at place 0
no_place : (es : List PlacedHalf) → AreLists es → halves_at 0 es ≡ []
no_place [] l = refl
no_place (e ∷ es) l =
    let other : e.place == 0 ≡ false = not_zero e.place l.0.1 in
    rw other (no_place es l.1.1.1.1)

abbrev AreSameAt : Layout → Layout → ℕ → Type 0
AreSameAt o p place = halves_at place o.lists ≡ halves_at place p.lists

as_begun : (begun o : Layout) (place : ℕ)
    → pointwise half_eq.eq-value.it (halves_at place o.lists) (halves_at place begun.lists) ≡ true
    → AreSameAt o begun place
as_begun begun o place e =
    (pointwise_decides half_decides (halves_at place o.lists) (halves_at place begun.lists)).0 e

pub places_read : (cave : CaveView) (begun o p : Layout) (s t : List ℕ) → AreObjectsWithin o → AreObjectsWithin p
    → IsPast (codes "place ") 300 s → IsPast (codes "place ") 300 t
    → text_up_to (place_line cave begun o) 300 ++ s
    ≡ text_up_to (place_line cave begun p) 300 ++ t
    → ((place : ℕ) → AreSameAt o p place) × (s ≡ t)
unfolding place_line
places_read cave begun o p s t ho hp past other e =
    let same : Layout → ℕ → Bool =
    λ l place. pointwise half_eq.eq-value.it (halves_at place l.lists) (halves_at place begun.lists)
    in
    let read =
    entries_read (codes "place ") (same o) (same p)
    (λ place. halves_text cave (halves_at place o.lists))
    (λ place. halves_text cave (halves_at place p.lists)) (AreSameAt o p) 300 s t (omega arith)
    (λ place u. halves_on cave (halves_at place o.lists) u)
    (λ place u. halves_on cave (halves_at place p.lists) u)
    (λ place up. (
      λ here there.
          as_begun begun o place here ∙ sym (as_begun begun p place there),
      λ u v. halves_read cave (halves_at place o.lists) (halves_at place p.lists) u v
          (halves_of_lists place o.lists ho.lists) (halves_of_lists place p.lists hp.lists),
    ))
    past other e in
    (λ place. everywhere place read.0 (cases_lt 300 place) (cases_lt 0 place), read.1)
  where
    everywhere : (place : ℕ) → ((q : ℕ) → IsUpTo 300 q → AreSameAt o p q)
        → (300 < place) ⊎ (place ≤ 300) → (0 < place) ⊎ (place ≤ 0) → AreSameAt o p place
    everywhere place each (inl more) low =
        past_places place o.lists ho.entries more ∙ sym (past_places place p.lists hp.entries more)
    everywhere place each (inr less) (inl some) = each place (some, less)
    everywhere place each (inr less) (inr none) =
        let is : 0 ≡ place = omega (arith, none) in
        subst (AreSameAt o p) is (no_place o.lists ho.lists ∙ sym (no_place p.lists hp.lists))
