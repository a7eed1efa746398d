-- Steps along the links of a list.
use Rattle.std.proofs.Common.{◌≡◌, ◌≢◌, ℕ, suc, ◌<◌, ◌≤◌, Bool, false, List, [], ◌∷◌, ◌++◌, length}
use Rattle.std.proofs.Common.{eqb, refl, sym, ap, ◌∙◌, append_assoc, append-nil, length-append}
use Rattle.std.proofs.Common.{arith}
use Rattle.world_objects.specs.declared.object.Half.{Half}
use Rattle.world_objects.specs.declared.object.Half.TheVariants.{First, Second}
use Rattle.world_objects.specs.declared.lists.PlacedHalf.{PlacedHalf}
use Rattle.world_objects.specs.Lists.{object_of, half_number, half_of, halves_at, AreLists}
use Rattle.world_objects.specs.Objects.{is_listed}
use Rattle.world_objects.specs.Links.{first_half, next_half, halves_along, AreEntriesWithin}
use Rattle.world_objects.proofs.Tests.{unequal}
use Rattle.world_objects.proofs.Moves.{numbered}
use Rattle.world_objects.proofs.Links.{low_number}
use Rattle.world_objects.proofs.Chains.{AreAlong, AreAlong-first_half, AreLinkedBy-next_half}
use Rattle.world_objects.proofs.Chains.{half_of_number, halves_along_is, length-halves_at}

high_number : (half : Half) → object_of half ≤ 100 → half_number half ≤ 200
high_number (First x) high = omega (arith, high)
high_number (Second x) high = omega (arith, high)

-- the halves that the links from a number lead along, at most 200
pub record IsLeft (es : List PlacedHalf) (number : ℕ) (rest : List Half) : Type 0 where
  pub along : AreAlong (λ n. next_half n es) number rest
  pub few : length rest ≤ 200

-- the step at a half, which is the first of what is left
pub record IsStep (es : List PlacedHalf) (number : ℕ) (rest : List Half) : Type 0 where
  pub after : List Half
  pub splits : rest ≡ half_of number ∷ after
  pub low : 0 < number
  pub high : number ≤ 200
  pub itself : half_number (half_of number) ≡ number
  pub left : IsLeft es (next_half number es) after

pub IsLeft-first_half : (p : ℕ) (es : List PlacedHalf) → AreLists es → AreEntriesWithin es
    → IsLeft es (first_half p es) (halves_at p es)
IsLeft-first_half p es l w = record {
  along = AreAlong-first_half (λ n. next_half n es) p es l w (AreLinkedBy-next_half es l);
  few = length-halves_at p es l;
}

pub step : (es : List PlacedHalf) (number : ℕ) (rest : List Half) → IsLeft es number rest
    → number ≢ 0
    → IsStep es number rest
step es number [] h some = absurd (some h.along)
step es number (half ∷ after) h some =
    let low : 0 < object_of half = h.along.1.0.0 in
    let high : object_of half ≤ 100 = h.along.1.0.1 in
    let same : half_number half ≡ number = h.along.0 in
    let here : half ≡ half_of number = sym (half_of_number half low high) ∙ ap half_of same in
    record {
      after = after;
      splits = ap (λ (x : Half). x ∷ after) here;
      low = rw (← same) (low_number half low);
      high = rw (← same) (high_number half high);
      itself = ap half_number (sym here) ∙ same;
      left = record { along = h.along.1.1; few = omega (arith, h.few) };
    }

-- nothing is left at 0
pub ended : (es : List PlacedHalf) (number : ℕ) (rest : List Half) → IsLeft es number rest
    → number ≡ 0
    → rest ≡ []
ended es number [] h none = refl
ended es number (half ∷ after) h none =
    absurd (numbered half h.along.1.0.0 (h.along.0 ∙ none))

-- and only there
pub is_ended : (es : List PlacedHalf) (number : ℕ) (rest : List Half) → IsLeft es number rest
    → eqb number 0 ≡ eqb (length rest) 0
is_ended es number [] h = rw h.along refl
is_ended es number (half ∷ after) h =
    let some : eqb number 0 ≡ false = unequal number 0
    (λ none. numbered half h.along.1.0.0 (h.along.0 ∙ none)) in
    some ∙ sym (unequal (suc (length after)) 0 (λ none. absurd (omega (arith, none))))

-- how many are left
pub left_length : (es : List PlacedHalf) (number : ℕ) (rest : List Half) → IsLeft es number rest
    → length (halves_along (λ n. next_half n es) 200 number) ≡ length rest
left_length es number rest h =
    ap (λ (l : List Half). length l)
    (halves_along_is (λ n. next_half n es) 200 number rest h.along h.few)

-- a half that is left isn't the one that is looked for
pub passed_over : (m : ℕ) (half : Half) (halves : List Half) → half_number half ≢ m
    → is_listed m (half ∷ halves) ≡ is_listed m halves
unfolding is_listed
passed_over m half halves other =
    let far : eqb (half_number half) m ≡ false = unequal (half_number half) m other in rw far refl

pub none_listed : (m : ℕ) → is_listed m [] ≡ false
unfolding is_listed
none_listed m = refl

-- ---- what was returned so far, and what is left

pub longer : (told rest all after : List Half) (half : Half) → told ++ rest ≡ all
    → rest ≡ half ∷ after → length told < length all
longer told rest all after half whole splits =
    omega (
      arith,
      ap (λ (l : List Half). length l) whole,
      length-append told rest,
      ap
          (λ (l : List Half). length l) splits,
    )

-- one more is returned
pub told_on : (told now rest all after : List Half) (half h : Half) → told ++ rest ≡ all
    → rest ≡ half ∷ after → now ≡ told ++ h ∷ [] → h ≡ half → now ++ after ≡ all
told_on told now rest all after half h whole splits is same =
    ap (λ (l : List Half). l ++ after) (is ∙ ap (λ (x : Half). told ++ x ∷ []) same)
    ∙ (append_assoc told (half ∷ []) after
    ∙ (ap (λ (l : List Half). told ++ l) (sym splits) ∙ whole))

pub told_all : (told rest all : List Half) → told ++ rest ≡ all → rest ≡ [] → told ≡ all
told_all told rest all whole none =
    sym (append-nil told) ∙ (ap (λ (l : List Half). told ++ l) (sym none) ∙ whole)

-- ---- a half that is looked for

pub fewer : (es : List PlacedHalf) (number next : ℕ) (rest : List Half) → IsLeft es number rest
    → (s : IsStep es number rest) → next ≡ next_half number es
    → length (halves_along (λ n. next_half n es) 200 next) < length
    (halves_along (λ n. next_half n es) 200 number)
fewer es number next rest h s is =
    omega (
      arith,
      left_length es number rest h,
      left_length es next s.after (rw is s.left),
      ap
          (λ (l : List Half). length l) s.splits,
    )

pub listed_on : (es : List PlacedHalf) (m number : ℕ) (rest : List Half) (b : Bool)
    → (s : IsStep es number rest) → is_listed m rest ≡ b → number ≢ m → is_listed m s.after ≡ b
listed_on es m number rest b s is other =
    sym (passed_over m (half_of number) s.after (λ e. other (sym s.itself ∙ e)))
    ∙ (ap (λ (l : List Half). is_listed m l) (sym s.splits) ∙ is)
