-- The lists and the objects still agree after a half has moved.
use Rattle.std.proofs.Common.{◌≡◌, ◌≢◌, ℕ, ℤ, ◌+◌, ◌-◌, ◌<◌, ◌≤◌, ◌||◌, Bool, true, false, cond}
use Rattle.std.proofs.Common.{not, eqb, List, [], ◌∷◌, length, set, get_or, replicate, Option, Some}
use Rattle.std.proofs.Common.{None, refl, sym, ap, ◌∙◌, arith}
use Rattle.std.proofs.lemmas.Bool.{false≢true}
use Rattle.std.proofs.lemmas.Bool.Decides.{nat_tests}
use Rattle.std.proofs.lemmas.List.{length-set, get_or-set_same, get_or-set_other, get_or-replicate}
use Rattle.std.proofs.lemmas.List.{length-replicate, get_or_default}
use Rattle.world_objects.specs.declared.object.Half.{Half}
use Rattle.world_objects.specs.declared.object.Half.TheVariants.{First, Second}
use Rattle.world_objects.specs.declared.spot.Spot.{Spot}
use Rattle.world_objects.specs.declared.spot.Anchor.{Anchor}
use Rattle.world_objects.specs.declared.lists.PlacedHalf.{PlacedHalf}
use Rattle.world_objects.specs.Lists.{half_number, halves_at, others, listed_at, AreRelisted}
use Rattle.world_objects.specs.Objects.{Layout, is_listed, IsLaid, place_of_spot, place_of_anchor}
use Rattle.world_objects.specs.Objects.{is_place}

gone : (b : Bool) → cond b false false ≡ false
gone true = refl
gone false = refl

-- whether a half remains, by whether it is the one that goes
left : (n m k : ℕ) (a c was now : Bool) → eqb k m ≡ a → eqb n m ≡ c → now ≡ cond c false was
    → cond (not a) (eqb k n || now) now ≡ cond c false (eqb k n || was)
left n m k true true was now h e s = s
left n m k true false was now h e s =
    let far : eqb k n ≡ false = grind (arith, nat_tests) in rw far s
left n m k false true was now h e s =
    let far : eqb k n ≡ false = grind (arith, nat_tests) in rw far s
left n m k false false was now h e s = ap (λ b. eqb k n || b) s

apply_cond : (n : ℕ) (b : Bool) (x y : List Half)
    → is_listed n (cond b x y) ≡ cond b (is_listed n x) (is_listed n y)
apply_cond n true x y = refl
apply_cond n false x y = refl

is_listed-others : (n m : ℕ) (halves : List Half)
    → is_listed n (others m halves) ≡ cond (eqb n m) false (is_listed n halves)
unfolding is_listed others
is_listed-others n m [] = sym (gone (eqb n m))
is_listed-others n m (h ∷ hs) =
    apply_cond n (not (eqb (half_number h) m)) (h ∷ others m hs) (others m hs)
    ∙ left n m (half_number h) (eqb (half_number h) m) (eqb n m) (is_listed n hs)
    (is_listed n (others m hs)) refl refl (is_listed-others n m hs)

placed : (n m : ℕ) (b c was now : Bool) → eqb n m ≡ c → now ≡ cond c false was
    → cond b (eqb m n || now) now ≡ cond c b was
placed n m true true was now e s =
    let near : eqb m n ≡ true = grind (arith, nat_tests) in rw near refl
placed n m true false was now e s = let far : eqb m n ≡ false = grind (arith, nat_tests) in rw far s
placed n m false true was now e s = s
placed n m false false was now e s = s

is_listed-listed_at : (n q : ℕ) (half : Half) (place : Option ℕ) (halves : List Half)
    → is_listed n (listed_at q half place halves)
    ≡ cond (eqb n (half_number half)) (is_place q place) (is_listed n halves)
unfolding is_listed listed_at
is_listed-listed_at n q half None halves = is_listed-others n (half_number half) halves
is_listed-listed_at n q half (Some place) halves =
    let m = half_number half in
    let rest = others m halves in
    apply_cond n (eqb place q) (half ∷ rest) rest
    ∙ placed n m (eqb place q) (eqb n m) (is_listed n halves) (is_listed n rest) refl
    (is_listed-others n m halves)

-- what a table has at an index after one element was replaced
shown_line : {K : Type 0} (place : K → Option ℕ) (b : Bool) (q i y : ℕ) (k d : K) (ks : List K)
    (was : Bool) → (b ≡ true → y ≡ i) → (b ≡ false → y ≢ i) → i < length ks
    → was ≡ is_place q (place (get_or ks y d))
    → cond b (is_place q (place k)) was ≡ is_place q (place (get_or (set ks i k) y d))
shown_line place true q i y k d ks was t f l h =
    let same : get_or (set ks i k) y d ≡ k = ap (λ j. get_or (set ks i k) j d) (t refl)
    ∙ get_or-set_same ks i k d l in
    ap (λ v. is_place q (place v)) (sym same)
shown_line place false q i y k d ks was t f l h =
    h ∙ ap (λ v. is_place q (place v)) (sym (get_or-set_other ks i y k d (f refl)))

untouched : (b x was now : Bool) → b ≡ false → was ≡ now → cond b x was ≡ now
untouched true x was now e h = absurd (false≢true (sym e))
untouched false x was now e h = h

pub IsLaid-brought : (l : Layout) (x : ℕ) (s : Spot) (lists : List PlacedHalf) → IsLaid l → 0 < x
    → x ≤ 100 → AreRelisted l.lists lists (First x) (place_of_spot s)
    → (let m : Layout =
    record {
      first = set l.first (x - 1) s;
      second = l.second;
      props = l.props;
      lists = lists;
    } in IsLaid m)
IsLaid-brought l x s lists laid low high re = record {
  firsts = λ y q h. ap (is_listed (1 + y)) (re q)
      ∙ (is_listed-listed_at (1 + y) q (First x) (place_of_spot s) (halves_at q l.lists)
      ∙ shown_line place_of_spot (eqb (1 + y) x) q (x - 1) y s Spot.Away l.first
      (is_listed (1 + y) (halves_at q l.lists)) (λ e. same x y e) (λ e. other x y e low)
      (omega (arith, laid.all_first)) (laid.firsts y q h));
  seconds = λ y q h. ap (is_listed (101 + y)) (re q)
      ∙ (is_listed-listed_at (101 + y) q (First x) (place_of_spot s) (halves_at q l.lists)
      ∙ untouched (eqb (101 + y) x) (is_place q (place_of_spot s))
      (is_listed (101 + y) (halves_at q l.lists))
      (is_place q (place_of_anchor (get_or l.second y Anchor.Loose))) (after x y high)
      (laid.seconds y q h));
  all_first = length-set l.first (x - 1) s ∙ laid.all_first;
  all_second = laid.all_second;
}
  where
    same : (x y : ℕ) → eqb (1 + y) x ≡ true → y ≡ x - 1
    same x y e = grind (arith, nat_tests)

    other : (x y : ℕ) → eqb (1 + y) x ≡ false → 0 < x → y ≢ x - 1
    other x y e low = grind (arith, nat_tests)

    after : (x y : ℕ) → x ≤ 100 → eqb (101 + y) x ≡ false
    after x y h = grind (arith, nat_tests)

pub IsLaid-anchored : (l : Layout) (x : ℕ) (a : Anchor) (lists : List PlacedHalf) → IsLaid l → 0 < x
    → x ≤ 100 → AreRelisted l.lists lists (Second x) (place_of_anchor a)
    → (let m : Layout =
    record {
      first = l.first;
      second = set l.second (x - 1) a;
      props = l.props;
      lists = lists;
    } in IsLaid m)
IsLaid-anchored l x a lists laid low high re = record {
  firsts = λ y q h. ap (is_listed (1 + y)) (re q)
      ∙ (is_listed-listed_at (1 + y) q (Second x) (place_of_anchor a) (halves_at q l.lists)
      ∙ untouched (eqb (1 + y) (100 + x)) (is_place q (place_of_anchor a))
      (is_listed (1 + y) (halves_at q l.lists))
      (is_place q (place_of_spot (get_or l.first y Spot.Away))) (before x y h low)
      (laid.firsts y q h));
  seconds = λ y q h. ap (is_listed (101 + y)) (re q)
      ∙ (is_listed-listed_at (101 + y) q (Second x) (place_of_anchor a) (halves_at q l.lists)
      ∙ shown_line place_of_anchor (eqb (101 + y) (100 + x)) q (x - 1) y a Anchor.Loose l.second
      (is_listed (101 + y) (halves_at q l.lists)) (λ e. same x y e) (λ e. other x y e low)
      (omega (arith, laid.all_second)) (laid.seconds y q h));
  all_first = laid.all_first;
  all_second = length-set l.second (x - 1) a ∙ laid.all_second;
}
  where
    same : (x y : ℕ) → eqb (101 + y) (100 + x) ≡ true → y ≡ x - 1
    same x y e = grind (arith, nat_tests)

    other : (x y : ℕ) → eqb (101 + y) (100 + x) ≡ false → 0 < x → y ≢ x - 1
    other x y e low = grind (arith, nat_tests)

    before : (x y : ℕ) → y < 100 → 0 < x → eqb (1 + y) (100 + x) ≡ false
    before x y h low = grind (arith, nat_tests)

pub IsLaid-nowhere : (first : List Spot) (second : List Anchor) (props : List ℤ)
    → first ≡ replicate 100 Spot.Away → second ≡ replicate 100 Anchor.Loose
    → (let m : Layout = record { first = first; second = second; props = props; lists = [] } in
    IsLaid m)
unfolding is_listed
IsLaid-nowhere first second props f s = record {
  firsts =
      λ y q h. ap (λ v. is_place q (place_of_spot v))
      (sym (ap (λ l. get_or l y Spot.Away) f ∙ get_or-replicate 100 y Spot.Away Spot.Away h));
  seconds =
      λ y q h. ap (λ v. is_place q (place_of_anchor v))
      (sym (ap (λ l. get_or l y Anchor.Loose) s
      ∙ get_or-replicate 100 y Anchor.Loose Anchor.Loose h));
  all_first = ap (λ (l : List Spot). length l) f ∙ length-replicate 100 Spot.Away;
  all_second = ap (λ (l : List Anchor). length l) s ∙ length-replicate 100 Anchor.Loose;
}

-- what the laid objects have of one object
pub spot_listed : (l : Layout) (x n : ℕ) (d : Spot) → IsLaid l → n ≡ x → 0 < x → x ≤ 100 → (q : ℕ)
    → is_listed x (halves_at q l.lists) ≡ is_place q (place_of_spot (get_or l.first (n - 1) d))
spot_listed l x n d laid same low high q =
    let number : 1 + (n - 1) ≡ x = omega arith in
    let within : n - 1 < length l.first = omega (arith, laid.all_first) in
    ap (λ k. is_listed k (halves_at q l.lists)) (sym number)
    ∙ (laid.firsts (n - 1) q (omega arith)
    ∙ ap (λ v. is_place q (place_of_spot v)) (get_or_default l.first (n - 1) Spot.Away d within))

pub anchor_listed : (l : Layout) (x n : ℕ) (d : Anchor) → IsLaid l → n ≡ x → 0 < x → x ≤ 100
    → (q : ℕ)
    → is_listed (100 + x) (halves_at q l.lists)
    ≡ is_place q (place_of_anchor (get_or l.second (n - 1) d))
anchor_listed l x n d laid same low high q =
    let number : 101 + (n - 1) ≡ 100 + x = omega arith in
    let within : n - 1 < length l.second = omega (arith, laid.all_second) in
    ap (λ k. is_listed k (halves_at q l.lists)) (sym number)
    ∙ (laid.seconds (n - 1) q (omega arith)
    ∙ ap (λ v. is_place q (place_of_anchor v))
    (get_or_default l.second (n - 1) Anchor.Loose d within))

stays : (n : ℕ) (h : Half) (hs : List Half) (b : Bool) → eqb (half_number h) n ≡ b
    → (b || is_listed n hs) ≡ false → others n hs ≡ hs
    → cond (not b) (h ∷ others n hs) (others n hs) ≡ h ∷ hs
stays n h hs true e t ih = absurd (false≢true (sym t))
stays n h hs false e t ih = ap (λ (l : List Half). h ∷ l) ih

rest_unlisted : (b c : Bool) → (b || c) ≡ false → c ≡ false
rest_unlisted true c t = absurd (false≢true (sym t))
rest_unlisted false c t = t

-- taking out a half that isn't in a list leaves the list as it is
pub others_absent : (n : ℕ) (halves : List Half) → is_listed n halves ≡ false
    → others n halves ≡ halves
unfolding is_listed others
others_absent n [] t = refl
others_absent n (h ∷ hs) t =
    stays n h hs (eqb (half_number h) n) refl t
    (others_absent n hs (rest_unlisted (eqb (half_number h) n) (is_listed n hs) t))
