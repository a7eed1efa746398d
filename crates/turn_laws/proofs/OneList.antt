-- Each half is in one list, and first halves are where their objects say.
use Rattle.std.proofs.Common.{List, [], ap, arith, false, get_or, length, refl, set, subst, sym}
use Rattle.std.proofs.Common.{true, ℕ, ℤ, ◌+◌, ◌-◌, ◌∙◌, ◌∷◌, ◌≡◌, ◌≤◌, Bool}
use Rattle.std.proofs.lemmas.Bool.Decides.{nat_tests}
use Rattle.std.proofs.lemmas.List.{get_or-replicate, get_or-set_other, get_or-set_same}
use Rattle.std.proofs.lemmas.List.{length-replicate, length-set}
use Rattle.std.proofs.lemmas.Map.Views.{any-filter_same}
use Rattle.std.specs.Prelude.{None, Option, Some, if◌then◌else◌, not, ◌&&◌, ◌==◌}
use Rattle.turn_ends.proofs.Begun.{begun_is}
use Rattle.turn_ends.specs.Begin.{start_order}
use Rattle.turn_ends.specs.Placing.{after_hiding_treasures, after_placing, after_placing_all}
use Rattle.cave_data.specs.CaveView.{CaveView}
use Rattle.turn_scene.specs.Treasures.{known_treasures}
use Rattle.world_objects.proofs.Places.{halves_at-after_relist}
use Rattle.world_objects.specs.Lists.{after_relist, half_number, halves_at, listed_at, others}
use Rattle.world_objects.specs.Objects.{Layout, after_carry, after_juggle, after_move_to}
use Rattle.world_objects.specs.Objects.{is_in_hands, is_listed, is_place, place_of_anchor}
use Rattle.world_objects.specs.Objects.{place_of_spot, spot_of, unplaced_objects, with_anchor}
use Rattle.world_objects.specs.Objects.{with_prop, with_spot}
use Rattle.world_objects.specs.declared.object.Half.{Half}
use Rattle.world_objects.specs.declared.object.Half.TheVariants.{First, Second}
use Rattle.world_objects.specs.declared.spot.Anchor.{Anchor}
use Rattle.world_objects.specs.declared.spot.Spot.{Spot}
use Rattle.turn_laws.specs.OneList.{AreInOneList, GamesBeginSo, HalvesStay, IsInOneList}

-- what holds of either of two holds of the one that is chosen
choose : {A : Type 0} (Q : A → Type 0) (b : Bool) (x y : A) → (b ≡ true → Q x)
    → (b ≡ false → Q y)
    → Q (if b then x else y)
choose Q true x y f g = f refl
choose Q false x y f g = g refl

-- which list a half is in after one half, it or another, was put elsewhere
listed : (n q : ℕ) (half : Half) (to at : Option ℕ) (hs : List Half)
    → is_listed n hs ≡ is_place q at
    → is_listed n (listed_at q half to hs)
    ≡ is_place q (if half_number half == n then to else at)
unfolding is_listed listed_at others
listed n q half to at hs was = by_place to
  where
    m : ℕ
    m = half_number half

    left : is_listed n (others m hs) ≡ (not (m == n) && is_listed n hs)
    left =
        any-filter_same (λ h. half_number h == n) _ (not (m == n))
        (λ h is. grind (arith, nat_tests, is)) hs

    by_place : (to : Option ℕ)
        → is_listed n (listed_at q half to hs) ≡ is_place q (if m == n then to else at)
    by_place None =
        choose (λ (p : Option ℕ). is_listed n (others m hs) ≡ is_place q p) (m == n) None at
        (λ same. grind (arith, left, same)) (λ other. grind (arith, left, other, was))
    by_place (Some p) =
        choose (λ (hs : List Half). is_listed n hs ≡ is_place q (if m == n then Some p else at))
        (p == q) (half ∷ others m hs) (others m hs) (λ here. grind (arith, left, here, was))
        (λ apart. grind (arith, left, apart, was))

-- a half is put elsewhere
moved : (o l : Layout) (n : ℕ) (half : Half) (to : Option ℕ)
    → l.lists ≡ after_relist half to o.lists → (was : IsInOneList o n)
    → (1 ≤ n → n ≤ 100
    → (if half_number half == n then to else was.place) ≡ place_of_spot (spot_of l n))
    → IsInOneList l n
moved o l n half to lists was first = record {
  place = if half_number half == n then to else was.place;
  only = λ q. ap (λ es. is_listed n (halves_at q es)) lists
      ∙ ap (is_listed n) (halves_at-after_relist half to o.lists q)
      ∙ listed n q half to was.place _ (was.only q);
  first = first;
}

-- where an object says that its first half is, after it, or another, was put elsewhere
said : (first : List Spot) (x n : ℕ) (s : Spot) (at : Option ℕ) → length first ≡ 100
    → (x == 0) ≡ false → (n == 0) ≡ false → n ≤ 100
    → at ≡ place_of_spot (get_or first (n - 1) Spot.Away)
    → (if x == n then place_of_spot s else at)
    ≡ place_of_spot (get_or (set first (x - 1) s) (n - 1) Spot.Away)
said first x n s at all some low few was =
    choose
    (λ (p : Option ℕ). p ≡ place_of_spot (get_or (set first (x - 1) s) (n - 1) Spot.Away))
    (x == n) (place_of_spot s) at
    (λ same.
    let i : n - 1 ≡ x - 1 = grind (arith, nat_tests, same) in
    rw i (ap place_of_spot (sym (get_or-set_same first (x - 1) s Spot.Away
    (grind (arith, nat_tests, all, same, low, few))))))
    (λ other. was ∙ ap place_of_spot (sym (get_or-set_other first (x - 1) (n - 1) s Spot.Away
    (λ same. grind (arith, nat_tests, some, other, low, same)))))

spotted : (o : Layout) (x : ℕ) (s : Spot) → AreInOneList o → AreInOneList (with_spot o x s)
unfolding with_spot spot_of
spotted o x s h =
    choose AreInOneList (x == 0) o _ (λ _. h) (λ some.
    record {
      all = length-set o.first (x - 1) s ∙ h.all;
      halves = λ n.
          let was = h.halves n in
          moved o _ n (First x) (place_of_spot s) refl was (λ one few.
          let low : (n == 0) ≡ false = grind (arith, nat_tests, one) in
          rw low (said o.first x n s was.place h.all some low few (rw low at (was.first one few))));
    })

anchored : (o : Layout) (x : ℕ) (a : Anchor) → AreInOneList o → AreInOneList (with_anchor o x a)
unfolding with_anchor spot_of
anchored o x a h =
    choose AreInOneList (x == 0) o _ (λ _. h) (λ some.
    record {
      all = h.all;
      halves = λ n.
          moved o _ n (Second x) (place_of_anchor a) refl (h.halves n) (λ one few.
          let far : (100 + x == n) ≡ false = grind (arith, nat_tests, some, few) in
          rw far ((h.halves n).first one few));
    })

propped : (o : Layout) (x : ℕ) (v : ℤ) → AreInOneList o → AreInOneList (with_prop o x v)
unfolding with_prop spot_of
propped o x v h =
    choose AreInOneList (x == 0) o _ (λ _. h) (λ _.
    record {
      all = h.all;
      halves = λ n.
          let one = h.halves n in record { place = one.place; only = one.only; first = one.first };
    })

pub halves_stay : HalvesStay
unfolding after_carry after_juggle
halves_stay = record {
  spot = spotted;
  anchor = anchored;
  prop = propped;
  carry = λ o x h. choose AreInOneList (is_in_hands o x) o _ (λ _. h) (λ _. spotted o x Spot.InHands h);
  juggle = λ o x h.
      choose AreInOneList (is_in_hands o x) o _ (λ _. h)
      (λ _. anchored _ x _ (spotted o x (spot_of o x) h));
}

-- as a game begins objects are hidden, and then placed
hidden : (xs : List ℕ) (o : Layout) → AreInOneList o → AreInOneList (after_hiding_treasures xs o)
hidden [] o h = h
hidden (x ∷ xs) o h = hidden xs _ (propped o x _ h)

placed : (cave : CaveView) (xs : List ℕ) (o : Layout) → AreInOneList o
    → AreInOneList (after_placing_all cave xs o)
unfolding after_placing after_move_to
placed cave [] o h = h
placed cave (x ∷ xs) o h = spotted _ x _ (anchored _ x _ (placed cave xs o h))

unplaced : AreInOneList unplaced_objects
unfolding unplaced_objects spot_of is_listed
unplaced = record {
  all = length-replicate 100 Spot.Away;
  halves = λ n.
      record {
        place = None;
        only = λ q. refl;
        first = λ one few.
            choose (λ (s : Spot). None ≡ place_of_spot s) (n == 0) Spot.Away _ (λ _. refl)
            (λ _. ap place_of_spot
            (sym (get_or-replicate 100 (n - 1) Spot.Away Spot.Away (omega (arith, one, few)))));
      };
}

pub games_begin_so : GamesBeginSo
games_begin_so cave =
    subst AreInOneList (begun_is cave)
    (placed cave (start_order cave) _ (hidden (known_treasures cave) _ unplaced))
