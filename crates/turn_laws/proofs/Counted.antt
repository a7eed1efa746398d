-- How many objects are in the hands, and how many dwarves live, after a change of them.
use Rattle.std.proofs.Common.{cond, Bool, List, [], ap, arith, false, get_or, inl, inr, length}
use Rattle.std.proofs.Common.{refl, set, subst, suc, sym, true, zero, ℕ, ℤ, ◌+◌, ◌-◌, ◌<◌, ◌∙◌, ◌∷◌}
use Rattle.std.proofs.Common.{◌≡◌, ◌≤◌, ◌⊎◌}
use Rattle.std.proofs.lemmas.Bool.{false≢true, true≢false}
use Rattle.std.proofs.lemmas.Bool.Decides.{nat_tests}
use Rattle.std.proofs.lemmas.List.Sums.{sum_by-set, count_by-le-length, length-filter}
use Rattle.std.specs.Prelude.{if◌then◌else◌, None, Option, Some, filter, map, min, nat_le, not}
use Rattle.std.specs.Prelude.{take, ◌&&◌, ◌==◌, ◌||◌}
use Rattle.cave_world.specs.State.{no_dwarf}
use Rattle.cave_world.specs.declared.dwarves.Dwarf.{Dwarf}
use Rattle.turn_clocks.specs.FirstClock.{dismissed_dwarf}
use Rattle.world_objects.specs.Objects.{with_spot, in_hands_up_to, is_in_hands, spot_of}
use Rattle.world_objects.specs.Objects.{with_anchor, with_prop, after_carry, after_juggle}
use Rattle.world_objects.specs.Objects.{after_move_to, anchor_of, Layout, objects_in_hands}
use Rattle.world_objects.specs.Objects.{is_spot_in_hands, spot_at}
use Rattle.world_objects.specs.declared.spot.Anchor.{Anchor}
use Rattle.std.proofs.Math.Seq.{take-set-lt}
use Rattle.std.proofs.lemmas.Grind.{common_steps}
use Rattle.std.proofs.lemmas.List.{length-take}
use Rattle.std.proofs.lemmas.List.Quantifiers.{position-Some}
use Rattle.std.specs.List.{list_any, position, prefix_len, range_with_len}
use Rattle.cave_verbs.specs.Throwing.{killed_dwarf, without_first_at, without_one}
use Rattle.turn_scene.specs.Reach.{is_dwarf_at}
use Rattle.world_objects.specs.declared.spot.Spot.{Spot}
use Rattle.turn_laws.specs.DwarfLaws.{is_living}
use Rattle.turn_laws.proofs.View.{Band, Change, HasRoom, Hold, IsBandAfter, Juggle, Place, Prop}
use Rattle.turn_laws.proofs.View.{after_change, after_taking, choose, kept_by_set, living}

-- if one condition follows from another, and one count is at most another, this still holds with
-- one more of each
pub head_fewer : {X : Type 0} (p q : Bool) (x y : X) (xs ys : List X) → (q ≡ true → p ≡ true)
    → length ys ≤ length xs
    → length (if q then y ∷ ys else ys) ≤ length (if p then x ∷ xs else xs)
head_fewer p q x y xs ys each less = grind (arith, each, less)

-- a range has at most as many numbers with one property as with another, if each of the former has
-- the other property too
pub fewer : (f g : ℕ → Bool) (a n : ℕ) → ((y : ℕ) → a ≤ y → g y ≡ true → f y ≡ true)
    → length (filter g (range_with_len a n)) ≤ length (filter f (range_with_len a n))
fewer f g a zero each = omega arith
fewer f g a (suc n) each =
    head_fewer (f a) (g a) a a (filter f (range_with_len (a + 1) n))
    (filter g (range_with_len (a + 1) n)) (each a (omega arith))
    (fewer f g (a + 1) n (λ y low. each y (omega (arith, low))))

-- one more number on the shorter list
head_more : (p q : Bool) (a : ℕ) (xs ys : List ℕ)
    → (q ≡ true → (p ≡ true) ⊎ (length ys ≤ length xs))
    → length ys ≤ length xs + 1
    → length (if q then a ∷ ys else ys) ≤ length (if p then a ∷ xs else xs) + 1
head_more p q a xs ys each less = grind (arith, each, less)

-- there is at most one more, if all of them except one have the other property too
one_more : (f g : ℕ → Bool) (x a n : ℕ) → ((y : ℕ) → g y ≡ true → (f y ≡ true) ⊎ (y ≡ x))
    → length (filter g (range_with_len a n)) ≤ length (filter f (range_with_len a n)) + 1
one_more f g x a zero each = omega arith
one_more f g x a (suc n) each =
    head_more (f a) (g a) a (filter f (range_with_len (a + 1) n))
    (filter g (range_with_len (a + 1) n)) (λ has. here (each a has)) (one_more f g x (a + 1) n each)
  where
    past : (y : ℕ) → a + 1 ≤ y → a ≡ x → (f y ≡ true) ⊎ (y ≡ x) → f y ≡ true
    past y low same (inl has) = has
    past y low same (inr is) = absurd (omega (arith, low, same, is))

    here : (f a ≡ true) ⊎ (a ≡ x)
        → (f a ≡ true) ⊎ (length (filter g (range_with_len (a + 1) n))
        ≤ length (filter f (range_with_len (a + 1) n)))
    here (inl has) = inl has
    here (inr same) = inr (fewer f g (a + 1) n (λ y low has. past y low same (each y has)))

-- what is in the hands once the first half of an object is brought to a spot was there before, or
-- is the object
spotted : {T : Type 0} (o : Layout) (x y : ℕ) (s : Spot) → is_in_hands (with_spot o x s) y ≡ true
    → (is_in_hands o y ≡ true → T) → (y ≡ x → is_spot_in_hands s ≡ true → T) → T
unfolding with_spot is_in_hands spot_of
spotted {T} o x y s held before now =
    choose (λ (l : Layout). is_in_hands l y ≡ true → T) (x == 0) o _ (λ _. before)
    (λ some. choose (λ (t : Spot). is_spot_in_hands t ≡ true → T) (y == 0) Spot.Away
    (get_or (set o.first (x - 1) s) (y - 1) Spot.Away) (λ _ never. absurd (false≢true never))
    (λ other. kept_by_set (λ (t : Spot). is_spot_in_hands t ≡ true → T) o.first (x - 1) (y - 1) s
    Spot.Away (λ was. before (was_carried other was)) (λ same. now (same_object some other same))))
    held
  where
    was_carried : (y == 0) ≡ false
        → is_spot_in_hands (get_or o.first (y - 1) Spot.Away) ≡ true → is_in_hands o y ≡ true
    was_carried other was =
        choose (λ (t : Spot). is_spot_in_hands t ≡ true) (y == 0) Spot.Away _
        (λ none. absurd (true≢false (sym none ∙ other))) (λ _. was)

    same_object : (x == 0) ≡ false → (y == 0) ≡ false → y - 1 ≡ x - 1 → y ≡ x
    same_object some other same = grind (arith, nat_tests)

-- what is at a place isn't in the hands
pub no_hand : (place : ℕ) → is_spot_in_hands (spot_at place) ≡ true → ⊥
no_hand place held =
    choose (λ (s : Spot). is_spot_in_hands s ≡ true → ⊥) (place == 0) Spot.Away (Spot.At place)
    (λ _ now. false≢true now) (λ _ now. false≢true now) held

-- what is in the hands in the second layout is there in the first
abbrev pub Holds : Layout → Layout → Type 0
Holds o p = (y : ℕ) → is_in_hands p y ≡ true → is_in_hands o y ≡ true

anchored_holds : (o : Layout) (x : ℕ) (a : Anchor) → Holds o (with_anchor o x a)
unfolding with_anchor is_in_hands spot_of
anchored_holds o x a y held =
    choose (λ (p : Layout). is_in_hands p y ≡ true → is_in_hands o y ≡ true) (x == 0) o _
    (λ _ now. now) (λ _ now. now) held

-- no change takes an object
pub change_holds : (c : Change) (o : Layout) → Holds o (after_change c o)
unfolding after_move_to with_prop after_juggle is_in_hands spot_of
change_holds (Place x place) o y held =
    spotted o x y (spot_at place) held (λ was. was) (λ _ now. absurd (no_hand place now))
change_holds (Hold x a) o y held = anchored_holds o x a y held
change_holds (Prop x v) o y held =
    choose (λ (p : Layout). is_in_hands p y ≡ true → is_in_hands o y ≡ true) (x == 0) o _
    (λ _ now. now) (λ _ now. now) held
change_holds (Juggle x) o y held =
    let once = with_spot o x (spot_of o x) in
    choose (λ (p : Layout). is_in_hands p y ≡ true → is_in_hands o y ≡ true) (is_in_hands o x) o
    (with_anchor once x (anchor_of once x)) (λ _ now. now)
    (λ free now. spotted o x y (spot_of o x) (anchored_holds once x (anchor_of once x) y now)
    (λ was. was) (λ _ carried. absurd (false≢true (sym free ∙ carried)))) held

-- taking an object makes at most one more
carried_more : (o : Layout) (x : ℕ)
    → length (objects_in_hands (after_carry o x)) ≤ length (objects_in_hands o) + 1
unfolding after_carry in_hands_up_to
carried_more o x =
    choose (λ (p : Layout). length (objects_in_hands p) ≤ length (objects_in_hands o) + 1)
    (is_in_hands o x) o (with_spot o x Spot.InHands) (λ _. omega arith)
    (λ _. one_more (is_in_hands o) (is_in_hands (with_spot o x Spot.InHands)) x 1 100
    (λ y held. spotted o x y Spot.InHands held (λ was. inl was) (λ same _. inr same)))

-- no more are in the hands
pub held_fewer : (o p : Layout) → Holds o p
    → length (objects_in_hands p) ≤ length (objects_in_hands o)
unfolding in_hands_up_to
held_fewer o p holds = fewer (is_in_hands o) (is_in_hands p) 1 100 (λ y _ held. holds y held)

-- hands that aren't full have room for two objects
pub room : (n : ℕ) → (nat_le 7 n && true) ≡ false → n ≤ 6
room n free = grind (arith, nat_tests, free)

-- they still have if an object gets a prop
pub room_still : (o : Layout) (x : ℕ) (v : ℤ) → HasRoom o → HasRoom (with_prop o x v)
room_still o x v few =
    let same = held_fewer o (with_prop o x v) (change_holds (Prop x v) o) in
    omega (arith, few, same)

-- no more are in the hands than were there, and those that are taken
pub taken_more : (xs : List ℕ) (o : Layout)
    → length (objects_in_hands (after_taking xs o)) ≤ length (objects_in_hands o) + length xs
taken_more [] o = omega arith
taken_more (x ∷ xs) o =
    let one = carried_more o x in
    let rest = taken_more xs (after_carry o x) in omega (arith, one, rest)

-- a place isn't 0 if another isn't, which is 0 if it is
lives : (i j : ℕ) → (i ≡ 0 → j ≡ 0) → not (j == 0) ≡ true → not (i == 0) ≡ true
lives i j gone some = grind (arith, nat_tests, gone, some)

-- a dwarf that changes, and is gone if it was, leaves no more alive
changed_living : (n i : ℕ) (xs : List Dwarf) (d : Dwarf)
    → (i < n → (get_or xs i no_dwarf).place ≡ 0 → d.place ≡ 0)
    → living n (set xs i d) ≤ living n xs
changed_living zero i xs d gone = omega arith
changed_living (suc n) i [] d gone = omega arith
changed_living (suc n) zero (x ∷ xs) d gone =
    head_fewer (is_living x) (is_living d) x d (filter is_living (take n xs))
    (filter is_living (take n xs)) (lives x.place d.place (gone (omega arith))) (omega arith)
changed_living (suc n) (suc i) (x ∷ xs) d gone =
    head_fewer (is_living x) (is_living x) x x (filter is_living (take n xs))
    (filter is_living (take n (set xs i d))) (λ now. now)
    (changed_living n i xs d (λ low. gone (omega (arith, low))))

-- a dwarf that lives counts once
abbrev once : Bool → ℕ
once b = cond b 1 0

-- a dwarf that lived and is killed is one less alive
killed_living : (n i : ℕ) (xs : List Dwarf) → i < length (take n xs)
    → is_living (get_or (take n xs) i no_dwarf) ≡ true
    → living n (set xs i (killed_dwarf (get_or xs i no_dwarf))) + 1 ≤ living n xs
killed_living n i xs low lived =
    let d = killed_dwarf (get_or xs i no_dwarf) in
    let long = length-take n xs in
    let before = length-filter is_living (take n xs) in
    let after = length-filter is_living (set (take n xs) i d) in
    let one = sum_by-set (λ x. once (is_living x)) (take n xs) i d no_dwarf low in
    let counted = ap once lived in
    rw (take-set-lt n xs i d (omega (arith, long, low)))
    (omega (arith, before, after, one, counted))

-- dwarves that are dismissed don't live
pub dismissed_living : (n : ℕ) (xs : List Dwarf) → living n (map dismissed_dwarf xs) ≡ 0
dismissed_living zero xs = refl
dismissed_living (suc n) [] = refl
dismissed_living (suc n) (x ∷ xs) = dismissed_living n xs

-- if a list has an element that passes, not all of them fail
not_all_fail : (p : Dwarf → Bool) (xs : List Dwarf) → list_any p xs ≡ true
    → prefix_len (λ x. not (p x)) xs < length xs
not_all_fail p [] any = absurd (false≢true any)
not_all_fail p (x ∷ xs) any = later (p x) (not_all_fail p xs) any
  where
    later : (b : Bool) → (list_any p xs ≡ true → prefix_len (λ x. not (p x)) xs < length xs)
        → (b || list_any p xs) ≡ true
        → (if not b then 1 + prefix_len (λ x. not (p x)) xs else 0) < suc (length xs)
    later b less any = grind (arith, less, any)

-- so it has a first one that does
first_there : (p : Dwarf → Bool) (xs : List Dwarf) → list_any p xs ≡ true → position p xs ≡ None → ⊥
first_there p xs any none =
    let less = not_all_fail p xs any in grind (arith, common_steps, less)

-- a dwarf at a place other than 0 that is killed is one less alive
struck_living : (n m : ℕ) (xs : List Dwarf) → 1 ≤ n
    → list_any (is_dwarf_at n) (take m xs) ≡ true
    → living m (without_one xs (position (is_dwarf_at n) (take m xs))) + 1 ≤ living m xs
struck_living n m xs some there = by_first (position (is_dwarf_at n) (take m xs)) refl
  where
    stands : (i : ℕ) → (i == n) ≡ true → not (i == 0) ≡ true
    stands i at = grind (arith, nat_tests)

    by_first : (o : Option ℕ) → position (is_dwarf_at n) (take m xs) ≡ o
        → living m (without_one xs o) + 1 ≤ living m xs
    by_first None first = absurd (first_there (is_dwarf_at n) (take m xs) there first)
    by_first (Some i) first =
        let found = position-Some (is_dwarf_at n) (take m xs) i no_dwarf first in
        killed_living m i xs found.0
        (stands (get_or (take m xs) i no_dwarf).place found.1)

-- a dwarf that is with a player who is somewhere isn't gone
pub isnt_gone : (here place : ℕ) → 1 ≤ here → (place == here) ≡ true → place ≡ 0 → ⊥
isnt_gone here place some same gone = grind (arith, nat_tests, some, same, gone)

pub dismissed_gone : (xs : List Dwarf) (i : ℕ)
    → (get_or (map dismissed_dwarf xs) i no_dwarf).place ≡ 0
dismissed_gone [] i = refl
dismissed_gone (x ∷ xs) zero = refl
dismissed_gone (x ∷ xs) (suc i) = dismissed_gone xs i

-- one that is killed is gone
killed_gone : (xs : List Dwarf) (o : Option ℕ) (i : ℕ) → (get_or xs i no_dwarf).place ≡ 0
    → (get_or (without_one xs o) i no_dwarf).place ≡ 0
killed_gone xs None i was = was
killed_gone xs (Some j) i was =
    kept_by_set (λ (d : Dwarf). d.place ≡ 0) xs j i _ no_dwarf was (λ _. refl)

-- at most five of five live
pub five_at_most : (n : ℕ) (xs : List Dwarf) → living n xs ≤ n
five_at_most n xs =
    let found = length-filter is_living (take n xs) in
    let most = count_by-le-length is_living (take n xs) in
    let long = length-take n xs in omega (arith, found, most, long)

-- dwarves that are angrier
pub angrier : (here : ℕ) (a : Band) (n : ℕ) → min a.anger 13 ≤ n
    → IsBandAfter here a (record a { anger = n })
angrier here a n more = record {
  anger = more;
  gone = λ some i low was. was;
  alive = λ some. omega arith;
  few = λ some. omega arith;
}

-- a dwarf changes; one of the five that is gone stays gone
pub changed : (here : ℕ) (a : Band) (i : ℕ) (d : Dwarf)
    → (1 ≤ here → i < 5 → (get_or a.each i no_dwarf).place ≡ 0 → d.place ≡ 0)
    → IsBandAfter here a (record a { each = set a.each i d })
changed here a i d gone = record {
  anger = omega arith;
  gone = λ some j low was. kept_by_set (λ (e : Dwarf). e.place ≡ 0) a.each i j d no_dwarf was
      (λ same. gone some (omega (arith, same, low))
      (subst (λ n. (get_or a.each n no_dwarf).place ≡ 0) same was));
  alive = λ some. changed_living 5 i a.each d (gone some);
  few = λ some. let less = changed_living 5 i a.each d (gone some) in omega (arith, less);
}

-- a dwarf that is where the player is gets killed
pub struck : (here : ℕ) (a : Band) → list_any (is_dwarf_at here) (take 5 a.each) ≡ true
    → IsBandAfter here a (record a {
      kills = min (a.kills + 1) 60000;
      each = without_first_at here a.each;
    })
unfolding without_first_at
struck here a there = record {
  anger = omega arith;
  gone = λ some i low was. killed_gone a.each (position (is_dwarf_at here) (take 5 a.each)) i was;
  alive = λ some. let less = struck_living here 5 a.each some there in omega (arith, less);
  few = λ some. let less = struck_living here 5 a.each some there in omega (arith, less);
}
