-- What a game begins with: what each object is, and the lists.
use Rattle.std.proofs.Common.{◌≡◌, ℕ, ◌+◌, ◌-◌, ◌<◌, ◌≤◌, ◌||◌, Bool, true, false, cond, eqb}
use Rattle.std.proofs.Common.{nat_lt, List, [], ◌∷◌, ◌++◌, length, map, set, get_or, replicate}
use Rattle.std.proofs.Common.{Option, Some, None, ℤ, pos, negsuc, refl, sym, ap, ◌∙◌, arith}
use Rattle.std.specs.List.{filter, flat_map, list_any}
use Rattle.std.proofs.lemmas.Bool.{eq-eqb, ne_eqb, or_parts, or_from, false≢true}
use Rattle.std.proofs.lemmas.Bool.Decides.{nat_tests}
use Rattle.std.proofs.lemmas.List.{length-set, length-replicate, get_or-replicate}
use Rattle.std.specs.Prelude.{is_some}
use Rattle.cave_data.specs.CaveView.{CaveView, name_of}
use Rattle.world_objects.specs.Lists.{half_number, halves_at, has_half, with_half, put_first}
use Rattle.world_objects.specs.Lists.{after_relist, without}
use Rattle.world_objects.specs.Objects.{Layout, with_anchor, with_spot, after_move_to}
use Rattle.world_objects.specs.Objects.{unplaced_objects, with_prop, is_place, spot_at}
use Rattle.world_objects.specs.declared.lists.PlacedHalf.{PlacedHalf}
use Rattle.world_objects.specs.declared.object.Half.{Half}
use Rattle.world_objects.specs.declared.object.Half.TheVariants.{First, Second}
use Rattle.world_objects.specs.declared.spot.Anchor.TheVariants as anchor
use Rattle.world_objects.specs.declared.spot.Spot.TheVariants as spot
use Rattle.world_objects.proofs.Places.{halves_at-put_first}
use Rattle.turn_scene.specs.Homes.{home, hold_of}
use Rattle.turn_ends.specs.Begin.{all_objects, start_prop, start_order, start_halves, start_list}
use Rattle.turn_ends.specs.Begin.{both_halves, place_of_half, lists_of_halves, starting_objects}
use Rattle.turn_ends.specs.Placing.{after_placing, after_placing_all, after_hiding_treasures}
use Rattle.turn_scene.specs.Treasures.{treasures, known_treasures}
use Rattle.turn_ends.proofs.Orders.{IsOrder, order_kept, start_is_order, each_in_order, sets}
use Rattle.turn_ends.proofs.Orders.{get-set, each_is, all_set}

-- ---- lists of halves
lacking : (n : ℕ) (es : List PlacedHalf) → list_any (has_half n) es ≡ false → without n es ≡ es
unfolding without
lacking n [] h = refl
lacking n (e ∷ es) h =
    let parts = or_parts (has_half n e) (list_any (has_half n) es) h in
    rw parts.0 (ap (λ (l : List PlacedHalf). e ∷ l) (lacking n es parts.1))

none_in : (p : PlacedHalf → Bool) (first e : PlacedHalf) (es put : List PlacedHalf) (b : Bool)
    → p first ≡ false
    → (p e || list_any p es) ≡ false → list_any p put ≡ false
    → list_any p (cond b (e ∷ put) (first ∷ e ∷ es)) ≡ false
none_in p first e es put true h none rest =
    or_from (p e) (list_any p put) (or_parts (p e) (list_any p es) none).0 rest
none_in p first e es put false h none rest = or_from (p first) (p e || list_any p es) h none

any-put_first : (p : PlacedHalf → Bool) (first : PlacedHalf) (es : List PlacedHalf)
    → p first ≡ false
    → list_any p es ≡ false → list_any p (put_first first es) ≡ false
unfolding put_first
any-put_first p first [] h none = or_from (p first) false h refl
any-put_first p first (e ∷ es) h none =
    none_in p first e es (put_first first es) (nat_lt e.place first.place) h none
    (any-put_first p first es h (or_parts (p e) (list_any p es) none).1)

any-with_half : (n : ℕ) (half : Half) (place : Option ℕ) (es : List PlacedHalf)
    → eqb (half_number half) n ≡ false → list_any (has_half n) es ≡ false
    → list_any (has_half n) (with_half half place es) ≡ false
any-with_half n half None es h none = none
any-with_half n half (Some place) es h none =
    any-put_first (has_half n) (record { place = place; half = half }) es h none

any-lists_of_halves : (cave : CaveView) (n : ℕ) (halves : List Half)
    → list_any (λ (h : Half). eqb (half_number h) n) halves ≡ false
    → list_any (has_half n) (lists_of_halves cave halves) ≡ false
any-lists_of_halves cave n [] none = refl
any-lists_of_halves cave n (half ∷ halves) none =
    let parts =
    or_parts (eqb (half_number half) n) (list_any (λ (h : Half). eqb (half_number h) n) halves)
    none in
    any-with_half n half (place_of_half cave half) (lists_of_halves cave halves) parts.0
    (any-lists_of_halves cave n halves parts.1)

relisted_new : (half : Half) (place : Option ℕ) (es : List PlacedHalf)
    → list_any (has_half (half_number half)) es ≡ false
    → after_relist half place es ≡ with_half half place es
unfolding after_relist
relisted_new half place es h = ap (λ l. with_half half place l) (lacking (half_number half) es h)

-- neither half of an object is among the halves of others
apart : (x : ℕ) (xs : List ℕ) → 0 < x → x ≤ 100 → list_any (eqb x) xs ≡ false → IsOrder xs
    → (list_any (λ (h : Half). eqb (half_number h) x) (flat_map both_halves xs) ≡ false)
    × (list_any (λ (h : Half). eqb (half_number h) (100 + x)) (flat_map both_halves xs) ≡ false)
apart x [] low high none o = (refl, refl)
apart x (y ∷ ys) low high none o =
    let parts = or_parts (eqb x y) (list_any (eqb x) ys) none in
    let rest = apart x ys low high parts.1 o.1.1.1 in
    let first : eqb y x ≡ false = sym (turned x y) ∙ parts.0 in
    let second : eqb (100 + y) x ≡ false =
    ne_eqb (100 + y) x (λ e. absurd (omega (arith, e, high, o.0))) in
    let third : eqb y (100 + x) ≡ false =
    ne_eqb y (100 + x) (λ e. absurd (omega (arith, e, low, o.1.0))) in
    let fourth : eqb (100 + y) (100 + x) ≡ false =
    ne_eqb (100 + y) (100 + x) (λ e. both (eqb y x) first (eq-eqb y x (omega (arith, e)))) in
    (rw (first, second) rest.0, rw (third, fourth) rest.1)
  where
    turned : (a b : ℕ) → eqb a b ≡ eqb b a
    turned a b = grind (arith, nat_tests)

    both : (b : Bool) → b ≡ false → b ≡ true → ⊥
    both b f t = false≢true (sym f ∙ t)

-- ---- objects that are put where they belong
placed_is : (cave : CaveView) (x : ℕ) (o : Layout) → 0 < x
    → after_placing cave x o
    ≡ record {
      first = set o.first (x - 1) (spot_at (home cave x));
      second = set o.second (x - 1) (hold_of cave x);
      props = o.props;
      lists = after_relist (First x) (place_of_half cave (First x))
          (after_relist (Second x) (place_of_half cave (Second x)) o.lists);
    }
unfolding after_placing after_move_to with_spot with_anchor
placed_is cave x o h =
    let some : eqb x 0 ≡ false = ne_eqb x 0 (λ e. absurd (omega (arith, e))) in rw some refl

-- what the objects of a list are after they were put down, if none of them was anywhere
abbrev standing : CaveView → List ℕ → Layout → Layout
standing cave xs o = record {
  first = sets (λ x. spot_at (home cave x)) xs o.first;
  second = sets (hold_of cave) xs o.second;
  props = o.props;
  lists = lists_of_halves cave (flat_map both_halves xs);
}

next_lists : (cave : CaveView) (x : ℕ) (xs : List ℕ) → IsOrder (x ∷ xs)
    → after_relist (First x) (place_of_half cave (First x))
    (after_relist (Second x) (place_of_half cave (Second x))
    (lists_of_halves cave (flat_map both_halves xs)))
    ≡ lists_of_halves cave (flat_map both_halves (x ∷ xs))
next_lists cave x xs o =
    let es : List PlacedHalf = lists_of_halves cave (flat_map both_halves xs) in
    let free = apart x xs o.0 o.1.0 o.1.1.0 o.1.1.1 in
    let none : list_any (has_half (100 + x)) es ≡ false =
    any-lists_of_halves cave (100 + x) (flat_map both_halves xs) free.1 in
    let none_first : list_any (has_half x) es ≡ false =
    any-lists_of_halves cave x (flat_map both_halves xs) free.0 in
    let differs : eqb (100 + x) x ≡ false = ne_eqb (100 + x) x (λ e. absurd (omega (arith, e))) in
    let second = relisted_new (Second x) (place_of_half cave (Second x)) es none in
    let still : list_any (has_half x) (with_half (Second x) (place_of_half cave (Second x)) es)
    ≡ false =
    any-with_half x (Second x) (place_of_half cave (Second x)) es differs none_first in
    ap (λ l. after_relist (First x) (place_of_half cave (First x)) l) second
    ∙ relisted_new (First x) (place_of_half cave (First x))
    (with_half (Second x) (place_of_half cave (Second x)) es) still

all_stand : (cave : CaveView) (xs : List ℕ) (o : Layout) → IsOrder xs → o.lists ≡ []
    → after_placing_all cave xs o ≡ standing cave xs o
all_stand cave [] o order none =
    λ i. record { first = o.first; second = o.second; props = o.props; lists = none i }
all_stand cave (x ∷ xs) o order none =
    let before = all_stand cave xs o order.1.1.1 none in
    let lists = next_lists cave x xs order in
    ap (λ l. after_placing cave x l) before
    ∙ (placed_is cave x (standing cave xs o) order.0
    ∙ (λ i. record {
      first = sets (λ x. spot_at (home cave x)) (x ∷ xs) o.first;
      second = sets (hold_of cave) (x ∷ xs) o.second;
      props = o.props;
      lists = lists i;
    }))

pub after_placing_all-append : (cave : CaveView) (xs ys : List ℕ) (o : Layout)
    → after_placing_all cave (xs ++ ys) o ≡ after_placing_all cave xs (after_placing_all cave ys o)
after_placing_all-append cave [] ys o = refl
after_placing_all-append cave (x ∷ xs) ys o =
    ap (λ l. after_placing cave x l) (after_placing_all-append cave xs ys o)

-- ---- treasures that are hidden
abbrev hides : List ℕ → List ℤ → List ℤ
hides [] l = l
hides (x ∷ xs) l = hides xs (set l (x - 1) (negsuc 0))

length-hides : (xs : List ℕ) (l : List ℤ) → length (hides xs l) ≡ length l
length-hides [] l = refl
length-hides (x ∷ xs) l = length-hides xs (set l (x - 1) (negsuc 0))
    ∙ length-set l (x - 1) (negsuc 0)

get-hides : (xs : List ℕ) (l : List ℤ) (k : ℕ) (d : ℤ) → IsOrder xs → k < length l
    → get_or (hides xs l) k d ≡ cond (list_any (eqb (k + 1)) xs) (negsuc 0) (get_or l k d)
get-hides [] l k d o h = refl
get-hides (x ∷ xs) l k d o h =
    get-hides xs (set l (x - 1) (negsuc 0)) k d o.1.1.1
    (omega (arith, length-set l (x - 1) (negsuc 0)))
    ∙ rw (get-set (λ _. negsuc 0) x l k d o.0 h)
    (either (eqb (k + 1) x) (list_any (eqb (k + 1)) xs)) where
      either : (a b : Bool)
          → cond b (negsuc 0) (cond a (negsuc 0) (get_or l k d))
          ≡ cond (a || b) (negsuc 0) (get_or l k d)
      either true true = refl
      either true false = refl
      either false b = refl

all_hidden_is : (xs : List ℕ) (o : Layout) → IsOrder xs
    → after_hiding_treasures xs o ≡ record o { props = hides xs o.props }
unfolding with_prop
all_hidden_is [] o h = refl
all_hidden_is (x ∷ xs) o h =
    let some : eqb x 0 ≡ false = ne_eqb x 0 (λ e. absurd (omega (arith, e, h.0))) in
    rw some (all_hidden_is xs (record o { props = set o.props (x - 1) (negsuc 0) }) h.1.1.1)

treasures_kept : (p : ℕ → Bool) → IsOrder (filter p treasures)
unfolding treasures
treasures_kept p = order_kept p 50 30 (omega arith) (omega arith)

treasures_are_order : (cave : CaveView) → IsOrder (known_treasures cave)
unfolding known_treasures
treasures_are_order cave = treasures_kept (λ x. is_some (name_of cave x))

props_begin : (cave : CaveView)
    → hides (known_treasures cave) (replicate 100 (pos 0)) ≡ map (start_prop cave) all_objects
props_begin cave =
    each_is (start_prop cave) (hides (known_treasures cave) (replicate 100 (pos 0))) (pos 0)
    (length-hides (known_treasures cave) (replicate 100 (pos 0)) ∙ length-replicate 100 (pos 0))
    (λ k h.
    get-hides (known_treasures cave) (replicate 100 (pos 0)) k (pos 0) (treasures_are_order cave)
    (omega (arith, length-replicate 100 (pos 0)))
    ∙ ap (λ z. cond (list_any (eqb (k + 1)) (known_treasures cave)) (negsuc 0) z)
    (get_or-replicate 100 k (pos 0) (pos 0) h))

-- ---- the start
pub begun_is : (cave : CaveView)
    → after_placing_all cave (start_order cave)
    (after_hiding_treasures (known_treasures cave) unplaced_objects)
    ≡ starting_objects cave
unfolding starting_objects unplaced_objects
begun_is cave =
    let hidden = all_hidden_is (known_treasures cave) unplaced_objects (treasures_are_order cave) in
    let o : Layout =
    record {
      first = replicate 100 spot.Away;
      second = replicate 100 anchor.Loose;
      props = hides (known_treasures cave) (replicate 100 (pos 0));
      lists = [];
    } in
    let order = start_is_order cave in
    let first =
    all_set (λ x. spot_at (home cave x)) (start_order cave) (replicate 100 spot.Away) spot.Away
    order (length-replicate 100 spot.Away) (each_in_order cave) in
    let second =
    all_set (hold_of cave) (start_order cave) (replicate 100 anchor.Loose) anchor.Loose order
    (length-replicate 100 anchor.Loose) (each_in_order cave) in
    let props = props_begin cave in
    ap (λ l. after_placing_all cave (start_order cave) l) hidden
    ∙ (all_stand cave (start_order cave) o order refl
    ∙ (λ i. record {
      first = first i;
      second = second i;
      props = props i;
      lists = lists_of_halves cave (start_halves cave);
    }))

-- ---- the list of each place
one_more : (q : ℕ) (half : Half) (es : List PlacedHalf) (told : List Half) (p : Option ℕ)
    → halves_at q es ≡ told
    → halves_at q (with_half half p es) ≡ cond (is_place q p) (half ∷ told) told
one_more q half es told None h = h
one_more q half es told (Some p) h =
    halves_at-put_first q (record { place = p; half = half }) es
    ∙ ap (λ (l : List Half). cond (eqb p q) (half ∷ l) l) h

list_of : (cave : CaveView) (q : ℕ) (halves : List Half)
    → halves_at q (lists_of_halves cave halves)
    ≡ filter (λ half. is_place q (place_of_half cave half)) halves
list_of cave q [] = refl
list_of cave q (half ∷ halves) =
    one_more q half (lists_of_halves cave halves)
    (filter (λ (half : Half). is_place q (place_of_half cave half)) halves)
    (place_of_half cave half) (list_of cave q halves)

pub start_lists : (cave : CaveView) (q : ℕ)
    → halves_at q (starting_objects cave).lists ≡ start_list cave q
unfolding starting_objects
start_lists cave q = list_of cave q (start_halves cave)
