-- Objects that are handled one after another.
use Rattle.std.proofs.Common.{◌≡◌, ℕ, suc, ◌+◌, ◌-◌, ◌<◌, ◌≤◌, Bool, cond, true, false, List, []}
use Rattle.std.proofs.Common.{◌∷◌, length, negsuc, refl, ap, arith}
use Rattle.std.specs.Prelude.{is_some}
use Rattle.std.specs.List.{filter, range_with_len}
use Rattle.cave_data.specs.CaveView.{CaveView, name_of}
use Rattle.world_objects.specs.Objects.{Layout, with_prop}
use Rattle.turn_scene.specs.Homes.{hold_of}
use Rattle.turn_ends.specs.Begin.{is_placed_now, all_objects, objects_due}
use Rattle.turn_ends.specs.Placing.{after_placing, after_placing_all, after_hiding_treasures}
use Rattle.turn_scene.specs.Treasures.{treasures, known_treasures}

-- those of these objects that are due
unfoldable pub due_from : CaveView → Bool → ℕ → ℕ → List ℕ
due_from cave twice first count =
    filter (λ x. is_placed_now twice (hold_of cave x)) (range_with_len first count)

pub due_none : (cave : CaveView) (twice : Bool) (first : ℕ) → due_from cave twice first 0 ≡ []
unfolding due_from
due_none cave twice first = refl

pub due_all : (cave : CaveView) (twice : Bool) (i : ℕ) → i ≡ 100
    → due_from cave twice (101 - i) i ≡ objects_due cave twice
unfolding due_from objects_due all_objects
due_all cave twice i all =
    ap (λ n. filter (λ x. is_placed_now twice (hold_of cave x)) (range_with_len (101 - n) n)) all

-- the next object, counting down
pub placed_next : (cave : CaveView) (twice : Bool) (i : ℕ) (o : Layout) → i < 100
    → after_placing_all cave (due_from cave twice (101 - (i + 1)) (i + 1)) o
    ≡ cond (is_placed_now twice (hold_of cave (100 - i)))
    (after_placing cave (100 - i) (after_placing_all cave (due_from cave twice (101 - i) i) o))
    (after_placing_all cave (due_from cave twice (101 - i) i) o)
unfolding due_from
placed_next cave twice i o h =
    let more : i + 1 ≡ suc i = omega arith in
    let first : 101 - suc i ≡ 100 - i = omega arith in
    let next : 100 - i + 1 ≡ 101 - i = omega arith in
    rw (more, first, next)
    (chosen (is_placed_now twice (hold_of cave (100 - i))) (100 - i)
    (filter (λ x. is_placed_now twice (hold_of cave x)) (range_with_len (101 - i) i)))
  where
    chosen : (b : Bool) (x : ℕ) (xs : List ℕ)
        → after_placing_all cave (cond b (x ∷ xs) xs) o
        ≡ cond b (after_placing cave x (after_placing_all cave xs o)) (after_placing_all cave xs o)
    chosen true x xs = refl
    chosen false x xs = refl

-- those of the treasures from one on that are known
unfoldable pub known_from : CaveView → ℕ → ℕ → List ℕ
known_from cave first count =
    filter (λ x. is_some (name_of cave x)) (range_with_len first count)

pub known_all : (cave : CaveView) → known_from cave 50 30 ≡ known_treasures cave
unfolding known_from known_treasures treasures
known_all cave = refl

pub known_none : (cave : CaveView) (n : ℕ) → 80 ≤ n → known_from cave n (80 - n) ≡ []
unfolding known_from
known_none cave n h = let none : 80 - n ≡ 0 = omega arith in rw none refl

-- the next treasure, counting up
pub hidden_next : (cave : CaveView) (n : ℕ) (o : Layout) → n < 80
    → after_hiding_treasures (known_from cave n (80 - n)) o
    ≡ after_hiding_treasures (known_from cave (n + 1) (80 - (n + 1)))
    (cond (is_some (name_of cave n)) (with_prop o n (negsuc 0)) o)
unfolding known_from
hidden_next cave n o h =
    let more : 80 - n ≡ suc (80 - (n + 1)) = omega arith in
    rw more (chosen (is_some (name_of cave n))
    (filter (λ x. is_some (name_of cave x)) (range_with_len (n + 1) (80 - (n + 1)))))
  where
    chosen : (b : Bool) (xs : List ℕ)
        → after_hiding_treasures (cond b (n ∷ xs) xs) o
        ≡ after_hiding_treasures xs (cond b (with_prop o n (negsuc 0)) o)
    chosen true xs = refl
    chosen false xs = refl

pub counted_next : (cave : CaveView) (n : ℕ) → n < 80
    → length (known_from cave n (80 - n))
    ≡ cond (is_some (name_of cave n)) 1 0
    + length (known_from cave (n + 1) (80 - (n + 1)))
unfolding known_from
counted_next cave n h =
    let more : 80 - n ≡ suc (80 - (n + 1)) = omega arith in
    rw more (chosen (is_some (name_of cave n))
    (filter (λ x. is_some (name_of cave x)) (range_with_len (n + 1) (80 - (n + 1)))))
  where
    chosen : (b : Bool) (xs : List ℕ) → length (cond b (n ∷ xs) xs) ≡ cond b 1 0 + length xs
    chosen true xs = omega arith
    chosen false xs = omega arith

pub ruleset placing = (placed_next)

pub ruleset hiding = (hidden_next, counted_next)
