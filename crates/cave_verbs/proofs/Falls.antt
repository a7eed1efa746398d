-- If a verb goes on, the rank falls.
use Rattle.std.proofs.Common.{◌≡◌, ℕ, ◌<◌, ◌≤◌, zero, suc, true, false, arith, refl, sym, ◌∙◌, ◌==◌}
use Rattle.std.proofs.Common.{not}
use Rattle.std.proofs.lemmas.Bool.{true≢false, false≢true}
use Rattle.std.specs.Prelude.{◌||◌, ◌&&◌, Option, Some, None, option_and_then}
use Rattle.cave_data.specs.CaveView.{CaveView}
use Rattle.cave_words.specs.Named.{object_named, object_of_word, next_object, word_of_name}
use Rattle.cave_words.specs.declared.named.Named.TheVariants as name
use Rattle.cave_world.specs.declared.state.State.{State}
use Rattle.cave_world.specs.Called.{or_no_object, object_called}
use Rattle.turn_scene.specs.Scene.{thing, is_called}
use Rattle.turn_scene.specs.Reach.{is_carried, is_near, liquid_of, is_liquid}
use Rattle.world_objects.specs.Objects.{is_in_hands, is_first_at, spot_of}
use Rattle.cave_verbs.specs.Verbs.{is_verb}
use Rattle.cave_verbs.specs.declared.verb.Verb.{Verb}
use Rattle.cave_verbs.specs.Rows.{take_rank, drop_rank, throw_rank, bare_rank, rank}

-- the bottle isn't a liquid
pub bottle-water : (cave : CaveView) → is_called cave (thing cave name.Bottle) name.Water ≡ false
unfolding is_called thing
bottle-water cave = grind arith

pub bottle-oil : (cave : CaveView) → is_called cave (thing cave name.Bottle) name.Oil ≡ false
unfolding is_called thing
bottle-oil cave = grind arith

-- what is in the bottle is a liquid by its name
pub liquid-object_called : (cave : CaveView) (s : State) (x : ℕ)
    → is_liquid x (liquid_of cave s) ≡ true
    → (is_called cave x name.Water || is_called cave x name.Oil) ≡ true
unfolding is_called liquid_of
liquid-object_called cave s x h = grind arith

-- what is in the bottle shows that there is a bottle
pub bottle-there : (cave : CaveView) (s : State) (x : ℕ) → is_liquid x (liquid_of cave s) ≡ true
    → (thing cave name.Bottle == 0) ≡ false
unfolding liquid_of
bottle-there cave s x h = grind arith

-- from a liquid to its bottle the rank of TAKE falls
pub take_falls : (cave : CaveView) (s : State) (x y : ℕ) → is_liquid x (liquid_of cave s) ≡ true
    → y ≡ thing cave name.Bottle → suc (take_rank cave y) ≤ take_rank cave x
take_falls cave s x y h bottle =
    let liquid = liquid-object_called cave s x h in let there = bottle-there cave s x h in
    let water = bottle-water cave in let oil = bottle-oil cave in
    grind (arith, liquid, there, water, oil, bottle)

-- an object is not the one before it
second_differs : (o : Option ℕ)
    → (not (or_no_object (option_and_then next_object o) == 0)
    && or_no_object o == or_no_object (option_and_then next_object o)) ≡ false
second_differs None = refl
second_differs (Some n) = grind arith

-- the second rod is not the first
second-rod : (cave : CaveView) → is_called cave (thing cave name.SecondRod) name.Rod ≡ false
unfolding is_called thing object_called object_named word_of_name
second-rod cave = second_differs (object_of_word cave (word_of_name name.Rod))

-- from the rod to the second rod the rank of DROP falls
pub drop_falls : (cave : CaveView) (x y : ℕ) → is_called cave x name.Rod ≡ true
    → y ≡ thing cave name.SecondRod → suc (drop_rank cave y) ≤ drop_rank cave x
drop_falls cave x y rod second = let other = second-rod cave in grind (arith, other)

-- and so does that of THROW
pub throw_falls : (cave : CaveView) (x y : ℕ) → is_called cave x name.Rod ≡ true
    → y ≡ thing cave name.SecondRod → suc (throw_rank cave y) ≤ throw_rank cave x
throw_falls cave x y rod second = let other = second-rod cave in grind (arith, other)

-- nothing that isn't there is near
nothing-near : (cave : CaveView) (s : State) → is_near cave s 0 ≡ false
unfolding is_near is_carried is_called is_in_hands is_first_at spot_of
nothing-near cave s = refl

pub near-there : (cave : CaveView) (s : State) (x : ℕ) → is_near cave s x ≡ true → (x == 0) ≡ false
near-there cave s zero h = absurd (true≢false (sym h ∙ nothing-near cave s))
near-there cave s (suc x) h = grind arith

-- nor is it in the hand
nothing-carried : (cave : CaveView) (s : State) → is_carried cave s 0 ≡ false
unfolding is_carried is_called is_in_hands spot_of
nothing-carried cave s = refl

held-there : (cave : CaveView) (s : State) (x : ℕ) → is_carried cave s x ≡ true → (x == 0) ≡ false
held-there cave s zero h = absurd (true≢false (sym h ∙ nothing-carried cave s))
held-there cave s (suc x) h = grind arith

-- from no object to one in the hand the rank of READ falls
pub read_falls : (cave : CaveView) (s : State) (x : ℕ) → is_carried cave s x ≡ true
    → suc (bare_rank x) ≤ 1
read_falls cave s x held = let there = held-there cave s x held in grind (arith, there)

-- from no object to one at hand the rank of FILL falls
pub fill_falls : (cave : CaveView) (s : State) (x : ℕ) → is_near cave s x ≡ true
    → suc (bare_rank x) ≤ 1
fill_falls cave s x near = let there = near-there cave s x near in grind (arith, there)

-- from no object to one the rank of OPEN and LOCK falls
pub lock_falls : (cave : CaveView) (v : Verb) (x : ℕ)
    → (is_verb v Verb.Open || is_verb v Verb.Lock) ≡ true → 0 < x → suc (rank cave v x) ≤ 1
lock_falls cave Verb.Open x is some = grind (arith, some)
lock_falls cave Verb.Lock x is some = grind (arith, some)
lock_falls cave _ x is some = absurd (false≢true is)

-- no verb goes on more than three times
pub few_ranks : (cave : CaveView) (v : Verb) (x : ℕ) → rank cave v x ≤ 3
few_ranks cave Verb.Take x = grind arith
few_ranks cave Verb.Drop x = grind arith
few_ranks cave Verb.Throw x = grind arith
few_ranks cave Verb.Feed x = omega arith
few_ranks cave _ x = grind arith
