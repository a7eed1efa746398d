-- What laws speak of in a state, and what happens to it in a game.
use Rattle.std.proofs.Common.{Bool, List, [], ap, arith, false, get_or, length, negsuc, pos, refl}
use Rattle.std.proofs.Common.{set, suc, sym, true, zero, ℕ, ℤ, ◌+◌, ◌-◌, ◌<◌, ◌∙◌, ◌∷◌, ◌≡◌, ◌≤ℤ◌}
use Rattle.std.proofs.Common.{◌≤◌, ◌⊎◌}
use Rattle.std.proofs.lemmas.Bool.{true≢false}
use Rattle.std.proofs.lemmas.Bool.Decides.{nat_tests}
use Rattle.std.specs.Int.{int_max, int_min}
use Rattle.std.specs.Ordering.{int_eq}
use Rattle.std.specs.Prelude.{int_le, ◌/◌, None, Option, Some, filter, if◌then◌else◌, int_lt}
use Rattle.std.specs.Prelude.{is_some, map, min, nat_le, slice_index_or, slice_set, take, ◌&&◌}
use Rattle.std.specs.Prelude.{◌-ℤ◌, ◌==◌}
use Rattle.cave_data.specs.CaveView.{CaveView}
use Rattle.cave_world.specs.Limits.{MAX_LAMP_TURNS}
use Rattle.cave_world.specs.State.{no_dwarf}
use Rattle.cave_world.specs.declared.closing.Closing.{Closing}
use Rattle.cave_world.specs.declared.dwarves.Dwarf.{Dwarf}
use Rattle.cave_world.specs.declared.ending.Ending.{Ending}
use Rattle.cave_world.specs.declared.ending.Question.{Question}
use Rattle.cave_world.specs.declared.state.State.{State}
use Rattle.cave_world.specs.declared.state.Tallies.{Tallies}
use Rattle.turn_clocks.specs.FirstClock.{dismissed_dwarf}
use Rattle.turn_scene.specs.Scene.{thing}
use Rattle.turn_scene.specs.Homes.{second_home, home}
use Rattle.turn_scene.specs.Places.{building_place, outside_place, place_named}
use Rattle.world_objects.specs.Objects.{with_prop, after_carry, after_juggle, after_move_to}
use Rattle.world_objects.specs.Objects.{with_anchor, Layout, objects_in_hands}
use Rattle.world_objects.specs.declared.spot.Anchor.{Anchor}
use Rattle.cave_words.specs.declared.named.Named.TheVariants as name
use Rattle.cave_world.specs.declared.dwarves.Dwarves.{Dwarves}
use Rattle.data_rows.specs.declared.place_role.PlaceRole.TheVariants as landmark
use Rattle.turn_laws.specs.Courses.{burns}
use Rattle.turn_laws.specs.DwarfLaws.{is_living}
use Rattle.turn_laws.specs.Laws.{brings_batteries, is_command, pays}
use Rattle.turn_laws.specs.Reachable.{IsKnown}

-- the question whether to come back
abbrev pub is_die : Question → Bool
is_die Question.Die = true
is_die _ = false

-- the dwarves without their knife
pub record Band : Type 0 where
  pub anger : ℕ
  pub kills : ℕ
  pub each : List Dwarf

abbrev pub band_of : Dwarves → Band
band_of w = record { anger = w.anger; kills = w.kills; each = w.each }

-- what laws speak of
pub record View : Type 0 where
  pub here : ℕ
  pub objects : Layout
  pub charge : ℤ
  pub closing : Closing
  pub tallies : Tallies
  pub band : Band
  pub hints : List Bool
  pub question : Option Question
  pub ending : Option Ending

abbrev pub view : State → View
view s =
    record {
      here = s.trail.here;
      objects = s.objects;
      charge = s.lamp.charge;
      closing = s.closing;
      tallies = s.tallies;
      band = band_of s.dwarves;
      hints = s.hints.is_taken;
      question = s.question;
      ending = s.ending;
    }

abbrev pub Claim : Type 1
Claim = View → Type 0

-- a claim holds of a state
abbrev pub On : Claim → State → Type 0
On P s = P (view s)

-- a claim would hold if the player were at a place
abbrev pub There : Claim → ℕ → Claim
There P place v = P (record v { here = place })

-- commands can follow
abbrev pub IsCalm : View → Type 0
IsCalm v = (v.question ≡ None) × (v.ending ≡ None)

-- a claim holds, commands can follow, and the player is at a place of some kind
pub record Ready (Here : ℕ → Type 0) (P : Claim) (v : View) : Type 0 where
  pub holds : P v
  pub calm : IsCalm v
  pub at : Here v.here

-- at any place
abbrev pub Anywhere : ℕ → Type 0
Anywhere n = Unit {0}

pub anywhere : {Here : ℕ → Type 0} {P : Claim} {v : View} → Ready Here P v → Ready Anywhere P v
anywhere r = record { holds = r.holds; calm = r.calm; at = tt }

-- a change of where objects are and what they are, without taking any
pub data Change : Type 0 where
  Place : ℕ → ℕ → Change
  Hold : ℕ → Anchor → Change
  Prop : ℕ → ℤ → Change
  Juggle : ℕ → Change

abbrev pub after_change : Change → Layout → Layout
after_change (Place x place) o = after_move_to o x place
after_change (Hold x a) o = with_anchor o x a
after_change (Prop x v) o = with_prop o x v
after_change (Juggle x) o = after_juggle o x

abbrev pub after_taking : List ℕ → Layout → Layout
after_taking [] o = o
after_taking (x ∷ xs) o = after_taking xs (after_carry o x)

-- the hands have room for two objects
abbrev pub HasRoom : Layout → Type 0
HasRoom o = length (objects_in_hands o) ≤ 6

-- this many of the first dwarves of a list live
abbrev pub living : ℕ → List Dwarf → ℕ
living n xs = length (filter is_living (take n xs))

-- what happens to the dwarves while the player is at a place: they are as angry, up to the most
-- that is counted; if the place isn't 0, those that are gone stay gone, and those that were killed
-- and those that live don't become more
pub record IsBandAfter (here : ℕ) (a b : Band) : Type 0 where
  pub anger : min a.anger 13 ≤ b.anger
  pub gone : 1 ≤ here → (i : ℕ) → i < 5 → (slice_index_or a.each i no_dwarf).place ≡ 0
      → (slice_index_or b.each i no_dwarf).place ≡ 0
  pub alive : 1 ≤ here → living 5 b.each ≤ living 5 a.each
  pub few : 1 ≤ here → b.kills + living 5 b.each ≤ a.kills + living 5 a.each

-- a charge is no lower than another or -1, and no higher than it or the most
pub record IsChargeAfter (a b : ℤ) : Type 0 where
  pub least : int_min a (negsuc 0) ≤ℤ b
  pub most : b ≤ℤ int_max a (pos MAX_LAMP_TURNS)

-- what a turn burns of a charge, and a lamp that has burnt its last turn goes out
abbrev pub burnt : Bool → ℤ → ℤ
burnt lit c = if lit then int_max (c -ℤ pos 1) (negsuc 0) else c

abbrev pub left_of : ℤ → ℤ
left_of c = if int_eq c (pos 0) then negsuc 0 else c

-- a closing cave keeps the player from the place
abbrev pub is_shut_off : CaveView → ℕ → View → Bool
is_shut_off cave place v =
    v.closing.is_closing && nat_le 1 place && nat_le place (outside_place cave)

-- between two places; the other if one is no place; here if neither is a place
abbrev pub between : ℕ → ℕ → ℕ → ℕ
between a b here =
    if b == 0 then (if a == 0 then here else a) else (if a == 0 then b else (a + b) / 2)

-- where the dragon dies, for a player who is here
abbrev pub lair_from : CaveView → ℕ → ℕ
lair_from cave here =
    let dragon = thing cave name.Dragon in
    between (home cave dragon) (second_home cave dragon) here

-- the player is put at a place: at the end of the repository, or where the dragon dies
abbrev pub IsPut : CaveView → ℕ → View → Type 0
IsPut cave place v = (place_named cave landmark.Ne ≡ Some place) ⊎ (place ≡ lair_from cave v.here)

-- a line, as laws see it: where it finds the player, whether it is a command, and whether it pays a
-- price, burns the lamp and brings batteries
pub record Line : Type 0 where
  pub here : ℕ
  pub is_command : Bool
  pub is_paid : Bool
  pub is_lit : Bool
  pub is_changed : Bool

abbrev pub line_of : CaveView → State → List ℕ → Line
line_of cave s line =
    record {
      here = s.trail.here;
      is_command = is_command cave s line;
      is_paid = pays cave line s.question;
      is_lit = burns cave s line;
      is_changed = brings_batteries cave s line;
    }

-- a command finds the player somewhere
abbrev pub IsFound : Line → Type 0
IsFound l = l.is_command ≡ true → 1 ≤ l.here

-- the player is somewhere, if a command finds the player somewhere
abbrev pub Somewhere : Line → ℕ → Type 0
Somewhere l n = IsFound l → 1 ≤ n

-- what the lamp leaves of a charge that has burnt: new batteries have more
abbrev pub Leaves : Line → ℤ → ℤ → Type 0
Leaves l b c = ((l.is_changed ≡ true) × IsChargeAfter b c) ⊎ (c ≡ left_of b)

-- what happens, one thing after another
pub data Event : Type 0 where
  -- as a line begins: a question is answered, the clocks change objects, the first clock goes on,
  -- the cave begins to close and the dwarves are gone, the second clock goes on, the cave is closed
  Closes : Question → Event
  Shifts : Change → Event
  Counts Begins Ticks Shuts : Event
  -- then, once: the lamp is passed over, or has a charge; or a player who died comes back, or not
  Passes : Event
  Burns : ℤ → Event
  Revives : Event
  Buries : Ending → Event
  -- and then: objects change, at most two are taken, the dwarves act, a price is paid for a charge,
  -- a player who tries to get out panics
  Moves : Change → Event
  Takes : List ℕ → Event
  Bands : Band → Event
  Pays Panics : ℤ → Event
  -- one more treasure counts as lost; one is found; one is, and the rest can't all be, so the lamp
  -- burns at most 35 more turns; a hint is taken
  Loses Finds Shortens : Event
  Hints : ℕ → Event
  -- the game ends; the player dies for good, at the same place or at none; is asked whether to come
  -- back, or something else; comes to a place; is put at a place
  Ends : Ending → Event
  Kills : Ending → ℕ → Event
  Dies : ℕ → Event
  Asks : Question → Event
  Comes Puts : ℕ → Event

abbrev pub with_death : Tallies → Tallies
with_death t = record t { deaths = min (t.deaths + 1) 3 }

abbrev pub with_one_found : Tallies → Tallies
with_one_found t = record t { unseen = t.unseen - 1 }

abbrev pub after : CaveView → Event → View → View
after cave (Closes a) v = record v { question = None }
after cave (Shifts c) v = record v { objects = after_change c v.objects }
after cave Counts v =
    record v { closing = record v.closing { first_clock = v.closing.first_clock -ℤ pos 1 } }
after cave Begins v =
    record v {
      closing = record v.closing { first_clock = negsuc 0; is_closing = true };
      band = record v.band { each = map dismissed_dwarf v.band.each };
    }
after cave Ticks v =
    record v { closing = record v.closing { second_clock = v.closing.second_clock -ℤ pos 1 } }
after cave Shuts v = record v { closing = record v.closing { is_closed = true } }
after cave Passes v = v
after cave (Burns c) v = record v { charge = c }
after cave Revives v =
    record v { here = building_place cave; tallies = with_death v.tallies; question = None }
after cave (Buries how) v =
    record v { tallies = with_death v.tallies; question = None; ending = Some how }
after cave (Moves c) v = record v { objects = after_change c v.objects }
after cave (Takes xs) v = record v { objects = after_taking xs v.objects }
after cave (Bands w) v = record v { band = w }
after cave (Pays c) v = record v { charge = c }
after cave (Panics second) v =
    record v { closing = record v.closing { second_clock = second; is_panicking = true } }
after cave Loses v =
    record v { tallies = record v.tallies { lost = min (v.tallies.lost + 1) 60000 } }
after cave Finds v = record v { tallies = with_one_found v.tallies }
after cave Shortens v =
    record v { charge = int_min v.charge (pos 35); tallies = with_one_found v.tallies }
after cave (Hints i) v = record v { hints = slice_set v.hints i true }
after cave (Ends how) v = record v { ending = Some how }
after cave (Kills how place) v =
    record v { here = place; tallies = with_death v.tallies; ending = Some how }
after cave (Dies place) v = record v { here = place; question = Some Question.Die }
after cave (Asks a) v = record v { question = Some a }
after cave (Comes place) v = record v { here = place }
after cave (Puts place) v = record v { here = place }

-- the conditions for something to happen in a line
abbrev pub Can : CaveView → Line → Event → View → Type 0
Can cave l (Closes a) v = (is_die a ≡ false) × (v.question ≡ Some a) × (v.ending ≡ None)
Can cave l Counts v = int_lt (pos 0) v.closing.first_clock ≡ true
Can cave l Begins v = IsCalm v
Can cave l Ticks v = int_le (pos 0) v.closing.second_clock ≡ true
Can cave l Shuts v = int_eq v.closing.first_clock (negsuc 0) ≡ true
Can cave l Passes v = l.is_lit ≡ false
Can cave l (Burns c) v = Leaves l (burnt l.is_lit v.charge) c
Can cave l Revives v =
    (nat_le 3 (min (v.tallies.deaths + 1) 3) ≡ false) × (v.question ≡ Some Question.Die)
    × (v.ending ≡ None) × (l.is_lit ≡ false)
Can cave l (Buries how) v =
    (v.question ≡ Some Question.Die) × (v.ending ≡ None) × (l.is_lit ≡ false)
Can cave l (Takes xs) v = (length xs ≤ 2) × HasRoom v.objects
Can cave l (Bands w) v = Somewhere l v.here × IsBandAfter v.here v.band w
Can cave l (Pays c) v = (l.is_paid ≡ true) × IsChargeAfter v.charge c
Can cave l (Panics second) v = (second ≡ v.closing.second_clock) ⊎ (second ≡ pos 15)
Can cave l Shortens v = 2 ≤ v.tallies.unseen
Can cave l (Ends how) v = IsCalm v
Can cave l (Kills how place) v =
    IsCalm v × (v.closing.is_closing ≡ true) × ((place ≡ v.here) ⊎ (place ≡ 0))
Can cave l (Dies place) v = IsCalm v × (v.closing.is_closing ≡ false)
Can cave l (Asks a) v = (is_die a ≡ false) × IsCalm v × IsKnown cave a
Can cave l (Comes place) v = ((place == 0) ≡ false) × (is_shut_off cave place v ≡ false)
Can cave l (Puts place) v = ((place == 0) ≡ false) × IsPut cave place v
Can cave l _ v = Unit {0}

-- the one of two claims that holds after something has happened, and the one that holds before: the
-- first holds as a line begins, and the second from when the lamp was passed
abbrev pub claim_after : Claim → Claim → Event → Claim
claim_after Q P (Closes a) = Q
claim_after Q P (Shifts c) = Q
claim_after Q P Counts = Q
claim_after Q P Begins = Q
claim_after Q P Ticks = Q
claim_after Q P Shuts = Q
claim_after Q P _ = P

abbrev pub claim_before : Claim → Claim → Event → Claim
claim_before Q P Passes = Q
claim_before Q P (Burns c) = Q
claim_before Q P Revives = Q
claim_before Q P (Buries how) = Q
claim_before Q P e = claim_after Q P e

-- anything that happens in a line leads from one claim to the other
abbrev pub Keeps : CaveView → Line → Claim → Claim → Type 0
Keeps cave l Q P =
    (e : Event) (v : View) → Can cave l e v → claim_before Q P e v
    → claim_after Q P e (after cave e v)

pub record IsKept (cave : CaveView) (l : Line) (Q P : Claim) : Type 0 where
  pub keeps : Keeps cave l Q P

-- a claim is kept if objects change
abbrev pub IsMoved : Claim → Type 0
IsMoved P = (v : View) (c : Change) → P v → P (record v { objects = after_change c v.objects })

module _ {cave : CaveView} {l : Line} {Q P : Claim} (k : IsKept cave l Q P) where
  -- the lamp is passed over
  pub led : {Here : ℕ → Type 0} (v : View) → l.is_lit ≡ false → Ready Here Q v → Ready Here P v
  led v unlit r = record { holds = k.keeps Passes v unlit r.holds; calm = r.calm; at = r.at }

-- what holds of either of two holds of the one that is chosen
pub choose : {A : Type 0} (Q : A → Type 0) (b : Bool) (x y : A) → (b ≡ true → Q x)
    → (b ≡ false → Q y)
    → Q (if b then x else y)
choose Q true x y f g = f refl
choose Q false x y f g = g refl

-- what holds of an element of a list holds of it after one of them is replaced, if it also holds of
-- the new one
pub kept_by_set : {X : Type 0} (P : X → Type 0) (xs : List X) (i y : ℕ) (s d : X)
    → P (get_or xs y d) → (y ≡ i → P s) → P (get_or (set xs i s) y d)
kept_by_set P [] i y s d old new = old
kept_by_set P (x ∷ xs) zero zero s d old new = new refl
kept_by_set P (x ∷ xs) zero (suc y) s d old new = old
kept_by_set P (x ∷ xs) (suc i) zero s d old new = old
kept_by_set P (x ∷ xs) (suc i) (suc y) s d old new =
    kept_by_set P xs i y s d old (λ same. new (ap suc same))

-- a place that isn't 0
pub from_one : (n : ℕ) → (n == 0) ≡ false → 1 ≤ n
from_one n some = grind (arith, nat_tests)

pub some_place : (n : ℕ) → (n == 0) ≡ false → n ≡ 0 → ⊥
some_place n some none = let more = from_one n some in omega (arith, more, none)

-- the player isn't asked whether to come back if nothing is asked, or something else
pub not_asked : {q : Option Question} → q ≡ None → q ≡ Some Question.Die → ⊥
not_asked none asked = true≢false (sym (ap is_some asked) ∙ ap is_some none)

pub not_die : (a : Question) → is_die a ≡ false → Some a ≡ Some Question.Die → ⊥
not_die a other asked =
    let same : a ≡ Question.Die = cc in true≢false (sym (ap is_die same) ∙ other)
