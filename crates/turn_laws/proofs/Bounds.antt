-- How many deaths, objects in the hands and dwarves there are, where the player is, what is open,
-- and that a closing cave doesn't let the player out.
use Rattle.std.proofs.Common.{Bool, List, [], ap, arith, false, get_or, inl, inr, length, refl}
use Rattle.std.proofs.Common.{subst, suc, sym, true, zero, ℕ, ◌+◌, ◌-◌, ◌<◌, ◌∙◌, ◌∷◌, ◌≡◌, ◌≤◌}
use Rattle.std.proofs.Common.{◌⊎◌}
use Rattle.std.proofs.lemmas.Bool.{false≢true, true≢false}
use Rattle.std.proofs.lemmas.Bool.Decides.{nat_tests}
use Rattle.std.specs.Prelude.{◌/◌, None, Option, Some, is_some, map, min, nat_le, not, ◌&&◌, ◌==◌}
use Rattle.cave_data.specs.CaveView.{CaveView}
use Rattle.cave_world.specs.State.{asleep, far_closing, starting_state, no_dwarf}
use Rattle.cave_world.specs.declared.ending.Ending.{Ending}
use Rattle.cave_world.specs.declared.ending.Question.{Question}
use Rattle.cave_world.specs.declared.state.State.{State}
use Rattle.turn_scene.specs.Scene.{thing}
use Rattle.turn_scene.specs.Homes.{second_home, home}
use Rattle.turn_scene.specs.Places.{building_place, outside_place}
use Rattle.world_objects.specs.Objects.{in_hands_up_to, is_in_hands, spot_of, objects_in_hands}
use Rattle.world_objects.specs.Objects.{is_spot_in_hands, spot_at}
use Rattle.cave_turn.specs.Turns.{start_of_game}
use Rattle.turn_ends.specs.Begin.{all_objects, begun_state, starting_objects}
use Rattle.turn_dwarves.specs.Band.{dwarf_of}
use Rattle.world_objects.specs.declared.spot.Spot.{Spot}
use Rattle.cave_words.specs.declared.named.Named.TheVariants as name
use Rattle.turn_laws.specs.Courses.{AskedInTime, DeathsComeOneByOne, IsOutsideCave, NobodyGetsOut}
use Rattle.turn_laws.specs.Courses.{PutsInside}
use Rattle.turn_laws.specs.DwarfLaws.{FewDwarves, GoneForGood}
use Rattle.turn_laws.specs.Laws.{FewDeaths, IsSomewhere, PlayerIsSomewhere, is_input, is_no_answer}
use Rattle.turn_laws.specs.ObjectLaws.{FewInHands}
use Rattle.turn_laws.specs.Reachable.{HintsAreKnown, IsOpenKnown, NeverBoth}
use Rattle.turn_laws.proofs.Counted.{change_holds, dismissed_gone, dismissed_living, fewer}
use Rattle.turn_laws.proofs.Counted.{five_at_most, held_fewer, no_hand, taken_more}
use Rattle.turn_laws.proofs.Effects.{first_holds, quiet, second_holds}
use Rattle.turn_laws.proofs.Lines.{lasting, lasts, turned}
use Rattle.turn_laws.proofs.Places.{none_of}
use Rattle.turn_laws.proofs.View.{Asks, Bands, Begins, Buries, Burns, Claim, Closes, Comes, Dies}
use Rattle.turn_laws.proofs.View.{Ends, IsFound, IsPut, Keeps, Kills, Line, Moves, Passes, Puts}
use Rattle.turn_laws.proofs.View.{Revives, Shifts, Takes, View, between, choose, from_one, line_of}
use Rattle.turn_laws.proofs.View.{living, not_asked, not_die, some_place}

-- at most eight objects are in the hands
abbrev FewHeld : Claim
FewHeld v = length (objects_in_hands v.objects) ≤ 8

held_kept : (cave : CaveView) (l : Line) → Keeps cave l FewHeld FewHeld
held_kept cave l (Shifts c) v is h =
    let less = held_fewer v.objects _ (change_holds c v.objects) in omega (arith, less, h)
held_kept cave l (Moves c) v is h =
    let less = held_fewer v.objects _ (change_holds c v.objects) in omega (arith, less, h)
held_kept cave l (Takes xs) v is h =
    let most = taken_more xs v.objects in let few = is.0 in let room = is.1 in
    omega (arith, few, room, most)
held_kept cave l _ v is h = h

-- a placed object isn't in the hands
none_first : (f : ℕ → ℕ) (xs : List ℕ) (y : ℕ)
    → is_spot_in_hands (get_or (map (λ x. spot_at (f x)) xs) y Spot.Away) ≡ true → ⊥
none_first f [] y held = false≢true held
none_first f (x ∷ xs) zero held = no_hand (f x) held
none_first f (x ∷ xs) (suc y) held = none_first f xs y held

-- the hands are empty as a game begins
none_carried : (cave : CaveView) (seed y : ℕ)
    → is_in_hands (start_of_game cave seed).state.objects y ≡ true → ⊥
unfolding start_of_game begun_state starting_state starting_objects is_in_hands spot_of
none_carried cave seed y held =
    choose (λ (t : Spot). is_spot_in_hands t ≡ true → ⊥) (y == 0) Spot.Away _
    (λ _ now. false≢true now) (λ _ now. none_first (home cave) all_objects (y - 1) now) held

pub few_in_hands : FewInHands
unfolding in_hands_up_to
few_in_hands =
    lasts (λ cave. FewHeld)
    (λ cave seed.
    let o = (start_of_game cave seed).state.objects in
    let none = fewer (λ _. false) (is_in_hands o) 1 100
    (λ y _ held. absurd (none_carried cave seed y held)) in
    omega (arith, none)) held_kept

-- a command finds the player at a place other than 0
found : (cave : CaveView) (s : State) (line : List ℕ) → IsSomewhere s
    → IsFound (line_of cave s line)
found cave s line somewhere command = by_place (s.trail.here == 0) refl
  where
    nowhere : (is_some s.ending ≡ true) ⊎ (s.question ≡ Some Question.Die) → ⊥
    nowhere (inl over) =
        false≢true (ap not (sym over) ∙ second_holds (is_input line) (not (is_some s.ending))
        (first_holds (is_input line && not (is_some s.ending))
        (is_no_answer cave line s.question) command))
    nowhere (inr die) =
        false≢true (ap (λ (q : Option Question). is_no_answer cave line q) (sym die)
        ∙ second_holds (is_input line && not (is_some s.ending))
        (is_no_answer cave line s.question) command)

    by_place : (b : Bool) → (s.trail.here == 0) ≡ b → 1 ≤ s.trail.here
    by_place true none = absurd (nowhere (somewhere (none_of s.trail.here none)))
    by_place false some = from_one s.trail.here some

-- the dwarves that were killed and those that live are together at most five, and none lives in a
-- closing cave
abbrev FewBand : Claim
FewBand v =
    (v.band.kills + living 5 v.band.each ≤ 5)
    × (v.closing.is_closing ≡ true → living 5 v.band.each ≡ 0)

band_kept : (cave : CaveView) (l : Line) → IsFound l → Keeps cave l FewBand FewBand
band_kept cave l at (Bands w) v is h =
    let few = is.1.few (is.0 at) in let one = h.0 in
    let less = is.1.alive (is.0 at) in
    (omega (arith, few, one), λ closes. let none = h.1 closes in omega (arith, less, none))
band_kept cave l at Begins v is h =
    let none = dismissed_living 5 v.band.each in let one = h.0 in
    (omega (arith, none, one), λ _. none)
band_kept cave l at _ v is h = h

pub few_dwarves : FewDwarves
unfolding start_of_game begun_state starting_state asleep far_closing
few_dwarves = record {
  start = λ cave seed.
      let most = five_at_most 5 (start_of_game cave seed).state.dwarves.each in
      record { at_most = omega (arith, most); none_left = λ closes. absurd (false≢true closes) };
  kept = λ cave s line somewhere h.
      let t = turned cave FewBand FewBand s line
      (band_kept cave (line_of cave s line) (found cave s line somewhere))
      (h.at_most, h.none_left) in
      record { at_most = t.0; none_left = t.1 };
}

-- a dwarf that is gone stays gone
abbrev Gone : ℕ → Claim
Gone number v = (get_or v.band.each number no_dwarf).place ≡ 0

gone_kept : (number : ℕ) → number < 5 → (cave : CaveView) (l : Line) → IsFound l
    → Keeps cave l (Gone number) (Gone number)
gone_kept number low cave l at (Bands w) v is h = is.1.gone (is.0 at) number low h
gone_kept number low cave l at Begins v is h = dismissed_gone v.band.each number
gone_kept number low cave l at _ v is h = h

pub gone_for_good : GoneForGood
unfolding dwarf_of
gone_for_good cave s line number somewhere low gone =
    turned cave (Gone number) (Gone number) s line
    (gone_kept number low cave (line_of cave s line) (found cave s line somewhere)) gone

-- there are at most three deaths, and after the third the game has ended
abbrev Few : Claim
Few v = (v.tallies.deaths ≤ 3) × (v.tallies.deaths ≡ 3 → is_some v.ending ≡ true)

-- one more death isn't the third
not_third : (d : ℕ) → nat_le 3 (min (d + 1) 3) ≡ false → (min (d + 1) 3 ≡ 3) → ⊥
not_third d few three = grind (arith, nat_tests, few, three)

few_kept : (cave : CaveView) (l : Line) → Keeps cave l Few Few
few_kept cave l (Ends how) v is h = (h.0, λ _. refl)
few_kept cave l (Kills how place) v is h = (omega arith, λ _. refl)
few_kept cave l (Buries how) v is h = (omega arith, λ _. refl)
few_kept cave l Revives v is h =
    (omega arith, λ three. absurd (not_third v.tallies.deaths is.0 three))
few_kept cave l _ v is h = h

pub few_deaths : FewDeaths
unfolding start_of_game begun_state starting_state
few_deaths = record {
  start = λ cave seed.
      record { at_most = omega arith; last = λ three. absurd (omega (arith, three)) };
  kept = λ cave s line h.
      let t = lasting Few few_kept cave s line (h.at_most, h.last) in
      record { at_most = t.0; last = t.1 };
}

-- the player is at place 0 only after the end, or if the player died
abbrev Stands : Claim
Stands v = v.here ≡ 0 → (is_some v.ending ≡ true) ⊎ (v.question ≡ Some Question.Die)

-- if another question is open, or none, the game goes on
not_dead : (q : Option Question) (e : Option Ending) → (q ≡ Some Question.Die → ⊥) → e ≡ None
    → (is_some e ≡ true) ⊎ (q ≡ Some Question.Die) → ⊥
not_dead q e other goes (inl ended) = true≢false (sym ended ∙ ap is_some goes)
not_dead q e other goes (inr die) = other die

stands_kept : (cave : CaveView) → 1 ≤ building_place cave → (l : Line)
    → Keeps cave l Stands Stands
stands_kept cave one l (Closes a) v is h =
    λ none. absurd (not_dead v.question v.ending (λ die. not_die a is.0 (sym is.1 ∙ die)) is.2
    (h none))
stands_kept cave one l (Buries how) v is h = λ none. inl refl
stands_kept cave one l Revives v is h = λ none. absurd (omega (arith, one, none))
stands_kept cave one l (Ends how) v is h = λ none. inl refl
stands_kept cave one l (Kills how place) v is h = λ none. inl refl
stands_kept cave one l (Dies place) v is h = λ none. inr refl
stands_kept cave one l (Asks a) v is h =
    λ none. absurd (not_dead v.question v.ending (not_asked is.1.0) is.1.1 (h none))
stands_kept cave one l (Comes place) v is h = λ none. absurd (some_place place is.0 none)
stands_kept cave one l (Puts place) v is h = λ none. absurd (some_place place is.0 none)
stands_kept cave one l _ v is h = h

pub player_is_somewhere : PlayerIsSomewhere
unfolding start_of_game begun_state starting_state
player_is_somewhere = record {
  start = λ cave seed one none. absurd (omega (arith, one, none));
  kept = λ cave s line one h.
      turned cave Stands Stands s line (stands_kept cave one (line_of cave s line)) h;
}

-- the cave has the hint that a question is about
abbrev Known : CaveView → Claim
Known cave v = IsOpenKnown cave v.question

known_kept : (cave : CaveView) (l : Line) → Keeps cave l (Known cave) (Known cave)
known_kept cave l (Closes a) v is h = tt
known_kept cave l (Buries how) v is h = tt
known_kept cave l Revives v is h = tt
known_kept cave l (Dies place) v is h = tt
known_kept cave l (Asks a) v is h = is.2
known_kept cave l _ v is h = h

pub hints_are_known : HintsAreKnown
unfolding start_of_game begun_state starting_state
hints_are_known = lasts Known (λ cave seed. tt) known_kept

-- a question is open, or the game has ended, or neither
abbrev Either : Claim
Either v = (v.question ≡ None) ⊎ (v.ending ≡ None)

either_kept : (cave : CaveView) (l : Line) → Keeps cave l Either Either
either_kept cave l (Closes a) v is h = inl refl
either_kept cave l (Buries how) v is h = inl refl
either_kept cave l Revives v is h = inl refl
either_kept cave l (Ends how) v is h = inl is.0
either_kept cave l (Kills how place) v is h = inl is.0.0
either_kept cave l (Dies place) v is h = inr is.0.1
either_kept cave l (Asks a) v is h = inr is.1.1
either_kept cave l _ v is h = h

pub never_both : NeverBoth
unfolding start_of_game begun_state starting_state
never_both = lasts (λ cave. Either) (λ cave seed. inr refl) either_kept

-- a closing cave never asks whether to come back
abbrev InTime : Option Question → Bool → Type 0
InTime q closing = q ≡ Some Question.Die → closing ≡ false

abbrev Timely : Claim
Timely v = InTime v.question v.closing.is_closing

timely_kept : (cave : CaveView) (l : Line) → Keeps cave l Timely Timely
timely_kept cave l (Closes a) v is h = λ asked. absurd (not_asked refl asked)
timely_kept cave l Begins v is h = λ asked. absurd (not_asked is.0 asked)
timely_kept cave l (Buries how) v is h = λ asked. absurd (not_asked refl asked)
timely_kept cave l Revives v is h = λ asked. absurd (not_asked refl asked)
timely_kept cave l (Dies place) v is h = λ asked. is.1
timely_kept cave l (Asks a) v is h = λ asked. absurd (not_die a is.0 asked)
timely_kept cave l _ v is h = h

pub asked_in_time : AskedInTime
unfolding start_of_game begun_state starting_state far_closing
asked_in_time = lasts (λ cave. Timely) (λ cave seed asked. refl) timely_kept

-- the player, and the deaths, are as they were in a state
abbrev AsIn : State → Claim
AsIn s v = (v.here ≡ s.trail.here) × (v.tallies.deaths ≡ s.tallies.deaths) × Timely v

-- no fewer deaths than before, and at most one more, and then the game has ended or the cave isn't
-- closing
abbrev OneMore : ℕ → Claim
OneMore n v =
    (n ≤ 3 → n ≤ v.tallies.deaths) × (v.tallies.deaths ≤ n + 1)
    × ((v.tallies.deaths ≡ n) ⊎ ((is_some v.ending ≡ true) ⊎ (v.closing.is_closing ≡ false)))

-- a death in a closing cave is the first of a line
first_death : (n d : ℕ) (e : Option Ending) (closing : Bool) → e ≡ None → closing ≡ true
    → (d ≡ n) ⊎ ((is_some e ≡ true) ⊎ (closing ≡ false)) → d ≡ n
first_death n d e closing goes is (inl same) = same
first_death n d e closing goes is (inr (inl ended)) =
    absurd (true≢false (sym ended ∙ ap is_some goes))
first_death n d e closing goes is (inr (inr quiet)) = absurd (true≢false (sym is ∙ quiet))

no_death : (n d : ℕ) → d ≡ n → (n ≤ 3 → n ≤ d) × (d ≤ n + 1)
no_death n d same = ((λ few. omega (arith, same)), omega (arith, same))

one_death : (n d : ℕ) → d ≡ n → (n ≤ 3 → n ≤ min (d + 1) 3) × (min (d + 1) 3 ≤ n + 1)
one_death n d same = ((λ few. omega (arith, same, few)), omega (arith, same))

deaths_kept : (s : State) (cave : CaveView) (l : Line)
    → Keeps cave l (AsIn s) (OneMore s.tallies.deaths)
deaths_kept s cave l (Closes a) v is h = (h.0, h.1, λ asked. absurd (not_asked refl asked))
deaths_kept s cave l Begins v is h = (h.0, h.1, λ asked. absurd (not_asked is.0 asked))
deaths_kept s cave l Passes v is h = let d = no_death _ _ h.1 in (d.0, d.1, inl h.1)
deaths_kept s cave l (Burns c) v is h = let d = no_death _ _ h.1 in (d.0, d.1, inl h.1)
deaths_kept s cave l Revives v is h =
    let d = one_death _ v.tallies.deaths h.1 in (d.0, d.1, inr (inr (h.2 is.1)))
deaths_kept s cave l (Buries how) v is h =
    let d = one_death _ v.tallies.deaths h.1 in (d.0, d.1, inr (inl refl))
deaths_kept s cave l (Ends how) v is h = (h.0, h.1, inr (inl refl))
deaths_kept s cave l (Kills how place) v is h =
    let d = one_death _ _ (first_death _ _ v.ending v.closing.is_closing is.0.1 is.1 h.2) in
    (d.0, d.1, inr (inl refl))
deaths_kept s cave l _ v is h = h

pub deaths_come_one_by_one : DeathsComeOneByOne
deaths_come_one_by_one cave s line in_time =
    let t = turned cave (AsIn s) (OneMore s.tallies.deaths) s line
    (deaths_kept s cave (line_of cave s line)) (refl, refl, in_time) in
    record { no_fewer = t.0; one_more = t.1 }

-- in a closing cave the player is outside only if the player was there before
abbrev Inside : CaveView → ℕ → Claim
Inside cave place v = v.closing.is_closing ≡ true → IsOutsideCave cave v.here → v.here ≡ place

-- a place that is shut off is one outside
shut_off : (a : Bool) (place last : ℕ) → a ≡ true → 1 ≤ place → place ≤ last
    → (a && nat_le 1 place && nat_le place last) ≡ true
shut_off a place last closing first least = grind (arith, closing, first, least)

-- a place that isn't outside is beyond the last of those places
beyond : (c last : ℕ) → (c == 0) ≡ false → ¬ ((1 ≤ c) × (c ≤ last)) → last < c
beyond c last some inside = by (nat_le c last) refl
  where
    by : (b : Bool) → nat_le c last ≡ b → last < c
    by true is = absurd (inside (grind (arith, some), grind (arith, is)))
    by false is = grind (arith, is)

-- the place half-way between places inside is inside, or is the player's
half_way : (a b here last : ℕ) → ¬ ((1 ≤ a) × (a ≤ last)) → ¬ ((1 ≤ b) × (b ≤ last))
    → (1 ≤ between a b here) × (between a b here ≤ last) → between a b here ≡ here
half_way a b here last one other =
    let is_here = λ (p : ℕ). (1 ≤ p) × (p ≤ last) → p ≡ here in
    choose is_here (b == 0) _ _
    (λ _. choose is_here (a == 0) here a (λ _ out. refl) (λ _ out. absurd (one out)))
    (λ some. choose is_here (a == 0) b _ (λ _ out. absurd (other out))
    (λ first out. absurd (far (beyond a last first one) (beyond b last some other) out)))
  where
    far : last < a → last < b → (1 ≤ (a + b) / 2) × ((a + b) / 2 ≤ last) → ⊥
    far first second out = let least = out.1 in omega (arith, first, second, least)

-- the place where the player is put is inside
put_inside : (cave : CaveView) (place : ℕ) (v : View) → PutsInside cave → IsPut cave place v
    → IsOutsideCave cave place → place ≡ v.here
put_inside cave place v inside (inl is) out = absurd (inside.repository place is out)
put_inside cave place v inside (inr is) out =
    is ∙ half_way (home cave (thing cave name.Dragon)) (second_home cave (thing cave name.Dragon))
    v.here (outside_place cave) inside.dragon inside.second
    (subst (λ (p : ℕ). IsOutsideCave cave p) is out)

-- a player who dies for good is where the player was, or at no place
killed_inside : (cave : CaveView) (before place here : ℕ) → (place ≡ here) ⊎ (place ≡ 0)
    → (IsOutsideCave cave here → here ≡ before) → IsOutsideCave cave place → place ≡ before
killed_inside cave before place here (inl same) h out =
    same ∙ h (subst (λ (p : ℕ). IsOutsideCave cave p) same out)
killed_inside cave before place here (inr none) h out = absurd (omega (arith, none, out.0))

inside_kept : (cave : CaveView) (s : State) → PutsInside cave → (l : Line)
    → Keeps cave l (AsIn s) (Inside cave s.trail.here)
inside_kept cave s inside l (Closes a) v is h = (h.0, h.1, λ asked. absurd (not_asked refl asked))
inside_kept cave s inside l Begins v is h = (h.0, h.1, λ asked. absurd (not_asked is.0 asked))
inside_kept cave s inside l Passes v is h = λ closing out. h.0
inside_kept cave s inside l (Burns c) v is h = λ closing out. h.0
inside_kept cave s inside l Revives v is h =
    λ closing out. absurd (true≢false (sym closing ∙ h.2 is.1))
inside_kept cave s inside l (Buries how) v is h = λ closing out. h.0
inside_kept cave s inside l (Kills how at) v is h =
    λ closing out. killed_inside cave _ at v.here is.2 (h closing) out
inside_kept cave s inside l (Dies at) v is h =
    λ closing out. absurd (true≢false (sym closing ∙ is.1))
inside_kept cave s inside l (Comes at) v is h =
    λ closing out. absurd (true≢false (sym
    (shut_off v.closing.is_closing at (outside_place cave) closing out.0 out.1) ∙ is.1))
inside_kept cave s inside l (Puts at) v is h =
    λ closing out. let same = put_inside cave at v inside is.1 out in
    same ∙ h closing (subst (λ (p : ℕ). IsOutsideCave cave p) same out)
inside_kept cave s inside l _ v is h = h

-- the player doesn't get out of a closing cave
pub nobody_gets_out : NobodyGetsOut
nobody_gets_out cave s line inside in_time =
    turned cave (AsIn s) (Inside cave s.trail.here) s line
    (inside_kept cave s inside (line_of cave s line)) (refl, refl, in_time)
