-- What only ever goes one way, in which order the cave closes, how the lamp's charge goes down, and
-- what stays within bounds.
use Rattle.std.proofs.Common.{Bool, ap, arith, false, inl, inr, length, negsuc, pos, refl, sym}
use Rattle.std.proofs.Common.{true, ℕ, ℤ, ◌-◌, ◌<◌, ◌∙◌, ◌≡◌, ◌≤ℤ◌, ◌≤◌, ◌⊎◌}
use Rattle.std.proofs.lemmas.Bool.{false≢true, true≢false}
use Rattle.std.proofs.lemmas.Int.{ints}
use Rattle.std.proofs.lemmas.List.Sums.{count_by-le-length, length-filter}
use Rattle.std.specs.Int.{int_min}
use Rattle.std.specs.Ordering.{int_eq}
use Rattle.std.specs.Prelude.{slice_index_or}
use Rattle.cave_data.specs.CaveView.{CaveView}
use Rattle.cave_world.specs.declared.state.State.{State}
use Rattle.cave_turn.specs.Turns.{start_of_game}
use Rattle.cave_world.specs.State.{MAX_LOST, far_closing, full_lamp, is_hint_taken, starting_state}
use Rattle.turn_ends.specs.Begin.{begun_state}
use Rattle.turn_scene.specs.Treasures.{is_known, known_treasures, treasures}
use Rattle.turn_laws.specs.Courses.{AreAwake, ClosedIsClosing, LampBurnsByOne, NothingGoesBack}
use Rattle.turn_laws.specs.Courses.{TreasuresGoOneWay, burns, charge_after}
use Rattle.turn_laws.specs.Laws.{LampBurnsDown}
use Rattle.turn_laws.specs.Reachable.{IsWithin, StaysBounded}
use Rattle.turn_laws.proofs.Lines.{lasting, lasts, turned}
use Rattle.turn_laws.proofs.View.{Bands, Begins, Buries, Burns, Claim, Counts, Finds, Hints}
use Rattle.turn_laws.proofs.View.{IsChargeAfter, Keeps, Line, Loses, Panics, Passes, Pays, Revives}
use Rattle.turn_laws.proofs.View.{Shortens, Shuts, Ticks, burnt, choose, kept_by_set, left_of}
use Rattle.turn_laws.proofs.View.{line_of}

-- what never goes back is as it was in a state, or has come
abbrev Since : State → Claim
Since s v =
    (s.closing.is_closing ≡ true → v.closing.is_closing ≡ true)
    × (s.closing.is_closed ≡ true → v.closing.is_closed ≡ true)
    × ((h : ℕ) → is_hint_taken s h ≡ true → slice_index_or v.hints (h - 1) false ≡ true)
    × (AreAwake s → 2 ≤ v.band.anger)

since_kept : (s : State) (cave : CaveView) (l : Line) → Keeps cave l (Since s) (Since s)
since_kept s cave l Begins v is h = ((λ _. refl), h.1, h.2, h.3)
since_kept s cave l Shuts v is h = (h.0, (λ _. refl), h.2, h.3)
since_kept s cave l (Hints i) v is h = (
  h.0,
  h.1,
  (λ n was. kept_by_set (λ (b : Bool). b ≡ true) v.hints i (n - 1) true false
      (h.2 n was) (λ _. refl)),
  h.3,
)
since_kept s cave l (Bands w) v is h =
    (h.0, h.1, h.2, λ was. let more = is.1.anger in let now = h.3 was in omega (arith, more, now))
since_kept s cave l _ v is h = h

pub nothing_goes_back : NothingGoesBack
nothing_goes_back cave s line =
    let t = lasting (Since s) (since_kept s) cave s line
    ((λ now. now), (λ now. now), (λ hint now. now), λ now. now) in
    record { closing = t.0; closed = t.1; hints = t.2; awake = t.3 }

-- no more treasures are unseen than in a state, and no fewer are lost
abbrev Found : State → Claim
Found s v =
    (v.tallies.unseen ≤ s.tallies.unseen)
    × (s.tallies.lost ≤ MAX_LOST → s.tallies.lost ≤ v.tallies.lost)

found_kept : (s : State) (cave : CaveView) (l : Line) → Keeps cave l (Found s) (Found s)
found_kept s cave l Finds v is h = let few = h.0 in (omega (arith, few), h.1)
found_kept s cave l Shortens v is h = let few = h.0 in (omega (arith, few), h.1)
found_kept s cave l Loses v is h = (h.0, λ few. let more = h.1 few in omega (arith, few, more))
found_kept s cave l _ v is h = h

pub treasures_go_one_way : TreasuresGoOneWay
treasures_go_one_way cave s line =
    let t = lasting (Found s) (found_kept s) cave s line (omega arith, λ _. omega arith) in
    record { unseen = t.0; lost = t.1 }

-- a closed cave, or one whose first clock has stopped, is closing
abbrev InOrder : Claim
InOrder v =
    (v.closing.is_closed ≡ true → v.closing.is_closing ≡ true)
    × (v.closing.first_clock ≡ negsuc 0 → v.closing.is_closing ≡ true)

int_same : (n : ℤ) → int_eq n (negsuc 0) ≡ true → n ≡ negsuc 0
int_same n is = grind (arith, ints, is)

order_kept : (cave : CaveView) (l : Line) → Keeps cave l InOrder InOrder
order_kept cave l Counts v is h = (h.0, λ stopped. absurd (omega (arith, ints, is, stopped)))
order_kept cave l Begins v is h = ((λ _. refl), λ _. refl)
order_kept cave l Shuts v is h = ((λ _. h.1 (int_same v.closing.first_clock is)), h.1)
order_kept cave l _ v is h = h

pub closed_is_closing : ClosedIsClosing
unfolding start_of_game begun_state starting_state far_closing
closed_is_closing = record {
  start = λ cave seed. record {
    closed = λ h. absurd (false≢true h);
    stopped = λ h. absurd (omega (arith, ints, h));
  };
  kept = λ cave s line h.
      let t = lasting InOrder order_kept cave s line (h.closed, h.stopped) in
      record { closed = t.0; stopped = t.1 };
}

-- the charge is at most what it was
abbrev Least : ℤ → Claim
Least a v = v.charge ≤ℤ a

burns_least : (lit : Bool) (a b c : ℤ) → negsuc 0 ≤ℤ a → b ≤ℤ a → c ≡ left_of (burnt lit b)
    → c ≤ℤ a
burns_least lit a b c low h is = grind (arith, ints, is, low, h)

least_kept : (a : ℤ) → negsuc 0 ≤ℤ a → (cave : CaveView) (l : Line) → l.is_paid ≡ false
    → l.is_changed ≡ false → Keeps cave l (Least a) (Least a)
least_kept a low cave l free same (Burns c) v (inl new) h = absurd (true≢false (sym new.0 ∙ same))
least_kept a low cave l free same (Burns c) v (inr is) h =
    burns_least l.is_lit a v.charge c low h is
least_kept a low cave l free same (Pays c) v is h = absurd (true≢false (sym is.0 ∙ free))
least_kept a low cave l free same Shortens v is h = grind (arith, ints, h)
least_kept a low cave l free same _ v is h = h

pub lamp_burns_down : LampBurnsDown
lamp_burns_down cave s line low free same =
    let a = s.lamp.charge in
    turned cave (Least a) (Least a) s line
    (least_kept a low cave (line_of cave s line) free same) (omega (arith, ints))

-- the lamp has a charge, and no more treasures are unseen than before
abbrev Level : ℤ → ℕ → Claim
Level c n v = (v.charge ≡ c) × (v.tallies.unseen ≤ n)

-- the lamp has a charge, or at most 35 after a treasure was found
abbrev Ebbs : ℤ → ℕ → ℤ → ℕ → Type 0
Ebbs c n charge unseen =
    (unseen ≤ n) × ((charge ≡ c) ⊎ ((charge ≡ int_min c (pos 35)) × (unseen < n)))

abbrev Ebb : ℤ → ℕ → Claim
Ebb c n v = Ebbs c n v.charge v.tallies.unseen

-- a treasure is found, and then the charge may be at most 35
ebb_found : (c : ℤ) (n a : ℕ) (charge : ℤ) → Ebbs c n charge a → Ebbs c n charge (a - 1)
ebb_found c n a charge (few, inl same) = (omega (arith, few), inl same)
ebb_found c n a charge (few, inr (short, less)) =
    (omega (arith, few), inr (short, omega (arith, less)))

ebb_short : (c : ℤ) (n a : ℕ) (charge : ℤ) → 2 ≤ a → Ebbs c n charge a
    → Ebbs c n (int_min charge (pos 35)) (a - 1)
ebb_short c n a charge more (few, how) =
    (omega (arith, few, more), inr (short how, omega (arith, few, more)))
  where
    short : (charge ≡ c) ⊎ ((charge ≡ int_min c (pos 35)) × (a < n))
        → int_min charge (pos 35) ≡ int_min c (pos 35)
    short (inl same) = grind (arith, ints, same)
    short (inr (same, found)) = grind (arith, ints, same)

-- a turn of a charge above 0 is burnt, or none is
burnt_one : (lit : Bool) (b c : ℤ) → pos 1 ≤ℤ b → c ≡ left_of (burnt lit b)
    → c ≡ charge_after lit b
burnt_one lit b c some is = grind (arith, ints, some, is)

unburnt : (lit : Bool) (b : ℤ) → lit ≡ false → b ≡ charge_after lit b
unburnt lit b none = rw none

ebb_kept : (b : ℤ) (n : ℕ) → pos 1 ≤ℤ b → (cave : CaveView) (l : Line) → l.is_paid ≡ false
    → l.is_changed ≡ false → Keeps cave l (Level b n) (Ebb (charge_after l.is_lit b) n)
ebb_kept b n some cave l free same Passes v is h = (h.1, inl (h.0 ∙ unburnt l.is_lit b is))
ebb_kept b n some cave l free same (Burns c) v (inl new) h = absurd (true≢false (sym new.0 ∙ same))
ebb_kept b n some cave l free same (Burns c) v (inr is) h =
    let burns = is ∙ ap (λ (x : ℤ). left_of (burnt l.is_lit x)) h.0 in
    (h.1, inl (burnt_one l.is_lit b c some burns))
ebb_kept b n some cave l free same Revives v is h = (h.1, inl (h.0 ∙ unburnt l.is_lit b is.3))
ebb_kept b n some cave l free same (Buries how) v is h = (h.1, inl (h.0 ∙ unburnt l.is_lit b is.2))
ebb_kept b n some cave l free same (Pays c) v is h = absurd (true≢false (sym is.0 ∙ free))
ebb_kept b n some cave l free same Finds v is h =
    ebb_found (charge_after l.is_lit b) n v.tallies.unseen v.charge h
ebb_kept b n some cave l free same Shortens v is h =
    ebb_short (charge_after l.is_lit b) n v.tallies.unseen v.charge is h
ebb_kept b n some cave l free same _ v is h = h

pub lamp_burns_by_one : LampBurnsByOne
lamp_burns_by_one cave s line some free same =
    let b = s.lamp.charge in let n = s.tallies.unseen in
    (turned cave (Level b n) (Ebb (charge_after (burns cave s line) b) n) s line
    (ebb_kept b n some cave (line_of cave s line) free same) (refl, omega arith)).1

-- the charge stays within its bounds
abbrev IsCharge : ℤ → Type 0
IsCharge c = (negsuc 0 ≤ℤ c) × (c ≤ℤ pos 100000)

charged_as : (b c : ℤ) → IsChargeAfter b c → IsCharge b → IsCharge c
charged_as b c is h =
    let least = is.least in let most = is.most in let old = h.0 in let high = h.1 in
    (grind (arith, ints, least, old), grind (arith, ints, most, high))

burnt_within : (lit : Bool) (b : ℤ) → IsCharge b → IsCharge (burnt lit b)
burnt_within true b (old, high) = (grind (arith, ints, old), grind (arith, ints, high))
burnt_within false b h = h

left_within : (b : ℤ) → IsCharge b → IsCharge (left_of b)
left_within b h =
    choose IsCharge (int_eq b (pos 0)) (negsuc 0) b
    (λ _. (omega (arith, ints), omega (arith, ints))) (λ _. h)

-- all that has bounds stays within them
within : {first second charge : ℤ} {unseen lost : ℕ}
    → (negsuc 0 ≤ℤ first) × (first ≤ℤ pos 30) → (negsuc 0 ≤ℤ second) × (second ≤ℤ pos 50)
    → IsCharge charge → unseen ≤ 30 → lost ≤ 60000 → IsWithin first second charge unseen lost
within first second lamp seen gone =
    record { first_clock = first; second_clock = second; lamp = lamp; seen = seen; gone = gone }

abbrev Within : Claim
Within v =
    IsWithin v.closing.first_clock v.closing.second_clock v.charge v.tallies.unseen v.tallies.lost

within_kept : (cave : CaveView) (l : Line) → Keeps cave l Within Within
within_kept cave l Counts v is h =
    let most = h.first_clock.1 in
    within (grind (arith, ints, is), omega (arith, ints, most)) h.second_clock h.lamp h.seen h.gone
within_kept cave l Begins v is h =
    within (omega (arith, ints), omega (arith, ints)) h.second_clock h.lamp h.seen h.gone
within_kept cave l Ticks v is h =
    let most = h.second_clock.1 in
    within h.first_clock (grind (arith, ints, is), omega (arith, ints, most)) h.lamp h.seen h.gone
within_kept cave l (Panics second) v (inl same) h =
    within h.first_clock (rw same h.second_clock) h.lamp h.seen h.gone
within_kept cave l (Panics second) v (inr new) h =
    within h.first_clock (omega (arith, ints, new), omega (arith, ints, new)) h.lamp h.seen h.gone
within_kept cave l (Burns c) v (inl new) h =
    within h.first_clock h.second_clock
    (charged_as _ c new.1 (burnt_within l.is_lit v.charge h.lamp)) h.seen h.gone
within_kept cave l (Burns c) v (inr same) h =
    within h.first_clock h.second_clock
    (rw same (left_within _ (burnt_within l.is_lit v.charge h.lamp))) h.seen h.gone
within_kept cave l (Pays c) v is h =
    within h.first_clock h.second_clock (charged_as v.charge c is.1 h.lamp) h.seen h.gone
within_kept cave l Shortens v is h =
    let least = h.lamp.0 in let most = h.lamp.1 in let few = h.seen in
    within h.first_clock h.second_clock (grind (arith, ints, least), grind (arith, ints, most))
    (omega (arith, few)) h.gone
within_kept cave l Loses v is h = within h.first_clock h.second_clock h.lamp h.seen (omega arith)
within_kept cave l Finds v is h =
    let few = h.seen in within h.first_clock h.second_clock h.lamp (omega (arith, few)) h.gone
within_kept cave l _ v is h = h

-- no more treasures are known than there are
known_few : (cave : CaveView) → length (known_treasures cave) ≤ 30
unfolding known_treasures treasures
known_few cave =
    let known = length-filter (is_known cave) treasures in
    let most = count_by-le-length (is_known cave) treasures in omega (arith, known, most)

pub stays_bounded : StaysBounded
unfolding start_of_game begun_state starting_state far_closing full_lamp
stays_bounded =
    lasts (λ cave. Within)
    (λ cave seed. within (omega (arith, ints), omega (arith, ints))
    (omega (arith, ints), omega (arith, ints)) (omega (arith, ints), omega (arith, ints))
    (known_few cave) (omega arith)) within_kept
