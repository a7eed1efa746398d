-- If the player is in the area of no hint, and no turn counts, the hints change nothing.
use Rattle.std.proofs.Common.{◌≡◌, ℕ, zero, suc, ◌+◌, ◌<◌, ◌≤◌, ◌^◌, Bool, true, false}
use Rattle.std.proofs.Common.{if◌then◌else◌, refl, ap, ◌∙◌, arith}
use Rattle.std.proofs.Math.Nat.{div-eq_of_lt, pow-le-pow_right}
use Rattle.std.proofs.lemmas.Bool.{true≢false}
use Rattle.std.specs.Prelude.{◌&&◌, not, nat_lt}
use Rattle.cave_data.specs.CaveView.{CaveView, cond_of}
use Rattle.turn_scene.specs.Rows.{Act, deed, act_of}
use Rattle.turn_scene.specs.Effects.{for_each_from}
use Rattle.turn_scene.specs.Tests.{has_hint, it, no}
use Rattle.turn_scene.specs.Scene.{Scene}
use Rattle.cave_world.specs.Sight.{has_condition}
use Rattle.cave_world.specs.State.{turns_in_area}
use Rattle.cave_world.specs.declared.state.State.{State}
use Rattle.turn_clocks.specs.Hints.{FIRST_HINT, cave_has_it, in_area, has_turns, hint_rows}
use Rattle.turn_clocks.specs.Hints.{after_consider}
use Rattle.turn_clocks.proofs.Steps.{hints_up_to, starts_anew, waits}

-- if the player is outside and no turn counts, neither of the two rows fits
no_row_outside : (a b c t : Bool) (x y z : Act (Unit {0})) → c ≡ false → t ≡ false
    → (if a && (b && (t && (not c && true))) then x else (if a && (b && (c && true)) then y else z))
    ≡ z
no_row_outside true true true t x y z far none = absurd (true≢false far)
no_row_outside true true false true x y z far none = absurd (true≢false none)
no_row_outside true true false false x y z far none = refl
no_row_outside true false c t x y z far none = refl
no_row_outside false b c t x y z far none = refl

-- a hint whose area is elsewhere, and whose turns don't count, changes nothing
pub far_is_nothing : (cave : CaveView) (h : ℕ) (p : Scene)
    → has_condition cave p.state.trail.here h ≡ false
    → turns_in_area p.state h ≡ 0 → after_consider cave h p ≡ p
unfolding after_consider hint_rows
far_is_nothing cave h p far none =
    let d = deed cave h p in
    ap (λ (act : Act (Unit {0})). act.scene)
    (no_row_outside (cave_has_it d) (no (has_hint it) d) (in_area d) (has_turns d) (starts_anew d)
    (waits d) (act_of p tt) far (ap (λ n. nat_lt 0 n) none))

-- conditions below 16 have no bit of a hint
outside : (cave : CaveView) (n : ℕ) (s : State) → cond_of cave s.trail.here < 16
    → has_condition cave s.trail.here (FIRST_HINT + n) ≡ false
unfolding has_condition
outside cave n s low =
    let least : 2 ^ 4 ≤ 2 ^ (4 + n) =
    pow-le-pow_right {n = 2} (omega arith) {i = 4} {j = 4 + n} (omega arith) in
    let below : cond_of cave s.trail.here < 2 ^ (4 + n) = omega (arith, low, least) in
    rw (div-eq_of_lt below) refl

-- this many hints change nothing
pub quiet_hints : (cave : CaveView) (count : ℕ) (p : Scene)
    → cond_of cave p.state.trail.here < 16
    → ((n : ℕ) → n < count → turns_in_area p.state (FIRST_HINT + n) ≡ 0)
    → hints_up_to cave count p ≡ p
unfolding for_each_from
quiet_hints cave zero p low none = refl
quiet_hints cave (suc n) p low none =
    ap (λ q. after_consider cave (FIRST_HINT + n) q)
    (quiet_hints cave n p low (λ m before. none m (omega (arith, before))))
    ∙ far_is_nothing cave (FIRST_HINT + n) p (outside cave n p.state low) (none n (omega arith))
