-- A player whom forced motions move on from place to place.
use Rattle.std.proofs.Common.{◌≡◌, ℕ, Bool, zero, suc, ◌-◌, ◌<◌, true, false, refl, ap, ◌∙◌, arith}
use Rattle.cave_data.specs.CaveView.{CaveView}
use Rattle.turn_scene.specs.Rows.{Act, act_of}
use Rattle.turn_moves.specs.Arrival.{after_forced_motions, stop_at}
use Rattle.turn_moves.specs.Journeys.{set_forth}
use Rattle.turn_scene.specs.Scene.{Scene, with_left}

-- without a forced motion the player stays
stays : (left : ℕ) (cave : CaveView) (s : Act Bool) → s.step ≡ false
    → s.scene ≡ after_forced_motions left cave s
unfolding after_forced_motions
stays zero cave s e = rw e refl
stays (suc left) cave s e = rw e refl

-- a player who is moved on to a place without forced motion stays there
pub carried_no_further : (left : ℕ) (cave : CaveView) (p : Scene) (j : Act ℕ) (s : Act Bool)
    → 0 < left → j ≡ set_forth cave 1 (with_left (left - 1) p) → s ≡ stop_at cave j.step j.scene
    → s.step ≡ false
    → s.scene ≡ after_forced_motions left cave (act_of p true)
unfolding after_forced_motions
carried_no_further zero cave p j s some forth here e = absurd (omega (arith, some))
carried_no_further (suc left) cave p j s some forth here e =
    let less : suc left - 1 ≡ left = omega arith in
    let once = forth ∙ ap (λ (n : ℕ). set_forth cave 1 (with_left n p)) less in
    let next = here ∙ ap (λ (k : Act ℕ). stop_at cave k.step k.scene) once in
    stays left cave s e ∙ ap (λ (t : Act Bool). after_forced_motions left cave t) next
