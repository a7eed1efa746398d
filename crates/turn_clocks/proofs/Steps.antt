-- One more hint is considered.
use Rattle.std.proofs.Common.{◌≡◌, ℕ, zero, suc, ◌+◌, ◌-◌, ◌≤◌, ◌⊎◌, inl, inr, Bool, true, false}
use Rattle.std.proofs.Common.{[], ◌∷◌, None, min, if◌then◌else◌, refl, sym, ap, ◌∙◌, arith}
use Rattle.std.proofs.lemmas.Bool.{cases_eq, true≢false}
use Rattle.std.specs.Prelude.{◌&&◌, is_some, not}
use Rattle.std.specs.FinMap as map
use Rattle.cave_data.specs.CaveView.{CaveView}
use Rattle.cave_data.specs.Tables.{IsAbove}
use Rattle.turn_scene.specs.Rows.{Act, Deed, deed, act_of, after_all, by_table, note_row}
use Rattle.turn_scene.specs.Tests.{has_hint, it, no}
use Rattle.turn_scene.specs.Effects.{for_each_from}
use Rattle.turn_scene.specs.Scene.{Scene}
use Rattle.cave_world.specs.declared.tables.Table.TheVariants as table
use Rattle.turn_clocks.specs.Hints.{cave_has_it, in_area, has_turns, restart, count_turn, offer_rows}
use Rattle.turn_clocks.specs.Hints.{hint_rows, after_consider, after_hints, FIRST_HINT, OFFERED_HINTS}

-- the next one comes after those so far
pub one_more : {S : Type 0} (first n : ℕ) (what : ℕ → S → S) (s : S)
    → for_each_from first (n + 1) what s ≡ what (first + n) (for_each_from first n what s)
unfolding for_each_from
one_more first n what s = let next : n + 1 ≡ suc n = omega arith in rw next refl

-- what the two rows of a hint do
abbrev pub starts_anew : Deed ℕ → Act (Unit {0})
starts_anew d = act_of (after_all (note_row table.HintTurns 1 ∷ restart ∷ []) d).scene tt

abbrev pub waits : Deed ℕ → Act (Unit {0})
waits d =
    act_of (after_all (note_row table.HintTurns 2 ∷ count_turn ∷ by_table table.Offers offer_rows ∷ [])
    d).scene tt

-- a row whose first test fails doesn't fit
no_row : (a b c t : Bool) (x y z : Act (Unit {0})) → a ≡ false
    → (if a && (b && (t && (not c && true))) then x else (if a && (b && (c && true)) then y else z))
    ≡ z
no_row true b c t x y z fails = absurd (true≢false fails)
no_row false b c t x y z fails = refl

-- a hint that the cave doesn't have changes nothing
after_consider-none : (cave : CaveView) (h : ℕ) (p : Scene) → map.get cave.hints h ≡ None
    → after_consider cave h p ≡ p
unfolding after_consider hint_rows
after_consider-none cave h p none =
    let d = deed cave h p in
    ap (λ (act : Act (Unit {0})). act.scene)
    (no_row (cave_has_it d) (no (has_hint it) d) (in_area d) (has_turns d) (starts_anew d) (waits d)
    (act_of p tt) (ap (λ hint. is_some hint) none))

-- this many hints from the first on
abbrev pub hints_up_to : CaveView → ℕ → Scene → Scene
hints_up_to cave n p = for_each_from FIRST_HINT n (after_consider cave) p

after_hints-later : (cave : CaveView) (count more : ℕ) (p : Scene)
    → IsAbove (count + FIRST_HINT) cave.hints
    → hints_up_to cave (more + count) p ≡ hints_up_to cave count p
unfolding for_each_from
after_hints-later cave count zero p above =
    let same : zero + count ≡ count = omega arith in ap (λ n. hints_up_to cave n p) same
after_hints-later cave count (suc more) p above =
    let next : suc more + count ≡ suc (more + count) = omega arith in
    ap (λ n. hints_up_to cave n p) next
    ∙ after_consider-none cave (FIRST_HINT + (more + count)) _ (above _ (omega arith))
    ∙ after_hints-later cave count more p above

-- either the cave has no hint after the first few, or these are all that are offered
pub few_hints : (cave : CaveView) (end few : ℕ) → IsAbove end cave.hints
    → few ≡ min (end - FIRST_HINT) OFFERED_HINTS
    → IsAbove (few + FIRST_HINT) cave.hints ⊎ (few ≡ OFFERED_HINTS)
few_hints cave end few above least = at (cases_eq few OFFERED_HINTS) where
  at : (few ≡ OFFERED_HINTS) ⊎ (few ≡ OFFERED_HINTS → ⊥)
      → IsAbove (few + FIRST_HINT) cave.hints ⊎ (few ≡ OFFERED_HINTS)
  at (inl all) = inr all
  at (inr some) = inl (λ n low. above n (omega (arith, least, some, low)))

-- hints above those of the cave change nothing
pub after_hints-all : (cave : CaveView) (count : ℕ) (p : Scene) → count ≤ OFFERED_HINTS
    → IsAbove (count + FIRST_HINT) cave.hints ⊎ (count ≡ OFFERED_HINTS)
    → hints_up_to cave count p ≡ after_hints cave p
after_hints-all cave count p few (inl above) =
    let all : OFFERED_HINTS - count + count ≡ OFFERED_HINTS = omega arith in
    sym (after_hints-later cave count (OFFERED_HINTS - count) p above)
    ∙ ap (λ n. hints_up_to cave n p) all
after_hints-all cave count p few (inr all) = ap (λ n. hints_up_to cave n p) all

-- at most one question is said: after one no other is asked
pub few-asked : (over : Bool) (start before after : ℕ) → before ≤ start + 2
    → (over ≡ false → before ≤ start + 0)
    → after ≤ before + 2 → (over ≡ true → after ≤ before + 0) → after ≤ start + 2
few-asked true start before after few none one quiet =
    let same = quiet refl in omega (arith, few, same)
few-asked false start before after few none one quiet =
    let same = none refl in omega (arith, one, same)
