-- No row asks for what is missing.
use Rattle.std.proofs.Common.{Bool, List, [], arith, false, negsuc, pos, refl, true, ◌≡◌, ◌∷◌}
use Rattle.std.proofs.lemmas.Bool.{false≢true}
use Rattle.std.specs.Prelude.{◌&&◌}
use Rattle.turn_clocks.specs.Clocks.{clock_rows, tick_clocks}
use Rattle.turn_clocks.specs.FirstClock.{first_clock}
use Rattle.turn_clocks.specs.Repository.{second_clock}
use Rattle.turn_clocks.specs.Hints.{after_consider, give_rows, hint_rows, price_rows}
use Rattle.turn_moves.specs.Bridge.{bridge_rows, cross_bridge}
use Rattle.turn_moves.specs.Squeeze.{squeeze_rows, squeeze_through}
use Rattle.turn_ends.specs.Endings.{class_rows}
use Rattle.data_rows.specs.declared.place_role.PlaceRole.TheVariants as place
use Rattle.turn_scene.specs.Rows.{Act, Deed, Row, act_of_row, after_trying, always}
use Rattle.turn_scene.specs.Rows.{first_fitting_or, fits, noted, nothing_but}
use Rattle.cave_world.specs.declared.tables.Table.TheVariants as table
use Rattle.turn_scene.specs.Tests.{cave_closed, is_bound, no}
use Rattle.turn_laws.specs.Missing.{ClosesBetweenPlaces, LackedHintsComeToNothing}
use Rattle.turn_laws.specs.Missing.{NoClassWantsPoints, NoWayHasAnEnd}
use Rattle.turn_laws.proofs.WordLines.{choose}

pub lacked_hints_come_to_nothing : LackedHintsComeToNothing
unfolding after_consider hint_rows price_rows give_rows
lacked_hints_come_to_nothing cave hint p none =
    record { wait = rw (none, after_consider) refl; price = rw none refl; gift = rw none refl }

pub no_class_wants_points : NoClassWantsPoints
unfolding class_rows
no_class_wants_points d none = rw none refl

pub no_way_has_an_end : NoWayHasAnEnd
unfolding squeeze_rows squeeze_through bridge_rows cross_bridge
no_way_has_an_end =
    record { passage = λ d none. rw none refl; crossing = λ d none. rw none refl }

-- if five tests hold, the last two do
last_two : (a b c n s : Bool) → (a && (b && (c && (n && (s && true))))) ≡ true
    → (n ≡ true) × (s ≡ true)
last_two a b c n s h = (grind (arith, h), grind (arith, h))

-- it holds of what follows each row if that fits, and if none does
abbrev Follows : {C F : Type 0} → (F → Type 0) → (Deed C → F) → Deed C → List (Row C F) → Type 0
Follows Q or_else d [] = Q (or_else d)
Follows Q or_else d (r ∷ rows) =
    (fits r d ≡ true → Q (act_of_row r (after_trying r d)).step)
    × Follows Q or_else (after_trying r d) rows

follows : {C F : Type 0} (Q : F → Type 0) (or_else : Deed C → F) (d : Deed C)
    (rows : List (Row C F)) → Follows Q or_else d rows
    → Q (first_fitting_or rows (nothing_but or_else) d).step
follows Q or_else d [] each = each
follows Q or_else d (r ∷ rows) each =
    choose (λ (a : Act _). Q a.step) (fits r d) (act_of_row r (after_trying r d))
    (first_fitting_or rows (nothing_but or_else) (after_trying r d)) each.0
    (λ _. follows Q or_else (after_trying r d) rows each.1)

pub closes_between_places : ClosesBetweenPlaces
unfolding tick_clocks clock_rows
closes_between_places d closed =
    follows Bound (always false) d (noted table.Clocks clock_rows) (
      (λ _. unbound),
      (
        (λ _. unbound),
        (
          (λ fit _. last_two (first_clock (negsuc 0) d) (second_clock (pos 1) d) (no cave_closed d) _ _ fit),
          ((λ _. unbound), unbound),
        ),
      ),
    ) closed
  where
    Bound : Bool → Type 0
    Bound step = step ≡ true → (is_bound place.Ne d ≡ true) × (is_bound place.Sw d ≡ true)

    unbound : {T : Type 0} → false ≡ true → T
    unbound same = absurd (false≢true same)
