-- What holds as a game begins, and each line preserves, holds of each state that a game reaches.
use Rattle.std.proofs.Common.{List, [], subst, sym, ℕ, ◌∷◌, ◌≡◌, ◌≤◌}
use Rattle.std.specs.Prelude.{IfSome, None, Option, Some, unwrap_or}
use Rattle.cave_data.specs.CaveView.{CaveView}
use Rattle.cave_world.specs.declared.state.State.{State}
use Rattle.cave_turn.specs.Turns.{turn_on_line}
use Rattle.cave_data.specs.Laws.{IsPlace}
use Rattle.turn_ends.proofs.Most.{score_within}
use Rattle.turn_laws.specs.DwarfLaws.{HasFewDwarves}
use Rattle.turn_laws.specs.Laws.{IsSomewhere, Lasts}
use Rattle.turn_laws.specs.Reachable.{HasPlaces, IsReachable, ReachableIsLawful, after_lines}
use Rattle.turn_laws.proofs.Bounds.{asked_in_time, few_in_hands, few_deaths, few_dwarves}
use Rattle.turn_laws.proofs.Bounds.{hints_are_known, never_both, player_is_somewhere}
use Rattle.turn_laws.proofs.OnePlace.{stay_in_one_place}
use Rattle.turn_laws.proofs.Onward.{closed_is_closing, stays_bounded}

module _ {Holds : CaveView → State → Type 0} (lasts : Lasts Holds) (cave : CaveView) where
  -- what lasts holds after lines, one after another
  led : (lines : List (List ℕ)) (s : State) → Holds cave s → Holds cave (after_lines cave s lines)
  led [] s h = h
  led (line ∷ lines) s h = led lines (turn_on_line cave s line).state (lasts.kept cave s line h)

  pub reached : (s : State) → IsReachable cave s → Holds cave s
  reached s is = subst (Holds cave) is.leads (led is.lines _ (lasts.start cave is.seed))

-- a place that is named, or the one taken otherwise, isn't place 0
pub place_or : (o r : Option ℕ) (d : ℕ) → 1 ≤ d → r ≡ o → IfSome r IsPlace → 1 ≤ unwrap_or o d
place_or o None d some same within = rw (sym same) some
place_or o (Some n) d some same within = rw (sym same) within.0

-- the player is somewhere, and the dwarves are few: both at once
placed : Lasts (λ cave s. HasPlaces cave → IsSomewhere s × HasFewDwarves s)
placed = record {
  start = λ cave seed places.
      (player_is_somewhere.start cave seed places.0, few_dwarves.start cave seed);
  kept = λ cave s line h places. (
    player_is_somewhere.kept cave s line places.1 (h places).0,
    few_dwarves.kept cave s line (h places).0 (h places).1,
  );
}

pub reachable_is_lawful : ReachableIsLawful
reachable_is_lawful cave s places is =
    let both = reached placed cave s is places in
    record {
      deaths = reached few_deaths cave s is;
      hands = reached few_in_hands cave s is;
      one_place = reached stay_in_one_place cave s is;
      closing = reached closed_is_closing cave s is;
      asked = reached asked_in_time cave s is;
      either = reached never_both cave s is;
      hint = reached hints_are_known cave s is;
      bounds = reached stays_bounded cave s is;
      score = score_within cave s;
      place = both.0;
      dwarves = both.1;
    }
