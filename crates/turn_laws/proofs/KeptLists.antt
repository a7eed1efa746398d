-- Halves stay in one list from the beginning of a line on, whatever happens in it.
use Rattle.std.proofs.Common.{Bool, List, [], false, true, ℕ, ◌∷◌}
use Rattle.cave_data.specs.CaveView.{CaveView}
use Rattle.world_objects.specs.Objects.{Layout, after_move_to}
use Rattle.turn_laws.specs.OneList.{AreInOneList}
use Rattle.turn_laws.proofs.OneList.{halves_stay}
use Rattle.turn_laws.proofs.View.{Change, Claim, Hold, IsKept, IsMoved, Juggle, Keeps, Line, Moves}
use Rattle.turn_laws.proofs.View.{Place, Prop, Ready, Shifts, Takes, after_change, after_taking}

pub changed : (c : Change) (o : Layout) → AreInOneList o → AreInOneList (after_change c o)
unfolding after_move_to
changed (Place x place) o h = halves_stay.spot o x _ h
changed (Hold x a) o h = halves_stay.anchor o x a h
changed (Prop x v) o h = halves_stay.prop o x v h
changed (Juggle x) o h = halves_stay.juggle o x h

pub taken : (xs : List ℕ) (o : Layout) → AreInOneList o → AreInOneList (after_taking xs o)
taken [] o h = h
taken (x ∷ xs) o h = taken xs _ (halves_stay.carry o x h)

-- each half is in one list, if it was so before
abbrev pub ListedSince : Layout → Claim
ListedSince since v = AreInOneList since → AreInOneList v.objects

since_kept : (since : Layout) (cave : CaveView) (l : Line)
    → Keeps cave l (ListedSince since) (ListedSince since)
since_kept since cave l (Shifts c) v is h = λ listed. changed c v.objects (h listed)
since_kept since cave l (Moves c) v is h = λ listed. changed c v.objects (h listed)
since_kept since cave l (Takes xs) v is h = λ listed. taken xs v.objects (h listed)
since_kept since cave l _ v is h = h

-- this holds throughout any line
pub listed_since : (cave : CaveView) (since : Layout) (l : Line)
    → IsKept cave l (ListedSince since) (ListedSince since)
listed_since cave since l = record { keeps = since_kept since cave l }

pub since_moved : (since : Layout) → IsMoved (ListedSince since)
since_moved since v c h = λ listed. changed c v.objects (h listed)

-- while commands can follow
pub calm_moved : {Here : ℕ → Type 0} (since : Layout) → IsMoved (Ready Here (ListedSince since))
calm_moved since v c r =
    record { holds = since_moved since v c r.holds; calm = r.calm; at = r.at }

-- a line that finds the player nowhere, if it can be that of a command
abbrev pub any_line : Bool → Bool → Line
any_line lit changed = record {
  here = 0;
  is_command = true;
  is_paid = false;
  is_lit = lit;
  is_changed = changed;
}
