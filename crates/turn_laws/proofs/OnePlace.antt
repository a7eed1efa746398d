-- Each half of an object stays in one list.
use Rattle.cave_data.specs.CaveView.{CaveView}
use Rattle.cave_turn.specs.Turns.{start_of_game}
use Rattle.turn_ends.specs.Begin.{begun_state}
use Rattle.turn_laws.proofs.KeptLists.{changed, taken}
use Rattle.turn_laws.proofs.OneList.{games_begin_so}
use Rattle.turn_laws.specs.OneList.{AreInOneList}
use Rattle.turn_laws.specs.ObjectLaws.{StayInOnePlace}
use Rattle.turn_laws.proofs.Lines.{lasts}
use Rattle.turn_laws.proofs.View.{Claim, Keeps, Line, Moves, Shifts, Takes}

abbrev InOneList : Claim
InOneList v = AreInOneList v.objects

listed_kept : (cave : CaveView) (l : Line) → Keeps cave l InOneList InOneList
listed_kept cave l (Shifts c) v is h = changed c v.objects h
listed_kept cave l (Moves c) v is h = changed c v.objects h
listed_kept cave l (Takes xs) v is h = taken xs v.objects h
listed_kept cave l _ v is h = h

pub stay_in_one_place : StayInOnePlace
unfolding start_of_game begun_state
stay_in_one_place = lasts (λ cave. InOneList) (λ cave seed. games_begin_so cave) listed_kept
