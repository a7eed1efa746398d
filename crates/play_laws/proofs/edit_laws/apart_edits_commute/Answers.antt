use Rattle.play_laws.proofs.ApartEdits.{apart_edits_commute}
use Rattle.play_laws.proofs.edit_laws.apart_edits_commute.Goals as goal

pub returns : goal.returns
returns c = apart_edits_commute
