use Rattle.play_cover.proofs.RowMarkLemmas.{each_row_has_its_mark}
use Rattle.play_cover.proofs.laws.each_row_has_its_mark.Goals as goal

pub returns : goal.returns
returns c = each_row_has_its_mark
