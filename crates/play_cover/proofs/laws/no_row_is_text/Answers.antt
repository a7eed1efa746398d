use Rattle.play_cover.proofs.RowMarkLemmas.{no_row_is_text}
use Rattle.play_cover.proofs.laws.no_row_is_text.Goals as goal

pub returns : goal.returns
returns c = no_row_is_text
