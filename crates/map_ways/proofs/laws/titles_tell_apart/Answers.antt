use Rattle.map_ways.proofs.TitleLemmas.{titles_tell_apart}
use Rattle.map_ways.proofs.laws.titles_tell_apart.Goals as goal

pub returns : goal.returns
returns c = titles_tell_apart
