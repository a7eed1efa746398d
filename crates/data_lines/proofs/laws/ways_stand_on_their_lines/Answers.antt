use Rattle.data_lines.proofs.WaysOnLines.{ways_stand_on_their_lines}
use Rattle.data_lines.proofs.laws.ways_stand_on_their_lines.Goals as goal

pub returns : goal.returns
returns c = ways_stand_on_their_lines
