use Rattle.play_laws.proofs.GuardedSpelling.{guards_belong_to_items}
use Rattle.play_laws.proofs.edit_laws.guards_belong_to_items.Goals as goal

pub returns : goal.returns
returns c = guards_belong_to_items
