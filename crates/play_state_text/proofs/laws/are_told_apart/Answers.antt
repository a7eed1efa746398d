use Rattle.play_state_text.proofs.StateLemmas.{told_apart}
use Rattle.play_state_text.proofs.laws.are_told_apart.Goals as goal

pub returns : goal.returns
returns c =
    told_apart c.args.cave.now c.args.begun.now c.args.first.now c.args.second.now
    c.are_facts_within.ensures c.are_facts_within-2.ensures
