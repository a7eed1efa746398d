-- What the parser found, by its rows.
use Rattle.clap.proofs.WalkLemmas.{first_value-rows, raw_values-rows}

pub ruleset values = (first_value-rows, raw_values-rows)
