-- The bound of a replay, at the first place at which the plays agree.
use Rattle.std.proofs.Common.{length, inl, inr, arith}
use Rattle.std.proofs.lemmas.Bool.{cases_lt}
use Rattle.cave_replay.specs.Agreement.{BoundedByFirst}

pub bounded_by_first : {S T : Type 0} → BoundedByFirst S T
bounded_by_first rules old new head tail every steps bounded agreement is =
    elim (cases_lt agreement (length new.log)) [
      | inl before ↦
          let found = is.agrees before in
          let bound = bounded.agreement found.place found.agrees in
          let same = found.agreement_is in
          omega arith
      | inr past ↦
          let bound = bounded.end in
          let short = is.short in
          omega arith
    ]
