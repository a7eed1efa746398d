use Rattle.std.proofs.Common.{ltb, rules, arith}
use borrow.Author.Tests.{ltb-true, ltb-false}
use Rattle.std.proofs.lemmas.List.Sorted.{IsPartitionedBy-ltb, IsPartitionPoint-from_clause}
use Rattle.replay_checkpoints.proofs.Places.{non_decreasing}
use Rattle.replay_checkpoints.proofs.search.first_from.Goals as goal

pub returns-clause-before : goal.returns-clause-before
returns-clause-before c =
    let xs = c.args.places.now in
    let point =
    IsPartitionPoint-from_clause (λ y. ltb y c.args.place) xs c.partition_point.result
    c.partition_point.ensures.partitioned
    (IsPartitionedBy-ltb (λ y. y) xs c.args.place (non_decreasing xs c.requires.rising))
    (λ a r f h. search rules) in
    λ k h. ltb-true _ _ (point.0 k 0 (omega arith) h)

pub returns-clause-after : goal.returns-clause-after
returns-clause-after c =
    let xs = c.args.places.now in
    let point =
    IsPartitionPoint-from_clause (λ y. ltb y c.args.place) xs c.partition_point.result
    c.partition_point.ensures.partitioned
    (IsPartitionedBy-ltb (λ y. y) xs c.args.place (non_decreasing xs c.requires.rising))
    (λ a r f h. search rules) in
    λ k above h. ltb-false _ _ (point.1 k 0 above h)
