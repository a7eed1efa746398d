use Rattle.std.proofs.Common.{leb, rules, arith}
use borrow.Author.Tests.{leb-true, leb-false}
use Rattle.std.proofs.lemmas.List.Sorted.{IsPartitionedBy-leb, IsPartitionPoint-from_clause}
use Rattle.replay_checkpoints.proofs.Places.{non_decreasing, found_one}
use Rattle.replay_checkpoints.proofs.search.last_to.Goals as goal

pub overflow_sub-result : goal.overflow_sub-result
overflow_sub-result c =
    let xs = c.args.places.now in
    let point =
    IsPartitionPoint-from_clause (λ y. leb y c.args.place) xs c.partition_point.result
    c.partition_point.ensures.partitioned
    (IsPartitionedBy-leb (λ y. y) xs c.args.place (non_decreasing xs c.requires.rising))
    (λ a r f h. search rules) in
    omega (
      arith,
      found_one xs c.args.place c.partition_point.result c.requires.some c.requires.begun point.1,
    )

pub returns-clause-before : goal.returns-clause-before
returns-clause-before c =
    let xs = c.args.places.now in
    let point =
    IsPartitionPoint-from_clause (λ y. leb y c.args.place) xs c.partition_point.result
    c.partition_point.ensures.partitioned
    (IsPartitionedBy-leb (λ y. y) xs c.args.place (non_decreasing xs c.requires.rising))
    (λ a r f h. search rules) in
    let some =
    found_one xs c.args.place c.partition_point.result c.requires.some c.requires.begun
    point.1 in
    λ k h. leb-true _ _ (point.0 k 0 (omega arith) (omega arith))

pub returns-clause-after : goal.returns-clause-after
returns-clause-after c =
    let xs = c.args.places.now in
    let point =
    IsPartitionPoint-from_clause (λ y. leb y c.args.place) xs c.partition_point.result
    c.partition_point.ensures.partitioned
    (IsPartitionedBy-leb (λ y. y) xs c.args.place (non_decreasing xs c.requires.rising))
    (λ a r f h. search rules) in
    λ k above h. leb-false _ _ (point.1 k 0 (omega arith) h)
