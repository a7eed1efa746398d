use Rattle.std.proofs.Common.{◌≡◌, ◌+◌, ◌-◌, length, map}
use Rattle.check_tables.specs.Marks.{is_marked}
use Rattle.check_tables.specs.declared.marks.Mark.{Mark}
use Rattle.check_tables.proofs.marks.MarkSet.open_group.Given as goal

abbrev pub invariant-loop-alloc : goal.invariant-loop-alloc
invariant-loop-alloc l =
    (mark : Mark) → is_marked (map (λ group. group.items) l.self-inside.groups.items) mark
    ≡ is_marked (map (λ group. group.items) l.initial.self-inside.groups.items) mark

abbrev pub decreases-loop-alloc : goal.decreases-loop-alloc
decreases-loop-alloc l = l.group + 1 - length l.self-inside.groups.items
