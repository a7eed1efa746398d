use Rattle.std.proofs.Common.{◌≡◌, ◌++◌, None, map, drop}
use Rattle.data_rows.specs.RowViews.{going}
use Rattle.cave_world.specs.declared.travel_rows.Outcome.TheVariants.{NoMotion}
use Rattle.cave_world.specs.Travel.{result_of_last, tries}
use Rattle.cave_world.proofs.travel_rows.travel_by_rows.Given as goal

-- the remaining rows lead where all rows lead, and trying them makes the remaining tries of all
abbrev pub invariant-loop-number : goal.invariant-loop-number
invariant-loop-number g l =
    (result_of_last (record { state = l.state; outcome = l.outcome })
    (tries l.emerald l.state l.failed l.number (map going (drop l.number l.rows)))
    ≡ result_of_last (record { state = l.initial.state; outcome = NoMotion })
    (tries l.emerald l.initial.state None l.first (map going (drop l.first l.rows))))
    × (g.N.RowNotes.rows l.notes ++ map (λ t. t.row)
    (tries l.emerald l.state l.failed l.number (map going (drop l.number l.rows)))
    ≡ g.N.RowNotes.rows l.initial.notes ++ map (λ t. t.row)
    (tries l.emerald l.initial.state None l.first (map going (drop l.first l.rows))))
