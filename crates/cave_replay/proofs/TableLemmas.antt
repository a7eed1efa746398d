-- What one change of a log leaves alone.
use Rattle.std.proofs.Common.{refl, arith}
use Rattle.std.proofs.lemmas.Bool.{ltb-false, leb-false}
use Rattle.std.proofs.lemmas.List.{length-set}
use Rattle.std.proofs.lemmas.List.Edits.{length-insert, length-remove}
use Rattle.std.specs.Prelude.{◌≡◌, ℕ, ◌<◌, ◌≤◌, Bool, true, false, nat_lt, nat_le, length, Option}
use Rattle.std.specs.Prelude.{Some, None, if◌then◌else◌}
use Rattle.replay_edits.specs.declared.fault.EditFault.{EditFault}
use Rattle.replay_edits.specs.declared.fault.EditFault.TheVariants.{NoSuchPlace}
use Rattle.replay_edits.specs.Edit.{inserts, deletes, replaces, reseeds}
use Rattle.replay_edits.specs.Faults.{added_fault, replaced_fault}
use Rattle.cave_replay.specs.Table.{ByTable}

-- a change that meets no fault of its place has that place in the log
no_fault : (test : Bool) (lines : ℕ) (rest : Option EditFault)
    → (if test then Some (NoSuchPlace lines) else rest) ≡ None → test ≡ false
no_fault true lines rest free = cc
no_fault false lines rest free = refl

pub by_table : ByTable
by_table (inserts edited line) game free =
    let here : edited ≤ length game.log =
    ltb-false _ _ (no_fault (nat_lt (length game.log) edited) _ (added_fault line game.log) free) in
    let longer = length-insert game.log edited line here in
    record {
      first = omega arith;
      rest = omega arith;
      moved = λ place from within. omega (arith, longer);
    }
by_table (deletes edited) game free =
    let here : edited < length game.log =
    leb-false _ _ (no_fault (nat_le (length game.log) edited) _ None free) in
    let shorter = length-remove game.log edited here in
    record {
      first = omega arith;
      rest = omega arith;
      moved = λ place from within. omega (arith, shorter);
    }
by_table (replaces edited line) game free =
    let here : edited < length game.log =
    leb-false _ _ (no_fault (nat_le (length game.log) edited) _ (replaced_fault line) free) in
    let same = length-set game.log edited line in
    record {
      first = omega arith;
      rest = omega arith;
      moved = λ place from within. omega (arith, same);
    }
by_table (reseeds seed) game free =
    record {
      first = omega arith;
      rest = omega arith;
      moved = λ place from within. omega arith;
    }
