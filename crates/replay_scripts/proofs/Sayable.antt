-- A script can say what a log takes.
use Rattle.std.proofs.Common.{◌≡◌, ℕ, ◌≤◌, List, length, refl, arith, true}
use Rattle.std.specs.Prelude.{Bool, false, None, Some, if◌then◌else◌, nat_lt}
use Rattle.std.specs.List.{list_all}
use Rattle.std.proofs.lemmas.Bool.Decides.{nat_tests}
use Rattle.base_lines.specs.Line.{is_line_byte}
use Rattle.base_lines.specs.Limits.{MAX_LOG_LINES, MAX_SEED}
use Rattle.base_lines.proofs.GoodLines.{good_bytes}
use Rattle.replay_edits.specs.declared.fault.EditFault.TheVariants.{BadSeed}
use Rattle.replay_edits.specs.Faults.{fault_of}
use Rattle.replay_edits.specs.Edit.{Change, inserts, deletes, own_line, replaces, reseeds}
use Rattle.replay_edits.proofs.Inverses.{delete_within, insert_within, replace_within}
use Rattle.replay_scripts.specs.ScriptText.{Back, CanExpect, IsSpellable, number_in}

seed_within : (large : Bool) → (if large then Some BadSeed else None) ≡ None → large ≡ false
seed_within true free = cc
seed_within false free = refl

sayable : (change : Change) (log : List (List ℕ)) → length log ≤ MAX_LOG_LINES
    → fault_of change log ≡ None
    → (number_in change ≤ 4294967295) × (list_all is_line_byte (own_line change) ≡ true)
sayable (inserts place line) log few free =
    let within = insert_within place line log free in
    (omega (arith, few, within.0), good_bytes line within.1)
sayable (deletes place) log few free =
    let within = delete_within place log free in (omega (arith, few, within), refl)
sayable (replaces place line) log few free =
    let within = replace_within place line log free in
    (omega (arith, few, within.0), good_bytes line within.1)
sayable (reseeds seed) log few free =
    let fits : nat_lt MAX_SEED seed ≡ false = seed_within (nat_lt MAX_SEED seed) free in
    (grind (arith, nat_tests, fits), refl)

pub spellable : (guarded : Bool) (back : Back) (log : List (List ℕ))
    → length log ≤ MAX_LOG_LINES → fault_of back.change log ≡ None
    → CanExpect guarded back.expected → IsSpellable guarded back
spellable guarded back log few free can =
    let says = sayable back.change log few free in
    record { number_fits = says.0; bytes = says.1; guard = can }
