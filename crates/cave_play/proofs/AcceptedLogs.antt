-- An item of a script is refused only for its changes.
use Rattle.std.proofs.Common.{◌≡◌, ℕ, Bool, true, false, List, length, Option, None, Some}
use Rattle.std.proofs.Common.{nat_lt, refl}
use Rattle.std.specs.Prelude.{if◌then◌else◌}
use Rattle.std.specs.Str.Lines.{lines}
use Rattle.base_lines.specs.Limits.{MAX_INPUT_BYTES, MAX_LOG_LINES, MAX_SEED}
use Rattle.base_lines.specs.declared.line.LineFault.{LineFault}
use Rattle.replay_edits.specs.Edit.{game_of, IsGame}
use Rattle.cave_replay.specs.Opening.{first_bad_line, or_game_fault}
use Rattle.cave_replay.specs.declared.fault.OpenFault.TheVariants as session
use Rattle.cave_replay.proofs.Openings.{IsGame-from_no_fault}
use Rattle.std.specs.Option.{option_or}
use Rattle.cave_play.specs.Stages.{large_seed, lines_fault, log_fault, or_too_many}
use Rattle.cave_play.specs.declared.fault.LogFault.TheVariants as log
use Rattle.cave_play.specs.declared.fault.PlayFault.{PlayFault}

-- ---- a session can hold an accepted log

unrefused : (test : Bool) (found : PlayFault) (rest : Option PlayFault)
    → option_or (if test then Some found else None) rest ≡ None → rest ≡ None
unrefused true found rest free = cc
unrefused false found rest free = free

opened : (many great : Bool) → (if many then Some (PlayFault.Log log.Full) else None) ≡ None
    → (if great then Some PlayFault.Seed else None) ≡ None
    → (if many then Some session.LogFull else (if great then Some session.BadSeed else None)) ≡ None
opened true great few fits = cc
opened false true few fits = cc
opened false false few fits = refl

opened_after : (bad : Option (ℕ × LineFault)) (game : List (List ℕ)) (seed : ℕ)
    → or_too_many bad (length game) ≡ None → large_seed seed ≡ None
    → or_game_fault bad game seed ≡ None
opened_after None game seed few fits =
    opened (nat_lt MAX_LOG_LINES (length game)) (nat_lt MAX_SEED seed) few fits
opened_after (Some (number, flaw)) game seed few fits = cc

pub IsGame-accepted : (bytes : List ℕ) (seed : ℕ) → log_fault bytes ≡ None → large_seed seed ≡ None
    → IsGame (game_of seed (lines bytes))
unfolding log_fault lines_fault
IsGame-accepted bytes seed free fits =
    let valid = unrefused (nat_lt MAX_INPUT_BYTES (length bytes)) (PlayFault.Log log.TooLarge) _ free in
    IsGame-from_no_fault 1 (lines bytes) seed
    (opened_after (first_bad_line (lines bytes) 1) (lines bytes) seed valid fits)
