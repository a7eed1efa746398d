-- What may be given to open a session.
use Rattle.std.proofs.Common.{◌≡◌, ℕ, ◌+◌, List, [], ◌∷◌, length, refl, arith, Option, Some, None}
use Rattle.std.proofs.Common.{Bool, true, false, cond, All, IsTrue, eqb, ltb, ◌||◌}
use Rattle.std.proofs.lemmas.List.Elements.{All-nil, All-cons}
use Rattle.std.proofs.lemmas.Bool.{eqb-false, ltb-false}
use Rattle.base_lines.specs.Line.{is_line, flaw_of}
use Rattle.base_lines.specs.declared.line.LineFault.{LineFault}
use Rattle.cave_replay.specs.declared.fault.OpenFault.{OpenFault}
use Rattle.cave_replay.specs.declared.fault.OpenFault.TheVariants.{BadEvery, LogFull, BadSeed}
use Rattle.base_lines.specs.Limits.{MAX_LOG_LINES, MAX_SEED, MAX_EVERY}
use Rattle.replay_edits.specs.Edit.{game_of, IsGame}
use Rattle.cave_replay.specs.Opening.{first_bad_line, game_fault, or_game_fault, open_fault}
use Rattle.cave_replay.specs.Playthrough.{IsDistance}

free_choice : (b : Bool) (fault : OpenFault) (rest : Option OpenFault)
    → cond b (Some fault) rest ≡ None → (b ≡ false) × (rest ≡ None)
free_choice true fault rest free = cc
free_choice false fault rest free = (refl, free)

neither : (a b : Bool) → (a || b) ≡ false → (a ≡ false) × (b ≡ false)
neither true b h = cc
neither false b h = (refl, h)

line_choice : {A : Type 0} (b : Bool) (bad : A) (rest : Option A) → cond b rest (Some bad) ≡ None
    → (b ≡ true) × (rest ≡ None)
line_choice true bad rest free = (refl, free)
line_choice false bad rest free = cc

good_lines : (log : List (List ℕ)) (number : ℕ) → first_bad_line log number ≡ None
    → All (λ line. IsTrue (is_line line)) log
good_lines [] number free = let P : List ℕ → Type 0 = λ l. IsTrue (is_line l) in All-nil P
good_lines (line ∷ lines) number free =
    let P : List ℕ → Type 0 = λ l. IsTrue (is_line l) in
    let both =
    line_choice (is_line line) (number, flaw_of line) (first_bad_line lines (number + 1))
    free in
    All-cons P line lines both.0 (good_lines lines (number + 1) both.1)

no_bad_line : (bad : Option (ℕ × LineFault)) (log : List (List ℕ)) (seed : ℕ)
    → or_game_fault bad log seed ≡ None → (bad ≡ None) × (game_fault log seed ≡ None)
no_bad_line None log seed free = (refl, free)
no_bad_line (Some (number, flaw)) log seed free = cc

-- if no fault is met, the distance and the game are good
pub IsDistance-from_no_fault : (every : ℕ) (log : List (List ℕ)) (seed : ℕ)
    → open_fault every log seed ≡ None → IsDistance every
IsDistance-from_no_fault every log seed free =
    let first =
    free_choice (eqb every 0 || ltb MAX_EVERY every) BadEvery
    (or_game_fault (first_bad_line log 1) log seed) free in
    let both = neither (eqb every 0) (ltb MAX_EVERY every) first.0 in
    let some = eqb-false every 0 both.0 in
    record { some = omega arith; few = ltb-false MAX_EVERY every both.1 }

pub IsGame-from_no_fault : (every : ℕ) (log : List (List ℕ)) (seed : ℕ)
    → open_fault every log seed ≡ None → IsGame (game_of seed log)
IsGame-from_no_fault every log seed free =
    let first =
    free_choice (eqb every 0 || ltb MAX_EVERY every) BadEvery
    (or_game_fault (first_bad_line log 1) log seed) free in
    let second = no_bad_line (first_bad_line log 1) log seed first.1 in
    let third = free_choice (ltb MAX_LOG_LINES (length log)) LogFull _ second.1 in
    let fourth = free_choice (ltb MAX_SEED seed) BadSeed None third.1 in
    record {
      lines = good_lines log 1 second.0;
      few = ltb-false MAX_LOG_LINES (length log) third.0;
      seed_fits = ltb-false MAX_SEED seed fourth.0;
    }
