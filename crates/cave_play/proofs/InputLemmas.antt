-- The bytes of an input, if only a prefix of them was read.
use Rattle.std.proofs.Common.{◌≡◌, ℕ, ◌<◌, ◌+◌, ◌≤◌, List, [], ◌++◌, length, None, Some, sym, ap, ◌∙◌}
use Rattle.std.proofs.Common.{refl, arith, inr, append-nil, length-append, le_refl}
use Rattle.std.specs.declared.option.Option.{Option}
use Rattle.std.specs.Io.KnownBytes.{Consumes, IsAtEnd}
use Rattle.std.proofs.KnownBytes.{Consumes-trans}
use Rattle.base_lines.specs.Limits.{MAX_INPUT_BYTES}
use Rattle.cave_play.specs.Sources.{Says, IsUnread}
use Rattle.cave_play.specs.Stages.{too_large}
use Rattle.play_command.specs.declared.line.Input.{Input}

-- a reader that reached its end had what it gave
pub Says-whole : (old new : Option (List ℕ)) (bytes : List ℕ) → Consumes old new bytes → IsAtEnd new
    → Says old bytes
Says-whole None new bytes taken end = tt
Says-whole (Some known) None bytes taken end = absurd taken
Says-whole (Some known) (Some rest) bytes taken end = sym (append-nil bytes)
    ∙ ap (λ l. bytes ++ l) (sym end) ∙ sym taken

-- a reader that gave nothing yet
pub Consumes-none : (known : Option (List ℕ)) (none : List ℕ) → none ≡ []
    → Consumes known known none
Consumes-none None none is = tt
Consumes-none (Some bytes) none is = ap (λ l. l ++ bytes) (sym is)

-- some bytes that a reader has, if it gave a prefix of them
pub Says-front : (old new : Option (List ℕ)) (front : List ℕ) → Consumes old new front
    → (bytes : List ℕ) × Says old bytes × (length front ≤ length bytes)
Says-front None new front taken = (front, tt, le_refl _)
Says-front (Some known) None front taken = absurd taken
Says-front (Some known) (Some rest) front taken =
    (known, refl, omega (arith, ap length taken, length-append front rest))

-- some bytes that a reader has
pub Says-some : (old : Option (List ℕ)) → (bytes : List ℕ) × Says old bytes
Says-some None = ([], tt)
Says-some (Some known) = (known, refl)

-- an input of which some bytes were read, and then those that were too many
pub IsUnread-large : (from : Input) (first old new : Option (List ℕ)) (before given : List ℕ)
    → Consumes first old before → Consumes old new given
    → MAX_INPUT_BYTES < length before + length given
    → (bytes : List ℕ) × Says first bytes × IsUnread from bytes (too_large from)
IsUnread-large from first old new before given taken more long =
    let (bytes, said, front) =
    Says-front first new (before ++ given)
    (Consumes-trans first old new before given taken more) in
    (bytes, said, inr (omega (arith, length-append before given, front, long), refl))
