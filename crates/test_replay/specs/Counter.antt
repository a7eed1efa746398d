-- The rules of the counter: a line sets it to its length, and one that begins with `+` adds that. Each
-- says the number after it.
use Rattle.std.specs.Prelude.{◌≡◌, ◌↔◌, ℕ, ◌+◌, ◌%◌, ◌==◌, Bool, false, IsTrue, List, [], ◌∷◌}
use Rattle.std.specs.Prelude.{if◌then◌else◌, length, nat_lt}
use Rattle.std.proofs.lemmas.Bool.{eqb-true, eq-eqb}
use Rattle.cave_replay.specs.Play.{MachineRules}

abbrev pub adds : List ℕ → Bool
adds [] = false
adds (byte ∷ bytes) = byte == 43

abbrev pub after : ℕ → List ℕ → ℕ
after number line = if adds line then number % 65536 + length line else length line

abbrev pub counter_rules : MachineRules ℕ (List ℕ)
counter_rules = record {
  begun = λ seed. seed % 256;
  greeting = λ seed. seed % 256 ∷ [];
  after = after;
  said = λ number line. after number line ∷ [];
  ticked = λ _ line. nat_lt 0 (length line);
}

pub same_numbers : (a b : ℕ) → IsTrue (a == b) ↔ (a ≡ b)
same_numbers a b = (eqb-true a b, eq-eqb a b)
