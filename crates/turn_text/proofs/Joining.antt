-- Texts that are written one after another.
use Rattle.std.proofs.Common.{◌≡◌, ℕ, List, ◌++◌, ap, ◌∙◌, append_assoc}

pub joined : (before first second once twice : List ℕ) → once ≡ before ++ first
    → twice ≡ once ++ second → twice ≡ before ++ (first ++ second)
joined before first second once twice e f = f ∙ ap (λ t. t ++ second) e
    ∙ append_assoc before first second
