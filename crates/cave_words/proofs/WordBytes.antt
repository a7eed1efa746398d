-- The bytes of a word as one number.
use Rattle.std.proofs.Common.{◌≡◌, ℕ, ◌<◌, List, length, get_or, bytes_eq, nat_eq, w64, sym, ap}
use Rattle.std.proofs.Common.{◌∙◌}
use Rattle.std.specs.Int.{from_le_bytes, to_le_bytes}
use Rattle.std.proofs.lemmas.Bool.Decides.{same_from_decides, Decides-like, Decides-eqb}
use Rattle.std.proofs.lemmas.Nat.{le_bytes_8}
use Rattle.std.proofs.lemmas.Slice.Eq.{bytes_eq-Decides}

-- eight bytes are the same exactly if the numbers that they make are
pub same_numbers : (a b : List ℕ) (m n : ℕ) → length a ≡ 8 → length b ≡ 8
    → ((i : ℕ) → get_or a i 0 < 256) → ((i : ℕ) → get_or b i 0 < 256)
    → m ≡ from_le_bytes w64 a → n ≡ from_le_bytes w64 b → nat_eq m n ≡ bytes_eq a b
same_numbers a b m n eight_a eight_b bytes_a bytes_b of_a of_b =
    same_from_decides (nat_eq m n) (bytes_eq a b)
    (Decides-like (nat_eq m n)
    (λ same. sym (le_bytes_8 a m eight_a bytes_a of_a) ∙ ap (to_le_bytes w64) same
    ∙ le_bytes_8 b n eight_b bytes_b of_b)
    (λ same. of_a ∙ ap (from_le_bytes w64) same ∙ sym of_b)
    (Decides-eqb m n))
    (bytes_eq-Decides a b)
