-- The first line feed that a search finds.
use Rattle.std.proofs.Common.{◌≡◌, ◌≤◌, ℕ, ◌==◌, List, Option, Some, None, length, sym, arith}
use Rattle.std.proofs.Common.{unwrap_or}
use Rattle.std.specs.List.{position_or_len}
use Rattle.std.proofs.lemmas.Bool.{false_from_ne_true}
use Rattle.std.proofs.lemmas.List.Sums.{position_or_len_is}
use Rattle.memchr.specs.Find.{IsFirstByte, is_byte}

-- if the search finds none, all bytes come before it
pub feed_found : (text : List ℕ) (found : Option ℕ) → IsFirstByte (is_byte 10) text found
    → unwrap_or found (length text) ≡ position_or_len (λ b. b == 10) text
feed_found text None none =
    sym (position_or_len_is (λ b. b == 10) text (length text) 0 (omega arith)
    (λ k low. false_from_ne_true _ (none k (omega arith) low))
    (λ low. absurd (omega arith)))
feed_found text (Some place) first =
    let high = first.0.high in
    sym (position_or_len_is (λ b. b == 10) text place 0 (omega (arith, high))
    (λ k low. false_from_ne_true _ (first.0.before k (omega arith) low))
    (λ low. first.1))

pub feed_within : (text : List ℕ) (found : Option ℕ) → IsFirstByte (is_byte 10) text found
    → unwrap_or found (length text) ≤ length text
feed_within text None none = omega arith
feed_within text (Some place) first = let high = first.0.high in omega (arith, high)

pub ruleset feeds = (feed_found, feed_within)
