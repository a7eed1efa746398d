-- Laws of the leading bytes that pass a test, and of what follows them.
use Rattle.std.proofs.Common.{◌≡◌, ℕ, ◌+◌, Bool, true, false, cond, List, [], ◌∷◌, ◌++◌, IsTrue, refl}
use Rattle.std.proofs.Common.{ap, arith, drop, take}
use Rattle.std.specs.List.{list_all, prefix_len}
use Rattle.std.proofs.lemmas.Bool.{and_parts}
use Rattle.std.proofs.lemmas.Grind.{common_steps}
use Rattle.std.proofs.lemmas.List.Sums.{prefix_len-le-length}
use Rattle.base_lines.specs.Bytes.{prefix_while, after_prefix}

joined_if : (passes : Bool) (byte : ℕ) (bytes front rest : List ℕ) → front ++ rest ≡ bytes
    → cond passes (byte ∷ front) [] ++ cond passes rest (byte ∷ bytes) ≡ byte ∷ bytes
joined_if true byte bytes front rest h = ap (λ xs. byte ∷ xs) h
joined_if false byte bytes front rest h = refl

-- the leading bytes and what follows them are all the bytes
pub prefix_while-append-after_prefix : (test : ℕ → Bool) (bytes : List ℕ)
    → prefix_while test bytes ++ after_prefix test bytes ≡ bytes
prefix_while-append-after_prefix test [] = refl
prefix_while-append-after_prefix test (byte ∷ bytes) =
    joined_if (test byte) byte bytes _ _ (prefix_while-append-after_prefix test bytes)

all_if : (test : ℕ → Bool) (byte : ℕ) (front : List ℕ) (passes : Bool) → test byte ≡ passes
    → IsTrue (list_all test front) → IsTrue (list_all test (cond passes (byte ∷ front) []))
all_if test byte front true is h = rw is h
all_if test byte front false is h = refl

-- the leading bytes all pass
pub list_all-prefix_while : (test : ℕ → Bool) (bytes : List ℕ)
    → IsTrue (list_all test (prefix_while test bytes))
list_all-prefix_while test [] = refl
list_all-prefix_while test (byte ∷ bytes) =
    all_if test byte _ (test byte) refl (list_all-prefix_while test bytes)

pub after_prefix-append : (test : ℕ → Bool) (front rest : List ℕ) → IsTrue (list_all test front)
    → after_prefix test (front ++ rest) ≡ after_prefix test rest
after_prefix-append test [] rest all = refl
after_prefix-append test (byte ∷ front) rest all =
    let parts = and_parts (test byte) (list_all test front) all in
    let passes = parts.0 in
    rw passes (after_prefix-append test front rest parts.1)

pub prefix_while-append : (test : ℕ → Bool) (front rest : List ℕ) → IsTrue (list_all test front)
    → prefix_while test (front ++ rest) ≡ front ++ prefix_while test rest
prefix_while-append test [] rest all = refl
prefix_while-append test (byte ∷ front) rest all =
    let parts = and_parts (test byte) (list_all test front) all in
    let passes = parts.0 in
    rw passes (ap (λ xs. byte ∷ xs) (prefix_while-append test front rest parts.1))

take_one_more : (passes : Bool) (n byte : ℕ) (bytes front : List ℕ) → take n bytes ≡ front
    → take (cond passes (1 + n) 0) (byte ∷ bytes) ≡ cond passes (byte ∷ front) []
take_one_more true n byte bytes front h = grind (arith, common_steps)
take_one_more false n byte bytes front h = refl

drop_one_more : (passes : Bool) (n byte : ℕ) (bytes rest : List ℕ) → drop n bytes ≡ rest
    → drop (cond passes (1 + n) 0) (byte ∷ bytes) ≡ cond passes rest (byte ∷ bytes)
drop_one_more true n byte bytes rest h = grind (arith, common_steps)
drop_one_more false n byte bytes rest h = refl

pub take-prefix_len : (test : ℕ → Bool) (bytes : List ℕ)
    → take (prefix_len test bytes) bytes ≡ prefix_while test bytes
take-prefix_len test [] = refl
take-prefix_len test (byte ∷ bytes) =
    take_one_more (test byte) (prefix_len test bytes) byte bytes _ (take-prefix_len test bytes)

pub drop-prefix_len : (test : ℕ → Bool) (bytes : List ℕ)
    → drop (prefix_len test bytes) bytes ≡ after_prefix test bytes
drop-prefix_len test [] = refl
drop-prefix_len test (byte ∷ bytes) =
    drop_one_more (test byte) (prefix_len test bytes) byte bytes _ (drop-prefix_len test bytes)

-- what the leading bytes that pass are, by their number
pub ruleset prefixes = (take-prefix_len, drop-prefix_len, prefix_len-le-length)

pub ruleset in_prefix_passes = (list_all-prefix_while)
