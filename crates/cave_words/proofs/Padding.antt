use Rattle.std.proofs.Common.{◌≡◌, ℕ, ◌+◌, ◌-◌, ◌<◌, zero, suc, List, [], ◌∷◌, ◌++◌, length, take}
use Rattle.std.proofs.Common.{set, get_or, map, replicate, IsTrue, refl, sym, ◌∙◌, arith}
use Rattle.std.proofs.Common.{append_assoc, length-append}
use Rattle.std.proofs.lemmas.Bool.{and_parts, and_from}
use Rattle.std.proofs.lemmas.Bool.Decides.{nat_tests}
use Rattle.std.proofs.lemmas.List.{take_more, map-append, length-map, length-take, append-nil}
use Rattle.std.proofs.Math.Seq.{set-append_seam}
use Rattle.std.specs.Char.{to_ascii_uppercase}
use Rattle.std.specs.List.{list_all}
use Rattle.base_lines.proofs.Prefixes.{prefix_while-append}
use Rattle.base_lines.specs.Bytes.{is_nonblank, prefix_while}
use Rattle.cave_words.specs.Words.{letters_that_count, with_padding, word_of, MAX_LETTERS}

set-word_of : (letters : List ℕ) (byte k : ℕ)
    → set (letters ++ replicate (suc k) 32) (length letters) byte ≡ (letters ++ byte ∷ [])
    ++ replicate k 32
set-word_of letters byte k = set-append_seam letters 32 (replicate k 32) byte
    ∙ sym (append_assoc letters (byte ∷ []) (replicate k 32))

-- a byte written over the first space after the letters is one letter more
set-with_padding : (letters : List ℕ) (byte i : ℕ) → length letters ≡ i → i < MAX_LETTERS
    → set (with_padding letters) i byte ≡ with_padding (letters ++ byte ∷ [])
set-with_padding letters byte i same short =
    let room : MAX_LETTERS - length letters ≡ suc (MAX_LETTERS - (i + 1)) = omega arith in
    let less : MAX_LETTERS - length (letters ++ byte ∷ []) ≡ MAX_LETTERS - (i + 1) =
    omega (arith, length-append letters (byte ∷ [])) in
    rw (room, less, ← same) (set-word_of letters byte _)

pub padded_more : (bytes : List ℕ) (i : ℕ) → i < length bytes → i < MAX_LETTERS
    → set (with_padding (map to_ascii_uppercase (take i bytes))) i
    (to_ascii_uppercase (get_or bytes i 0))
    ≡ with_padding (map to_ascii_uppercase (take (i + 1) bytes))
padded_more bytes i within short =
    let all : length (map to_ascii_uppercase (take i bytes)) ≡ i =
    simp (length-map, length-take) (omega arith) in
    rw (take_more bytes i 0 within, map-append)
    (set-with_padding (map to_ascii_uppercase (take i bytes))
    (to_ascii_uppercase (get_or bytes i 0)) i all short)

spaces_after : (k : ℕ) → prefix_while is_nonblank (replicate k 32) ≡ []
spaces_after zero = refl
spaces_after (suc k) = refl

upper_nonblank : (byte : ℕ) → IsTrue (is_nonblank byte)
    → IsTrue (is_nonblank (to_ascii_uppercase byte))
upper_nonblank byte h = grind (arith, nat_tests)

cut_nonblank : (letters : ℕ) (bytes : List ℕ) → IsTrue (list_all is_nonblank bytes)
    → IsTrue (list_all is_nonblank (letters_that_count letters bytes))
cut_nonblank zero bytes all = refl
cut_nonblank (suc letters) [] all = refl
cut_nonblank (suc letters) (byte ∷ bytes) all =
    let parts = and_parts (is_nonblank byte) (list_all is_nonblank bytes) all in
    and_from (is_nonblank (to_ascii_uppercase byte))
    (list_all is_nonblank (letters_that_count letters bytes)) (upper_nonblank byte parts.0)
    (cut_nonblank letters bytes parts.1)

-- the letters of a word are what counts of the run from which it was made
pub letters-word_of : (letters : ℕ) (bytes : List ℕ) → IsTrue (list_all is_nonblank bytes)
    → prefix_while is_nonblank (word_of letters bytes) ≡ letters_that_count letters bytes
unfolding word_of
letters-word_of letters bytes all =
    prefix_while-append is_nonblank (letters_that_count letters bytes)
    (replicate (MAX_LETTERS - length (letters_that_count letters bytes)) 32)
    (cut_nonblank letters bytes all)
    ∙ rw (spaces_after (MAX_LETTERS - length (letters_that_count letters bytes)))
    (append-nil (letters_that_count letters bytes))

pub ruleset padding = (letters-word_of)
