-- Numbers that lie in chunks, and one that is added, removed or replaced.
use Rattle.std.proofs.Common.{◌≡◌, ℕ, ◌+◌, ◌<◌, ◌≤◌, List, [], ◌∷◌, ◌++◌, length, get_or, take}
use Rattle.std.proofs.Common.{drop, insert, remove, set, zero, suc, refl, sym, ap, ◌∙◌, arith}
use Rattle.std.proofs.Common.{◌⊎◌, inl, inr, subst, add-one}
use Rattle.std.specs.Global.{Vec}
use Rattle.std.proofs.lemmas.List.{append-nil, append_assoc, length-append, drop_all, take_more}
use Rattle.std.proofs.lemmas.List.{take_more_set, drop-set-lt, take-append-drop}
use Rattle.std.specs.Prelude.{slice_index}
use Rattle.std.proofs.lemmas.List.{take_all, get_or_default}
use Rattle.std.proofs.lemmas.Bool.{cases_lt}
use Rattle.std.proofs.lemmas.List.Concat.{flat_map-append}
use Rattle.replay_edits.specs.Chunks.{numbers_in, count_at, IsWithinChunk}
use Rattle.replay_edits.proofs.Betweens.{insert_between, remove_between, set_between, get_between}

abbrev items_of : Vec ℕ → List ℕ
items_of chunk = chunk.items

numbers_in-append : (xs ys : List (Vec ℕ)) → numbers_in (xs ++ ys) ≡ numbers_in xs ++ numbers_in ys
numbers_in-append xs ys = flat_map-append items_of xs ys

-- the numbers before a chunk, those in it, and those after it
numbers_around : (chunks : List (Vec ℕ)) (index : ℕ) (chunk : Vec ℕ) → index < length chunks
    → chunk ≡ get_or chunks index chunk
    → numbers_in chunks ≡ numbers_in (take index chunks)
    ++ (chunk.items ++ numbers_in (drop (suc index) chunks))
numbers_around [] index chunk below read = absurd (omega arith)
numbers_around (first ∷ chunks) zero chunk below read =
    ap (λ c. items_of c ++ numbers_in chunks) (sym read)
numbers_around (first ∷ chunks) (suc index) chunk below read =
    ap (λ l. first.items ++ l) (numbers_around chunks index chunk (omega arith) read)
    ∙ sym (append_assoc first.items (numbers_in (take index chunks)) _)

numbers_in-set : (chunks : List (Vec ℕ)) (index : ℕ) (chunk : Vec ℕ) → index < length chunks
    → numbers_in (set chunks index chunk) ≡ numbers_in (take index chunks)
    ++ (chunk.items ++ numbers_in (drop (suc index) chunks))
numbers_in-set [] index chunk below = absurd (omega arith)
numbers_in-set (first ∷ chunks) zero chunk below = refl
numbers_in-set (first ∷ chunks) (suc index) chunk below =
    ap (λ l. first.items ++ l) (numbers_in-set chunks index chunk (omega arith))
    ∙ sym (append_assoc first.items (numbers_in (take index chunks)) _)

-- one more chunk of the first ones
pub numbers_in-more : (chunks : List (Vec ℕ)) (index : ℕ) (other : Vec ℕ) → index < length chunks
    → numbers_in (take (index + 1) chunks) ≡ numbers_in (take index chunks)
    ++ (get_or chunks index other).items
numbers_in-more chunks index other below =
    ap numbers_in (take_more chunks index other below)
    ∙ numbers_in-append (take index chunks) (get_or chunks index other ∷ [])
    ∙ ap (λ l. numbers_in (take index chunks) ++ l) (append-nil (get_or chunks index other).items)

pub count-more : (chunks : List (Vec ℕ)) (index : ℕ) (other : Vec ℕ) → index < length chunks
    → length (numbers_in (take (index + 1) chunks)) ≡ length (numbers_in (take index chunks))
    + count_at chunks index other
count-more chunks index other below =
    ap length (numbers_in-more chunks index other below)
    ∙ length-append (numbers_in (take index chunks)) (get_or chunks index other).items

-- ---- in the chunk of a place

pub numbers_in-insert : (chunks : List (Vec ℕ)) (place index within number : ℕ)
    (old new : Vec ℕ) → IsWithinChunk chunks place index within → old ≡ get_or chunks index old
    → new.items ≡ insert old.items within number
    → numbers_in (set chunks index new) ≡ insert (numbers_in chunks) place number
numbers_in-insert chunks place index within number old new found read made =
    let before = numbers_in (take index chunks) in
    let after = numbers_in (drop (suc index) chunks) in
    let fits : within ≤ length old.items =
    subst (λ c. within ≤ length (items_of c)) (sym read) (found.fits old) in
    numbers_in-set chunks index new found.inside
    ∙ ap (λ l. before ++ (l ++ after)) made
    ∙ sym (insert_between before old.items after within place number found.place_is fits)
    ∙ ap (λ l. insert l place number) (sym (numbers_around chunks index old found.inside read))

below_end : (chunks : List (Vec ℕ)) (place index within : ℕ) (old : Vec ℕ)
    → IsWithinChunk chunks place index within → old ≡ get_or chunks index old
    → place < length (numbers_in chunks) → within < length old.items
below_end chunks place index within old found read below =
    subst (λ c. within < length (items_of c)) (sym read) (found.below old below)

pub numbers_in-remove : (chunks : List (Vec ℕ)) (place index within : ℕ) (old new : Vec ℕ)
    → IsWithinChunk chunks place index within → old ≡ get_or chunks index old
    → place < length (numbers_in chunks) → new.items ≡ remove old.items within
    → numbers_in (set chunks index new) ≡ remove (numbers_in chunks) place
numbers_in-remove chunks place index within old new found read below made =
    let before = numbers_in (take index chunks) in
    let after = numbers_in (drop (suc index) chunks) in
    numbers_in-set chunks index new found.inside
    ∙ ap (λ l. before ++ (l ++ after)) made
    ∙ sym (remove_between before old.items after within place found.place_is
    (below_end chunks place index within old found read below))
    ∙ ap (λ l. remove l place) (sym (numbers_around chunks index old found.inside read))

pub numbers_in-replace : (chunks : List (Vec ℕ)) (place index within number : ℕ)
    (old new : Vec ℕ) → IsWithinChunk chunks place index within → old ≡ get_or chunks index old
    → place < length (numbers_in chunks) → new.items ≡ set old.items within number
    → numbers_in (set chunks index new) ≡ set (numbers_in chunks) place number
numbers_in-replace chunks place index within number old new found read below made =
    let before = numbers_in (take index chunks) in
    let after = numbers_in (drop (suc index) chunks) in
    numbers_in-set chunks index new found.inside
    ∙ ap (λ l. before ++ (l ++ after)) made
    ∙ sym (set_between before old.items after within place number found.place_is
    (below_end chunks place index within old found read below))
    ∙ ap (λ l. set l place number) (sym (numbers_around chunks index old found.inside read))

-- what was read in the chunk is the number at the place
pub number_at : (chunks : List (Vec ℕ)) (place index within number : ℕ) (old : Vec ℕ)
    → IsWithinChunk chunks place index within → old ≡ get_or chunks index old
    → place < length (numbers_in chunks) → number ≡ get_or old.items within number
    → number ≡ slice_index (numbers_in chunks) place
number_at chunks place index within number old found read below item =
    let before = numbers_in (take index chunks) in
    let after = numbers_in (drop (suc index) chunks) in
    let fits = below_end chunks place index within old found read below in
    item ∙ get_or_default old.items within number 0 fits
    ∙ sym (ap (λ l. get_or l place 0) (numbers_around chunks index old found.inside read)
    ∙ get_between before old.items after within place 0 found.place_is fits)

-- this also holds if the place isn't known to be within
pub number_sought : (chunks : List (Vec ℕ)) (place index within number : ℕ) (old : Vec ℕ)
    → index < length chunks → length (numbers_in (take index chunks)) + within ≡ place
    → old ≡ get_or chunks index old → within < length old.items
    → number ≡ get_or old.items within number
    → (place < length (numbers_in chunks)) × (number ≡ slice_index (numbers_in chunks) place)
number_sought chunks place index within number old inside here read fits item =
    let before = numbers_in (take index chunks) in
    let after = numbers_in (drop (suc index) chunks) in
    let around = numbers_around chunks index old inside read in
    let count = ap length around in
    let first = length-append before (old.items ++ after) in
    let second = length-append old.items after in (
      omega arith,
      item ∙ get_or_default old.items within number 0 fits
          ∙ sym (ap (λ l. get_or l place 0) around
          ∙ get_between before old.items after within place 0 here fits),
    )

-- ---- other chunks

-- a place that the chunks before a chunk don't reach is in this chunk, if it is the last one or has
-- the place
pub is_within_chunk : (chunks : List (Vec ℕ)) (place index within : ℕ) → index < length chunks
    → length (numbers_in (take index chunks)) + within ≡ place
    → place ≤ length (numbers_in chunks)
    → ((other : Vec ℕ) → index + 1 < length chunks → within < count_at chunks index other)
    → IsWithinChunk chunks place index within
is_within_chunk chunks place index within inside here reached early =
    let whole : (other : Vec ℕ) → index + 1 < length chunks ⊎ (length (numbers_in chunks)
    ≡ length (numbers_in (take index chunks)) + count_at chunks index other) =
    λ other. elim (cases_lt (index + 1) (length chunks)) [
      | inl before ↦ inl before
      | inr past ↦ inr (ap (λ l. length (numbers_in l)) (sym (take_all (index + 1) chunks past))
          ∙ count-more chunks index other inside)
    ] in
    record {
      inside = inside;
      place_is = here;
      fits = λ other. elim (whole other) [
        | inl before ↦ let less = early other before in omega arith
        | inr all ↦ omega arith
      ];
      below = λ other below. elim (whole other) [
        | inl before ↦ early other before
        | inr all ↦ omega arith
      ];
    }

pub numbers_in-halve : (chunks : List (Vec ℕ)) (index half : ℕ) (old front back : Vec ℕ)
    → index < length chunks → old ≡ get_or chunks index old → front.items ≡ take half old.items
    → back.items ≡ drop half old.items
    → numbers_in (insert (set chunks index front) (index + 1) back) ≡ numbers_in chunks
numbers_in-halve chunks index half old front back inside read first second =
    let before = numbers_in (take index chunks) in
    let after = numbers_in (drop (suc index) chunks) in
    let whole : front.items ++ back.items ≡ old.items =
    rw (first, second) (take-append-drop half old.items) in
    let firsts : numbers_in (take (index + 1) (set chunks index front)) ≡ before ++ front.items =
    ap numbers_in (take_more_set chunks index front inside)
    ∙ numbers_in-append (take index chunks) (front ∷ [])
    ∙ ap (λ l. before ++ l) (append-nil front.items) in
    let others : drop (index + 1) (set chunks index front) ≡ drop (suc index) chunks =
    drop-set-lt (index + 1) chunks index front (omega arith)
    ∙ ap (λ k. drop k chunks) (add-one index) in
    numbers_in-append (take (index + 1) (set chunks index front))
    (back ∷ drop (index + 1) (set chunks index front))
    ∙ ap (λ l. l ++ (back.items ++ numbers_in (drop (index + 1) (set chunks index front)))) firsts
    ∙ ap (λ l. (before ++ front.items) ++ (back.items ++ numbers_in l)) others
    ∙ append_assoc before front.items (back.items ++ after)
    ∙ ap (λ l. before ++ l) (sym (append_assoc front.items back.items after)
    ∙ ap (λ l. l ++ after) whole)
    ∙ sym (numbers_around chunks index old inside read)

pub numbers_in-push_last : (chunks : List (Vec ℕ)) (index number : ℕ) (old new : Vec ℕ)
    → index + 1 ≡ length chunks → old ≡ get_or chunks index old
    → new.items ≡ old.items ++ number ∷ []
    → numbers_in (set chunks index new) ≡ numbers_in chunks ++ number ∷ []
numbers_in-push_last chunks index number old new last read made =
    let inside : index < length chunks = omega arith in
    let past : length chunks ≤ suc index = omega arith in
    let before = numbers_in (take index chunks) in
    let none = ap numbers_in (drop_all (suc index) chunks past) in
    let whole : numbers_in chunks ≡ before ++ old.items =
    numbers_around chunks index old inside read
    ∙ ap (λ l. before ++ (old.items ++ l)) none ∙ ap (λ l. before ++ l) (append-nil old.items) in
    numbers_in-set chunks index new inside
    ∙ ap (λ l. before ++ (new.items ++ l)) none
    ∙ ap (λ l. before ++ l) (append-nil new.items ∙ made)
    ∙ sym (append_assoc before old.items (number ∷ [])) ∙ ap (λ l. l ++ number ∷ []) (sym whole)

pub numbers_in-push_chunk : (chunks : List (Vec ℕ)) (number : ℕ) (chunk : Vec ℕ)
    → chunk.items ≡ number ∷ [] → numbers_in (chunks ++ chunk ∷ []) ≡ numbers_in chunks
    ++ number ∷ []
numbers_in-push_chunk chunks number chunk made =
    numbers_in-append chunks (chunk ∷ [])
    ∙ ap (λ l. numbers_in chunks ++ l) (append-nil chunk.items ∙ made)
