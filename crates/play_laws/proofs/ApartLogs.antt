-- What a change does to a log of two parts, if it stays within one of them.
use Rattle.std.proofs.Common.{◌≡◌, ℕ, ◌+◌, ◌-◌, ◌*◌, ◌<◌, ◌≤◌, List, ◌++◌, length, take, drop}
use Rattle.std.proofs.Common.{insert, remove, set, refl, sym, ap, ap₂, ◌∙◌, arith}
use Rattle.std.proofs.lemmas.Bool.{le-ltb, le-leb, lt-ltb, lt-leb}
use Rattle.std.proofs.lemmas.List.{length-take-le, length-set, set-append_left, set-append_right}
use Rattle.std.proofs.lemmas.List.{take-append-drop}
use Rattle.std.proofs.lemmas.List.Edits.{length-insert, length-remove, insert-append_left}
use Rattle.std.proofs.lemmas.List.Edits.{insert-append_right, remove-append_left}
use Rattle.std.proofs.lemmas.List.Edits.{remove-append_right}
use Rattle.replay_edits.specs.Edit.{Change, inserts, deletes, replaces, reseeds, log_after}
use Rattle.play_laws.specs.ApartEdits.{shifted_place, shifted_by}

-- the place of a change
abbrev pub place_of : Change → ℕ
place_of (inserts place line) = place
place_of (deletes place) = place
place_of (replaces place line) = place
place_of (reseeds seed) = 0

-- the change at another place
abbrev at_place : ℕ → Change → Change
at_place other (inserts place line) = inserts other line
at_place other (deletes place) = deletes other
at_place other (replaces place line) = replaces other line
at_place other (reseeds seed) = reseeds seed

-- how far from the start a change touches a log, in which each gap is before its line
abbrev pub rank : Change → ℕ
rank (inserts place line) = 2 * place
rank (deletes place) = 2 * place + 1
rank (replaces place line) = 2 * place + 1
rank (reseeds seed) = 0

rank_from : (change : Change) → 2 * place_of change ≤ rank change
rank_from (inserts place line) = omega arith
rank_from (deletes place) = omega arith
rank_from (replaces place line) = omega arith
rank_from (reseeds seed) = omega arith

rank_to : (change : Change) → rank change ≤ 2 * place_of change + 1
rank_to (inserts place line) = omega arith
rank_to (deletes place) = omega arith
rank_to (replaces place line) = omega arith
rank_to (reseeds seed) = omega arith

-- ---- a change within a part

-- a change stays within the first lines of a log, this many
abbrev IsWithin : Change → ℕ → Type 0
IsWithin (inserts place line) lines = place ≤ lines
IsWithin (deletes place) lines = place < lines
IsWithin (replaces place line) lines = place < lines
IsWithin (reseeds seed) lines = Unit {0}

within_first : (change : Change) (xs ys : List (List ℕ)) → IsWithin change (length xs)
    → log_after change (xs ++ ys) ≡ log_after change xs ++ ys
within_first (inserts place line) xs ys within = insert-append_left xs ys place line within
within_first (deletes place) xs ys within = remove-append_left xs ys place within
within_first (replaces place line) xs ys within = set-append_left xs ys place line within
within_first (reseeds seed) xs ys within = refl

within_second : (change : Change) (count : ℕ) (xs ys : List (List ℕ)) → length xs ≡ count
    → log_after (at_place count change) (xs ++ ys) ≡ xs ++ log_after (at_place 0 change) ys
within_second (inserts place line) count xs ys long =
    let none : count - count ≡ 0 = omega arith in
    insert-append_right xs ys count count line long (omega arith)
    ∙ ap (λ k. xs ++ insert ys k line) none
within_second (deletes place) count xs ys long =
    let none : count - count ≡ 0 = omega arith in
    remove-append_right xs ys count count long (omega arith) ∙ ap (λ k. xs ++ remove ys k) none
within_second (replaces place line) count xs ys long =
    let none : count - count ≡ 0 = omega arith in
    set-append_right xs ys count count line long (omega arith)
    ∙ ap (λ k. xs ++ set ys k line) none
within_second (reseeds seed) count xs ys long = refl

-- how long the first part is after a change within it
length_first : (change : Change) (place : ℕ) (xs : List (List ℕ)) → length xs ≡ place
    → IsWithin change place → length (log_after change xs) ≡ shifted_place change place
length_first (inserts at line) place xs long within =
    rw (le-leb at place within) (length-insert xs at line (omega arith) ∙ omega arith)
length_first (deletes at) place xs long within =
    let shorter : length (remove xs at) + 1 ≡ length xs = length-remove xs at (omega arith) in
    rw (lt-ltb at place within) (omega arith)
length_first (replaces at line) place xs long within = length-set xs at line ∙ long
length_first (reseeds seed) place xs long within = long

-- ---- two changes, the first of which is before the second

within_before : (first : Change) (second : ℕ) (place : ℕ) → rank first < second
    → second ≤ 2 * place + 1 → IsWithin first place
within_before (inserts at line) second place before to = omega arith
within_before (deletes at) second place before to = omega arith
within_before (replaces at line) second place before to = omega arith
within_before (reseeds seed) second place before to = tt

place_stays : (second : Change) (place : ℕ) → 2 * place < rank second
    → shifted_place second place ≡ place
place_stays (inserts at line) place before = rw (lt-leb at place (omega arith)) refl
place_stays (deletes at) place before = rw (le-ltb at place (omega arith)) refl
place_stays (replaces at line) place before = refl
place_stays (reseeds seed) place before = refl

at_place-place_of : (change : Change) → at_place (place_of change) change ≡ change
at_place-place_of (inserts place line) = refl
at_place-place_of (deletes place) = refl
at_place-place_of (replaces place line) = refl
at_place-place_of (reseeds seed) = refl

shifted_by-at_place : (first second : Change)
    → shifted_by first second ≡ at_place (shifted_place first (place_of second)) second
shifted_by-at_place first (inserts place line) = refl
shifted_by-at_place first (deletes place) = refl
shifted_by-at_place first (replaces place line) = refl
shifted_by-at_place first (reseeds seed) = refl

-- the second change doesn't shift the first
unshifted : (first second : Change) → rank first < rank second → shifted_by second first ≡ first
unshifted first second before =
    let from = rank_from first in
    shifted_by-at_place second first
    ∙ ap (λ place. at_place place first) (place_stays second (place_of first) (omega arith))
    ∙ at_place-place_of first

-- both orders leave the same log
pub same_before : (first second : Change) (log : List (List ℕ)) → rank first < rank second
    → place_of second ≤ length log
    → log_after (shifted_by first second) (log_after first log)
    ≡ log_after (shifted_by second first) (log_after second log)
same_before first second log before inside =
    let place = place_of second in
    let xs = take place log in
    let ys = drop place log in
    let parts : xs ++ ys ≡ log = take-append-drop place log in
    let long : length xs ≡ place = length-take-le place log inside in
    let within : IsWithin first place =
    within_before first (rank second) place before (rank_to second) in
    let within' : IsWithin first (length xs) = rw long within in
    let longer = length_first first place xs long within in
    let rest = log_after (at_place 0 second) ys in
    let one : log_after (shifted_by first second) (log_after first log)
    ≡ log_after first xs ++ rest =
    ap₂ (λ change now. log_after change (log_after first now)) (shifted_by-at_place first second)
    (sym parts)
    ∙ ap (log_after (at_place (shifted_place first place) second))
    (within_first first xs ys within')
    ∙ within_second second (shifted_place first place) (log_after first xs) ys longer in
    let other : log_after (shifted_by second first) (log_after second log)
    ≡ log_after first xs ++ rest =
    ap₂ (λ change now. log_after change (log_after second now)) (unshifted first second before)
    (sym parts)
    ∙ ap (λ change. log_after first (log_after change (xs ++ ys))) (sym (at_place-place_of second))
    ∙ ap (log_after first) (within_second second place xs ys long)
    ∙ within_first first xs rest within' in
    one ∙ sym other
