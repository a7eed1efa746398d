-- Places whose gaps are spaced, with any beginning and end: in parts, joined and moved.
use Rattle.std.proofs.Common.{◌≡◌, ℕ, ◌+◌, ◌-◌, ◌<◌, ◌≤◌, List, ◌++◌, length, get_or, take, drop}
use Rattle.std.proofs.Common.{arith, ⊎_elim, refl, ap, ◌∙◌}
use Rattle.std.specs.Prelude.{slice_index}
use Rattle.std.specs.List.Sorted.{IsStrictlyIncreasing}
use Rattle.std.proofs.lemmas.Bool.{cases_lt}
use Rattle.std.proofs.lemmas.List.{get_or_append_left, get_or-append-add, get_or-take, get_or-drop}
use Rattle.std.proofs.lemmas.List.{get_or-map, length-append, length-take-le, length-drop}
use Rattle.std.proofs.lemmas.List.{length-map, ext_get_or}
use Rattle.replay_checkpoints.specs.Spacing.{IsSpacedFrom}
use Rattle.replay_checkpoints.specs.Marks.{after_shift}

pub record IsRun (K : ℕ) (places : List ℕ) : Type 0 where
  pub rising : IsStrictlyIncreasing places
  pub close : (i : ℕ) → i + 1 < length places
      → slice_index places (i + 1) ≤ slice_index places i + K
  pub apart : (i : ℕ) → i + 2 < length places
      → slice_index places i + K < slice_index places (i + 2)

pub run_of : (start K : ℕ) (places : List ℕ) (n : ℕ) → IsSpacedFrom start K places n
    → IsRun K places
run_of start K places n s = record { rising = s.rising; close = s.close; apart = s.apart }

-- the second places follow the first as neighbours do
pub record IsMeeting (K : ℕ) (xs ys : List ℕ) : Type 0 where
  pub meet : (i : ℕ) → i + 1 ≡ length xs → 0 < length ys
      → (slice_index xs i < slice_index ys 0) × (slice_index ys 0 ≤ slice_index xs i + K)
  pub over : (i : ℕ) → i + 2 ≡ length xs → 0 < length ys → slice_index xs i + K < slice_index ys 0
  pub beyond : (i : ℕ) → i + 1 ≡ length xs → 1 < length ys → slice_index xs i + K < slice_index ys 1

pub at_left : (xs ys : List ℕ) (i : ℕ) → i < length xs → slice_index (xs ++ ys) i ≡ slice_index xs i
at_left xs ys i h = get_or_append_left xs ys 0 i h

pub at_right : (xs ys : List ℕ) (i j : ℕ) → i ≡ length xs + j
    → slice_index (xs ++ ys) i ≡ slice_index ys j
at_right xs ys i j e = ap (λ k. get_or (xs ++ ys) k 0) e ∙ get_or-append-add xs ys j 0

module _ (K : ℕ) (xs ys : List ℕ) (left : IsRun K xs) (right : IsRun K ys)
    (meeting : IsMeeting K xs ys) where
  joined_rising : IsStrictlyIncreasing (xs ++ ys)
  joined_rising i h =
      let total = length-append xs ys in
      ⊎_elim (λ inside.
      omega (
        arith,
        at_left xs ys i (omega arith),
        at_left xs ys (i + 1) inside,
        left.rising i inside,
      ))
      (λ late.
      ⊎_elim (λ last.
      omega (
        arith,
        at_left xs ys i last,
        at_right xs ys (i + 1) 0 (omega arith),
        (meeting.meet i (omega arith) (omega arith)).0,
      ))
      (λ behind.
      omega (
        arith,
        at_right xs ys i (i - length xs) (omega arith),
        at_right xs ys (i + 1) (i - length xs + 1) (omega arith),
        right.rising (i - length xs) (omega arith),
      ))
      (cases_lt i (length xs)))
      (cases_lt (i + 1) (length xs))

  joined_close : (i : ℕ) → i + 1 < length (xs ++ ys)
      → slice_index (xs ++ ys) (i + 1) ≤ slice_index (xs ++ ys) i + K
  joined_close i h =
      let total = length-append xs ys in
      ⊎_elim (λ inside.
      omega (
        arith,
        at_left xs ys i (omega arith),
        at_left xs ys (i + 1) inside,
        left.close i inside,
      ))
      (λ late.
      ⊎_elim (λ last.
      omega (
        arith,
        at_left xs ys i last,
        at_right xs ys (i + 1) 0 (omega arith),
        (meeting.meet i (omega arith) (omega arith)).1,
      ))
      (λ behind.
      omega (
        arith,
        at_right xs ys i (i - length xs) (omega arith),
        at_right xs ys (i + 1) (i - length xs + 1) (omega arith),
        right.close (i - length xs) (omega arith),
      ))
      (cases_lt i (length xs)))
      (cases_lt (i + 1) (length xs))

  joined_apart : (i : ℕ) → i + 2 < length (xs ++ ys)
      → slice_index (xs ++ ys) i + K < slice_index (xs ++ ys) (i + 2)
  joined_apart i h =
      let total = length-append xs ys in
      ⊎_elim (λ inside.
      omega (
        arith,
        at_left xs ys i (omega arith),
        at_left xs ys (i + 2) inside,
        left.apart i inside,
      ))
      (λ late.
      ⊎_elim (λ before.
      omega (
        arith,
        at_left xs ys i (omega arith),
        at_right xs ys (i + 2) 0 (omega arith),
        meeting.over i (omega arith) (omega arith),
      ))
      (λ later.
      ⊎_elim (λ last.
      omega (
        arith,
        at_left xs ys i last,
        at_right xs ys (i + 2) 1 (omega arith),
        meeting.beyond i (omega arith) (omega arith),
      ))
      (λ behind.
      omega (
        arith,
        at_right xs ys i (i - length xs) (omega arith),
        at_right xs ys (i + 2) (i - length xs + 2) (omega arith),
        right.apart (i - length xs) (omega arith),
      ))
      (cases_lt i (length xs)))
      (cases_lt (i + 1) (length xs)))
      (cases_lt (i + 2) (length xs))

  pub joined : IsRun K (xs ++ ys)
  joined = record { rising = joined_rising; close = joined_close; apart = joined_apart }

pub front : (K : ℕ) (xs : List ℕ) (h : ℕ) → h ≤ length xs → IsRun K xs → IsRun K (take h xs)
front K xs h within run =
    let len = length-take-le h xs within in
    record {
      rising =
          λ i below.
          omega (
            arith,
            get_or-take h xs i 0 (omega arith),
            get_or-take h xs (i + 1) 0 (omega arith),
            run.rising i (omega arith),
          );
      close = λ i below.
          omega (
            arith,
            get_or-take h xs i 0 (omega arith),
            get_or-take h xs (i + 1) 0 (omega arith),
            run.close i (omega arith),
          );
      apart = λ i below.
          omega (
            arith,
            get_or-take h xs i 0 (omega arith),
            get_or-take h xs (i + 2) 0 (omega arith),
            run.apart i (omega arith),
          );
    }

pub length-moved : (xs : List ℕ) (rest old new : ℕ)
    → length (after_shift xs rest old new) ≡ length xs - rest
length-moved xs rest old new = length-map (drop rest xs) (λ place. place - old + new)
    ∙ length-drop rest xs

pub at_moved : (xs : List ℕ) (rest old new i j : ℕ) → j ≡ rest + i → j < length xs
    → slice_index (after_shift xs rest old new) i ≡ slice_index xs j - old + new
at_moved xs rest old new i j e h =
    get_or-map (λ place. place - old + new) (drop rest xs) i 0 0
    (omega (arith, length-drop rest xs))
    ∙ ap (λ place. place - old + new) (get_or-drop rest xs i 0)
    ∙ ap (λ k. get_or xs k 0 - old + new) (omega arith)

pub back : (K : ℕ) (xs : List ℕ) (rest old new : ℕ)
    → ((j : ℕ) → rest ≤ j → j < length xs → old ≤ slice_index xs j) → IsRun K xs
    → IsRun K (after_shift xs rest old new)
back K xs rest old new above run =
    let len = length-moved xs rest old new in
    record {
      rising =
          λ i h. omega (
            arith,
            at_moved xs rest old new i (rest + i) refl (omega arith),
            at_moved xs rest old new (i + 1) (rest + i + 1) (omega arith) (omega arith),
            run.rising (rest + i) (omega arith),
            above (rest + i) (omega arith) (omega arith),
          );
      close = λ i h.
          omega (
            arith,
            at_moved xs rest old new i (rest + i) refl (omega arith),
            at_moved xs rest old new (i + 1) (rest + i + 1) (omega arith) (omega arith),
            run.close (rest + i) (omega arith),
            above (rest + i) (omega arith) (omega arith),
          );
      apart = λ i h.
          omega (
            arith,
            at_moved xs rest old new i (rest + i) refl (omega arith),
            at_moved xs rest old new (i + 2) (rest + i + 2) (omega arith) (omega arith),
            run.apart (rest + i) (omega arith),
            above (rest + i) (omega arith) (omega arith),
          );
    }

-- nothing moves if `old` stays
pub moved_same : (xs : List ℕ) (rest old : ℕ)
    → ((j : ℕ) → rest ≤ j → j < length xs → old ≤ slice_index xs j)
    → after_shift xs rest old old ≡ drop rest xs
moved_same xs rest old above =
    let len = length-moved xs rest old old in
    ext_get_or 0 (after_shift xs rest old old) (drop rest xs) (omega (arith, length-drop rest xs))
    (λ i h. omega (
      arith,
      at_moved xs rest old old i (rest + i) refl (omega arith),
      get_or-drop rest xs i 0,
      above (rest + i) (omega arith) (omega arith),
    ))
