-- How places are thinned one at a time, and joined with those of another log.
use Rattle.std.proofs.Common.{◌≡◌, ℕ, ◌+◌, ◌-◌, ◌<◌, ◌≤◌, List, [], ◌∷◌, ◌++◌, length, take, arith}
use Rattle.std.proofs.Common.{⊎_elim, refl, ap, ◌∙◌}
use Rattle.std.specs.Prelude.{slice_index}
use Rattle.std.proofs.lemmas.Bool.{cases_lt}
use Rattle.std.proofs.lemmas.List.{length-append, length_push, length-take-le, get_or-take}
use Rattle.replay_checkpoints.specs.Spacing.{IsSpaced}
use Rattle.replay_checkpoints.specs.Marks.{IsThinned, IsRest, after_shift}
use Rattle.std.specs.List.Sorted.{IsStrictlyIncreasing}
use Rattle.replay_checkpoints.proofs.Places.{non_decreasing}
use Rattle.replay_checkpoints.proofs.Runs.{IsRun, IsMeeting, run_of, at_left, at_right, joined, front}
use Rattle.replay_checkpoints.proofs.Runs.{back, length-moved, at_moved}

-- a stream that begins with `start`, kept, and `from`
pub thinned_one : (start from K : ℕ) → start ≤ from → from ≤ start + K
    → IsThinned start from K (start ∷ []) from
thinned_one start from K ordered close = record {
  spaced = record {
    some = omega arith;
    first = refl;
    rising = λ i h. absurd (omega arith);
    close = λ i h. absurd (omega arith);
    apart = λ i h. absurd (omega arith);
    within = λ i e. let at : i ≡ 0 = omega arith in rw at (omega arith);
    end = λ i e. let at : i ≡ 0 = omega arith in rw at (omega arith);
  };
  ahead = λ i e. absurd (omega arith);
  past = λ i more h. absurd (omega arith);
  reached = omega arith;
}

one_run : (K place : ℕ) → IsRun K (place ∷ [])
one_run K place = record {
  rising = λ i h. absurd (omega arith);
  close = λ i h. absurd (omega arith);
  apart = λ i h. absurd (omega arith);
}

-- the place reached last is kept, since the next one lies too far after the last kept place
pub thinned_keep : (start from K : ℕ) (places : List ℕ) (next place : ℕ)
    → IsThinned start from K places next
    → ((i : ℕ) → i + 1 ≡ length places → slice_index places i + K < place) → next ≤ place
    → place ≤ next + K → IsThinned start from K (places ++ next ∷ []) place
thinned_keep start from K places next place t due up near =
    let total = length_push places next in
    let meeting : IsMeeting K places (next ∷ []) = record {
      meet = λ i e h. (omega (arith, due i e), omega (arith, t.spaced.end i e));
      over = λ i e h. t.ahead i e;
      beyond = λ i e h. absurd (omega arith);
    } in
    let run : IsRun K (places ++ next ∷ []) =
    joined K places (next ∷ []) (run_of start K places next t.spaced) (one_run K next)
    meeting in
    record {
      spaced = record {
        some = omega arith;
        first = at_left places (next ∷ []) 0 t.spaced.some ∙ t.spaced.first;
        rising = run.rising;
        close = run.close;
        apart = run.apart;
        within = λ i e. omega (arith, at_right places (next ∷ []) i 0 (omega arith));
        end = λ i e. omega (arith, at_right places (next ∷ []) i 0 (omega arith));
      };
      ahead = λ i e. omega (arith, at_left places (next ∷ []) i (omega arith), due i (omega arith));
      past = λ i more h.
          ⊎_elim (λ inside.
          omega (arith, at_left places (next ∷ []) i inside, t.past i more inside))
          (λ last. omega (arith, at_right places (next ∷ []) i 0 (omega arith), t.reached))
          (cases_lt i (length places));
      reached = omega (arith, t.reached);
    }

-- the place reached last is passed over, since the next one is near enough
pub thinned_pass : (start from K : ℕ) (places : List ℕ) (next place : ℕ)
    → IsThinned start from K places next
    → ((i : ℕ) → i + 1 ≡ length places → place ≤ slice_index places i + K) → next ≤ place
    → IsThinned start from K places place
thinned_pass start from K places next place t near up = record {
  spaced = record {
    some = t.spaced.some;
    first = t.spaced.first;
    rising = t.spaced.rising;
    close = t.spaced.close;
    apart = t.spaced.apart;
    within = λ i e. omega (arith, t.spaced.within i e);
    end = near;
  };
  ahead = λ i e. omega (arith, t.ahead i e);
  past = t.past;
  reached = omega (arith, t.reached);
}

rises : (xs : List ℕ) → IsStrictlyIncreasing xs → (i j : ℕ) → i ≤ j → j < length xs
    → slice_index xs i ≤ slice_index xs j
rises xs up i j le h = non_decreasing xs up i j 0 le h

-- the others follow a checkpoint
pub rest_behind : (K : ℕ) (places : List ℕ) (lines at : ℕ) → IsSpaced K places lines
    → at < length places → IsRest K places lines (slice_index places at) (at + 1)
rest_behind K places lines at s h = record {
  inside =
      omega (
        arith,
        rises places s.rising at (length places - 1) (omega arith) (omega arith),
        s.within (length places - 1) (omega arith),
      );
  within = omega arith;
  ends = λ e. s.end at e;
  next = λ more. (s.rising at more, s.close at more);
  beyond = λ more. let two : at + 1 + 1 ≡ at + 2 = omega arith in rw two (s.apart at (omega arith));
}

-- none follows the end of the log
pub rest_none : (K : ℕ) (places : List ℕ) (lines : ℕ) → IsRest K places lines lines (length places)
rest_none K places lines = record {
  inside = omega arith;
  within = omega arith;
  ends = λ e. omega arith;
  next = λ more. absurd (omega arith);
  beyond = λ more. absurd (omega arith);
}

module _ (K : ℕ) (places : List ℕ) (lines : ℕ) (s : IsSpaced K places lines)
    (head start from : ℕ) (has : head < length places) (begins : slice_index places head ≡ start)
    (gap : 0 < head → slice_index places (head - 1) + K < from)
    (old new rest : ℕ) (r : IsRest K places lines old rest)
    (kept : List ℕ) (next : ℕ) (t : IsThinned start from K kept next) (low : (i : ℕ)
    → i + 1 ≡ length kept → slice_index kept i ≤ new)
    (next_is : rest < length places → next ≡ slice_index places rest - old + new)
    (end_is : rest ≡ length places → next ≡ lines - old + new) where
  above : (j : ℕ) → rest ≤ j → j < length places → old ≤ slice_index places j
  above j le h = omega (arith, rises places s.rising rest j le h, (r.next (omega arith)).0)

  tail_run : IsRun K (after_shift places rest old new)
  tail_run = back K places rest old new above (run_of 0 K places lines s)

  first_moved : rest < length places → slice_index (after_shift places rest old new) 0 ≡ next
  first_moved h = omega (arith, at_moved places rest old new 0 rest (omega arith) h, next_is h)

  kept_meets : IsMeeting K kept (after_shift places rest old new)
  kept_meets =
      let len = length-moved places rest old new in
      record {
        meet = λ i e h. (
          omega (
            arith,
            first_moved (omega arith),
            next_is (omega arith),
            low i e,
            (r.next (omega arith)).0,
          ),
          omega (arith, first_moved (omega arith), t.spaced.end i e),
        );
        over = λ i e h. omega (arith, first_moved (omega arith), t.ahead i e);
        beyond =
            λ i e h.
            omega (
              arith,
              at_moved places rest old new 1 (rest + 1) (omega arith) (omega arith),
              low i e,
              r.beyond (omega arith),
            );
      }

  after_run : IsRun K (kept ++ after_shift places rest old new)
  after_run =
      joined K kept (after_shift places rest old new) (run_of start K kept next t.spaced) tail_run
      kept_meets

  behind_first : slice_index (kept ++ after_shift places rest old new) 0 ≡ slice_index places head
  behind_first =
      omega (arith, at_left kept (after_shift places rest old new) 0 t.spaced.some, t.spaced.first)

  after_second : 1 < length (kept ++ after_shift places rest old new)
      → from ≤ slice_index (kept ++ after_shift places rest old new) 1
  after_second h =
      let len = length-moved places rest old new in
      let total = length-append kept (after_shift places rest old new) in
      let some = t.spaced.some in
      ⊎_elim (λ inside.
      omega (
        arith,
        at_left kept (after_shift places rest old new) 1 inside,
        t.past 1 (omega arith) inside,
      ))
      (λ outside.
      omega (
        arith,
        at_right kept (after_shift places rest old new) 1 0 (omega arith),
        first_moved (omega arith),
        t.reached,
      ))
      (cases_lt 1 (length kept))

  head_meets : IsMeeting K (take head places) (kept ++ after_shift places rest old new)
  head_meets =
      let len = length-take-le head places (omega arith) in
      record {
        meet = λ i e h. let at : i + 1 ≡ head = omega arith in
            let here : slice_index places (i + 1) ≡ slice_index places head =
            ap (slice_index places) at in (
              omega (
                arith,
                get_or-take head places i 0 (omega arith),
                behind_first,
                here,
                s.rising i (omega arith),
              ),
              omega (
                arith,
                get_or-take head places i 0 (omega arith),
                behind_first,
                here,
                s.close i (omega arith),
              ),
            );
        over = λ i e h. let at : i + 2 ≡ head = omega arith in
            let here : slice_index places (i + 2) ≡ slice_index places head =
            ap (slice_index places) at in
            omega (
              arith,
              get_or-take head places i 0 (omega arith),
              behind_first,
              here,
              s.apart i (omega arith),
            );
        beyond = λ i e h. let at : i ≡ head - 1 = omega arith in
            let here : slice_index places i ≡ slice_index places (head - 1) =
            ap (slice_index places) at in
            omega (
              arith,
              get_or-take head places i 0 (omega arith),
              after_second h,
              here,
              gap (omega arith),
            );
      }

  whole_run : IsRun K (take head places ++ (kept ++ after_shift places rest old new))
  whole_run =
      joined K (take head places) (kept ++ after_shift places rest old new)
      (front K places head (omega arith) (run_of 0 K places lines s)) after_run head_meets

  whole_first : slice_index (take head places ++ (kept ++ after_shift places rest old new)) 0 ≡ 0
  whole_first =
      let len = length-take-le head places (omega arith) in
      ⊎_elim (λ some.
      omega (
        arith,
        at_left (take head places) (kept ++ after_shift places rest old new) 0 (omega arith),
        get_or-take head places 0 0 some,
        s.first,
      ))
      (λ none. let at : head ≡ 0 = omega arith in
      let here : slice_index places head ≡ slice_index places 0 = ap (slice_index places) at in
      omega (
        arith,
        at_right (take head places) (kept ++ after_shift places rest old new) 0 0 (omega arith),
        behind_first,
        here,
        s.first,
      ))
      (cases_lt 0 head)

  -- the last place, which is the last of the old ones, moved, or of those kept
  whole_last : (i : ℕ)
      → i + 1 ≡ length (take head places ++ (kept ++ after_shift places rest old new))
      → (slice_index (take head places ++ (kept ++ after_shift places rest old new)) i
      ≤ lines - old + new)
      × (lines - old + new
      ≤ slice_index (take head places ++ (kept ++ after_shift places rest old new)) i + K)
  whole_last i e =
      let some = t.spaced.some in
      let len = length-moved places rest old new in
      let head_len = length-take-le head places (omega arith) in
      let after_len = length-append kept (after_shift places rest old new) in
      let total = length-append (take head places) (kept ++ after_shift places rest old new) in
      let here =
      at_right (take head places) (kept ++ after_shift places rest old new) i (i - head)
      (omega arith) in
      ⊎_elim (λ more.
      let there =
      at_right kept (after_shift places rest old new) (i - head) (i - head - length kept)
      (omega arith) in
      let last =
      at_moved places rest old new (i - head - length kept) (length places - 1) (omega arith)
      (omega arith) in
      let over = above (length places - 1) (omega arith) (omega arith) in (
        omega (arith, s.within (length places - 1) (omega arith), r.inside),
        omega (arith, s.end (length places - 1) (omega arith)),
      ))
      (λ none.
      let there = at_left kept (after_shift places rest old new) (i - head) (omega arith) in
      let all : rest ≡ length places = omega (arith, r.within) in (
        omega (arith, t.spaced.within (i - head) (omega arith), end_is all),
        omega (arith, t.spaced.end (i - head) (omega arith), end_is all),
      ))
      (cases_lt rest (length places))

  -- the checkpoints before the edit, those kept of the replay and those after it are spaced in the
  -- new log
  pub spaced_join : IsSpaced K (take head places ++ (kept ++ after_shift places rest old new))
      (lines - old + new)
  spaced_join =
      let after_len = length-append kept (after_shift places rest old new) in
      let total = length-append (take head places) (kept ++ after_shift places rest old new) in
      let some = t.spaced.some in
      record {
        some = omega arith;
        first = whole_first;
        rising = whole_run.rising;
        close = whole_run.close;
        apart = whole_run.apart;
        within = λ i e. (whole_last i e).0;
        end = λ i e. (whole_last i e).1;
      }
