-- Checkpoints after an edit: the list that a splice and a shift leave.
use Rattle.std.proofs.Common.{◌≡◌, ℕ, ◌+◌, ◌-◌, ◌<◌, ◌≤◌, List, ◌++◌, map, length, take, drop}
use Rattle.std.proofs.Common.{arith, refl, ap, sym, ◌∙◌, append_assoc, length-append}
use Rattle.std.specs.Prelude.{slice_index, if◌then◌else◌}
use Rattle.std.specs.List.{splice}
use Rattle.std.proofs.lemmas.List.{take_at, drop_at, length-take-le, length-drop, get_or-drop}
use borrow.Author.Tests.{lt-ltb, le-ltb}
use Rattle.replay_checkpoints.specs.Spacing.{IsSpaced}
use Rattle.replay_checkpoints.specs.Marks.{IsThinned, IsRest, after_shift, CheckpointsView, next_place}
use Rattle.replay_checkpoints.specs.declared.checkpoints.join.Seam.{Seam}
use Rattle.replay_checkpoints.proofs.Counts.{place_within}
use Rattle.replay_checkpoints.proofs.Places.{non_decreasing}
use Rattle.replay_checkpoints.proofs.Runs.{at_right}
use Rattle.replay_checkpoints.proofs.ThinningLemmas.{spaced_join}

-- what is required of the checkpoints of a log for a join at a seam
pub record IsJoinable {S : Type 0} (v : CheckpointsView S) (seam : Seam) (end : ℕ) : Type 0 where
  pub among : seam.at < length v.places
  pub rest : IsRest v.every v.places v.lines seam.old seam.rest
  pub end_is : v.lines - seam.old + seam.new ≡ end

module _ (places middle spliced : List ℕ) (head rest tail : ℕ) (within : head ≤ length places)
    (tail_is : tail ≡ head + length middle)
    (spliced_is : spliced ≡ splice places head rest middle) where
  front_is : length (take head places ++ middle) ≡ tail
  front_is =
      omega (arith, length-append (take head places) middle, length-take-le head places within)

  regrouped : spliced ≡ (take head places ++ middle) ++ drop rest places
  regrouped = spliced_is ∙ sym (append_assoc (take head places) middle (drop rest places))

  -- what was put in is followed by the old places from `rest` on
  pub spliced_after : (i : ℕ) → tail ≤ i → i < length spliced
      → (rest + (i - tail) < length places)
      × (slice_index spliced i ≡ slice_index places (rest + (i - tail)))
  spliced_after i le h =
      let total : length spliced ≡ tail + (length places - rest) = ap length regrouped
      ∙ omega (
        arith,
        length-append (take head places ++ middle) (drop rest places),
        front_is,
        length-drop rest places,
      ) in (
        omega arith,
        ap (λ list. slice_index list i) regrouped
            ∙ at_right (take head places ++ middle) (drop rest places) i (i - tail)
            (omega (arith, front_is))
            ∙ get_or-drop rest places (i - tail) 0,
      )

  pub shifted : (old new : ℕ) (result : List ℕ)
      → result ≡ take tail spliced ++ after_shift spliced tail old new
      → result ≡ take head places ++ (middle ++ after_shift places rest old new)
  shifted old new result e =
      let front : take tail spliced ≡ take head places ++ middle = ap (take tail) regrouped
      ∙ take_at (take head places ++ middle) (drop rest places) tail front_is in
      let back : drop tail spliced ≡ drop rest places = ap (drop tail) regrouped
      ∙ drop_at (take head places ++ middle) (drop rest places) tail front_is in
      e ∙ ap (λ list. list ++ after_shift spliced tail old new) front
      ∙ ap (λ list. (take head places ++ middle) ++ map (λ place. place - old + new) list) back
      ∙ append_assoc (take head places) middle (after_shift places rest old new)

-- no place from `rest` on is before the old place, or past the end of the log
pub rest_between : (every lines old rest : ℕ) (places : List ℕ) → IsSpaced every places lines
    → IsRest every places lines old rest → (j : ℕ) → rest ≤ j → j < length places
    → (old ≤ slice_index places j) × (slice_index places j ≤ lines)
rest_between every lines old rest places s r j le h = (
  omega (arith, non_decreasing places s.rising rest j 0 le h, (r.next (omega arith)).0),
  place_within 0 every places lines s j h,
)

pub length-spliced : (places middle : List ℕ) (head rest : ℕ) → head ≤ length places
    → length (splice places head rest middle) ≡ head + length middle + (length places - rest)
length-spliced places middle head rest within =
    omega (
      arith,
      length-append (take head places) (middle ++ drop rest places),
      length-append middle (drop rest places),
      length-take-le head places within,
      length-drop rest places,
    )

pub length-states : {S : Type 0} (states middle : List S) (head rest : ℕ) → head ≤ length states
    → length (splice states head rest middle) ≡ head + length middle + (length states - rest)
length-states states middle head rest within =
    omega (
      arith,
      length-append (take head states) (middle ++ drop rest states),
      length-append middle (drop rest states),
      length-take-le head states within,
      length-drop rest states,
    )

pub following_rest : (places : List ℕ) (rest old new end : ℕ) → rest < length places
    → next_place places rest old new end ≡ slice_index places rest - old + new
following_rest places rest old new end h =
    ap (λ test. if test then slice_index places rest - old + new else end)
    (lt-ltb rest (length places) h)

pub following_end : (places : List ℕ) (rest old new end : ℕ) → length places ≤ rest
    → next_place places rest old new end ≡ end
following_end places rest old new end h =
    ap (λ test. if test then slice_index places rest - old + new else end)
    (le-ltb rest (length places) h)

-- what was put in ends where the checkpoints that stay begin
pub put_end : (places middle spliced : List ℕ) (head rest : ℕ) → head ≤ length places
    → rest ≤ length places → spliced ≡ splice places head rest middle
    → length spliced - (length places - rest) ≡ head + length middle
put_end places middle spliced head rest within stays is =
    omega (arith, ap length is, length-spliced places middle head rest within, stays)

-- the new checkpoints are spaced in the edited log
pub joined_spaced : (every lines end : ℕ) (places : List ℕ) → IsSpaced every places lines
    → (at old new rest : ℕ) → at < length places → IsRest every places lines old rest
    → (middle : List ℕ) (next : ℕ)
    → IsThinned (slice_index places (at - 1)) (slice_index places at) every middle next
    → next ≡ next_place places rest old new end
    → ((i : ℕ) → i + 1 ≡ length middle → slice_index middle i ≤ new) → lines - old + new ≡ end
    → (result : List ℕ) → result ≡ take (at - 1) places
    ++ (middle ++ after_shift places rest old new) → IsSpaced every result end
joined_spaced every lines end places s at old new rest among r middle next t is low whole result e =
    rw (e, ← whole)
    (spaced_join every places lines s (at - 1) (slice_index places (at - 1))
    (slice_index places at) (omega arith) refl
    (λ some. let here : slice_index places at ≡ slice_index places (at - 1 - 1 + 2) =
    ap (slice_index places) (omega arith) in
    omega (arith, here, s.apart (at - 1 - 1) (omega arith)))
    old new rest r middle next t low
    (λ h. is ∙ following_rest places rest old new end h)
    (λ all. is ∙ following_end places rest old new end (omega arith) ∙ sym whole))
