-- Hints are read back from their lines.
use Rattle.std.proofs.Common.{◌≡◌, ℕ, ◌+◌, Bool, true, false, List, ◌++◌, refl, sym, ◌∙◌, arith}
use Rattle.std.specs.Prelude.{◌==◌, ◌&&◌, not, codes}
use Rattle.std.specs.Cmp.{unsigned_Decides}
use Rattle.std.proofs.lemmas.Bool.{false≢true}
use Rattle.cave_world.specs.declared.hints.Hints.{Hints}
use Rattle.play_state_text.specs.Things.{hint_line, hint_text, item_at, text_up_to}
use Rattle.play_state_text.specs.Within.{AreHintsWithin, IsWide}
use Rattle.play_state_text.specs.Words.{named_line}
use Rattle.play_state_text.proofs.EntryLemmas.{IsPast, entries_read}
use Rattle.play_state_text.proofs.LineLemmas.{answer_line_read}
use Rattle.play_state_text.proofs.ListedLemmas.{listed}
use Rattle.play_state_text.proofs.Reading.{both_true, number_step}

abbrev turns_at : Hints → ℕ → ℕ
turns_at hints n = item_at 0 hints.turns n

abbrev is_taken_at : Hints → ℕ → Bool
is_taken_at hints n = item_at false hints.is_taken n

abbrev AreSameHints : Hints → Hints → ℕ → Type 0
AreSameHints a b n = (turns_at a n ≡ turns_at b n) × (is_taken_at a n ≡ is_taken_at b n)

hint_read : (m n : ℕ) (a b : Bool) (s t : List ℕ) → IsWide m → IsWide n
    → hint_text m a ++ s ≡ hint_text n b ++ t → ((m ≡ n) × (a ≡ b)) × (s ≡ t)
unfolding hint_text named_line
hint_read m n a b s t hm hn e =
    let turns = number_step (codes ": waited ") m n _ _ s t hm hn refl refl e in
    let taken = answer_line_read (codes ", taken") a b s t turns.1 in
    ((turns.0, taken.0), taken.1)

unused : (turns : ℕ) (taken : Bool) → (turns == 0 && not taken) ≡ true
    → (turns ≡ 0) × (taken ≡ false)
unused turns true e = absurd (false≢true (both_true (turns == 0) (not true) e).1)
unused turns false e =
    ((unsigned_Decides turns 0).0 (both_true (turns == 0) (not false) e).0, refl)

pub hints_read : (a b : Hints) (s t : List ℕ) → AreHintsWithin a → AreHintsWithin b
    → IsPast (codes "hint ") 20 s → IsPast (codes "hint ") 20 t
    → text_up_to (hint_line a) 20 ++ s ≡ text_up_to (hint_line b) 20 ++ t → (a ≡ b) × (s ≡ t)
unfolding hint_line hint_text
hints_read a b s t ha hb past other e =
    let skips : Hints → ℕ → Bool = λ hints n. turns_at hints n == 0 && not (is_taken_at hints n) in
    let read =
    entries_read (codes "hint ") (skips a) (skips b)
    (λ n. hint_text (turns_at a n) (is_taken_at a n))
    (λ n. hint_text (turns_at b n) (is_taken_at b n)) (AreSameHints a b) 20 s t (omega arith)
    (λ n u. refl) (λ n u. refl)
    (λ n up. (
      λ here there.
          let one = unused (turns_at a n) (is_taken_at a n) here in
          let two = unused (turns_at b n) (is_taken_at b n) there in
          (one.0 ∙ sym two.0, one.1 ∙ sym two.1),
      λ u v. hint_read (turns_at a n) (turns_at b n) (is_taken_at a n) (is_taken_at b n) u v
          (ha.each n up) (hb.each n up),
    ))
    past other e in
    let turns =
    listed 0 a.turns b.turns 20 ha.all_turns hb.all_turns (λ n up. (read.0 n up).0) in
    let taken =
    listed false a.is_taken b.is_taken 20 ha.all_taken hb.all_taken (λ n up. (read.0 n up).1) in
    (λ i. record { turns = turns i; is_taken = taken i }, read.1)
