-- How often places were described is read back from the lines of places.
use Rattle.std.proofs.Common.{◌≡◌, ℕ, List, ◌++◌, refl, sym, ◌∙◌, arith}
use Rattle.std.specs.Prelude.{◌==◌, codes, decimal}
use Rattle.std.specs.Cmp.{unsigned_Decides}
use Rattle.play_state_text.specs.Things.{item_at, text_up_to, visits_line}
use Rattle.play_state_text.specs.Within.{AreVisitsWithin}
use Rattle.play_state_text.specs.Words.{named_line}
use Rattle.play_state_text.proofs.EntryLemmas.{IsPast, entries_read}
use Rattle.play_state_text.proofs.LineLemmas.{number_line_read}
use Rattle.play_state_text.proofs.ListedLemmas.{listed}

pub visits_read : (a b s t : List ℕ) → AreVisitsWithin a → AreVisitsWithin b
    → IsPast (codes "visits ") 300 s → IsPast (codes "visits ") 300 t
    → text_up_to (visits_line a) 300 ++ s ≡ text_up_to (visits_line b) 300 ++ t
    → (a ≡ b) × (s ≡ t)
unfolding visits_line named_line
visits_read a b s t ha hb past other e =
    let read =
    entries_read (codes "visits ") (λ n. item_at 0 a n == 0) (λ n. item_at 0 b n == 0)
    (λ n. named_line (codes ":") (decimal (item_at 0 a n)))
    (λ n. named_line (codes ":") (decimal (item_at 0 b n)))
    (λ n. item_at 0 a n ≡ item_at 0 b n) 300 s t (omega arith)
    (λ n u. refl) (λ n u. refl)
    (λ n up. (
      λ here there.
          (unsigned_Decides (item_at 0 a n) 0).0 here
          ∙ sym ((unsigned_Decides (item_at 0 b n) 0).0 there),
      λ u v. number_line_read (codes ":") (item_at 0 a n) (item_at 0 b n) u v (ha.each n up)
          (hb.each n up),
    ))
    past other e in
    (listed 0 a b 300 ha.all hb.all read.0, read.1)
