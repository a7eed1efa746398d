-- Dwarves are read back from their lines.
use Rattle.std.proofs.Common.{◌≡◌, ℕ, ◌+◌, true, false, List, ◌++◌, refl, arith}
use Rattle.std.specs.Prelude.{codes}
use Rattle.std.proofs.lemmas.Bool.{false≢true}
use Rattle.cave_world.specs.State.{no_dwarf}
use Rattle.cave_world.specs.declared.dwarves.Dwarf.{Dwarf}
use Rattle.play_state_text.specs.Things.{dwarf_line, dwarf_text, item_at, text_up_to}
use Rattle.play_state_text.specs.Words.{named_line}
use Rattle.play_state_text.specs.Within.{AreDwarvesWithin, IsDwarfWithin}
use Rattle.play_state_text.proofs.EntryLemmas.{IsPast, entries_read}
use Rattle.play_state_text.proofs.LineLemmas.{answer_line_read}
use Rattle.play_state_text.proofs.ListedLemmas.{listed}
use Rattle.play_state_text.proofs.Reading.{number_step}

dwarf_read : (a b : Dwarf) (s t : List ℕ) → IsDwarfWithin a → IsDwarfWithin b
    → dwarf_text a ++ s ≡ dwarf_text b ++ t → (a ≡ b) × (s ≡ t)
unfolding dwarf_text named_line
dwarf_read a b s t ha hb e =
    let place = number_step (codes ": at ") a.place b.place _ _ s t ha.0 hb.0 refl refl e in
    let last = number_step (codes ", was at ") a.last b.last _ _ s t ha.1 hb.1 refl refl place.1 in
    let seen =
    answer_line_read (codes ", has seen the player") a.has_seen b.has_seen s t last.1 in
    (λ i. record { place = place.0 i; last = last.0 i; has_seen = seen.0 i }, seen.1)

pub dwarves_read : (a b : List Dwarf) (s t : List ℕ) → AreDwarvesWithin a → AreDwarvesWithin b
    → IsPast (codes "dwarf ") 6 s → IsPast (codes "dwarf ") 6 t
    → text_up_to (dwarf_line a) 6 ++ s ≡ text_up_to (dwarf_line b) 6 ++ t → (a ≡ b) × (s ≡ t)
unfolding dwarf_line dwarf_text
dwarves_read a b s t ha hb past other e =
    let read =
    entries_read (codes "dwarf ") (λ n. false) (λ n. false)
    (λ n. dwarf_text (item_at no_dwarf a n)) (λ n. dwarf_text (item_at no_dwarf b n))
    (λ n. item_at no_dwarf a n ≡ item_at no_dwarf b n) 6 s t
    (omega arith) (λ n u. refl) (λ n u. refl)
    (λ n up. (
      λ here there. absurd (false≢true here),
      λ u v. dwarf_read (item_at no_dwarf a n) (item_at no_dwarf b n) u v (ha.each n up)
          (hb.each n up),
    ))
    past other e in
    (listed no_dwarf a b 6 ha.all hb.all read.0, read.1)
