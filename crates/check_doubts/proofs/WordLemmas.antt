-- No row is past the last word.
use Rattle.std.proofs.Common.{◌≡◌, ℕ, ◌≤◌, false, length, refl}
use Rattle.std.specs.List.{slice_get}
use Rattle.std.proofs.lemmas.Option.{slice_get_past}
use Rattle.cave_data.specs.CaveView.{CaveView}
use Rattle.check_doubts.specs.Words.{is_hidden}

pub hidden_past : (cave : CaveView) (index : ℕ) → length cave.words ≤ index
    → is_hidden cave (slice_get cave.words index) ≡ false
hidden_past cave index past = rw (slice_get_past cave.words index past) refl
