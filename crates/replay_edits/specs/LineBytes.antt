-- Where the bytes of a line lie. No public clause cites this module.
use Rattle.std.specs.Prelude.{ℕ, ◌≤◌, List, [], ◌∷◌, take}
use Rattle.replay_edits.specs.declared.line_text.LineBytes.{LineBytes}
use Rattle.replay_edits.specs.declared.line_text.LineBytes.TheVariants.{Short, Long}
use Rattle.replay_edits.specs.LineText.{LineText, MAX_SHORT_LINE}

-- the bytes themselves
abbrev pub bytes_of : LineBytes → List ℕ
bytes_of (Short len bytes) = take len bytes
bytes_of (Long bytes) = bytes.value.items

-- the line whose bytes lie in the first place
abbrev pub line_in : List LineBytes → LineText
line_in [] = record { items = [] }
line_in (bytes ∷ more) = record { items = bytes_of bytes }

-- a short line has at most the bytes that lie there
abbrev pub AreSoundBytes : LineBytes → Type 0
AreSoundBytes (Short len bytes) = len ≤ MAX_SHORT_LINE
AreSoundBytes (Long bytes) = Unit {0}

-- the bytes in the first place are sound
abbrev pub IsSoundLine : List LineBytes → Type 0
IsSoundLine [] = Unit {0}
IsSoundLine (bytes ∷ more) = AreSoundBytes bytes
