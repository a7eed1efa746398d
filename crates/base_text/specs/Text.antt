-- What a text tells, and whether memory was enough for it.
use Rattle.std.specs.Prelude.{◌≡◌, ℕ, List, ◌++◌, false}
use Rattle.base_text.specs.declared.text.Text.{Text}

-- bytes were written, if memory is still enough
abbrev pub Tells : List ℕ → Text → Text → Type 0
Tells more old new =
    new.is_short ≡ false → (old.is_short ≡ false) × (new.bytes.items ≡ old.bytes.items ++ more)

-- what was written, with what is left, is the whole, if memory is still enough
abbrev pub TellsUpTo : List ℕ → List ℕ → Text → Text → Type 0
TellsUpTo rest whole old new =
    new.is_short ≡ false
    → (old.is_short ≡ false) × (new.bytes.items ++ rest ≡ old.bytes.items ++ whole)
