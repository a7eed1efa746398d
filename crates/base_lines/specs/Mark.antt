-- Byte order marks.
use Rattle.std.specs.Prelude.{ℕ, Bool, nat_eq, ◌||◌, List, [], ◌∷◌}
use Rattle.std.specs.List.{starts_with}

-- a text begins with a byte order mark, of UTF-8 or of either UTF-16
abbrev pub has_byte_order_mark : List ℕ → Bool
has_byte_order_mark text =
    starts_with nat_eq text (239 ∷ 187 ∷ 191 ∷ [])
    || (starts_with nat_eq text (255 ∷ 254 ∷ []) || starts_with nat_eq text (254 ∷ 255 ∷ []))
