-- Rows that name messages or places without a text.
use Rattle.std.specs.Prelude.{ℕ, Bool, ◌&&◌, ◌||◌, not, nat_lt, is_some}
use Rattle.std.specs.FinMap as map
use Rattle.cave_data.specs.CaveView.{CaveView}

-- a message has no text; 0 is no message
abbrev pub lacks_text : CaveView → ℕ → Bool
lacks_text cave message = nat_lt 0 message && not (is_some (map.get cave.messages message))

-- a place has a long text or a short one
abbrev pub place_has_text : CaveView → ℕ → Bool
place_has_text cave place =
    is_some (map.get cave.long place) || is_some (map.get cave.short place)
