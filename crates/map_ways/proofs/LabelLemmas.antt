-- A label reads back as its text.
use Rattle.std.proofs.Common.{◌≡◌, ℕ, Bool, true, false, List, [], ◌∷◌, ◌++◌, Some, map, refl, ap}
use Rattle.std.proofs.Common.{◌∙◌, append_assoc}
use Rattle.std.specs.List.{flat_map}
use Rattle.map_ways.specs.Labels.{InText, QUOTE, escape_of, is_control, text_of_label, shown_byte}
use Rattle.map_ways.specs.Labels.{with_first}
use Rattle.map_ways.proofs.Bytes.{IsOther, by_bytes}

-- the byte reads back as it is shown, before anything that follows
abbrev ReadsBack : ℕ → Type 0
ReadsBack byte = (rest : List ℕ)
    → text_of_label InText (escape_of byte ++ rest)
    ≡ with_first (shown_byte byte) (text_of_label InText rest)

other_reads_back : (byte : ℕ) → IsOther byte → (is : Bool)
    → is_control byte ≡ is → ReadsBack byte
unfolding escape_of
other_reads_back byte other true control rest =
    rw (other.quote, other.backslash, other.feed, other.ampersand, control) refl
other_reads_back byte other false control rest =
    rw (
      other.quote,
      other.backslash,
      other.feed,
      other.ampersand,
      control,
      other.quote,
      other.backslash,
      other.ampersand,
    ) refl

byte_reads_back : (byte : ℕ) → ReadsBack byte
unfolding escape_of is_control
byte_reads_back =
    by_bytes ReadsBack (λ rest. refl) (λ rest. refl) (λ rest. refl) (λ rest. refl)
    (λ byte other. other_reads_back byte other (is_control byte) refl)

pub labels_read_back : (text rest : List ℕ)
    → text_of_label InText (flat_map escape_of text ++ QUOTE ∷ rest)
    ≡ Some (map shown_byte text, rest)
labels_read_back [] rest = refl
labels_read_back (byte ∷ text) rest =
    ap (text_of_label InText)
    (append_assoc (escape_of byte) (flat_map escape_of text) (QUOTE ∷ rest))
    ∙ byte_reads_back byte (flat_map escape_of text ++ QUOTE ∷ rest)
    ∙ ap (with_first (shown_byte byte)) (labels_read_back text rest)
