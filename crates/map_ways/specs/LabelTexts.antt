-- Laws about labels.
use Rattle.std.specs.Prelude.{◌≡◌, ℕ, true, List, ◌∷◌, ◌++◌, map, Some}
use Rattle.std.specs.List.{flat_map}
use Rattle.map_ways.specs.Labels.{InText, QUOTE, escape_of, text_of_label, label_of, shown_byte}
use Rattle.map_ways.specs.Labels.{is_within_line}

-- what is between the quotes of a label reads back as its text in the form that is shown, before
-- anything that follows: no byte of a text ends its label
abbrev pub LabelsReadBack : Type 0
LabelsReadBack =
    (text rest : List ℕ)
    → text_of_label InText (flat_map escape_of text ++ QUOTE ∷ rest)
    ≡ Some (map shown_byte text, rest)

-- a label has no line feed, for any text
abbrev pub LabelsStayWithinALine : Type 0
LabelsStayWithinALine = (text : List ℕ) → is_within_line (label_of text) ≡ true
