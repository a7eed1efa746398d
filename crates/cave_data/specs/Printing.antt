-- Texts as they are printed.
use Rattle.std.specs.Prelude.{ℕ, List, [], ◌∷◌, map, if◌then◌else◌}
use Rattle.std.specs.FinMap as fin
use Rattle.std.specs.Str.{bytes_eq}
use Rattle.cave_data.specs.declared.classes.Rating.{Rating}
use Rattle.cave_data.specs.CaveView.{Texts, ClassEntry, Rated}

-- the text that means that nothing is printed, with its line feed
abbrev pub silent_text : List ℕ
silent_text = 62 ∷ 36 ∷ 60 ∷ 10 ∷ []

-- a text as it is printed
unfoldable pub printed_text : List ℕ → List ℕ
printed_text text = if bytes_eq text silent_text then [] else text

-- the texts of a map as they are printed
unfoldable pub printed_texts : Texts → Texts
printed_texts texts =
    fin.from_entries (map (λ entry. (entry.0, printed_text entry.1)) (fin.entries texts))

abbrev pub printed_class : ClassEntry → ClassEntry
printed_class class = record { bound = class.bound; text = printed_text class.text }

abbrev pub rating : Rating → Rated
rating r = record { row = r.row; bound = r.bound; text = r.text.now; is_followed = r.is_followed }
