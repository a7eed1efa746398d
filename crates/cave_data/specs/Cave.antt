-- The cave that tables and bindings make.
use Rattle.std.specs.Prelude.{◌≡◌, ℕ, map, option_map, unwrap_or}
use Rattle.std.specs.FinMap as fin
use Rattle.cave_data.specs.declared.reader.Tables.{Tables}
use Rattle.cave_data.specs.declared.bindings.Bindings.{Bindings}
use Rattle.cave_data.specs.CaveView.{CaveView}
use Rattle.cave_data.specs.Bindings.{DEFAULT_LETTERS, with_defaults}
use Rattle.cave_data.specs.Printing.{printed_text, printed_class}

pub record Finished (t : Tables) (b : Bindings) (c : CaveView) : Type 0 where
  pub long : (n : ℕ) → fin.get c.long n ≡ option_map printed_text (fin.get t.long.texts n)
  pub short : (n : ℕ) → fin.get c.short n ≡ option_map printed_text (fin.get t.short.texts n)
  pub travel : (n : ℕ) → fin.get c.travel n ≡ fin.get t.ways.ways n
  pub words : c.words ≡ t.words
  pub objects : (n : ℕ) → fin.get c.objects n ≡ option_map printed_text (fin.get t.objects.texts n)
  pub messages : (n : ℕ)
      → fin.get c.messages n ≡ option_map printed_text (fin.get t.messages.texts n)
  pub placements : c.placements ≡ t.placements
  pub defaults : c.defaults ≡ t.defaults
  pub conditions : c.conditions ≡ t.conditions
  pub classes : c.classes ≡ map printed_class t.classes
  pub hints : c.hints ≡ t.hints
  pub roles : c.roles ≡ b.roles
  pub places : c.places ≡ with_defaults b.places
  pub letters : c.letters ≡ unwrap_or b.letters DEFAULT_LETTERS
