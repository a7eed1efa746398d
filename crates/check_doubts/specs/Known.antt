-- How lists of what is known have doubts.
use Rattle.std.specs.Prelude.{ℕ, List, ◌++◌, codes}
use Rattle.check_doubts.specs.Listing.{words}
use Rattle.check_doubts.specs.declared.flaw.Doubt.{Doubt}
use Rattle.check_doubts.specs.declared.flaw.Source.{Source}
use Rattle.check_doubts.specs.declared.flaw.Source.TheVariants.{Database, Bindings}

-- what entries call an input, whatever the names of its files are
abbrev pub source_name : Source → List ℕ
source_name Database = codes "cave"
source_name Bindings = codes "bindings"

-- which input a doubt is about, and what it says
abbrev pub doubt_entry : Doubt → List ℕ
doubt_entry doubt = source_name doubt.source ++ (codes ": " ++ words doubt.flaw)
