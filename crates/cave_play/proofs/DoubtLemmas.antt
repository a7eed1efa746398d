-- What runs find in a cave that is read.
use Rattle.std.proofs.Common.{List, ℕ, ◌≡◌, ◌∙◌, subst}
use Rattle.check_doubts.specs.Doubts.{doubts}
use Rattle.check_doubts.specs.declared.listing.DoubtFiles.{DoubtFiles}
use Rattle.cave_play.specs.Output.{AreLeft, AreLeftIn, IsChecked, IsReadOf, check_text}
use Rattle.std.specs.Global.{Vec}
use Rattle.check_doubts.specs.declared.flaw.Doubt.{Doubt}
use Rattle.cave_play.specs.declared.judge.ReadCave.{ReadCave}
use Rattle.cave_play.specs.declared.output.Reported.{Reported}
use Rattle.play_command.specs.declared.views.CheckView.{CheckView}

-- what is left of the doubts of a cave that was read from these texts
pub AreLeftIn-read : (files : DoubtFiles) (database bindings known text : List ℕ) (read : ReadCave)
    (found : Reported (Vec Doubt)) → IsReadOf database bindings read → text ≡ known
    → AreLeft files text (doubts read.cave read.database.items read.bindings.items) found
    → AreLeftIn files database bindings known found
AreLeftIn-read files database bindings known text read found are same left =
    let cave = read.cave in
    let of_database =
    subst (λ d. AreLeft files text (doubts cave d read.bindings.items) found) are.database_is
    left in
    let of_both =
    subst (λ b. AreLeft files text (doubts cave database b) found) are.bindings_are of_database in (
      cave,
      are.reads,
      subst (λ t. AreLeft files t (doubts cave database bindings) found) same of_both,
    )

-- what is said about a cave that was read from these texts
pub IsChecked-read : (view : CheckView) (database bindings output : List ℕ) (read : ReadCave)
    → IsReadOf database bindings read
    → output ≡ check_text view read.cave read.database.items read.bindings.items
    → IsChecked view database bindings output
IsChecked-read view database bindings output read are told = (
  read.cave,
  are.reads,
  told ∙ (λ i. check_text view read.cave (are.database_is i) (are.bindings_are i)),
)
