-- What several calls of a writer tell, one after another, is told.
use Rattle.std.proofs.Common.{ℕ, List, [], ◌∷◌, ◌++◌, Option, None, Some, IfSome, ap, sym, ◌∙◌}
use Rattle.std.proofs.Common.{subst, append_assoc, append-nil}
use Rattle.std.specs.Fmt.{WritesText}
use Rattle.std.specs.List.{FoldsTo, concat}
use Rattle.base_text.specs.Text.{Tells}
use Rattle.base_text.specs.declared.text.Text.{Text}

told_in_parts : (old : Text) (parts : List (List ℕ)) (new : Text)
    → FoldsTo (λ old bytes new. Tells bytes old new) old parts new → Tells (concat parts) old new
told_in_parts old [] new same = λ enough. (
  ap (λ text. text.is_short) same ∙ enough,
  ap (λ text. text.bytes.items) (sym same) ∙ sym (append-nil old.bytes.items),
)
told_in_parts old (part ∷ parts) new calls = λ enough.
    let later = told_in_parts calls.0 parts new calls.2 enough in
    let first = calls.1 later.0 in (
      first.0,
      later.1 ∙ ap (λ items. items ++ concat parts) first.1
          ∙ append_assoc old.bytes.items part (concat parts),
    )

pub told_in_calls : (old new : Text) (words : Option (List ℕ))
    → WritesText (λ old bytes new. Tells bytes old new) old words new
    → IfSome words (λ bytes. Tells bytes old new)
told_in_calls old new None calls = tt
told_in_calls old new (Some bytes) calls =
    subst (λ bytes. Tells bytes old new) calls.whole (told_in_parts old calls.parts new calls.calls)
