-- The fault of bindings is that of their first faulty line.
use Rattle.std.proofs.Common.{◌≡◌, ℕ, List, [], ◌∷◌, ◌++◌, Option, Some, None, option_map}
use Rattle.std.proofs.Common.{refl, sym, ap, subst, ◌∙◌}
use Rattle.std.specs.Option.{option_or, IfSome}
use Rattle.std.proofs.lemmas.List.{append-nil, append_assoc}
use Rattle.data_rows.specs.declared.error.Cause.{Cause}
use Rattle.data_rows.specs.declared.error.CaveError.{CaveError}
use Rattle.data_rows.specs.BindingLines.{bindings_of}
use Rattle.cave_data.specs.Faults.{binding_cause, binding_fault, first_binding_fault}
use Rattle.cave_data.proofs.GrammarLemmas.{no_cause}
use Rattle.cave_data.proofs.BindingRows.{faultless_bindings}
use Rattle.data_lines.specs.BindingCauses.{IsFirstBindingFault, FaultsAreFirst}
use Rattle.data_lines.proofs.CauseLemmas.{cause_is_there}

-- lines without a fault still have none after one more line without a cause
one_more : (prior before : List (List ℕ)) (line : List ℕ)
    → first_binding_fault prior before ≡ None → binding_cause (prior ++ before) line ≡ None
    → first_binding_fault prior (before ++ line ∷ []) ≡ None
one_more prior [] line e fine =
    let here : binding_cause prior line ≡ None =
    ap (λ ls. binding_cause ls line) (sym (append-nil prior)) ∙ fine in
    rw here refl
one_more prior (first ∷ before) line e fine =
    let parts = no_cause (binding_cause prior first) (binding_fault prior) _ e in
    let none = parts.0 in
    rw none (one_more (prior ++ first ∷ []) before line parts.1
    (ap (λ ls. binding_cause ls line) (append_assoc prior (first ∷ []) before) ∙ fine))

first_is : (before ls : List (List ℕ)) (e : CaveError) → first_binding_fault before ls ≡ Some e
    → first_binding_fault [] before ≡ None → IsFirstBindingFault (before ++ ls) e
first_is before [] e is none = cc
first_is before (line ∷ ls) e is none = at (binding_cause before line) refl is
    (λ fine found. first_is (before ++ line ∷ []) ls e found
    (one_more [] before line none fine)) where
      at : (o : Option Cause) → binding_cause before line ≡ o
          → option_or (option_map (binding_fault before) o)
          (first_binding_fault (before ++ line ∷ []) ls) ≡ Some e
          → (binding_cause before line ≡ None
          → first_binding_fault (before ++ line ∷ []) ls ≡ Some e
          → IsFirstBindingFault ((before ++ line ∷ []) ++ ls) e)
          → IsFirstBindingFault (before ++ line ∷ ls) e
      at (Some cause) h found later =
          let same : binding_fault before cause ≡ e = cc in
          let bindings = faultless_bindings before none in
          subst (IsFirstBindingFault (before ++ line ∷ ls)) same (record {
            before = before;
            line = line;
            rest = ls;
            parts = refl;
            are_bindings = record {
              bindings = bindings_of before;
              has_bindings = bindings.0;
              anew = bindings.1;
            };
            cause = cause_is_there before line cause h;
            number = refl;
            site = refl;
          })
      at None h found later =
          subst (λ xs. IsFirstBindingFault xs e) (append_assoc before (line ∷ []) ls)
          (later h found)

pub faults_are_first : FaultsAreFirst
faults_are_first ls = at (first_binding_fault [] ls) refl where
  at : (o : Option CaveError) → first_binding_fault [] ls ≡ o
      → IfSome o (IsFirstBindingFault ls)
  at (Some e) is = first_is [] ls e is refl
  at None is = tt
