-- Lines have bindings that repeat no key exactly if no line has a cause.
use Rattle.std.proofs.Common.{◌≡◌, ℕ, Bool, true, false, cond, List, [], ◌∷◌, ◌++◌, Option, Some}
use Rattle.std.proofs.Common.{None, is_some, option_map, option_to_list, Result, Ok, Err, IsTrue}
use Rattle.std.proofs.Common.{refl, sym, ap, subst, ◌∙◌}
use Rattle.std.specs.Option.{option_or}
use Rattle.std.specs.Result.{result_ok, result_err}
use Rattle.std.proofs.lemmas.List.{append-nil}
use Rattle.data_rows.specs.declared.error.Cause.{Cause}
use Rattle.data_rows.specs.declared.error.BindingFlaw.TheVariants.{Repeated}
use Rattle.data_rows.specs.declared.error.Cause.TheVariants.{BadBinding}
use Rattle.data_rows.specs.declared.binding.Binding.{Binding}
use Rattle.base_lines.specs.LogLine.{is_skipped}
use Rattle.data_rows.specs.BindingLines.{binding_row, binding_at, bindings_of}
use Rattle.data_rows.specs.BindingGrammar.{IsBindingLine, HasBindings, no_lines, skipped_line}
use Rattle.data_rows.specs.BindingGrammar.{binding_line}
use Rattle.data_rows.proofs.BindingForms.{binding-read, read-binding, binding_unskipped}
use Rattle.cave_data.specs.Bindings.{value_of}
use Rattle.cave_data.specs.Faults.{repeat_cause, form_cause, binding_cause, binding_fault}
use Rattle.cave_data.specs.Faults.{first_binding_fault}
use Rattle.cave_data.specs.Reads.{BindAnew}
use Rattle.cave_data.proofs.BindingLemmas.{bindings-append}
use Rattle.cave_data.proofs.GrammarLemmas.{no_cause}
use Rattle.cave_data.proofs.RightLemmas.{neither}

-- what a line binds, and that its form has no cause
record Binds (line : List ℕ) (bs : List Binding) : Type 0 where
  form : form_cause line ≡ None
  binds : binding_at line ≡ bs

skipped_binds : (line : List ℕ) → IsTrue (is_skipped line) → Binds line []
unfolding binding_at
skipped_binds line skipped = record { form = rw skipped refl; binds = rw skipped refl }

line_binds : (line : List ℕ) (binding : Binding) → IsBindingLine line binding
    → Binds line (binding ∷ [])
unfolding binding_at
line_binds line binding is =
    let plain = binding_unskipped line binding is in
    let read = binding-read line binding is in
    record { form = rw (plain, read) refl; binds = rw (plain, read) refl }

pub bindings_known : (lines : List (List ℕ)) (bindings : List Binding)
    → HasBindings lines bindings → bindings_of lines ≡ bindings
bindings_known lines bindings no_lines = refl
bindings_known lines bindings (skipped_line {line = line} {lines = later} skipped has) =
    let binds = (skipped_binds line skipped).binds in rw binds (bindings_known later bindings has)
bindings_known lines bindings
    (binding_line {line = line} {binding = binding} {lines = later} {bindings = rest} is has) =
    let binds = (line_binds line binding is).binds in
    rw binds (ap (λ bs. binding ∷ bs) (bindings_known later rest has))

bindings_push : (before : List (List ℕ)) (line : List ℕ)
    → bindings_of (before ++ line ∷ []) ≡ bindings_of before ++ binding_at line
bindings_push before line =
    bindings-append before (line ∷ [])
    ∙ ap (λ bs. bindings_of before ++ bs) (append-nil (binding_at line))

binding_then : (before : List (List ℕ)) (line : List ℕ) (lines : List (List ℕ)) (bs : List Binding)
    → Binds line bs → repeat_cause (bindings_of before) bs ≡ None
    → (bindings_of before ++ bs ≡ bindings_of (before ++ line ∷ [])
    → first_binding_fault (before ++ line ∷ []) lines ≡ None)
    → first_binding_fault before (line ∷ lines) ≡ None
unfolding binding_cause
binding_then before line lines bs binds anew later =
    let repeats : repeat_cause (bindings_of before) (binding_at line) ≡ None =
    ap (repeat_cause (bindings_of before)) binds.binds ∙ anew in
    let cause : binding_cause before line ≡ None =
    ap (λ o. option_or o (repeat_cause (bindings_of before) (binding_at line))) binds.form
    ∙ repeats in
    ap (λ o. option_or (option_map (binding_fault before) o)
    (first_binding_fault (before ++ line ∷ []) lines)) cause
    ∙ later (sym (bindings_push before line ∙ ap (λ xs. bindings_of before ++ xs) binds.binds))

new_key : (before : List Binding) (binding : Binding) → value_of binding.key before ≡ None
    → repeat_cause before (binding ∷ []) ≡ None
new_key before binding free = rw free refl

pub bindings_without_fault : (lines : List (List ℕ)) (bindings : List Binding)
    → HasBindings lines bindings → (before : List (List ℕ))
    → BindAnew (bindings_of before) bindings → first_binding_fault before lines ≡ None
bindings_without_fault lines bindings no_lines before anew = refl
bindings_without_fault lines bindings (skipped_line {line = line} {lines = later} skipped has)
    before anew =
    binding_then before line later [] (skipped_binds line skipped) refl
    (λ grown. bindings_without_fault later bindings has (before ++ line ∷ [])
    (subst (λ bs. BindAnew bs bindings) (sym (append-nil (bindings_of before)) ∙ grown) anew))
bindings_without_fault lines bindings
    (binding_line {line = line} {binding = binding} {lines = later} {bindings = rest} is has) before
    anew =
    binding_then before line later (binding ∷ []) (line_binds line binding is)
    (new_key (bindings_of before) binding anew.0)
    (λ grown. bindings_without_fault later rest has (before ++ line ∷ [])
    (subst (λ bs. BindAnew bs rest) grown anew.1))

-- lines without a fault, and the bindings before them
record Bound (before lines : List (List ℕ)) : Type 0 where
  has : HasBindings lines (bindings_of lines)
  anew : BindAnew (bindings_of before) (bindings_of lines)

free_key : (before : List Binding) (binding : Binding) → repeat_cause before (binding ∷ []) ≡ None
    → value_of binding.key before ≡ None
free_key before binding e = at (value_of binding.key before) e where
  at : (o : Option ℕ) → cond (is_some o) (Some (BadBinding Repeated)) None ≡ None → o ≡ None
  at None h = refl
  at (Some n) h = cc

module _ (before : List (List ℕ)) (line : List ℕ) (lines : List (List ℕ))
    (later : Bound (before ++ line ∷ []) lines) where
  grown : (bs : List Binding) → binding_at line ≡ bs
      → BindAnew (bindings_of before ++ bs) (bindings_of lines)
  grown bs is =
      subst (λ xs. BindAnew xs (bindings_of lines))
      (bindings_push before line ∙ ap (λ xs. bindings_of before ++ xs) is) later.anew

  skipped_bound : IsTrue (is_skipped line) → Bound before (line ∷ lines)
  skipped_bound skipped =
      let binds = (skipped_binds line skipped).binds in
      record {
        has = rw binds (skipped_line skipped later.has);
        anew = rw binds
            (subst (λ bs. BindAnew bs (bindings_of lines)) (append-nil (bindings_of before))
            (grown [] binds));
      }

  row_bound : (r : Result Binding Cause) → binding_row line ≡ r → result_err r ≡ None
      → repeat_cause (bindings_of before) (option_to_list (result_ok r)) ≡ None
      → Bound before (line ∷ lines)
  row_bound (Ok binding) is e free =
      let line_is = read-binding line binding is in
      let binds = (line_binds line binding line_is).binds in
      record {
        has = rw binds (binding_line line_is later.has);
        anew = rw binds (free_key (bindings_of before) binding free, grown (binding ∷ []) binds);
      }
  row_bound (Err cause) is e free = cc

  line_bound : (b : Bool) → is_skipped line ≡ b
      → cond b None (result_err (binding_row line)) ≡ None
      → repeat_cause (bindings_of before)
      (cond b [] (option_to_list (result_ok (binding_row line)))) ≡ None
      → Bound before (line ∷ lines)
  line_bound true is e free = skipped_bound is
  line_bound false is e free = row_bound (binding_row line) refl e free

bound_faultless : (before lines : List (List ℕ)) → first_binding_fault before lines ≡ None
    → Bound before lines
unfolding binding_cause binding_at
bound_faultless before [] e = record { has = no_lines; anew = tt }
bound_faultless before (line ∷ lines) e =
    let parts = no_cause (binding_cause before line) (binding_fault before) _ e in
    let causes =
    neither (form_cause line) (repeat_cause (bindings_of before) (binding_at line)) parts.0 in
    line_bound before line lines (bound_faultless (before ++ line ∷ []) lines parts.1)
    (is_skipped line) refl causes.0 causes.1

-- lines without a fault have the bindings that are read, and no key twice
pub faultless_bindings : (lines : List (List ℕ)) → first_binding_fault [] lines ≡ None
    → HasBindings lines (bindings_of lines) × BindAnew [] (bindings_of lines)
faultless_bindings lines e =
    let found = bound_faultless [] lines e in (found.has, found.anew)
