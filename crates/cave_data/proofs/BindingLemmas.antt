-- Reading bindings line by line: what holds after each line, and which fault is reported.
use Rattle.std.proofs.Common.{◌≡◌, inl, inr, ℕ, suc, ◌+◌, ◌<◌, ◌≤◌, Bool, true, false, cond, List}
use Rattle.std.proofs.Common.{[], ◌∷◌, ◌++◌, length, Option, Some, None, option_map, option_to_list}
use Rattle.std.proofs.Common.{is_some, Result, Ok, Err, refl, sym, ap, ◌∙◌, arith}
use Rattle.std.specs.Option.{option_or}
use Rattle.std.specs.Result.{result_ok, result_err}
use Rattle.std.specs.List.{filter_map}
use Rattle.std.specs.FinMap as map
use Rattle.std.specs.Str.Lines.{lines}
use Rattle.std.proofs.lemmas.List.{append_assoc, append-nil, length-append}
use Rattle.std.proofs.lemmas.List.Sums.{fold_push}
use Rattle.data_rows.specs.declared.error.Cause.{Cause}
use Rattle.data_rows.specs.declared.error.BindingFlaw.TheVariants.{Repeated}
use Rattle.data_rows.specs.declared.error.Cause.TheVariants.{Memory, TooLarge, BadSection}
use Rattle.data_rows.specs.declared.error.Cause.TheVariants.{BadNumber, OutOfRange, NoEnd}
use Rattle.data_rows.specs.declared.error.Cause.TheVariants.{TooManyRows, BadBinding, UnknownRole}
use Rattle.data_rows.specs.declared.error.FaultSite.TheVariants as site
use Rattle.data_rows.specs.declared.binding.Key.{Key}
use Rattle.data_rows.specs.declared.binding.Key.TheVariants.{RoleKey, PlaceKey, LettersKey}
use Rattle.data_rows.specs.declared.binding.Binding.{Binding}
use Rattle.cave_data.specs.declared.bindings.Bindings.{Bindings}
use Rattle.base_lines.specs.LogLine.{is_skipped}
use Rattle.data_rows.specs.BindingLines.{binding_row, binding_at, bindings_of}
use Rattle.cave_data.specs.Bindings.{role_value, place_value, role_key, place_key, letters_key}
use Rattle.cave_data.specs.Bindings.{letters_value, latest, value_of}
use Rattle.cave_data.specs.Faults.{repeat_cause, form_cause, binding_cause, binding_fault}
use Rattle.cave_data.specs.Faults.{first_binding_fault, FaultIs, error_at}
use Rattle.cave_data.specs.Steps.{bound_to, bind_key, bind, bind_new, bind_line, no_bindings}
use Rattle.cave_data.specs.Steps.{bindings_from, unless_cause}
use Rattle.data_rows.specs.Answers.{Fails}
use Rattle.data_rows.specs.Rows.{◌>>=◌}
use Rattle.cave_data.proofs.DatabaseLemmas.{allowed_ok, allowed_err}
use Rattle.cave_data.proofs.FoldLemmas.{added, fold-part}
use Rattle.cave_data.proofs.RowLemmas.{insert_row, rows_after}

role_each : (b : Bindings) (binding : Binding)
    → (bind b binding).roles ≡ added insert_row b.roles (role_value binding)
role_each b binding = at binding.key where
  at : (key : Key)
      → (bind_key b key binding.value).roles ≡ added insert_row b.roles (role_key binding.value key)
  at (RoleKey number) = refl
  at key = refl

place_each : (b : Bindings) (binding : Binding)
    → (bind b binding).places ≡ added insert_row b.places (place_value binding)
place_each b binding = at binding.key where
  at : (key : Key)
      → (bind_key b key binding.value).places
      ≡ added insert_row b.places (place_key binding.value key)
  at (PlaceKey number) = refl
  at key = refl

letters_each : (b : Bindings) (binding : Binding)
    → (bind b binding).letters ≡ added latest b.letters (letters_value binding)
letters_each b binding = at binding.key where
  at : (key : Key)
      → (bind_key b key binding.value).letters
      ≡ added latest b.letters (letters_key binding.value key)
  at LettersKey = refl
  at key = refl

pub roles_bound : (bs : List Binding) (n : ℕ)
    → map.get (bindings_from bs).roles n ≡ value_of (RoleKey n) bs
roles_bound bs n =
    ap (λ m. map.get m n)
    (fold-part bind (λ b. b.roles) role_value insert_row role_each no_bindings bs)
    ∙ rows_after (filter_map role_value bs) n

pub places_bound : (bs : List Binding) (n : ℕ)
    → map.get (bindings_from bs).places n ≡ value_of (PlaceKey n) bs
places_bound bs n =
    ap (λ m. map.get m n)
    (fold-part bind (λ b. b.places) place_value insert_row place_each no_bindings bs)
    ∙ rows_after (filter_map place_value bs) n

pub letters_bound : (bs : List Binding) → (bindings_from bs).letters ≡ value_of LettersKey bs
letters_bound bs = fold-part bind (λ b. b.letters) letters_value latest letters_each no_bindings bs

key_bound : (bs : List Binding) (key : Key) → bound_to (bindings_from bs) key ≡ value_of key bs
key_bound bs (RoleKey n) = roles_bound bs n
key_bound bs (PlaceKey n) = places_bound bs n
key_bound bs LettersKey = letters_bound bs

bind_new_is : (bs : List Binding) (binding : Binding)
    → bind_new (bindings_from bs) binding
    ≡ unless_cause (repeat_cause bs (binding ∷ [])) (bindings_from (bs ++ binding ∷ []))
bind_new_is bs binding =
    ap (λ o. cond (is_some o) (Err (BadBinding Repeated)) (Ok (bind (bindings_from bs) binding)))
    (key_bound bs binding.key) ∙ at (is_some (value_of binding.key bs))
    ∙ ap (λ b. unless_cause (repeat_cause bs (binding ∷ [])) b)
    (sym (fold_push bind no_bindings bs binding)) where
      at : (v : Bool)
          → cond v (Err (BadBinding Repeated)) (Ok (bind (bindings_from bs) binding))
          ≡ unless_cause (cond v (Some (BadBinding Repeated)) None)
          (bind (bindings_from bs) binding)
      at true = refl
      at false = refl

bind_row_is : (bs : List Binding) (read : Result Binding Cause)
    → (read >>= λ binding. bind_new (bindings_from bs) binding)
    ≡ unless_cause
    (option_or (result_err read) (repeat_cause bs (option_to_list (result_ok read))))
    (bindings_from (bs ++ option_to_list (result_ok read)))
bind_row_is bs (Ok binding) = bind_new_is bs binding
bind_row_is bs (Err cause) = refl

pub bindings-append : (before lines : List (List ℕ))
    → bindings_of (before ++ lines) ≡ bindings_of before ++ bindings_of lines
bindings-append [] lines = refl
bindings-append (line ∷ before) lines =
    ap (λ bs. binding_at line ++ bs) (bindings-append before lines)
    ∙ sym (append_assoc (binding_at line) (bindings_of before) (bindings_of lines))

bind_line_at : (bs : List Binding) (line : List ℕ)
    → bind_line (bindings_from bs) line
    ≡ unless_cause (option_or (form_cause line) (repeat_cause bs (binding_at line)))
    (bindings_from (bs ++ binding_at line))
unfolding bind_line binding_at
bind_line_at bs line = at (is_skipped line) where
  at : (v : Bool)
      → cond v (Ok (bindings_from bs)) (binding_row line
      >>= λ binding. bind_new (bindings_from bs) binding)
      ≡ unless_cause
      (option_or (cond v None (result_err (binding_row line)))
      (repeat_cause bs (cond v [] (option_to_list (result_ok (binding_row line))))))
      (bindings_from (bs ++ cond v [] (option_to_list (result_ok (binding_row line)))))
  at true = ap (λ xs. Ok (bindings_from xs)) (sym (append-nil bs))
  at false = bind_row_is bs (binding_row line)

bind_line-behind : (before : List (List ℕ)) (line : List ℕ)
    → bind_line (bindings_from (bindings_of before)) line
    ≡ unless_cause (binding_cause before line) (bindings_from (bindings_of (before ++ line ∷ [])))
unfolding binding_cause
bind_line-behind before line =
    bind_line_at (bindings_of before) line
    ∙ ap (λ bs.
    unless_cause
    (option_or (form_cause line) (repeat_cause (bindings_of before) (binding_at line)))
    (bindings_from bs))
    (sym (bindings-append before (line ∷ [])
    ∙ ap (λ bs. bindings_of before ++ bs) (append-nil (binding_at line))))

pub record BoundSoFar (text rest : List ℕ) (count : ℕ) (bindings : Bindings) : Type 0 where
  pub before : List (List ℕ)
  pub number : length before ≡ count
  pub behind : bindings ≡ bindings_from (bindings_of before)
  pub fault : first_binding_fault before (lines rest) ≡ first_binding_fault [] (lines text)
  pub all : before ++ lines rest ≡ lines text
  pub room : count + length rest ≤ length text

fault_first : (before : List (List ℕ)) (line : List ℕ) (later : List (List ℕ)) (o : Option Cause)
    → binding_cause before line ≡ o
    → first_binding_fault before (line ∷ later)
    ≡ option_or (option_map (binding_fault before) o)
    (first_binding_fault (before ++ line ∷ []) later)
fault_first before line later o e =
    ap (λ c. option_or (option_map (binding_fault before) c)
    (first_binding_fault (before ++ line ∷ []) later)) e

module _ {text rest line : List ℕ} {count : ℕ} {bindings : Bindings} (after : List ℕ)
    (first : lines rest ≡ line ∷ lines after) (so_far : BoundSoFar text rest count bindings) where
  step : bind_line bindings line
      ≡ unless_cause (binding_cause so_far.before line)
      (bindings_from (bindings_of (so_far.before ++ line ∷ [])))
  step = ap (λ b. bind_line b line) so_far.behind ∙ bind_line-behind so_far.before line

  pub bound_more : (next : Bindings) → bind_line bindings line ≡ Ok next
      → length after < length rest → BoundSoFar text after (count + 1) next
  bound_more next e shorter =
      let right =
      allowed_ok (binding_cause so_far.before line)
      (bindings_from (bindings_of (so_far.before ++ line ∷ []))) next (sym step ∙ e) in
      record {
        before = so_far.before ++ line ∷ [];
        number = length-append so_far.before (line ∷ []) ∙ ap (λ n. n + 1) so_far.number;
        behind = sym right.1;
        fault = sym (fault_first so_far.before line (lines after) None right.0)
            ∙ ap (first_binding_fault so_far.before) (sym first) ∙ so_far.fault;
        all = append_assoc so_far.before (line ∷ []) (lines after)
            ∙ ap (λ ls. so_far.before ++ ls) (sym first) ∙ so_far.all;
        room = let r = so_far.room in omega arith;
      }

  at_fault : (cause : Cause) → binding_cause so_far.before line ≡ Some cause
      → first_binding_fault [] (lines text)
      ≡ Some (record { cause = cause; line = count + 1; site = site.Bindings })
  at_fault cause e =
      let n : suc (length so_far.before) ≡ count + 1 = omega (arith, so_far.number) in
      sym so_far.fault ∙ ap (first_binding_fault so_far.before) first
      ∙ fault_first so_far.before line (lines after) (Some cause) e
      ∙ ap (λ k. Some (record { cause = cause; line = k; site = site.Bindings })) n

  pub bound_fault : (cause : Cause) → Fails cause (bind_line bindings line)
      → FaultIs (error_at cause (count + 1) site.Bindings) (first_binding_fault [] (lines text))
  bound_fault Memory e = inl refl
  bound_fault TooLarge e = inr (at_fault TooLarge (allowed_err _ _ TooLarge (sym step ∙ e)))
  bound_fault BadSection e = inr (at_fault BadSection (allowed_err _ _ BadSection (sym step ∙ e)))
  bound_fault BadNumber e = inr (at_fault BadNumber (allowed_err _ _ BadNumber (sym step ∙ e)))
  bound_fault OutOfRange e = inr (at_fault OutOfRange (allowed_err _ _ OutOfRange (sym step ∙ e)))
  bound_fault NoEnd e = inr (at_fault NoEnd (allowed_err _ _ NoEnd (sym step ∙ e)))
  bound_fault TooManyRows e =
      inr (at_fault TooManyRows (allowed_err _ _ TooManyRows (sym step ∙ e)))
  bound_fault (BadBinding flaw) e =
      inr (at_fault (BadBinding flaw) (allowed_err _ _ (BadBinding flaw) (sym step ∙ e)))
  bound_fault UnknownRole e =
      inr (at_fault UnknownRole (allowed_err _ _ UnknownRole (sym step ∙ e)))

module _ {text rest : List ℕ} {count : ℕ} {bindings : Bindings} (none : lines rest ≡ [])
    (so_far : BoundSoFar text rest count bindings) where
  pub bound_right : first_binding_fault [] (lines text) ≡ None
  bound_right = sym so_far.fault ∙ ap (first_binding_fault so_far.before) none

  pub bound_found : bindings ≡ bindings_from (bindings_of (lines text))
  bound_found =
      so_far.behind
      ∙ ap (λ ls. bindings_from (bindings_of ls))
      (sym (append-nil so_far.before) ∙ ap (λ ls. so_far.before ++ ls) (sym none) ∙ so_far.all)
