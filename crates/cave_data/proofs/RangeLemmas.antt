-- What is bound is in range, and so are the places of objects: each row is, and so is what rows
-- make.
use Rattle.std.proofs.Common.{◌≡◌, ℕ, ◌≤◌, Bool, true, false, cond, eqb, leb, ◌&&◌, List, [], ◌∷◌}
use Rattle.std.proofs.Common.{◌++◌, drop, fold, Some, Result, Ok, Err, refl, sym, subst, arith}
use Rattle.std.specs.Prelude.{ℤ, pos, negsuc, ◌≤ℤ◌, codes, nat_eq, IfOk, IfSome, option_to_list}
use Rattle.std.specs.Option.{ok_or}
use Rattle.std.specs.Result.{result_ok}
use Rattle.std.specs.List.{starts_with}
use Rattle.std.specs.Int.Signed.{le_z_yes}
use Rattle.std.specs.Str.{bytes_eq}
use Rattle.std.specs.Ordering.{nat_cmp, eq_by_cmp}
use Rattle.std.specs.Cmp.{nat_cmp_total}
use Rattle.std.specs.FinMap as map
use Rattle.std.proofs.lemmas.Bool.{and_parts, leb-true}
use Rattle.data_rows.specs.declared.error.Cause.{Cause}
use Rattle.data_rows.specs.declared.error.BindingFlaw.TheVariants.{Malformed, BadValue}
use Rattle.data_rows.specs.declared.error.Cause.TheVariants.{BadBinding, UnknownRole, OutOfRange}
use Rattle.data_rows.specs.declared.error.Section.{Section}
use Rattle.data_rows.specs.declared.number.Number.{Number}
use Rattle.data_rows.specs.declared.number.Number.TheVariants.{Natural, Negative}
use Rattle.data_rows.specs.declared.position.Position.{Position}
use Rattle.data_rows.specs.declared.position.Position.TheVariants.{Outside, Inside, After}
use Rattle.cave_data.specs.declared.reader.Tables.{Tables}
use Rattle.data_rows.specs.declared.binding.Key.{Key}
use Rattle.data_rows.specs.declared.binding.Key.TheVariants.{RoleKey, PlaceKey, LettersKey}
use Rattle.data_rows.specs.declared.binding.Binding.{Binding}
use Rattle.cave_data.specs.declared.bindings.Bindings.{Bindings}
use Rattle.base_lines.specs.Bytes.{is_all_blank}
use Rattle.data_rows.specs.Fields.{fields, natural}
use Rattle.data_rows.specs.Role.{ROLE_NAMES}
use Rattle.data_rows.specs.PlaceRole.{PLACE_NAMES}
use Rattle.data_rows.specs.Rows.{◌>>=◌, Entry, PlacementRow, number_or_cause, number_or_zero}
use Rattle.data_rows.specs.Rows.{within, second_place, placement_row, entry_in, text_line, way_row}
use Rattle.data_rows.specs.Rows.{word_row, object_line, default_row, condition_row, hint_row}
use Rattle.data_rows.specs.Grammar.{closes, position_after_line, entry_here, entry_at, entries_from}
use Rattle.data_rows.specs.Grammar.{entries}
use Rattle.base_lines.specs.LogLine.{is_skipped}
use Rattle.data_rows.specs.BindingLines.{two_fields, bound_within, role_binding}
use Rattle.data_rows.specs.BindingGrammar.{position_of_name}
use Rattle.data_rows.specs.BindingLines.{place_binding, letters_binding, binding_of, binding_row}
use Rattle.data_rows.specs.BindingLines.{binding_at, bindings_of}
use Rattle.cave_data.specs.Steps.{bind, no_bindings, bindings_from}
use Rattle.cave_data.specs.Steps.{with_entry, no_tables, tables_of}
use Rattle.cave_data.specs.Laws.{IsPlace, IsMessage, IsLetters, IsPlacementInRange, HasOnly}
use Rattle.cave_data.specs.Laws.{AreInRange}

-- Lists and maps of such values.

abbrev Each : {X : Type 0} → (X → Type 0) → List X → Type 0
Each P [] = Unit {0}
Each P (x ∷ xs) = P x × Each P xs

each-append : {X : Type 0} (P : X → Type 0) (xs ys : List X) → Each P xs → Each P ys
    → Each P (xs ++ ys)
each-append P [] ys px py = py
each-append P (x ∷ xs) ys px py = (px.0, each-append P xs ys px.1 py)

each-read : {X : Type 0} (P : X → Type 0) (r : Result X Cause) → IfOk r P
    → Each P (option_to_list (result_ok r))
each-read P (Ok x) h = (h, tt)
each-read P (Err cause) h = tt

-- what each item preserves, all items together preserve
kept : {X Y : Type 0} (P : X → Type 0) (Q : Y → Type 0) (f : Y → X → Y)
    → ((y : Y) (x : X) → P x → Q y → Q (f y x)) → (y : Y) (xs : List X) → Each P xs → Q y
    → Q (fold f y xs)
kept P Q f keeps y [] px qy = qy
kept P Q f keeps y (x ∷ xs) px qy = kept P Q f keeps (f y x) xs px.1 (keeps y x px.0 qy)

none_such : {X : Type 0} (P : X → Type 0) → HasOnly P map.empty
none_such P n = subst (λ o. IfSome o P) (sym (map.get-empty nat_cmp n)) tt

one_more : {X : Type 0} (P : X → Type 0) (m : map.FinMap nat_cmp X) (number : ℕ) (x : X) → P x
    → HasOnly P m → HasOnly P (map.insert m number x)
one_more P m number x px only n =
    subst (λ o. IfSome o P) (sym (map.get-insert nat_cmp_total m number x n))
    (at (eq_by_cmp nat_cmp n number)) where
      at : (b : Bool) → IfSome (cond b (Some x) (map.get m n)) P
      at true = px
      at false = only n

-- Rows.

read_on : {A B : Type 0} (P : B → Type 0) (r : Result A Cause) (f : A → Result B Cause)
    → ((x : A) → IfOk (f x) P) → IfOk (r >>= f) P
read_on P (Ok x) f fine = fine x
read_on P (Err cause) f fine = tt

read_then : {A B : Type 0} (Q : A → Type 0) (P : B → Type 0) (r : Result A Cause) (f : A
    → Result B Cause) → IfOk r Q → ((x : A) → Q x → IfOk (f x) P) → IfOk (r >>= f) P
read_then Q P (Ok x) f q fine = fine x q
read_then Q P (Err cause) f q fine = tt

in_range : (low high n : ℕ) (cause : Cause)
    → IfOk (cond (leb low n && leb n high) (Ok n) (Err cause)) (λ v. (low ≤ v) × (v ≤ high))
in_range low high n cause = at (leb low n && leb n high) refl where
  at : (b : Bool) → (leb low n && leb n high) ≡ b
      → IfOk (cond b (Ok n) (Err cause)) (λ v. (low ≤ v) × (v ≤ high))
  at true e =
      let parts = and_parts (leb low n) (leb n high) e in
      (leb-true low n parts.0, leb-true n high parts.1)
  at false e = tt

-- Bindings.

abbrev HasValue : ℕ → Key → Type 0
HasValue value (RoleKey number) = IsMessage value
HasValue value (PlaceKey number) = IsPlace value
HasValue value LettersKey = IsLetters value

abbrev IsFine : Binding → Type 0
IsFine binding = HasValue binding.value binding.key

chosen : (b : Bool) (x y : Result Binding Cause) → IfOk x IsFine → IfOk y IsFine
    → IfOk (cond b x y) IsFine
chosen true x y fx fy = fx
chosen false x y fx fy = fy

role_fine : (name : List ℕ) (n : ℕ) → IfOk (role_binding name n) IsFine
role_fine name n =
    read_then IsMessage IsFine (bound_within 1 499 n) _ (in_range 1 499 n (BadBinding BadValue))
    (λ value fine. read_on IsFine (ok_or (position_of_name ROLE_NAMES name) UnknownRole)
    _ (λ number. fine))

place_fine : (name : List ℕ) (n : ℕ) → IfOk (place_binding name n) IsFine
place_fine name n =
    read_then IsPlace IsFine (bound_within 1 300 n) _ (in_range 1 300 n (BadBinding BadValue))
    (λ value fine. read_on IsFine (ok_or (position_of_name PLACE_NAMES name) UnknownRole)
    _ (λ number. fine))

letters_fine : (n : ℕ) → IfOk (letters_binding n) IsFine
letters_fine n =
    read_then IsLetters IsFine (bound_within 5 8 n) _ (in_range 5 8 n (BadBinding BadValue))
    (λ value fine. fine)

binding_fine : (key : List ℕ) (n : ℕ) → IfOk (binding_of key n) IsFine
binding_fine key n =
    chosen (starts_with nat_eq key (codes "msg.")) _ _ (role_fine (drop 4 key) n)
    (chosen (starts_with nat_eq key (codes "place.")) _ _ (place_fine (drop 6 key) n)
    (chosen (bytes_eq key (codes "num.letters")) _ _ (letters_fine n) tt))

row_fine : (line : List ℕ) → IfOk (binding_row line) IsFine
unfolding binding_row
row_fine line =
    read_on IsFine (two_fields (fields line))
    _ (λ pair. read_on IsFine (ok_or (natural pair.1) (BadBinding Malformed))
    _ (λ n. binding_fine pair.0 n))

line_fine : (line : List ℕ) → Each IsFine (binding_at line)
unfolding binding_at
line_fine line = at (is_skipped line) where
  at : (b : Bool) → Each IsFine (cond b [] (option_to_list (result_ok (binding_row line))))
  at true = tt
  at false = each-read IsFine (binding_row line) (row_fine line)

lines_fine : (lines : List (List ℕ)) → Each IsFine (bindings_of lines)
lines_fine [] = tt
lines_fine (line ∷ lines) =
    each-append IsFine (binding_at line) (bindings_of lines) (line_fine line) (lines_fine lines)

bind_keeps : (b : Bindings) (binding : Binding) → IsFine binding → AreInRange b
    → AreInRange (bind b binding)
bind_keeps b binding = at binding.key where
  at : (key : Key) → HasValue binding.value key → AreInRange b
      → AreInRange (bind b (record { key = key; value = binding.value }))
  at (RoleKey number) fine are =
      record {
        roles = one_more IsMessage b.roles number binding.value fine are.roles;
        places = are.places;
        letters = are.letters;
      }
  at (PlaceKey number) fine are =
      record {
        roles = are.roles;
        places =
            one_more IsPlace b.places number binding.value fine are.places;
        letters = are.letters;
      }
  at LettersKey fine are = record { roles = are.roles; places = are.places; letters = fine }

pub bound_in_range : (lines : List (List ℕ)) → AreInRange (bindings_from (bindings_of lines))
bound_in_range lines =
    kept IsFine AreInRange bind bind_keeps no_bindings (bindings_of lines) (lines_fine lines)
    (record { roles = none_such IsMessage; places = none_such IsPlace; letters = tt })

-- The places of objects.

abbrev StandsRight : Entry → Type 0
StandsRight (PlacementRow object placement) = IsPlacementInRange placement
StandsRight entry = Unit {0}

abbrev IsSecond : ℤ → Type 0
IsSecond z = (negsuc 0 ≤ℤ z) × (z ≤ℤ pos 300)

first_fine : (n : Number) → IfOk (within 0 300 n) (λ v. (0 ≤ v) × (v ≤ 300))
first_fine (Natural n) = in_range 0 300 n OutOfRange
first_fine (Negative n) = tt

second_fine : (n : Number) → IfOk (second_place n) IsSecond
second_fine (Natural n) = at (leb n 300) refl where
  at : (b : Bool) → leb n 300 ≡ b → IfOk (cond b (Ok (pos n)) (Err OutOfRange)) IsSecond
  at true e = let fits : n ≤ 300 = leb-true n 300 e in (grind arith, grind arith)
  at false e = tt
second_fine (Negative n) = at (eqb n 1) where
  at : (b : Bool) → IfOk (cond b (Ok (negsuc 0)) (Err OutOfRange)) IsSecond
  at true = (le_z_yes tt, le_z_yes tt)
  at false = tt

placed_fine : (line : List ℕ) → IfOk (placement_row line) (λ row. IsPlacementInRange row.1)
unfolding placement_row
placed_fine line =
    read_on (λ row. IsPlacementInRange row.1) (number_or_cause line) _ (λ x.
    read_on (λ row. IsPlacementInRange row.1) (number_or_zero x.1) _ (λ p.
    read_on (λ row. IsPlacementInRange row.1) (number_or_zero p.1) _ (λ q.
    read_on (λ row. IsPlacementInRange row.1) (within 1 100 x.0) _ (λ object.
    read_then (λ v. (0 ≤ v) × (v ≤ 300)) (λ row. IsPlacementInRange row.1) (within 0 300 p.0)
    _ (first_fine p.0) (λ first in_first.
    read_then IsSecond (λ row. IsPlacementInRange row.1) (second_place q.0) _ (second_fine q.0)
    (λ second in_second.
    record { first = in_first.1; low = in_second.0; high = in_second.1 }))))))

entry_fine : (s : Section) (line : List ℕ) → IfOk (entry_in s line) StandsRight
entry_fine Section.LongTexts line = read_on StandsRight (text_line 1 300 line) _ (λ row. tt)
entry_fine Section.ShortTexts line = read_on StandsRight (text_line 1 300 line) _ (λ row. tt)
entry_fine Section.Travel line = read_on StandsRight (way_row line) _ (λ row. tt)
entry_fine Section.Words line = read_on StandsRight (word_row line) _ (λ row. tt)
entry_fine Section.Objects line = read_on StandsRight (object_line line) _ (λ row. tt)
entry_fine Section.Messages line = read_on StandsRight (text_line 1 499 line) _ (λ row. tt)
entry_fine Section.Placements line =
    read_then (λ row. IsPlacementInRange row.1) StandsRight (placement_row line) _
    (placed_fine line)
    (λ row fine. fine)
entry_fine Section.Defaults line = read_on StandsRight (default_row line) _ (λ row. tt)
entry_fine Section.Conditions line = read_on StandsRight (condition_row line) _ (λ row. tt)
entry_fine Section.Classes line = read_on StandsRight (text_line 0 9999 line) _ (λ row. tt)
entry_fine Section.Hints line = read_on StandsRight (hint_row line) _ (λ row. tt)
entry_fine Section.Magic line = read_on StandsRight (text_line 1 499 line) _ (λ row. tt)

here_fine : (position : Position) (line : List ℕ) → Each StandsRight (entry_here position line)
here_fine Outside line = tt
here_fine (Inside s) line = at (closes line) where
  at : (b : Bool) → Each StandsRight (cond b [] (option_to_list (result_ok (entry_in s line))))
  at true = tt
  at false = each-read StandsRight (entry_in s line) (entry_fine s line)
here_fine After line = tt

entry_at_fine : (position : Position) (line : List ℕ) → Each StandsRight (entry_at position line)
unfolding entry_at
entry_at_fine position line = at (is_all_blank line) where
  at : (b : Bool) → Each StandsRight (cond b [] (entry_here position line))
  at true = tt
  at false = here_fine position line

entries_fine : (position : Position) (lines : List (List ℕ))
    → Each StandsRight (entries_from position lines)
entries_fine position [] = tt
entries_fine position (line ∷ lines) =
    each-append StandsRight (entry_at position line)
    (entries_from (position_after_line position line) lines) (entry_at_fine position line)
    (entries_fine (position_after_line position line) lines)

put_keeps : (t : Tables) (e : Entry) → StandsRight e → HasOnly IsPlacementInRange t.placements
    → HasOnly IsPlacementInRange (with_entry t e).placements
put_keeps t (PlacementRow object placement) fine only =
    one_more IsPlacementInRange t.placements object placement fine only
put_keeps t e fine only = only

pub standing_in_range : (lines : List (List ℕ))
    → HasOnly IsPlacementInRange (tables_of (entries lines)).placements
standing_in_range lines =
    kept StandsRight (λ (t : Tables). HasOnly IsPlacementInRange t.placements) with_entry put_keeps
    no_tables (entries lines) (entries_fine Outside lines) (none_such IsPlacementInRange)
