-- The texts of a cave are last runs, its ways those of the rows, and an object is known if it has a
-- row.
use Rattle.std.proofs.Common.{◌≡◌, ℕ, ◌+◌, ◌*◌, ◌/◌, ◌<◌, ◌≤◌, Bool, true, false, cond, eqb, leb}
use Rattle.std.proofs.Common.{ltb, ◌||◌, ◌&&◌, List, [], ◌∷◌, ◌++◌, length, reverse, Option, Some}
use Rattle.std.proofs.Common.{None, option_map, unwrap_or, is_some, refl, sym, ap, ◌∙◌, arith}
use Rattle.std.specs.List.{filter_map, flat_map, list_all, list_any}
use Rattle.std.specs.FinMap.{get}
use Rattle.std.proofs.lemmas.Bool.{and_parts, ne_eqb, le-leb}
use Rattle.std.proofs.lemmas.Bool.Decides.{nat_tests}
use Rattle.std.proofs.lemmas.List.{append_assoc, append-nil, reverse-append, reverse-reverse}
use Rattle.std.proofs.lemmas.List.{length-reverse}
use Rattle.std.proofs.lemmas.List.Folds.{list_all-append}
use Rattle.std.proofs.lemmas.List.Sorted.{IsPermutation-reverse, list_any-IsPermutation}
use Rattle.data_rows.specs.Rows.{Going, Entry, TextLine}
use Rattle.cave_data.specs.CaveView.{CaveView, Texts}
use Rattle.cave_data.specs.Printing.{printed_text}
use Rattle.cave_data.specs.Texts.{line_text, nonempty, same_run, first_lines_of, run_text}
use Rattle.cave_data.specs.Texts.{text_of_number, names_object, object_after, object_key, by_object}
use Rattle.data_rows.specs.SectionRows.{object_line_of, long_line_of, short_line_of}
use Rattle.data_rows.specs.SectionRows.{message_line_of}
use Rattle.cave_data.specs.Database.{BeginWithObject, Holds}
use Rattle.cave_data.specs.Laws.{has_number, IsLastRun, AreLastRuns, Laws}
use Rattle.cave_data.proofs.FoldLemmas.{reverse-cons}
use Rattle.cave_data.proofs.RightLemmas.{is_object, stays_object}

-- Runs.

either_false : (a b : Bool) → (a || b) ≡ false → (a ≡ false) × (b ≡ false)
either_false true b e = cc
either_false false b e = (refl, e)

-- lines without the number are passed
passed : (n : ℕ) (xs ys : List TextLine) → list_any (has_number n) xs ≡ false
    → first_lines_of n (xs ++ ys) ≡ first_lines_of n ys
passed n [] ys e = refl
passed n (x ∷ xs) ys e =
    let parts = either_false (eqb x.number n) (list_any (has_number n) xs) e in
    ap (λ b. cond b (x ∷ same_run n (xs ++ ys)) (first_lines_of n (xs ++ ys))) parts.0
    ∙ passed n xs ys parts.1

-- lines with it are taken
taken : (n : ℕ) (xs ys : List TextLine) → list_all (has_number n) xs ≡ true
    → same_run n (xs ++ ys) ≡ xs ++ same_run n ys
taken n [] ys e = refl
taken n (x ∷ xs) ys e =
    let parts = and_parts (eqb x.number n) (list_all (has_number n) xs) e in
    ap (λ b. cond b (x ∷ same_run n (xs ++ ys)) []) parts.0
    ∙ ap (λ run. x ∷ run) (taken n xs ys parts.1)

-- a run that begins with lines of the number has all of them, and then those after them
first_taken : (n : ℕ) (xs ys : List TextLine) → 0 < length xs → list_all (has_number n) xs ≡ true
    → same_run n ys ≡ [] → first_lines_of n (xs ++ ys) ≡ xs
first_taken n [] ys some e none = let no : ⊥ = omega (arith, some) in absurd no
first_taken n (x ∷ xs) ys some e none =
    let parts = and_parts (eqb x.number n) (list_all (has_number n) xs) e in
    ap (λ b. cond b (x ∷ same_run n (xs ++ ys)) (first_lines_of n (xs ++ ys))) parts.0
    ∙ ap (λ run. x ∷ run) (taken n xs ys parts.1 ∙ ap (λ run. xs ++ run) none ∙ append-nil xs)

all_reversed : (n : ℕ) (xs : List TextLine) → list_all (has_number n) xs ≡ true
    → list_all (has_number n) (reverse xs) ≡ true
all_reversed n [] e = refl
all_reversed n (x ∷ xs) e =
    let parts = and_parts (eqb x.number n) (list_all (has_number n) xs) e in
    ap (list_all (has_number n)) (reverse-cons x xs)
    ∙ list_all-append (has_number n) (reverse xs) (x ∷ [])
    ∙ ap (λ b. b && (eqb x.number n && true)) (all_reversed n xs parts.1)
    ∙ ap (λ b. b && true) parts.0

any_reversed : (n : ℕ) (xs : List TextLine)
    → list_any (has_number n) (reverse xs) ≡ list_any (has_number n) xs
any_reversed n xs =
    sym (list_any-IsPermutation (has_number n) xs (reverse xs) (IsPermutation-reverse xs))

-- no line of the number is right before the run
ends_there : (n : ℕ) (before : List TextLine)
    → ((front : List TextLine) (line : TextLine) → before ≡ front ++ line ∷ []
    → has_number n line ≡ false) → same_run n (reverse before) ≡ []
ends_there n before apart = at (reverse before) refl where
  at : (back : List TextLine) → reverse before ≡ back → same_run n back ≡ []
  at [] e = refl
  at (line ∷ back) e =
      let is : before ≡ reverse back ++ line ∷ [] = sym (reverse-reverse before) ∙ ap reverse e
      ∙ reverse-cons line back in
      ap (λ b. cond b (line ∷ same_run n back) []) (apart (reverse back) line is)

there : (run : List TextLine) → 0 < length run → nonempty run ≡ Some run
there [] some = let no : ⊥ = omega (arith, some) in absurd no
there (line ∷ run) some = refl

text_of_run : (n : ℕ) (lines before run later : List TextLine) → IsLastRun n lines before run later
    → text_of_number n lines ≡ Some (printed_text (flat_map line_text run))
unfolding text_of_number
text_of_run n lines before run later is =
    let back : reverse lines ≡ reverse later ++ (reverse run ++ reverse before) =
    ap reverse is.all ∙ reverse-append before (run ++ later)
    ∙ ap (λ xs. xs ++ reverse before) (reverse-append run later)
    ∙ append_assoc (reverse later) (reverse run) (reverse before) in
    let some : 0 < length (reverse run) = omega (arith, length-reverse run, is.some) in
    let found : first_lines_of n (reverse lines) ≡ reverse run =
    ap (first_lines_of n) back
    ∙ passed n (reverse later) (reverse run ++ reverse before) (any_reversed n later ∙ is.last)
    ∙ first_taken n (reverse run) (reverse before) some (all_reversed n run is.same)
    (ends_there n before is.apart) in
    ap (λ r. option_map (λ r. printed_text (run_text r)) (nonempty r)) found
    ∙ ap (option_map (λ r. printed_text (run_text r))) (there (reverse run) some)
    ∙ ap (λ r. Some (printed_text (flat_map line_text r))) (reverse-reverse run)

no_run : (n : ℕ) (xs : List TextLine) → list_any (has_number n) xs ≡ false
    → first_lines_of n xs ≡ []
no_run n [] e = refl
no_run n (x ∷ xs) e =
    let parts = either_false (eqb x.number n) (list_any (has_number n) xs) e in
    ap (λ b. cond b (x ∷ same_run n xs) (first_lines_of n xs)) parts.0 ∙ no_run n xs parts.1

text_of_none : (n : ℕ) (lines : List TextLine) → list_any (has_number n) lines ≡ false
    → text_of_number n lines ≡ None
unfolding text_of_number
text_of_none n lines e =
    ap (λ r. option_map (λ r. printed_text (run_text r)) (nonempty r))
    (no_run n (reverse lines) (any_reversed n lines ∙ e))

last_runs : (texts : Texts) (lines : List TextLine)
    → ((n : ℕ) → get texts n ≡ text_of_number n lines) → AreLastRuns texts lines
last_runs texts lines are = record {
  run = λ n before run later is. are n ∙ text_of_run n lines before run later is;
  none = λ n none. are n ∙ text_of_none n lines none;
}

-- Ways.

all_or_none : (goings : List Going) → unwrap_or (nonempty goings) [] ≡ goings
all_or_none [] = refl
all_or_none (going ∷ goings) = refl

-- Objects.

run_there : (n : ℕ) (xs : List TextLine)
    → is_some (nonempty (first_lines_of n xs)) ≡ list_any (has_number n) xs
run_there n [] = refl
run_there n (x ∷ xs) = at (eqb x.number n) (run_there n xs) where
  at : (b : Bool) → is_some (nonempty (first_lines_of n xs)) ≡ list_any (has_number n) xs
      → is_some (nonempty (cond b (x ∷ same_run n xs) (first_lines_of n xs)))
      ≡ (b || list_any (has_number n) xs)
  at true later = refl
  at false later = later

mapped : {X Y : Type 0} (f : X → Y) (o : Option X) → is_some (option_map f o) ≡ is_some o
mapped f None = refl
mapped f (Some x) = refl

text_there : (n : ℕ) (lines : List TextLine)
    → is_some (text_of_number n lines) ≡ list_any (has_number n) lines
unfolding text_of_number
text_there n lines =
    mapped (λ run. printed_text (run_text run)) (nonempty (first_lines_of n (reverse lines)))
    ∙ run_there n (reverse lines) ∙ any_reversed n lines

-- a line after an object is under an object's number exactly if it has that number
same_key : (object n : ℕ) (line : TextLine) → 1 ≤ n → n ≤ 99 → 1 ≤ object_after object line
    → eqb (object_key object line) n ≡ eqb line.number n
same_key object n line low high some = at (names_object line) refl some where
  at : (b : Bool) → names_object line ≡ b → 1 ≤ cond b line.number object
      → eqb (cond b line.number (100 * object + line.number / 100)) n ≡ eqb line.number n
  at true e some = refl
  at false e some = ne_eqb _ n (λ same. omega (arith, same))
      ∙ sym (ne_eqb line.number n (λ same. other same)) where
        other : line.number ≡ n → ⊥
        other same =
            let is : names_object line ≡ true = ap (λ k. ltb 0 k && leb k 99) same
            ∙ grind (arith, nat_tests) in cc

keys_below : (object n : ℕ) (lines : List TextLine) → 1 ≤ n → n ≤ 99 → 1 ≤ object
    → list_any (has_number n) (by_object object lines) ≡ list_any (has_number n) lines
keys_below object n [] low high some = refl
keys_below object n (line ∷ lines) low high some =
    let more : 1 ≤ object_after object line = stays_object object line some in
    ap (λ b. b || list_any (has_number n) (by_object (object_after object line) lines))
    (same_key object n line low high more)
    ∙ ap (λ b. eqb line.number n || b) (keys_below (object_after object line) n lines low high more)

keys_from : (n : ℕ) (lines : List TextLine) → 1 ≤ n → n ≤ 99 → BeginWithObject lines
    → list_any (has_number n) (by_object 0 lines) ≡ list_any (has_number n) lines
keys_from n [] low high begin = refl
keys_from n (line ∷ lines) low high begin =
    let named : 1 ≤ line.number = is_object line begin in
    let behind : object_after 0 line ≡ line.number = ap (λ b. cond b line.number 0) begin in
    let some : 1 ≤ object_after 0 line = omega (arith, named, behind) in
    ap (λ b. b || list_any (has_number n) (by_object (object_after 0 line) lines))
    (same_key 0 n line low high some)
    ∙ ap (λ b. eqb line.number n || b) (keys_below (object_after 0 line) n lines low high some)

pub laws_hold : (rows : List Entry) (c : CaveView)
    → BeginWithObject (filter_map object_line_of rows) → Holds rows c → Laws rows c
laws_hold rows c begin holds = record {
  long = last_runs c.long (filter_map long_line_of rows) holds.long;
  short = last_runs c.short (filter_map short_line_of rows) holds.short;
  messages = last_runs c.messages (filter_map message_line_of rows) holds.messages;
  objects = last_runs c.objects (by_object 0 (filter_map object_line_of rows)) holds.objects;
  travel = λ place. ap (λ o. unwrap_or o []) (holds.travel place) ∙ all_or_none _;
  known = λ object low high.
      ap (λ b. is_some (cond b (get c.objects object) None)) (le-leb object 99 high)
      ∙ ap is_some (holds.objects object)
      ∙ text_there object (by_object 0 (filter_map object_line_of rows))
      ∙ keys_from object (filter_map object_line_of rows) low high begin;
}
