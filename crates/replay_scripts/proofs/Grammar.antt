-- What reading the lines of a script gives is what they spell.
use Rattle.std.proofs.Common.{◌≡◌, ℕ, ◌+◌, List, [], ◌∷◌, ◌++◌, length, Option, Some, None, Result}
use Rattle.std.proofs.Common.{Ok, Err, MatchResult, IfErr, IfOk, codes, refl, sym, ap, ap₂, ◌∙◌}
use Rattle.std.proofs.Common.{◌⊎◌, inl, inr, append_assoc, append-nil, arith}
use Rattle.std.specs.Str.Lines.{lines}
use Rattle.replay_edits.specs.Edit.{Change}
use Rattle.replay_scripts.specs.declared.fault.ScriptRefusal.{ScriptRefusal}
use Rattle.replay_scripts.specs.declared.fault.ScriptRefusal.TheVariants.{Malformed, Memory}
use Rattle.replay_scripts.specs.declared.script.Script.{Script}
use Rattle.replay_scripts.specs.Line.{LineKind, nothing, begin, end, edit, nonsense, IsKind}
use Rattle.replay_scripts.specs.Line.{kind_of_script_line, IsWord}
use Rattle.replay_scripts.specs.Script.{Applied, single, group_of, group_at_line, group_with_change}
use Rattle.replay_scripts.specs.Script.{guarded_by, IsBody, body_done, body_skips, body_spells}
use Rattle.replay_scripts.specs.Script.{IsScript, done, skips, spells, groups, reading_in_group}
use Rattle.replay_scripts.specs.Script.{onward, reading_outside_group, read_from, script_of}
use Rattle.replay_scripts.specs.Views.{IsFaultOf, items_of}
use Rattle.replay_scripts.proofs.Lines.{IsKind-kind_of_script_line, kind_of_script_line-only}

-- ---- reading gives what the lines spell

-- the group with more changes, on the lines of these numbers
abbrev extended : Applied → List Change → List ℕ → Applied
extended group changes numbers =
    group_of group.line (group.changes ++ changes) (group.lines ++ numbers)

extended_none : (group : Applied) → extended group [] [] ≡ guarded_by [] group
extended_none group =
    ap₂ (λ (changes : List Change) (numbers : List ℕ). group_of group.line changes numbers)
    (append-nil group.changes) (append-nil group.lines)

extended_joined : (group : Applied) (number : ℕ) (change : Change) (changes : List Change)
    (numbers : List ℕ)
    → extended (group_with_change group number change) changes numbers
    ≡ extended group (change ∷ changes) (number ∷ numbers)
extended_joined group number change changes numbers =
    ap₂ (λ (all : List Change) (lines : List ℕ). group_of group.line all lines)
    (append_assoc group.changes (change ∷ []) changes)
    (append_assoc group.lines (number ∷ []) numbers)

-- what is in a group extends it
body_read : {number : ℕ} {inner : List (List ℕ)} {changes : List Change} {numbers : List ℕ}
    → IsBody number inner changes numbers
    → (rest : List (List ℕ)) (items : List Applied) (group : Applied)
    → read_from number (inner ++ rest) items (Some (guarded_by [] group)) []
    ≡ read_from (number + length inner) rest items (Some (extended group changes numbers)) []
body_read {number = number} body_done rest items group =
    let here : number ≡ number + 0 = omega arith in
    ap₂ (λ n g. read_from n rest items (Some g) []) here (sym (extended_none group))
body_read
    (body_skips {number = number} {line = line} {rest = inner} {changes = changes}
    {numbers = numbers} skipped more) rest items group =
    let kind = kind_of_script_line-only line nothing skipped in
    let here : number + 1 + length inner ≡ number + length (line ∷ inner) = omega arith in
    rw kind (body_read more rest items group
    ∙ ap (λ n. read_from n rest items (Some (extended group changes numbers)) []) here)
body_read
    (body_spells {number = number} {line = line} {change = change} {rest = inner}
    {changes = changes} {numbers = numbers} spelled more) rest items group =
    let kind = kind_of_script_line-only line (edit change) spelled in
    let here : number + 1 + length inner ≡ number + length (line ∷ inner) = omega arith in
    rw kind (body_read more rest items (group_with_change group number change)
    ∙ ap₂ (λ n g. read_from n rest items (Some g) []) here
    (extended_joined group number change changes numbers))

-- items that follow items
followed : (before : List Applied) (item : Applied) (items : List Applied)
    → (before ++ item ∷ []) ++ items ≡ before ++ item ∷ items
followed before item items = append_assoc before (item ∷ []) items

script_read : {number : ℕ} {whole : List (List ℕ)} {items : List Applied}
    → IsScript number whole items → (before : List Applied)
    → read_from number whole before None [] ≡ Ok (before ++ items)
script_read done before = ap Ok (sym (append-nil before))
script_read (skips {number = number} {line = line} skipped more) before =
    let kind = kind_of_script_line-only line nothing skipped in
    rw kind (script_read more before)
script_read (spells {number = number} {line = line} {change = change} {items = items} spelled more)
    before =
    let kind = kind_of_script_line-only line (edit change) spelled in
    rw kind (script_read more (before ++ single number change ∷ [])
    ∙ ap Ok (followed before (single number change) items))
script_read
    (groups {number = number} {first = first} {last = last} {body = inner} {rest = rest}
    {changes = changes} {numbers = numbers} {items = items} begins is_body ends more) before =
    let kind = kind_of_script_line-only first begin begins in
    let group = group_of number changes numbers in
    let last_kind = kind_of_script_line-only last end ends in
    let here : number + 1 + length inner + 1 ≡ number + 2 + length inner = omega arith in
    let closed : read_from (number + 1 + length inner) (last ∷ rest) before (Some group) []
    ≡ Ok (before ++ group ∷ items) =
    rw (last_kind, here) (script_read more (before ++ group ∷ [])
    ∙ ap Ok (followed before group items)) in
    rw kind (body_read is_body (last ∷ rest) before (group_at_line number) ∙ closed)

pub script_of-only : (text : List ℕ) (items : List Applied) → IsScript 1 (lines text) items
    → script_of text ≡ Ok items
script_of-only text items is = script_read is []

-- ---- the lines spell what reading gives

-- after what was read outside a group
record SpellsOn (number : ℕ) (whole : List (List ℕ)) (before out : List Applied) : Type 0 where
  items : List Applied
  same : before ++ items ≡ out
  is_script : IsScript number whole items

-- after what was read, within a group
record SpellsOnIn (number : ℕ) (whole : List (List ℕ)) (before : List Applied) (group : Applied)
    (out : List Applied) : Type 0 where
  inner : List (List ℕ)
  last : List ℕ
  rest : List (List ℕ)
  changes : List Change
  numbers : List ℕ
  items : List Applied
  parts : whole ≡ inner ++ last ∷ rest
  is_body : IsBody number inner changes numbers
  ends : IsWord (codes "end") last
  is_script : IsScript (number + 1 + length inner) rest items
  same : before ++ extended group changes numbers ∷ items ≡ out

abbrev Spelled : ℕ → List (List ℕ) → List Applied → Option Applied → List Applied → Type 0
Spelled number whole before None out = SpellsOn number whole before out
Spelled number whole before (Some group) out = SpellsOnIn number whole before group out

module _ (number : ℕ) (line : List ℕ) (rest : List (List ℕ)) (out : List Applied)
    (next : (before : List Applied) (group : Option Applied)
    → read_from (number + 1) rest before group [] ≡ Ok out
    → Spelled (number + 1) rest before group out) where
  spelled_outside : (before : List Applied) (kind : LineKind) → IsKind line kind
      → onward (reading_outside_group number kind before []) (read_from (number + 1) rest) ≡ Ok out
      → SpellsOn number (line ∷ rest) before out
  spelled_outside before nothing is h =
      let more = next before None h in
      record { items = more.items; same = more.same; is_script = skips is more.is_script }
  spelled_outside before begin is h =
      let more = next before (Some (group_at_line number)) h in
      let item = group_of number more.changes more.numbers in
      let here : number + 1 + 1 + length more.inner ≡ number + 2 + length more.inner =
      omega arith in
      let grouped : IsScript number (line ∷ (more.inner ++ more.last ∷ more.rest))
      (item ∷ more.items) =
      groups is more.is_body more.ends (rw here at more.is_script) in
      record {
        items = item ∷ more.items;
        same = more.same;
        is_script = rw (← more.parts) at grouped;
      }
  spelled_outside before end is h = cc
  spelled_outside before (edit change) is h =
      let more = next (before ++ single number change ∷ []) None h in
      record {
        items = single number change ∷ more.items;
        same = sym (followed before (single number change) more.items) ∙ more.same;
        is_script = spells is more.is_script;
      }
  spelled_outside before (nonsense flaw) is h = cc

  spelled_inside : (before : List Applied) (group : Applied) (kind : LineKind) → IsKind line kind
      → onward (reading_in_group number kind before group []) (read_from (number + 1) rest)
      ≡ Ok out
      → SpellsOnIn number (line ∷ rest) before group out
  spelled_inside before group nothing is h =
      let more = next before (Some group) h in
      let here : number + 1 + 1 + length more.inner ≡ number + 1 + length (line ∷ more.inner) =
      omega arith in
      record {
        inner = line ∷ more.inner;
        last = more.last;
        rest = more.rest;
        changes = more.changes;
        numbers = more.numbers;
        items = more.items;
        parts = ap (λ ls. line ∷ ls) more.parts;
        is_body = body_skips is more.is_body;
        ends = more.ends;
        is_script = rw here at more.is_script;
        same = more.same;
      }
  spelled_inside before group begin is h = cc
  spelled_inside before group end is h =
      let more = next (before ++ guarded_by [] group ∷ []) None h in
      let here : number + 1 ≡ number + 1 + 0 = omega arith in
      record {
        inner = [];
        last = line;
        rest = rest;
        changes = [];
        numbers = [];
        items = more.items;
        parts = refl;
        is_body = body_done;
        ends = is;
        is_script = rw here at more.is_script;
        same = ap (λ g. before ++ g ∷ more.items) (extended_none group)
            ∙ sym (followed before (guarded_by [] group) more.items) ∙ more.same;
      }
  spelled_inside before group (edit change) is h =
      let more = next before (Some (group_with_change group number change)) h in
      let here : number + 1 + 1 + length more.inner ≡ number + 1 + length (line ∷ more.inner) =
      omega arith in
      record {
        inner = line ∷ more.inner;
        last = more.last;
        rest = more.rest;
        changes = change ∷ more.changes;
        numbers = number ∷ more.numbers;
        items = more.items;
        parts = ap (λ ls. line ∷ ls) more.parts;
        is_body = body_spells is more.is_body;
        ends = more.ends;
        is_script = rw here at more.is_script;
        same = ap (λ g. before ++ g ∷ more.items)
            (sym (extended_joined group number change more.changes more.numbers)) ∙ more.same;
      }
  spelled_inside before group (nonsense flaw) is h = cc

read_spelled : (whole : List (List ℕ)) (number : ℕ) (before : List Applied) (group : Option Applied)
    (out : List Applied) → read_from number whole before group [] ≡ Ok out
    → Spelled number whole before group out
read_spelled [] number before None out h =
    let same : before ≡ out = cc in
    record { items = []; same = append-nil before ∙ same; is_script = done }
read_spelled [] number before (Some group) out h = cc
read_spelled (line ∷ rest) number before None out h =
    spelled_outside number line rest out (λ b g. read_spelled rest (number + 1) b g out) before
    (kind_of_script_line line) (IsKind-kind_of_script_line line) h
read_spelled (line ∷ rest) number before (Some group) out h =
    spelled_inside number line rest out (λ b g. read_spelled rest (number + 1) b g out) before group
    (kind_of_script_line line) (IsKind-kind_of_script_line line) h

pub IsScript-read_from : (whole : List (List ℕ)) (items : List Applied)
    → read_from 1 whole [] None [] ≡ Ok items → IsScript 1 whole items
IsScript-read_from whole items is =
    let spelled = read_spelled whole 1 [] None items is in
    rw spelled.same at spelled.is_script

pub IsScript-script_of : (text : List ℕ) (items : List Applied) → script_of text ≡ Ok items
    → IsScript 1 (lines text) items
IsScript-script_of text items is = IsScript-read_from (lines text) items is

-- what is promised of an answer that is what reading gives
abbrev IsAnswer : List ℕ → Result Script ScriptRefusal → Type 0
IsAnswer text answer =
    MatchResult answer (λ script. script_of text ≡ Ok (items_of script.items))
    (λ fault. IsFaultOf fault (script_of text))

pub answer_spelled : (text : List ℕ) (answer : Result Script ScriptRefusal) → IsAnswer text answer
    → IfOk answer (λ script. IsScript 1 (lines text) (items_of script.items))
answer_spelled text (Ok script) is = IsScript-script_of text (items_of script.items) is
answer_spelled text (Err fault) is = tt

pub answer_alone : (text : List ℕ) (answer : Result Script ScriptRefusal) → IsAnswer text answer
    → IfOk answer (λ script. (items : List Applied) → IsScript 1 (lines text) items
    → items ≡ items_of script.items)
answer_alone text (Ok script) is = λ items spelled. let other = script_of-only text items spelled in
    cc
answer_alone text (Err fault) is = tt

pub answer_none : (text : List ℕ) (answer : Result Script ScriptRefusal) → IsAnswer text answer
    → IfErr answer (λ fault. (fault ≡ Memory)
    ⊎ ((items : List Applied) → ¬ IsScript 1 (lines text) items))
answer_none text (Ok script) is = tt
answer_none text (Err Memory) is = inl refl
answer_none text (Err (Malformed number flaw)) is =
    inr (λ items spelled. let other = script_of-only text items spelled in cc)

pub ruleset answers = (answer_spelled, answer_alone, answer_none)
