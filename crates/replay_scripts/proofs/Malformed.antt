-- A refusal names the first malformed line.
use Rattle.std.proofs.Common.{◌≡◌, ℕ, ◌+◌, List, [], ◌∷◌, ◌++◌, length, Option, Some, None, Result}
use Rattle.std.proofs.Common.{Ok, Err, MatchResult, IfErr, codes, refl, sym, ap, subst, ◌∙◌, ◌⊎◌}
use Rattle.std.proofs.Common.{inl, inr, append_assoc, length-append, arith}
use Rattle.std.specs.Str.Lines.{lines}
use Rattle.replay_edits.specs.Edit.{Change}
use Rattle.replay_scripts.specs.declared.fault.ScriptFlaw.{ScriptFlaw}
use Rattle.replay_scripts.specs.declared.fault.ScriptFlaw.TheVariants.{NoEdit, BeginInGroup}
use Rattle.replay_scripts.specs.declared.fault.ScriptFlaw.TheVariants.{EndOutsideGroup, NoEnd}
use Rattle.replay_scripts.specs.declared.fault.ScriptFlaw.TheVariants.{NoneGuarded}
use Rattle.replay_scripts.specs.declared.fault.ScriptRefusal.{ScriptRefusal}
use Rattle.replay_scripts.specs.declared.fault.ScriptRefusal.TheVariants.{Malformed, Memory}
use Rattle.replay_scripts.specs.declared.script.Script.{Script}
use Rattle.replay_scripts.specs.Line.{LineKind, nothing, begin, end, edit, nonsense, IsKind, IsWord}
use Rattle.replay_scripts.specs.Line.{kind_of_script_line}
use Rattle.replay_scripts.specs.Script.{Applied, group_of, group_at_line, group_with_change, single}
use Rattle.replay_scripts.specs.Script.{guarded_by, IsBody, body_done, body_skips, body_spells}
use Rattle.replay_scripts.specs.Script.{IsScript, done, skips, spells, groups, reading_in_group}
use Rattle.replay_scripts.specs.Script.{onward, reading_outside_group, read_from, script_of}
use Rattle.replay_scripts.specs.Malformed.{IsFirstMalformed, IsMalformedAt, IsOpen, AreWholeItems}
use Rattle.replay_scripts.specs.Malformed.{IsLineAt}
use Rattle.replay_scripts.specs.Views.{IsFaultOf, items_of}
use Rattle.replay_scripts.proofs.Lines.{IsKind-kind_of_script_line}

-- ---- after well-formed lines

module _ (number : ℕ) (piece : List (List ℕ)) (grow : (whole : List (List ℕ))
    → AreWholeItems (number + length piece) whole → AreWholeItems number (piece ++ whole)) where
  open_after : (whole : List (List ℕ)) (since : ℕ) → IsOpen (number + length piece) whole since
      → IsOpen number (piece ++ whole) since
  open_after whole since is =
      let here : since ≡ number + length (piece ++ is.before) =
      omega (arith, is.here, length-append piece is.before) in
      record {
        before = piece ++ is.before;
        first = is.first;
        inner = is.inner;
        changes = is.changes;
        numbers = is.numbers;
        parts = ap (λ ls. piece ++ ls) is.parts
            ∙ sym (append_assoc piece is.before (is.first ∷ is.inner));
        here = here;
        is_whole = grow is.before is.is_whole;
        begins = is.begins;
        is_body = is.is_body;
      }

  at_behind : (whole : List (List ℕ)) (at : ℕ) (before : List (List ℕ)) (line : List ℕ)
      → IsLineAt (number + length piece) whole at before line
      → IsLineAt number (piece ++ whole) at (piece ++ before) line
  at_behind whole at before line is =
      let here : at ≡ number + length (piece ++ before) =
      omega (arith, is.here, length-append piece before) in
      record {
        rest = is.rest;
        parts = ap (λ ls. piece ++ ls) is.parts
            ∙ sym (append_assoc piece before (line ∷ is.rest));
        here = here;
      }

  behind : (whole : List (List ℕ)) (at : ℕ) (flaw : ScriptFlaw)
      → IsMalformedAt (number + length piece) whole at flaw
      → IsMalformedAt number (piece ++ whole) at flaw
  behind whole at (NoEdit _) (before, line, stands, kind, inl is) =
      (piece ++ before, line, at_behind whole at before line stands, kind, inl (grow before is))
  behind whole at (NoEdit _) (before, line, stands, kind, inr (since, is)) = (
    piece ++ before,
    line,
    at_behind whole at before line stands,
    kind,
    inr (since, open_after before since is),
  )
  behind whole at BeginInGroup (before, line, stands, kind, (since, is)) = (
    piece ++ before,
    line,
    at_behind whole at before line stands,
    kind,
    (since, open_after before since is),
  )
  behind whole at EndOutsideGroup (before, line, stands, kind, is) =
      (piece ++ before, line, at_behind whole at before line stands, kind, grow before is)
  behind whole at NoEnd is = open_after whole at is
  behind whole at NoneGuarded is = is

-- after one line that is skipped or spells a change
module _ (number : ℕ) (line : List ℕ)
    (grow : (whole : List (List ℕ)) → AreWholeItems (number + 1) whole
    → AreWholeItems number (line ∷ whole)) where
  after_line : (whole : List (List ℕ)) (at : ℕ) (flaw : ScriptFlaw)
      → IsMalformedAt (number + 1) whole at flaw → IsMalformedAt number (line ∷ whole) at flaw
  after_line whole at flaw is = behind number (line ∷ []) grow whole at flaw is

skip_grows : (number : ℕ) (line : List ℕ) → IsKind line nothing → (whole : List (List ℕ))
    → AreWholeItems (number + 1) whole → AreWholeItems number (line ∷ whole)
skip_grows number line skipped whole is =
    record { items = is.items; is_script = skips skipped is.is_script }

edit_grows : (number : ℕ) (line : List ℕ) (change : Change) → IsKind line (edit change)
    → (whole : List (List ℕ)) → AreWholeItems (number + 1) whole
    → AreWholeItems number (line ∷ whole)
edit_grows number line change spelled whole is =
    record { items = single number change ∷ is.items; is_script = spells spelled is.is_script }

-- ---- within a group

record IsInner (number : ℕ) (inner : List (List ℕ)) : Type 0 where
  changes : List Change
  numbers : List ℕ
  is_body : IsBody number inner changes numbers

inner_skips : (number : ℕ) (line : List ℕ) (inner : List (List ℕ)) → IsKind line nothing
    → IsInner (number + 1) inner → IsInner number (line ∷ inner)
inner_skips number line inner skipped is =
    record { changes = is.changes; numbers = is.numbers; is_body = body_skips skipped is.is_body }

inner_spells : (number : ℕ) (line : List ℕ) (inner : List (List ℕ)) (change : Change)
    → IsKind line (edit change) → IsInner (number + 1) inner → IsInner number (line ∷ inner)
inner_spells number line inner change spelled is =
    record {
      changes = change ∷ is.changes;
      numbers = number ∷ is.numbers;
      is_body = body_spells spelled is.is_body;
    }

no_inner : (number : ℕ) → IsInner number []
no_inner number = record { changes = []; numbers = []; is_body = body_done }

-- the group that began on the line of number `since` has the flaw
abbrev FailsIn : ℕ → ℕ → List (List ℕ) → ℕ → ScriptFlaw → Type 0
FailsIn since number whole at (NoEdit flaw) = (inner : List (List ℕ)) × (line : List ℕ)
    × IsLineAt number whole at inner line × IsKind line (nonsense flaw) × IsInner number inner
FailsIn since number whole at BeginInGroup = (inner : List (List ℕ)) × (line : List ℕ)
    × IsLineAt number whole at inner line × IsWord (codes "begin") line × IsInner number inner
FailsIn since number whole at EndOutsideGroup = ⊥
FailsIn since number whole at NoEnd = IsInner number whole × (at ≡ since)
FailsIn since number whole at NoneGuarded = ⊥

-- the group is closed, and the flaw comes later
record FailsLater (number : ℕ) (whole : List (List ℕ)) (at : ℕ) (flaw : ScriptFlaw) : Type 0 where
  inner : List (List ℕ)
  last : List ℕ
  rest : List (List ℕ)
  parts : whole ≡ inner ++ last ∷ rest
  is_inner : IsInner number inner
  ends : IsWord (codes "end") last
  malformed : IsMalformedAt (number + 1 + length inner) rest at flaw

abbrev Fails : ℕ → ℕ → List (List ℕ) → ℕ → ScriptFlaw → Type 0
Fails since number whole at flaw = FailsIn since number whole at flaw
    ⊎ FailsLater number whole at flaw

module _ (since number : ℕ) (line : List ℕ) (grow : (inner : List (List ℕ))
    → IsInner (number + 1) inner → IsInner number (line ∷ inner)) where
  at_next : (whole : List (List ℕ)) (at : ℕ) (inner : List (List ℕ)) (bad : List ℕ)
      → IsLineAt (number + 1) whole at inner bad
      → IsLineAt number (line ∷ whole) at (line ∷ inner) bad
  at_next whole at inner bad is =
      let here : at ≡ number + length (line ∷ inner) = omega (arith, is.here) in
      record { rest = is.rest; parts = ap (λ ls. line ∷ ls) is.parts; here = here }

  fails_in_next : (whole : List (List ℕ)) (at : ℕ) (flaw : ScriptFlaw)
      → FailsIn since (number + 1) whole at flaw → FailsIn since number (line ∷ whole) at flaw
  fails_in_next whole at (NoEdit _) (inner, bad, stands, kind, is) =
      (line ∷ inner, bad, at_next whole at inner bad stands, kind, grow inner is)
  fails_in_next whole at BeginInGroup (inner, bad, stands, kind, is) =
      (line ∷ inner, bad, at_next whole at inner bad stands, kind, grow inner is)
  fails_in_next whole at EndOutsideGroup is = is
  fails_in_next whole at NoEnd (is, same) = (grow whole is, same)
  fails_in_next whole at NoneGuarded is = is

  fails_next : (whole : List (List ℕ)) (at : ℕ) (flaw : ScriptFlaw)
      → Fails since (number + 1) whole at flaw → Fails since number (line ∷ whole) at flaw
  fails_next whole at flaw (inl is) = inl (fails_in_next whole at flaw is)
  fails_next whole at flaw (inr is) =
      let here : number + 1 + 1 + length is.inner ≡ number + 1 + length (line ∷ is.inner) =
      omega arith in
      inr (record {
        inner = line ∷ is.inner;
        last = is.last;
        rest = is.rest;
        parts = ap (λ ls. line ∷ ls) is.parts;
        is_inner = grow is.inner is.is_inner;
        ends = is.ends;
        malformed = subst (λ n. IsMalformedAt n is.rest at flaw) here is.malformed;
      })

-- ---- from the group's first line

module _ (number : ℕ) (first : List ℕ) (begins : IsWord (codes "begin") first) where
  opened : (inner : List (List ℕ)) → IsInner (number + 1) inner
      → IsOpen number (first ∷ inner) number
  opened inner is =
      let here : number ≡ number + 0 = omega arith in
      record {
        before = [];
        first = first;
        inner = inner;
        changes = is.changes;
        numbers = is.numbers;
        parts = refl;
        here = here;
        is_whole = record { items = []; is_script = done };
        begins = begins;
        is_body = is.is_body;
      }

  at_first : (whole : List (List ℕ)) (at : ℕ) (inner : List (List ℕ)) (bad : List ℕ)
      → IsLineAt (number + 1) whole at inner bad
      → IsLineAt number (first ∷ whole) at (first ∷ inner) bad
  at_first whole at inner bad is =
      let here : at ≡ number + length (first ∷ inner) = omega (arith, is.here) in
      record { rest = is.rest; parts = ap (λ ls. first ∷ ls) is.parts; here = here }

  malformed_in : (whole : List (List ℕ)) (at : ℕ) (flaw : ScriptFlaw)
      → FailsIn number (number + 1) whole at flaw → IsMalformedAt number (first ∷ whole) at flaw
  malformed_in whole at (NoEdit _) (inner, bad, stands, kind, is) =
      (first ∷ inner, bad, at_first whole at inner bad stands, kind, inr (number, opened inner is))
  malformed_in whole at BeginInGroup (inner, bad, stands, kind, is) =
      (first ∷ inner, bad, at_first whole at inner bad stands, kind, (number, opened inner is))
  malformed_in whole at EndOutsideGroup is = absurd is
  malformed_in whole at NoEnd (is, same) = rw same (opened whole is)
  malformed_in whole at NoneGuarded is = absurd is

  group_grows : (inner : List (List ℕ)) (last : List ℕ) → IsInner (number + 1) inner
      → IsWord (codes "end") last
      → (whole : List (List ℕ))
      → AreWholeItems (number + length (first ∷ (inner ++ last ∷ []))) whole
      → AreWholeItems number ((first ∷ (inner ++ last ∷ [])) ++ whole)
  group_grows inner last is ends whole more =
      let here : number + length (first ∷ (inner ++ last ∷ [])) ≡ number + 2 + length inner =
      omega (arith, length-append inner (last ∷ [])) in
      let grouped : IsScript number (first ∷ (inner ++ last ∷ whole))
      (group_of number is.changes is.numbers ∷ more.items) =
      groups begins is.is_body ends (rw here at more.is_script) in
      let joins : inner ++ last ∷ whole ≡ (inner ++ last ∷ []) ++ whole =
      sym (append_assoc inner (last ∷ []) whole) in
      record {
        items = group_of number is.changes is.numbers
            ∷ more.items;
        is_script = rw joins at grouped;
      }

  malformed_group : (whole : List (List ℕ)) (at : ℕ) (flaw : ScriptFlaw)
      → Fails number (number + 1) whole at flaw → IsMalformedAt number (first ∷ whole) at flaw
  malformed_group whole at flaw (inl is) = malformed_in whole at flaw is
  malformed_group whole at flaw (inr is) =
      let here : number + 1 + 1 + length is.inner
      ≡ number + length (first ∷ (is.inner ++ is.last ∷ [])) =
      omega (arith, length-append is.inner (is.last ∷ [])) in
      let joins : (first ∷ (is.inner ++ is.last ∷ [])) ++ is.rest ≡ first ∷ whole =
      ap (λ ls. first ∷ ls) (append_assoc is.inner (is.last ∷ []) is.rest ∙ sym is.parts) in
      subst (λ ls. IsMalformedAt number ls at flaw) joins
      (behind number (first ∷ (is.inner ++ is.last ∷ []))
      (group_grows is.inner is.last is.is_inner is.ends) is.rest at flaw
      (subst (λ n. IsMalformedAt n is.rest at flaw) here is.malformed))

-- ---- line by line

abbrev Failed : ℕ → List (List ℕ) → Option Applied → ℕ → ScriptFlaw → Type 0
Failed number whole None at flaw = IsMalformedAt number whole at flaw
Failed number whole (Some group) at flaw = Fails group.line number whole at flaw

abbrev malformed : ℕ → ScriptFlaw → Result (List Applied) ScriptRefusal
malformed at flaw = Err (Malformed at flaw)

same_fault : (number at : ℕ) (flaw given : ScriptFlaw) → malformed number given ≡ malformed at flaw
    → (at ≡ number) × (given ≡ flaw)
same_fault number at flaw given same =
    let at_is : at ≡ number = cc in
    let flaw_is : given ≡ flaw = cc in
    (at_is, flaw_is)

stands_first : (number : ℕ) (line : List ℕ) (rest : List (List ℕ)) (at : ℕ) → at ≡ number
    → IsLineAt number (line ∷ rest) at [] line
stands_first number line rest at same =
    let here : at ≡ number + 0 = omega arith in record { rest = rest; parts = refl; here = here }

whole_none : (number : ℕ) → AreWholeItems number []
whole_none number = record { items = []; is_script = done }

module _ (number : ℕ) (line : List ℕ) (rest : List (List ℕ)) (at : ℕ) (flaw : ScriptFlaw)
    (next : (before : List Applied) (group : Option Applied)
    → read_from (number + 1) rest before group [] ≡ malformed at flaw
    → Failed (number + 1) rest group at flaw) where
  failed_outside : (before : List Applied) (kind : LineKind) → IsKind line kind
      → onward (reading_outside_group number kind before []) (read_from (number + 1) rest)
      ≡ malformed at flaw
      → IsMalformedAt number (line ∷ rest) at flaw
  failed_outside before nothing is h =
      after_line number line (skip_grows number line is) rest at flaw (next before None h)
  failed_outside before begin is h =
      malformed_group number line is rest at flaw (next before (Some (group_at_line number)) h)
  failed_outside before end is h =
      let same = same_fault number at flaw EndOutsideGroup h in
      subst (IsMalformedAt number (line ∷ rest) at) same.1
      ([], line, stands_first number line rest at same.0, is, whole_none number)
  failed_outside before (edit change) is h =
      after_line number line (edit_grows number line change is) rest at flaw
      (next (before ++ single number change ∷ []) None h)
  failed_outside before (nonsense wrong) is h =
      let same = same_fault number at flaw (NoEdit wrong) h in
      subst (IsMalformedAt number (line ∷ rest) at) same.1
      ([], line, stands_first number line rest at same.0, is, inl (whole_none number))

  failed_inside : (before : List Applied) (group : Applied) (kind : LineKind) → IsKind line kind
      → onward (reading_in_group number kind before group []) (read_from (number + 1) rest)
      ≡ malformed at flaw → Fails group.line number (line ∷ rest) at flaw
  failed_inside before group nothing is h =
      fails_next group.line number line (λ inner. inner_skips number line inner is) rest at flaw
      (next before (Some group) h)
  failed_inside before group begin is h =
      let same = same_fault number at flaw BeginInGroup h in
      inl (subst (FailsIn group.line number (line ∷ rest) at) same.1
      ([], line, stands_first number line rest at same.0, is, no_inner number))
  failed_inside before group end is h =
      let here : number + 1 ≡ number + 1 + 0 = omega arith in
      inr (record {
        inner = [];
        last = line;
        rest = rest;
        parts = refl;
        is_inner = no_inner number;
        ends = is;
        malformed =
            subst (λ n. IsMalformedAt n rest at flaw) here
            (next (before ++ guarded_by [] group ∷ []) None h);
      })
  failed_inside before group (edit change) is h =
      fails_next group.line number line (λ inner. inner_spells number line inner change is) rest at
      flaw (next before (Some (group_with_change group number change)) h)
  failed_inside before group (nonsense wrong) is h =
      let same = same_fault number at flaw (NoEdit wrong) h in
      inl (subst (FailsIn group.line number (line ∷ rest) at) same.1
      ([], line, stands_first number line rest at same.0, is, no_inner number))

read_failed : (whole : List (List ℕ)) (number : ℕ) (before : List Applied) (group : Option Applied)
    (at : ℕ) (flaw : ScriptFlaw) → read_from number whole before group [] ≡ malformed at flaw
    → Failed number whole group at flaw
read_failed [] number before None at flaw h = cc
read_failed [] number before (Some group) at flaw h =
    let same = same_fault group.line at flaw NoEnd h in
    inl (subst (FailsIn group.line number [] at) same.1 (no_inner number, same.0))
read_failed (line ∷ rest) number before None at flaw h =
    failed_outside number line rest at flaw (λ b g. read_failed rest (number + 1) b g at flaw)
    before (kind_of_script_line line) (IsKind-kind_of_script_line line) h
read_failed (line ∷ rest) number before (Some group) at flaw h =
    failed_inside number line rest at flaw (λ b g. read_failed rest (number + 1) b g at flaw) before
    group (kind_of_script_line line) (IsKind-kind_of_script_line line) h

pub IsMalformedAt-read_from : (whole : List (List ℕ)) (at : ℕ) (flaw : ScriptFlaw)
    → read_from 1 whole [] None [] ≡ malformed at flaw → IsMalformedAt 1 whole at flaw
IsMalformedAt-read_from whole at flaw is = read_failed whole 1 [] None at flaw is

pub answer_first : (text : List ℕ) (answer : Result Script ScriptRefusal)
    → MatchResult answer (λ script. script_of text ≡ Ok (items_of script.items))
    (λ fault. IsFaultOf fault (script_of text)) → IfErr answer (IsFirstMalformed (lines text))
answer_first text (Ok script) is = tt
answer_first text (Err Memory) is = tt
answer_first text (Err (Malformed at flaw)) is = read_failed (lines text) 1 [] None at flaw is

pub ruleset firsts = (answer_first)
