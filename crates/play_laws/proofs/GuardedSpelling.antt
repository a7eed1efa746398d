-- The lines of a script with guards spell by the grammar what reading it gives.
use Rattle.std.proofs.Common.{◌≡◌, ℕ, ◌+◌, List, [], ◌∷◌, ◌++◌, length, Option, Some, None, Ok}
use Rattle.std.proofs.Common.{codes, IsTrue, refl, sym, ap, ◌∙◌, subst, append_assoc, append-nil}
use Rattle.std.specs.Str.Lines.{lines}
use Rattle.std.proofs.lemmas.List.{length_push}
use Rattle.base_lines.specs.LogLine.{is_skipped}
use Rattle.replay_edits.specs.Edit.{Change}
use Rattle.replay_scripts.proofs.ExpectedLines.{guards_are_spelled}
use Rattle.replay_scripts.proofs.Lines.{IsKind-kind_of_script_line}
use Rattle.replay_scripts.specs.Guards.{guarded_script_of, read_guarded_from, unguarded_line}
use Rattle.replay_scripts.specs.Guards.{with_expected}
use Rattle.replay_scripts.specs.Line.{LineKind, nothing, begin, end, edit, nonsense, IsExpected}
use Rattle.replay_scripts.specs.Line.{IsKind, IsWord, expected_in, kind_of_script_line}
use Rattle.replay_scripts.specs.Script.{Applied, Expectation, group_at_line, group_of}
use Rattle.replay_scripts.specs.Script.{group_with_change, guarded_by, onward, reading_in_group}
use Rattle.replay_scripts.specs.Script.{reading_after_line, reading_outside_group, single}
use Rattle.play_laws.specs.GuardLaws.{guard_on_line, GuardsBelongToItems, IsGuardedLead, lead_done}
use Rattle.play_laws.specs.GuardLaws.{lead_skips, lead_guards, IsGuardedBody, inner_done}
use Rattle.play_laws.specs.GuardLaws.{inner_skips, inner_guards, inner_spells, IsGuardedScript}
use Rattle.play_laws.specs.GuardLaws.{script_done, script_spells, script_groups}
use Rattle.play_laws.proofs.GuardedLines.{blank_kind}
use Rattle.play_laws.proofs.GuardedReading.{extended, extended_none, extended_joined}
use Rattle.play_laws.proofs.GuardedReading.{guarded_script_of-spelled, guards_followed}
use Rattle.play_laws.proofs.GuardedReading.{items_followed}

-- one more line that leads an item
lead_more_skipped : {number next : ℕ} {lead : List (List ℕ)} {guards : List Expectation}
    → IsGuardedLead number next lead guards → (line : List ℕ) → IsTrue (is_skipped line)
    → IsGuardedLead number (next + 1) (lead ++ line ∷ []) guards
lead_more_skipped lead_done line skipped = lead_skips skipped lead_done
lead_more_skipped (lead_skips is more) line skipped =
    lead_skips is (lead_more_skipped more line skipped)
lead_more_skipped (lead_guards is more) line skipped =
    lead_guards is (lead_more_skipped more line skipped)

lead_more_guarded : {number next : ℕ} {lead : List (List ℕ)} {guards : List Expectation}
    → IsGuardedLead number next lead guards → (line : List ℕ) (place : ℕ) (text : List ℕ)
    → IsExpected line place text
    → IsGuardedLead number (next + 1) (lead ++ line ∷ [])
    (guards ++ guard_on_line next place text 0 ∷ [])
lead_more_guarded lead_done line place text spelled = lead_guards spelled lead_done
lead_more_guarded (lead_skips is more) line place text spelled =
    lead_skips is (lead_more_guarded more line place text spelled)
lead_more_guarded (lead_guards is more) line place text spelled =
    lead_guards is (lead_more_guarded more line place text spelled)

-- the lines spell these items after any that lead them with these guards
record SpellsAfterLead (number : ℕ) (whole : List (List ℕ)) (before : List Applied)
    (held : List Expectation) (out : List Applied) : Type 0 where
  items : List Applied
  same : before ++ items ≡ out
  is_script : (start : ℕ) (lead : List (List ℕ)) → IsGuardedLead start number lead held
      → IsGuardedScript start (lead ++ whole) items

-- the lines end the group and spell the items after it
record SpellsAfterBody (number : ℕ) (whole : List (List ℕ)) (before : List Applied)
    (group : Applied) (held : List Expectation) (out : List Applied) : Type 0 where
  inner : List (List ℕ)
  last : List ℕ
  last_number : ℕ
  rest : List (List ℕ)
  changes : List Change
  numbers : List ℕ
  guards : List Expectation
  items : List Applied
  parts : whole ≡ inner ++ last ∷ rest
  is_body : IsGuardedBody number last_number (length group.changes) inner changes numbers guards
  ends : IsWord (codes "end") last
  is_script : IsGuardedScript (last_number + 1) rest items
  same : before ++ guarded_by (held ++ guards) (extended group changes numbers) ∷ items ≡ out

abbrev Spelled : ℕ → List (List ℕ) → List Applied → Option Applied → List Expectation
    → List Applied → Type 0
Spelled number whole before None held out = SpellsAfterLead number whole before held out
Spelled number whole before (Some group) held out =
    SpellsAfterBody number whole before group held out

module _ (number : ℕ) (line : List ℕ) (rest : List (List ℕ)) (out : List Applied)
    (next : (before : List Applied) (group : Option Applied) (held : List Expectation)
    → read_guarded_from (number + 1) rest before group held ≡ Ok out
    → Spelled (number + 1) rest before group held out) where
  guard_outside : (before : List Applied) (held : List Expectation) (place : ℕ) (text : List ℕ)
      → IsExpected line place text
      → read_guarded_from (number + 1) rest before None
      (held ++ guard_on_line number place text 0 ∷ []) ≡ Ok out
      → SpellsAfterLead number (line ∷ rest) before held out
  guard_outside before held place text spelled h =
      let more = next before None (held ++ guard_on_line number place text 0 ∷ []) h in
      record {
        items = more.items;
        same = more.same;
        is_script = λ start lead leads.
            subst (λ whole. IsGuardedScript start whole more.items)
            (append_assoc lead (line ∷ []) rest)
            (more.is_script start (lead ++ line ∷ [])
            (lead_more_guarded leads line place text spelled));
      }

  plain_outside : (before : List Applied) (held : List Expectation) (kind : LineKind)
      → IsKind line kind
      → onward (reading_outside_group number kind before held) (read_guarded_from (number + 1) rest)
      ≡ Ok out
      → SpellsAfterLead number (line ∷ rest) before held out
  plain_outside before held nothing is h =
      let more = next before None held h in
      record {
        items = more.items;
        same = more.same;
        is_script = λ start lead leads.
            subst (λ whole. IsGuardedScript start whole more.items)
            (append_assoc lead (line ∷ []) rest)
            (more.is_script start (lead ++ line ∷ []) (lead_more_skipped leads line is));
      }
  plain_outside before held begin is h =
      let more = next before (Some (group_at_line number)) held h in
      let item = guarded_by (held ++ more.guards) (group_of number more.changes more.numbers) in
      record {
        items = item ∷ more.items;
        same = more.same;
        is_script = λ start lead leads.
            subst (λ whole. IsGuardedScript start (lead ++ line ∷ whole) (item ∷ more.items))
            (sym more.parts) (script_groups leads is more.is_body more.ends more.is_script);
      }
  plain_outside before held end is h = cc
  plain_outside before held (edit change) is h =
      let item = guarded_by held (single number change) in
      let more = next (before ++ item ∷ []) None [] h in
      record {
        items = item ∷ more.items;
        same = sym (items_followed before item more.items) ∙ more.same;
        is_script = λ start lead leads.
            script_spells line leads is (more.is_script (number + 1) [] lead_done);
      }
  plain_outside before held (nonsense flaw) is h = cc

  guard_inside : (before : List Applied) (group : Applied) (held : List Expectation) (place : ℕ)
      (text : List ℕ)
      → IsExpected line place text
      → read_guarded_from (number + 1) rest before (Some group)
      (held ++ guard_on_line number place text (length group.changes) ∷ []) ≡ Ok out
      → SpellsAfterBody number (line ∷ rest) before group held out
  guard_inside before group held place text spelled h =
      let guard = guard_on_line number place text (length group.changes) in
      let more = next before (Some group) (held ++ guard ∷ []) h in
      record {
        inner = line ∷ more.inner;
        last = more.last;
        last_number = more.last_number;
        rest = more.rest;
        changes = more.changes;
        numbers = more.numbers;
        guards = guard ∷ more.guards;
        items = more.items;
        parts = ap (λ ls. line ∷ ls) more.parts;
        is_body = inner_guards spelled more.is_body;
        ends = more.ends;
        is_script = more.is_script;
        same = ap (λ guards.
            before ++ guarded_by guards (extended group more.changes more.numbers) ∷ more.items)
            (sym (guards_followed held guard more.guards)) ∙ more.same;
      }

  plain_inside : (before : List Applied) (group : Applied) (held : List Expectation)
      (kind : LineKind) → IsKind line kind
      → onward (reading_in_group number kind before group held)
      (read_guarded_from (number + 1) rest) ≡ Ok out
      → SpellsAfterBody number (line ∷ rest) before group held out
  plain_inside before group held nothing is h =
      let more = next before (Some group) held h in
      record {
        inner = line ∷ more.inner;
        last = more.last;
        last_number = more.last_number;
        rest = more.rest;
        changes = more.changes;
        numbers = more.numbers;
        guards = more.guards;
        items = more.items;
        parts = ap (λ ls. line ∷ ls) more.parts;
        is_body = inner_skips is more.is_body;
        ends = more.ends;
        is_script = more.is_script;
        same = more.same;
      }
  plain_inside before group held begin is h = cc
  plain_inside before group held end is h =
      let item = guarded_by held group in
      let more = next (before ++ item ∷ []) None [] h in
      record {
        inner = [];
        last = line;
        last_number = number;
        rest = rest;
        changes = [];
        numbers = [];
        guards = [];
        items = more.items;
        parts = refl;
        is_body = inner_done;
        ends = is;
        is_script = more.is_script (number + 1) [] lead_done;
        same = ap (λ guards.
            before ++ guarded_by guards (extended group [] []) ∷ more.items) (append-nil held)
            ∙ ap (λ now. before ++ guarded_by held now ∷ more.items) (extended_none group)
            ∙ sym (items_followed before item more.items) ∙ more.same;
      }
  plain_inside before group held (edit change) is h =
      let more = next before (Some (group_with_change group number change)) held h in
      record {
        inner = line ∷ more.inner;
        last = more.last;
        last_number = more.last_number;
        rest = more.rest;
        changes = change ∷ more.changes;
        numbers = number ∷ more.numbers;
        guards = more.guards;
        items = more.items;
        parts = ap (λ ls. line ∷ ls) more.parts;
        is_body = inner_spells is
            (subst (λ made. IsGuardedBody (number + 1) more.last_number made more.inner more.changes
            more.numbers more.guards) (length_push group.changes change) more.is_body);
        ends = more.ends;
        is_script = more.is_script;
        same = ap (λ now. before ++ guarded_by (held ++ more.guards) now ∷ more.items)
            (sym (extended_joined group number change more.changes more.numbers)) ∙ more.same;
      }
  plain_inside before group held (nonsense flaw) is h = cc

  by_line : (before : List Applied) (group : Option Applied) (held : List Expectation)
      (found : Option (ℕ × List ℕ)) → expected_in line ≡ found
      → onward (reading_after_line number (kind_of_script_line (unguarded_line found line)) before
      group (with_expected number found group held)) (read_guarded_from (number + 1) rest) ≡ Ok out
      → Spelled number (line ∷ rest) before group held out
  by_line before None held None e h =
      plain_outside before held (kind_of_script_line line) (IsKind-kind_of_script_line line) h
  by_line before (Some group) held None e h =
      plain_inside before group held (kind_of_script_line line) (IsKind-kind_of_script_line line) h
  by_line before None held (Some (place, text)) e h =
      guard_outside before held place text ((guards_are_spelled line place text).0 e)
      (rw blank_kind at h)
  by_line before (Some group) held (Some (place, text)) e h =
      guard_inside before group held place text ((guards_are_spelled line place text).0 e)
      (rw blank_kind at h)

read_spelled : (whole : List (List ℕ)) (number : ℕ) (before : List Applied) (group : Option Applied)
    (held : List Expectation) (out : List Applied)
    → read_guarded_from number whole before group held ≡ Ok out
    → Spelled number whole before group held out
read_spelled [] number before None [] out h =
    let same : before ≡ out = cc in
    record {
      items = [];
      same = append-nil before ∙ same;
      is_script = λ start lead leads.
          subst (λ whole. IsGuardedScript start whole []) (sym (append-nil lead))
          (script_done leads);
    }
read_spelled [] number before None (guard ∷ held) out h = cc
read_spelled [] number before (Some group) held out h = cc
read_spelled (line ∷ rest) number before group held out h =
    by_line number line rest out (λ b g more. read_spelled rest (number + 1) b g more out) before
    group held (expected_in line) refl h

-- what is read of a script is what its lines spell
IsGuardedScript-guarded_script_of : (text : List ℕ) (items : List Applied)
    → guarded_script_of text ≡ Ok items → IsGuardedScript 1 (lines text) items
IsGuardedScript-guarded_script_of text items is =
    let spelled = read_spelled (lines text) 1 [] None [] items is in
    rw spelled.same at (spelled.is_script 1 [] lead_done)

pub guards_belong_to_items : GuardsBelongToItems
guards_belong_to_items text items =
    (IsGuardedScript-guarded_script_of text items, guarded_script_of-spelled text items)
