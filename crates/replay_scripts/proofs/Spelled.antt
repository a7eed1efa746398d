-- The lines of groups are read back as the groups.
use Rattle.std.proofs.Common.{◌≡◌, ℕ, ◌+◌, ◌≤◌, List, [], ◌∷◌, ◌++◌, length, map, codes, All, sym}
use Rattle.std.proofs.Common.{ap, ap₂, ◌∙◌, refl, append_assoc, append-nil, true, Result, Ok}
use Rattle.std.specs.Prelude.{Bool, false, Option, None, Some}
use Rattle.std.specs.List.{flat_map, list_all}
use Rattle.std.specs.Str.Lines.{lines}
use Rattle.std.proofs.lemmas.List.{length-append}
use Rattle.std.proofs.lemmas.List.Elements.{All-append, All-cons, All-head, All-nil, All-tail}
use Rattle.base_lines.specs.LogLine.{is_skipped}
use Rattle.base_lines.specs.Line.{is_line_byte}
use Rattle.replay_edits.specs.Edit.{Change, inserts, deletes, replaces, reseeds}
use Rattle.replay_scripts.specs.Guards.{changes_so_far, read_guarded_from, script_by}
use Rattle.replay_scripts.specs.Line.{IsWord, Spells, begin, edit, end, expected_in}
use Rattle.replay_scripts.specs.Line.{kind_of_script_line, nothing, number_after_word}
use Rattle.replay_scripts.specs.Script.{Applied, Expectation, group_at_line, group_with_change}
use Rattle.replay_scripts.specs.Script.{guarded_by, read_from, single}
use Rattle.replay_scripts.specs.declared.fault.ScriptRefusal.{ScriptRefusal}
use Rattle.replay_scripts.proofs.ExpectedLines.{guards_are_spelled}
use Rattle.replay_scripts.proofs.GuardedGrammar.{IsScriptBy-script_by}
use Rattle.replay_scripts.proofs.Lines.{kind_of_script_line-only}
use Rattle.replay_scripts.specs.ScriptText.{Back, CanExpect, IsSpellable, ReadsBack, back_lines}
use Rattle.replay_scripts.specs.ScriptText.{change_line, end_at, group_lines, guard_lines}
use Rattle.replay_scripts.specs.ScriptText.{guards_at}
use Rattle.replay_scripts.specs.ScriptText.{guards_from, line_after, lines_from, number_after}
use Rattle.replay_scripts.specs.ScriptText.{number_in, script_text, spelled_item, spelled_items}
use Rattle.replay_scripts.proofs.Texts.{IsTextLine, lines-text, text-groups}
use Rattle.replay_scripts.proofs.SpelledLines.{guard_line, line_spells, line_stands, numbered}
use Rattle.replay_scripts.proofs.SpelledLines.{text_stands}

-- what the lines, numbered from `number` on, give after what was read, by whether some may be
-- guards
abbrev read_by : Bool → ℕ → List (List ℕ) → List Applied → Option Applied → List Expectation
    → Result (List Applied) ScriptRefusal
read_by false number whole items group guards = read_from number whole items group guards
read_by true number whole items group guards = read_guarded_from number whole items group guards

word_alone : (word : List ℕ) → IsWord word word
word_alone word = record { blanks = []; parts = sym (append-nil word); all_blank = refl }

begins : kind_of_script_line (codes "begin") ≡ begin
begins = kind_of_script_line-only (codes "begin") begin (word_alone (codes "begin"))

ends : kind_of_script_line (codes "end") ≡ end
ends = kind_of_script_line-only (codes "end") end (word_alone (codes "end"))

blank_line : kind_of_script_line [] ≡ nothing
unfolding is_skipped
blank_line = kind_of_script_line-only [] nothing refl

no_guard : (change : Change) → expected_in (change_line change) ≡ None
unfolding expected_in number_after_word
no_guard (inserts place line) = refl
no_guard (deletes place) = refl
no_guard (replaces place line) = refl
no_guard (reseeds seed) = refl

begin_no_guard : expected_in (codes "begin") ≡ None
unfolding expected_in number_after_word
begin_no_guard = refl

end_no_guard : expected_in (codes "end") ≡ None
unfolding expected_in number_after_word
end_no_guard = refl

guard_found : (place : ℕ) (line : List ℕ) → place ≤ 4294967295
    → expected_in (guard_line place line) ≡ Some (place, line)
guard_found place line fits =
    (guards_are_spelled (guard_line place line) place line).1
    (32 ∷ line, numbered (codes "expect") _ place (32 ∷ line) fits refl, (refl, refl))

-- a guard, if a line is expected
guard_read : (guarded : Bool) (number place : ℕ) (expected : Option (List ℕ))
    (rest : List (List ℕ)) (items : List Applied) (group : Option Applied)
    (guards : List Expectation) → place ≤ 4294967295 → CanExpect guarded expected
    → read_by guarded number (guard_lines place expected ++ rest) items group guards
    ≡ read_by guarded (line_after number expected) rest items group
    (guards ++ guards_at number (changes_so_far group) place expected)
guard_read guarded number place None rest items group guards fits can =
    ap (λ more. read_by guarded number rest items group more) (sym (append-nil guards))
guard_read false number place (Some line) rest items group guards fits can = absurd can
guard_read true number place (Some line) rest items None guards fits can =
    let found = guard_found place line fits in
    rw (found, blank_line) refl
guard_read true number place (Some line) rest items (Some group) guards fits can =
    let found = guard_found place line fits in
    rw (found, blank_line) refl

-- a change outside a group, and in one
alone_read : (guarded : Bool) (number : ℕ) (change : Change) (rest : List (List ℕ))
    (items : List Applied) (guards : List Expectation) → Spells (change_line change) change
    → read_by guarded number (change_line change ∷ rest) items None guards
    ≡ read_by guarded (number + 1) rest
    (items ++ guarded_by guards (single number change) ∷ []) None []
alone_read false number change rest items guards spelled =
    let kind = kind_of_script_line-only (change_line change) (edit change) spelled in
    rw kind refl
alone_read true number change rest items guards spelled =
    let kind = kind_of_script_line-only (change_line change) (edit change) spelled in
    let none = no_guard change in
    rw (none, kind) refl

joined_read : (guarded : Bool) (number : ℕ) (change : Change) (rest : List (List ℕ))
    (items : List Applied) (group : Applied) (guards : List Expectation)
    → Spells (change_line change) change
    → read_by guarded number (change_line change ∷ rest) items (Some group) guards
    ≡ read_by guarded (number + 1) rest items (Some (group_with_change group number change)) guards
joined_read false number change rest items group guards spelled =
    let kind = kind_of_script_line-only (change_line change) (edit change) spelled in
    rw kind refl
joined_read true number change rest items group guards spelled =
    let kind = kind_of_script_line-only (change_line change) (edit change) spelled in
    let none = no_guard change in
    rw (none, kind) refl

begin_read : (guarded : Bool) (number : ℕ) (rest : List (List ℕ)) (items : List Applied)
    → read_by guarded number (codes "begin" ∷ rest) items None []
    ≡ read_by guarded (number + 1) rest items (Some (group_at_line number)) []
begin_read false number rest items = rw begins refl
begin_read true number rest items = rw (begin_no_guard, begins) refl

end_read : (guarded : Bool) (number : ℕ) (rest : List (List ℕ)) (items : List Applied)
    (group : Applied) (guards : List Expectation)
    → read_by guarded number (codes "end" ∷ rest) items (Some group) guards
    ≡ read_by guarded (number + 1) rest (items ++ guarded_by guards group ∷ []) None []
end_read false number rest items group guards = rw ends refl
end_read true number rest items group guards = rw (end_no_guard, ends) refl

-- ---- groups

-- a group with the changes whose lines begin with the line of this number
abbrev extended : Applied → ℕ → List Back → Applied
extended group number backs = record {
  line = group.line;
  changes = group.changes ++ map (λ (back : Back). back.change) backs;
  lines = group.lines ++ lines_from number backs;
  guards = group.guards;
}

apart : (first : List (List ℕ)) (line : List ℕ) (more rest : List (List ℕ))
    → ((first ++ line ∷ []) ++ more) ++ rest ≡ first ++ line ∷ (more ++ rest)
apart first line more rest =
    append_assoc (first ++ line ∷ []) more rest ∙ append_assoc first (line ∷ []) (more ++ rest)

one_more : (changes : List Change) (change : Change)
    → length (changes ++ change ∷ []) ≡ length changes + 1
one_more changes change = length-append changes (change ∷ [])

at_end : (guarded : Bool) (number : ℕ) (items : List Applied)
    → read_by guarded number [] items None [] ≡ Ok (items ++ [])
at_end false number items = ap Ok (sym (append-nil items))
at_end true number items = ap Ok (sym (append-nil items))

expected_bytes : (guarded : Bool) (line : List ℕ) → CanExpect guarded (Some line)
    → list_all is_line_byte line ≡ true
expected_bytes false line can = absurd can
expected_bytes true line can = can

module _ (guarded : Bool) where
  body_read : (number : ℕ) (backs : List Back) (rest : List (List ℕ)) (items : List Applied)
      (group : Applied) (guards : List Expectation) → All (IsSpellable guarded) backs
      → read_by guarded number (flat_map back_lines backs ++ rest) items (Some group) guards
      ≡ read_by guarded (end_at number backs) rest items (Some (extended group number backs))
      (guards ++ guards_from number (length group.changes) backs)
  body_read number [] rest items group guards can =
      let changes = sym (append-nil group.changes) in
      let lines = sym (append-nil group.lines) in
      let same : group ≡ extended group number [] =
      rw (append-nil group.changes, append-nil group.lines) refl in
      ap₂ (λ g more. read_by guarded number rest items (Some g) more) same
      (sym (append-nil guards))
  body_read number (back ∷ backs) rest items group guards can =
      let here = All-head (IsSpellable guarded) back backs can in
      let at = line_after number back.expected in
      let place = number_in back.change in
      let first = guard_lines place back.expected in
      let more = flat_map back_lines backs in
      let later = change_line back.change ∷ (more ++ rest) in
      let guard = guards_at number (length group.changes) place back.expected in
      let next = group_with_change group at back.change in
      let count = one_more group.changes back.change in
      let same : extended next (at + 1) backs ≡ extended group number (back ∷ backs) =
      rw (
        append_assoc group.changes (back.change ∷ [])
            (map (λ (back : Back). back.change) backs),
        append_assoc group.lines (at ∷ []) (lines_from (at + 1) backs),
      ) refl in
      let all : (guards ++ guard) ++ guards_from (at + 1) (length next.changes) backs
      ≡ guards ++ guards_from number (length group.changes) (back ∷ backs) =
      append_assoc guards guard (guards_from (at + 1) (length next.changes) backs)
      ∙ ap (λ n. guards ++ (guard ++ guards_from (at + 1) n backs)) count in
      ap (λ whole. read_by guarded number whole items (Some group) guards)
      (apart first (change_line back.change) more rest)
      ∙ guard_read guarded number place back.expected later items (Some group) guards
      here.number_fits here.guard
      ∙ joined_read guarded at back.change (more ++ rest) items group (guards ++ guard)
      (line_spells back.change here.number_fits)
      ∙ body_read (at + 1) backs rest items next (guards ++ guard)
      (All-tail (IsSpellable guarded) back backs can)
      ∙ ap₂ (λ g every. read_by guarded (end_at (at + 1) backs) rest items (Some g) every) same all

  -- a group that is written as one
  enclosed_read : (number : ℕ) (backs : List Back) (rest : List (List ℕ)) (items : List Applied)
      → All (IsSpellable guarded) backs
      → read_by guarded number
      ((codes "begin" ∷ (flat_map back_lines backs ++ codes "end" ∷ [])) ++ rest) items None []
      ≡ read_by guarded (end_at (number + 1) backs + 1) rest
      (items ++ record {
        line = number;
        changes = map (λ (back : Back). back.change) backs;
        lines = lines_from (number + 1) backs;
        guards = guards_from (number + 1) 0 backs;
      } ∷ []) None []
  enclosed_read number backs rest items can =
      let body = flat_map back_lines backs in
      begin_read guarded number ((body ++ codes "end" ∷ []) ++ rest) items
      ∙ ap (λ whole. read_by guarded (number + 1) whole items (Some (group_at_line number)) [])
      (append_assoc body (codes "end" ∷ []) rest)
      ∙ body_read (number + 1) backs (codes "end" ∷ rest) items (group_at_line number) [] can
      ∙ end_read guarded (end_at (number + 1) backs) rest items
      (extended (group_at_line number) (number + 1) backs) (guards_from (number + 1) 0 backs)

  -- one change by itself
  alone : (number : ℕ) (back : Back) (rest : List (List ℕ)) (items : List Applied)
      → IsSpellable guarded back
      → read_by guarded number (back_lines back ++ rest) items None []
      ≡ read_by guarded (line_after number back.expected + 1) rest
      (items ++ spelled_item number (back ∷ []) ∷ []) None []
  alone number back rest items can =
      let place = number_in back.change in
      let at = line_after number back.expected in
      let first = guard_lines place back.expected in
      ap (λ whole. read_by guarded number whole items None [])
      (append_assoc first (change_line back.change ∷ []) rest)
      ∙ guard_read guarded number place back.expected (change_line back.change ∷ rest) items None
      [] can.number_fits can.guard
      ∙ alone_read guarded at back.change rest items (guards_at number 0 place back.expected)
      (line_spells back.change can.number_fits)

  group_read : (number : ℕ) (backs : List Back) (rest : List (List ℕ)) (items : List Applied)
      → All (IsSpellable guarded) backs
      → read_by guarded number (group_lines backs ++ rest) items None []
      ≡ read_by guarded (number_after number backs) rest
      (items ++ spelled_item number backs ∷ []) None []
  group_read number [] rest items can = enclosed_read number [] rest items can
  group_read number (back ∷ []) rest items can =
      alone number back rest items (All-head (IsSpellable guarded) back [] can)
  group_read number (first ∷ second ∷ more) rest items can =
      enclosed_read number (first ∷ second ∷ more) rest items can

  groups_read : (number : ℕ) (groups : List (List Back)) (items : List Applied)
      → All (All (IsSpellable guarded)) groups
      → read_by guarded number (flat_map group_lines groups) items None []
      ≡ Ok (items ++ spelled_items number groups)
  groups_read number [] items can = at_end guarded number items
  groups_read number (backs ∷ groups) items can =
      let item = spelled_item number backs in
      let next = number_after number backs in
      group_read number backs (flat_map group_lines groups) items
      (All-head (All (IsSpellable guarded)) backs groups can)
      ∙ groups_read next groups (items ++ item ∷ [])
      (All-tail (All (IsSpellable guarded)) backs groups can)
      ∙ ap Ok (append_assoc items (item ∷ []) (spelled_items next groups))

  -- ---- each of their lines is one line of a text

  guard_stands : (place : ℕ) (expected : Option (List ℕ)) → place ≤ 4294967295
      → CanExpect guarded expected → All IsTextLine (guard_lines place expected)
  guard_stands place None fits can = All-nil IsTextLine
  guard_stands place (Some line) fits can =
      All-cons IsTextLine (guard_line place line) []
      (text_stands (codes "expect ") (32 ∷ line) place fits refl (expected_bytes guarded line can))
      (All-nil IsTextLine)

  back_stands : (back : Back) → IsSpellable guarded back → All IsTextLine (back_lines back)
  back_stands back can =
      All-append IsTextLine (guard_lines (number_in back.change) back.expected)
      (change_line back.change ∷ [])
      (guard_stands (number_in back.change) back.expected can.number_fits can.guard)
      (All-cons IsTextLine (change_line back.change) []
      (line_stands back.change can.number_fits can.bytes) (All-nil IsTextLine))

  backs_stand : (backs : List Back) → All (IsSpellable guarded) backs
      → All IsTextLine (flat_map back_lines backs)
  backs_stand [] can = All-nil IsTextLine
  backs_stand (back ∷ backs) can =
      All-append IsTextLine (back_lines back) (flat_map back_lines backs)
      (back_stands back (All-head (IsSpellable guarded) back backs can))
      (backs_stand backs (All-tail (IsSpellable guarded) back backs can))

  enclosed : (backs : List Back) → All (IsSpellable guarded) backs
      → All IsTextLine (codes "begin" ∷ (flat_map back_lines backs ++ codes "end" ∷ []))
  enclosed backs can =
      All-cons IsTextLine (codes "begin") _ refl
      (All-append IsTextLine (flat_map back_lines backs) (codes "end" ∷ []) (backs_stand backs can)
      (All-cons IsTextLine (codes "end") [] refl (All-nil IsTextLine)))

  group_stands : (backs : List Back) → All (IsSpellable guarded) backs
      → All IsTextLine (group_lines backs)
  group_stands [] can = enclosed [] can
  group_stands (back ∷ []) can = back_stands back (All-head (IsSpellable guarded) back [] can)
  group_stands (first ∷ second ∷ more) can = enclosed (first ∷ second ∷ more) can

  groups_stand : (groups : List (List Back)) → All (All (IsSpellable guarded)) groups
      → All IsTextLine (flat_map group_lines groups)
  groups_stand [] can = All-nil IsTextLine
  groups_stand (backs ∷ groups) can =
      All-append IsTextLine (group_lines backs) (flat_map group_lines groups)
      (group_stands backs (All-head (All (IsSpellable guarded)) backs groups can))
      (groups_stand groups (All-tail (All (IsSpellable guarded)) backs groups can))

  same_lines : (groups : List (List Back)) → All (All (IsSpellable guarded)) groups
      → lines (script_text groups) ≡ flat_map group_lines groups
  same_lines groups can =
      ap lines (text-groups groups)
      ∙ lines-text (flat_map group_lines groups) (groups_stand groups can)

-- ---- so they read back

script_read : (guarded : Bool) (groups : List (List Back)) → All (All (IsSpellable guarded)) groups
    → script_by guarded (script_text groups) ≡ Ok (spelled_items 1 groups)
script_read false groups can =
    ap (λ found. read_from 1 found [] None []) (same_lines false groups can)
    ∙ groups_read false 1 groups [] can
script_read true groups can =
    ap (λ found. read_guarded_from 1 found [] None []) (same_lines true groups can)
    ∙ groups_read true 1 groups [] can

pub reads_back : (guarded : Bool) (groups : List (List Back)) → ReadsBack guarded groups
reads_back guarded groups can =
    IsScriptBy-script_by guarded (script_text groups) (spelled_items 1 groups)
    (script_read guarded groups can)
