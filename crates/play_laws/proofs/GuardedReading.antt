-- Reading a script with guards gives what its lines spell by the grammar.
use Rattle.std.proofs.Common.{◌≡◌, ℕ, ◌+◌, List, [], ◌∷◌, ◌++◌, length, Some, None, Ok, refl, sym}
use Rattle.std.proofs.Common.{ap, ap₂, ◌∙◌, append_assoc, append-nil}
use Rattle.std.specs.Str.Lines.{lines}
use Rattle.std.proofs.lemmas.List.{length_push}
use Rattle.replay_edits.specs.Edit.{Change}
use Rattle.replay_scripts.proofs.ExpectedLines.{guards_are_spelled}
use Rattle.replay_scripts.proofs.Lines.{kind_of_script_line-only}
use Rattle.replay_scripts.specs.Guards.{guarded_script_of, read_guarded_from}
use Rattle.replay_scripts.specs.Line.{nothing, begin, end, edit}
use Rattle.replay_scripts.specs.Script.{Applied, Expectation, group_at_line, group_of}
use Rattle.replay_scripts.specs.Script.{group_with_change, guarded_by, single}
use Rattle.play_laws.specs.GuardLaws.{guard_on_line, IsGuardedLead, lead_done, lead_skips}
use Rattle.play_laws.specs.GuardLaws.{lead_guards, IsGuardedBody, inner_done, inner_skips}
use Rattle.play_laws.specs.GuardLaws.{inner_guards, inner_spells, IsGuardedScript, script_done}
use Rattle.play_laws.specs.GuardLaws.{script_spells, script_groups}
use Rattle.play_laws.proofs.GuardedLines.{blank_kind, no_guard}

-- the group with more changes, on the lines of these numbers
abbrev pub extended : Applied → List Change → List ℕ → Applied
extended group changes numbers =
    group_of group.line (group.changes ++ changes) (group.lines ++ numbers)

pub extended_none : (group : Applied) → extended group [] [] ≡ guarded_by [] group
extended_none group =
    ap₂ (λ (changes : List Change) (numbers : List ℕ). group_of group.line changes numbers)
    (append-nil group.changes) (append-nil group.lines)

pub extended_joined : (group : Applied) (number : ℕ) (change : Change) (changes : List Change)
    (numbers : List ℕ)
    → extended (group_with_change group number change) changes numbers
    ≡ extended group (change ∷ changes) (number ∷ numbers)
extended_joined group number change changes numbers =
    ap₂ (λ (all : List Change) (lines : List ℕ). group_of group.line all lines)
    (append_assoc group.changes (change ∷ []) changes)
    (append_assoc group.lines (number ∷ []) numbers)

-- guards that follow guards
pub guards_followed : (held : List Expectation) (guard : Expectation) (guards : List Expectation)
    → (held ++ guard ∷ []) ++ guards ≡ held ++ guard ∷ guards
guards_followed held guard guards = append_assoc held (guard ∷ []) guards

-- items that follow items
pub items_followed : (before : List Applied) (item : Applied) (items : List Applied)
    → (before ++ item ∷ []) ++ items ≡ before ++ item ∷ items
items_followed before item items = append_assoc before (item ∷ []) items

-- what leads an item leaves its guards for it
lead_read : {number next : ℕ} {lead : List (List ℕ)} {guards : List Expectation}
    → IsGuardedLead number next lead guards
    → (rest : List (List ℕ)) (items : List Applied) (held : List Expectation)
    → read_guarded_from number (lead ++ rest) items None held
    ≡ read_guarded_from next rest items None (held ++ guards)
lead_read (lead_done {number = number}) rest items held =
    ap (λ guards. read_guarded_from number rest items None guards) (sym (append-nil held))
lead_read (lead_skips {line = line} skipped more) rest items held =
    let none = no_guard line nothing skipped tt in
    let kind = kind_of_script_line-only line nothing skipped in
    rw (none, kind) (lead_read more rest items held)
lead_read
    (lead_guards {number = number} {next = next} {place = place} {line = line} {text = text}
    {guards = guards} spelled more) rest items held =
    let found = (guards_are_spelled line place text).1 spelled in
    let guard = guard_on_line number place text 0 in
    rw (found, blank_kind) (lead_read more rest items (held ++ guard ∷ [])
    ∙ ap (λ all. read_guarded_from next rest items None all) (guards_followed held guard guards))

-- what is in a group extends it, and leaves its guards for it
body_read : {number next made : ℕ} {inner : List (List ℕ)} {changes : List Change}
    {numbers : List ℕ} {guards : List Expectation}
    → IsGuardedBody number next made inner changes numbers guards
    → (rest : List (List ℕ)) (items : List Applied) (group : Applied) (held : List Expectation)
    → made ≡ length group.changes
    → read_guarded_from number (inner ++ rest) items (Some (guarded_by [] group)) held
    ≡ read_guarded_from next rest items (Some (extended group changes numbers)) (held ++ guards)
body_read (inner_done {number = number}) rest items group held here =
    ap₂ (λ now guards. read_guarded_from number rest items (Some now) guards)
    (sym (extended_none group)) (sym (append-nil held))
body_read (inner_skips {line = line} skipped more) rest items group held here =
    let none = no_guard line nothing skipped tt in
    let kind = kind_of_script_line-only line nothing skipped in
    rw (none, kind) (body_read more rest items group held here)
body_read
    (inner_guards {number = number} {next = next} {made = made} {place = place} {line = line}
    {text = text} {changes = changes} {numbers = numbers} {guards = guards} spelled more) rest items
    group held here =
    let found = (guards_are_spelled line place text).1 spelled in
    let guard = guard_on_line number place text made in
    let counted : guard_on_line number place text (length group.changes) ≡ guard =
    ap (guard_on_line number place text) (sym here) in
    rw (found, blank_kind, counted) (body_read more rest items group (held ++ guard ∷ []) here
    ∙ ap (λ all. read_guarded_from next rest items (Some (extended group changes numbers)) all)
    (guards_followed held guard guards))
body_read
    (inner_spells {number = number} {next = next} {made = made} {line = line} {change = change}
    {changes = changes} {numbers = numbers} {guards = guards} spelled more) rest items group held
    here =
    let none = no_guard line (edit change) spelled tt in
    let kind = kind_of_script_line-only line (edit change) spelled in
    let one_more : made + 1 ≡ length (group.changes ++ change ∷ []) =
    ap (λ n. n + 1) here ∙ sym (length_push group.changes change) in
    rw (none, kind) (body_read more rest items (group_with_change group number change) held one_more
    ∙ ap (λ now. read_guarded_from next rest items (Some now) (held ++ guards))
    (extended_joined group number change changes numbers))

script_read : {number : ℕ} {whole : List (List ℕ)} {items : List Applied}
    → IsGuardedScript number whole items → (before : List Applied)
    → read_guarded_from number whole before None [] ≡ Ok (before ++ items)
script_read (script_done {number = number} {lead = lead} leads) before =
    ap (λ whole. read_guarded_from number whole before None []) (sym (append-nil lead))
    ∙ lead_read leads [] before [] ∙ ap Ok (sym (append-nil before))
script_read
    (script_spells {at = at} {rest = rest} {change = change} {guards = guards} {items = items} line
    leads spelled more) before =
    let none = no_guard line (edit change) spelled tt in
    let kind = kind_of_script_line-only line (edit change) spelled in
    let item = guarded_by guards (single at change) in
    let read : read_guarded_from at (line ∷ rest) before None guards ≡ Ok (before ++ item ∷ items) =
    rw (none, kind) (script_read more (before ++ item ∷ [])
    ∙ ap Ok (items_followed before item items)) in
    lead_read leads (line ∷ rest) before [] ∙ read
script_read
    (script_groups {at = at} {last_number = last_number} {body = body} {rest = rest}
    {first = first} {last = last} {changes = changes} {numbers = numbers} {guards = guards}
    {inner = inner} {items = items} leads begins is_body ends more) before =
    let none = no_guard first begin begins tt in
    let kind = kind_of_script_line-only first begin begins in
    let last_none = no_guard last end ends tt in
    let last_kind = kind_of_script_line-only last end ends in
    let group = group_of at changes numbers in
    let item = guarded_by (guards ++ inner) group in
    let closed : read_guarded_from last_number (last ∷ rest) before (Some group) (guards ++ inner)
    ≡ Ok (before ++ item ∷ items) =
    rw (last_none, last_kind) (script_read more (before ++ item ∷ [])
    ∙ ap Ok (items_followed before item items)) in
    let opened : read_guarded_from at (first ∷ (body ++ last ∷ rest)) before None guards
    ≡ Ok (before ++ item ∷ items) =
    rw (none, kind) (body_read is_body (last ∷ rest) before (group_at_line at) guards refl ∙ closed)
    in
    lead_read leads (first ∷ (body ++ last ∷ rest)) before [] ∙ opened

-- what the lines of a script spell is what is read
pub guarded_script_of-spelled : (text : List ℕ) (items : List Applied)
    → IsGuardedScript 1 (lines text) items → guarded_script_of text ≡ Ok items
guarded_script_of-spelled text items is = script_read is []
