-- The lines of a script that takes edits back have only bytes that a line may have.
use Rattle.std.proofs.Common.{◌≡◌, ℕ, ◌≤◌, Bool, true, false, List, [], ◌∷◌, ◌++◌, codes, All, None}
use Rattle.std.proofs.Common.{Some, Option, ap, sym, subst, ◌∙◌, refl}
use Rattle.std.specs.List.{flat_map, list_all}
use Rattle.std.specs.Str.Lines.{lines}
use Rattle.std.proofs.lemmas.List.Elements.{All-append, All-cons, All-head, All-nil, All-tail}
use Rattle.base_lines.specs.Line.{is_line_byte}
use Rattle.replay_scripts.specs.ScriptText.{Back, CanExpect, IsSpellable, back_lines, change_line}
use Rattle.replay_scripts.specs.ScriptText.{group_lines, guard_lines, number_in, script_text}
use Rattle.replay_scripts.proofs.SpelledLines.{guard_line, line_stands, text_stands}
use Rattle.replay_scripts.proofs.Texts.{IsTextLine, lines-text, text-groups}

expected_stands : (guarded : Bool) (line : List ℕ) → CanExpect guarded (Some line)
    → list_all is_line_byte line ≡ true
expected_stands false line can = absurd can
expected_stands true line can = can

guards_stand : (guarded : Bool) (place : ℕ) (expected : Option (List ℕ)) → place ≤ 4294967295
    → CanExpect guarded expected → All IsTextLine (guard_lines place expected)
guards_stand guarded place None fits can = All-nil IsTextLine
guards_stand guarded place (Some line) fits can =
    All-cons IsTextLine (guard_line place line) []
    (text_stands (codes "expect ") (32 ∷ line) place fits refl (expected_stands guarded line can))
    (All-nil IsTextLine)

all_backs_stand : (guarded : Bool) (backs : List Back) → All (IsSpellable guarded) backs
    → All IsTextLine (flat_map back_lines backs)
all_backs_stand guarded [] can = All-nil IsTextLine
all_backs_stand guarded (back ∷ backs) can =
    let here = All-head (IsSpellable guarded) back backs can in
    All-append IsTextLine (back_lines back) (flat_map back_lines backs)
    (All-append IsTextLine (guard_lines (number_in back.change) back.expected)
    (change_line back.change ∷ [])
    (guards_stand guarded (number_in back.change) back.expected here.number_fits here.guard)
    (All-cons IsTextLine (change_line back.change) []
    (line_stands back.change here.number_fits here.bytes) (All-nil IsTextLine)))
    (all_backs_stand guarded backs (All-tail (IsSpellable guarded) back backs can))

as_group : (guarded : Bool) (backs : List Back) → All (IsSpellable guarded) backs
    → All IsTextLine (codes "begin" ∷ (flat_map back_lines backs ++ codes "end" ∷ []))
as_group guarded backs can =
    All-cons IsTextLine (codes "begin") _ refl
    (All-append IsTextLine (flat_map back_lines backs) (codes "end" ∷ [])
    (all_backs_stand guarded backs can)
    (All-cons IsTextLine (codes "end") [] refl (All-nil IsTextLine)))

one_group : (guarded : Bool) (backs : List Back) → All (IsSpellable guarded) backs
    → All IsTextLine (group_lines backs)
one_group guarded [] can = as_group guarded [] can
one_group guarded (back ∷ []) can =
    let here = All-head (IsSpellable guarded) back [] can in
    All-append IsTextLine (guard_lines (number_in back.change) back.expected)
    (change_line back.change ∷ [])
    (guards_stand guarded (number_in back.change) back.expected here.number_fits here.guard)
    (All-cons IsTextLine (change_line back.change) []
    (line_stands back.change here.number_fits here.bytes) (All-nil IsTextLine))
one_group guarded (first ∷ second ∷ more) can = as_group guarded (first ∷ second ∷ more) can

all_groups : (guarded : Bool) (groups : List (List Back)) → All (All (IsSpellable guarded)) groups
    → All IsTextLine (flat_map group_lines groups)
all_groups guarded [] can = All-nil IsTextLine
all_groups guarded (backs ∷ groups) can =
    All-append IsTextLine (group_lines backs) (flat_map group_lines groups)
    (one_group guarded backs (All-head (All (IsSpellable guarded)) backs groups can))
    (all_groups guarded groups (All-tail (All (IsSpellable guarded)) backs groups can))

pub undo_lines_stand : (guarded : Bool) (groups : List (List Back))
    → All (All (IsSpellable guarded)) groups → All IsTextLine (lines (script_text groups))
undo_lines_stand guarded groups can =
    let stand = all_groups guarded groups can in
    subst (All IsTextLine)
    (sym (ap lines (text-groups groups) ∙ lines-text (flat_map group_lines groups) stand)) stand
