-- The script that takes edits back, and the items that it spells.
use Rattle.std.specs.Prelude.{ℕ, ◌+◌, ◌≡◌, ◌≤◌, Bool, true, false, List, [], ◌∷◌, ◌++◌, codes, map}
use Rattle.std.specs.Prelude.{All, Option, Some, None, option_map, ⊤}
use Rattle.std.specs.Fmt.{decimal}
use Rattle.std.specs.List.{flat_map, list_all}
use Rattle.base_lines.specs.Limits.{max_script_number}
use Rattle.base_lines.specs.Line.{is_line_byte}
use Rattle.replay_edits.specs.Edit.{Change, inserts, deletes, replaces, reseeds}
use Rattle.replay_edits.specs.Edit.{change_of, own_line}
use Rattle.std.specs.Global.{Vec}
use Rattle.replay_scripts.specs.Guards.{IsScriptBy}
use Rattle.replay_scripts.specs.Script.{Applied, Expectation, guarded_by, single}
use Rattle.replay_scripts.specs.declared.script_text.BackEdit.{BackEdit}

-- a change that takes another one back, and the line expected at its place before it is made, if
-- any is
pub record Back : Type 0 where
  pub change : Change
  pub expected : Option (List ℕ)

abbrev pub back_in : BackEdit → Back
back_in back = record {
  change = change_of back.edit;
  expected = option_map (λ line. line.items) back.expected;
}

abbrev pub backs_in : List BackEdit → List Back
backs_in backs = map back_in backs

abbrev pub groups_in : List (Vec BackEdit) → List (List Back)
groups_in groups = map (λ backs. backs_in backs.items) groups

-- ---- the text

-- the number of a change
abbrev pub number_in : Change → ℕ
number_in (inserts place line) = place
number_in (deletes place) = place
number_in (replaces place line) = place
number_in (reseeds seed) = seed

-- a change as a line of a script
abbrev pub change_line : Change → List ℕ
change_line (inserts place line) =
    codes "insert " ++ (decimal place ++ (codes " " ++ line))
change_line (deletes place) = codes "delete " ++ decimal place
change_line (replaces place line) =
    codes "replace " ++ (decimal place ++ (codes " " ++ line))
change_line (reseeds seed) = codes "seed " ++ decimal seed

-- a guard of a place, if a line is expected there
abbrev pub guard_lines : ℕ → Option (List ℕ) → List (List ℕ)
guard_lines place None = []
guard_lines place (Some line) = (codes "expect " ++ (decimal place ++ (codes " " ++ line))) ∷ []

abbrev pub back_lines : Back → List (List ℕ)
back_lines back = guard_lines (number_in back.change) back.expected ++ change_line back.change ∷ []

-- changes that are made as a whole: just one, or a group
abbrev pub group_lines : List Back → List (List ℕ)
group_lines (back ∷ []) = back_lines back
group_lines backs = codes "begin" ∷ (flat_map back_lines backs ++ codes "end" ∷ [])

abbrev pub text_of_lines : List (List ℕ) → List ℕ
text_of_lines lines = flat_map (λ line. line ++ codes "\n") lines

abbrev pub group_text : List Back → List ℕ
group_text backs = text_of_lines (group_lines backs)

-- the script that makes such changes one after another
abbrev pub script_text : List (List Back) → List ℕ
script_text groups = flat_map group_text groups

-- ---- what it spells

-- the number of a change's line, if its guard and it begin on this line
abbrev pub line_after : ℕ → Option (List ℕ) → ℕ
line_after number None = number
line_after number (Some line) = number + 1

-- a guard on the line with this number, after this many changes
abbrev pub guards_at : ℕ → ℕ → ℕ → Option (List ℕ) → List Expectation
guards_at number after place None = []
guards_at number after place (Some line) =
    record { line = number; place = place; text = line; after = after } ∷ []

-- changes whose lines begin with the line of this number: their lines, their guards, if this many
-- changes come before, and the number of the line after them
abbrev pub lines_from : ℕ → List Back → List ℕ
lines_from number [] = []
lines_from number (back ∷ backs) =
    line_after number back.expected ∷ lines_from (line_after number back.expected + 1) backs

abbrev pub guards_from : ℕ → ℕ → List Back → List Expectation
guards_from number after [] = []
guards_from number after (back ∷ backs) =
    guards_at number after (number_in back.change) back.expected
    ++ guards_from (line_after number back.expected + 1) (after + 1) backs

abbrev pub end_at : ℕ → List Back → ℕ
end_at number [] = number
end_at number (back ∷ backs) = end_at (line_after number back.expected + 1) backs

-- changes of a group whose lines begin with the line of this number, as an item
abbrev pub spelled_item : ℕ → List Back → Applied
spelled_item number (back ∷ []) =
    guarded_by (guards_at number 0 (number_in back.change) back.expected)
    (single (line_after number back.expected) back.change)
spelled_item number backs =
    record {
      line = number;
      changes = map (λ (back : Back). back.change) backs;
      lines = lines_from (number + 1) backs;
      guards = guards_from (number + 1) 0 backs;
    }

-- the number of the line after them
abbrev pub number_after : ℕ → List Back → ℕ
number_after number (back ∷ []) = line_after number back.expected + 1
number_after number backs = end_at (number + 1) backs + 1

abbrev pub spelled_items : ℕ → List (List Back) → List Applied
spelled_items number [] = []
spelled_items number (backs ∷ groups) =
    spelled_item number backs ∷ spelled_items (number_after number backs) groups

-- a script can expect the line, if any is expected: its lines may be guards, and the expected text
-- is one line
abbrev pub CanExpect : Bool → Option (List ℕ) → Type 0
CanExpect guarded None = ⊤
CanExpect false (Some line) = ⊥
CanExpect true (Some line) = list_all is_line_byte line ≡ true

-- a script can say the change: its number isn't too large, and its text is one line
pub record IsSpellable (guarded : Bool) (back : Back) : Type 0 where
  pub number_fits : number_in back.change ≤ max_script_number
  pub bytes : list_all is_line_byte (own_line back.change) ≡ true
  pub guard : CanExpect guarded back.expected

-- what is written for such changes reads back, by whether its lines may be guards
abbrev pub ReadsBack : Bool → List (List Back) → Type 0
ReadsBack guarded groups = All (All (IsSpellable guarded)) groups
    → IsScriptBy guarded (script_text groups) (spelled_items 1 groups)
