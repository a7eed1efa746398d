-- Rows with the same mark are the same row, no row has the mark of a text, and both are marked one
-- after the other.
use Rattle.std.proofs.Common.{◌≡◌, ◌+◌, ◌*◌, ◌<◌, Bool, true, false, List, ◌++◌, refl, ap, arith}
use Rattle.cave_world.specs.declared.tables.RuleRow.TheVariants.{OfPlace, OfTable}
use Rattle.play_cover.specs.RowMarks.{EachRowHasItsMark, NoRowIsText}
use Rattle.play_cover.specs.RuleTables.{table_number}
use Rattle.check_tables.proofs.Noting.{Notes-append}
use Rattle.check_tables.specs.Marks.{Notes}
use Rattle.check_tables.specs.declared.marks.Mark.{Mark}
use Rattle.check_tables.specs.TextKinds.{kind_number}
use Rattle.check_tables.specs.declared.text_kinds.TextKind.{TextKind}

group : {one other : Mark} → one ≡ other → one.group ≡ other.group
group same = ap (λ (mark : Mark). mark.group) same

number : {one other : Mark} → one ≡ other → one.number ≡ other.number
number same = ap (λ (mark : Mark). mark.number) same

pub each_row_has_its_mark : EachRowHasItsMark
each_row_has_its_mark (OfTable t n) (OfTable u m) same =
    let is : 7 + 3 * table_number t ≡ 7 + 3 * table_number u = group same in
    (omega (arith, is), number same)
each_row_has_its_mark (OfTable t n) (OfPlace p m false) same =
    let is : 7 + 3 * table_number t ≡ 7 + (3 * p + 1) = group same in omega (arith, is)
each_row_has_its_mark (OfTable t n) (OfPlace p m true) same =
    let is : 7 + 3 * table_number t ≡ 7 + (3 * p + 2) = group same in omega (arith, is)
each_row_has_its_mark (OfPlace p n false) (OfTable t m) same =
    let is : 7 + (3 * p + 1) ≡ 7 + 3 * table_number t = group same in omega (arith, is)
each_row_has_its_mark (OfPlace p n true) (OfTable t m) same =
    let is : 7 + (3 * p + 2) ≡ 7 + 3 * table_number t = group same in omega (arith, is)
each_row_has_its_mark (OfPlace p n false) (OfPlace q m false) same =
    let is : 7 + (3 * p + 1) ≡ 7 + (3 * q + 1) = group same in (omega (arith, is), number same, refl)
each_row_has_its_mark (OfPlace p n false) (OfPlace q m true) same =
    let is : 7 + (3 * p + 1) ≡ 7 + (3 * q + 2) = group same in absurd (omega (arith, is))
each_row_has_its_mark (OfPlace p n true) (OfPlace q m false) same =
    let is : 7 + (3 * p + 2) ≡ 7 + (3 * q + 1) = group same in absurd (omega (arith, is))
each_row_has_its_mark (OfPlace p n true) (OfPlace q m true) same =
    let is : 7 + (3 * p + 2) ≡ 7 + (3 * q + 2) = group same in (omega (arith, is), number same, refl)

below : (of : TextKind) → kind_number of < 7
below TextKind.Long = omega (arith)
below TextKind.Short = omega (arith)
below TextKind.Look = omega (arith)
below TextKind.Name = omega (arith)
below TextKind.Message = omega (arith)
below TextKind.Role = omega (arith)
below TextKind.Class = omega (arith)

pub no_row_is_text : NoRowIsText
no_row_is_text of n (OfTable t m) same =
    let is : kind_number of ≡ 7 + 3 * table_number t = group same in omega (arith, is, below of)
no_row_is_text of n (OfPlace p m false) same =
    let is : kind_number of ≡ 7 + (3 * p + 1) = group same in omega (arith, is, below of)
no_row_is_text of n (OfPlace p m true) same =
    let is : kind_number of ≡ 7 + (3 * p + 2) = group same in omega (arith, is, below of)

-- what parts say and rows were marked, one after the other
pub both_noted : (said rows : List Mark) (old between new : List (List Bool))
    → Notes said old between → Notes rows between new → Notes (said ++ rows) old new
both_noted = Notes-append
