-- A line is a row of a section exactly if it is read as one.
use Rattle.std.proofs.Common.{◌≡◌, ℕ, List, Ok, refl, subst}
use Rattle.data_rows.specs.declared.error.Section.{Section}
use Rattle.data_rows.specs.Rows.{Entry, LongLine, ShortLine, Way, Word, ObjectLine, MessageLine}
use Rattle.data_rows.specs.Rows.{PlacementRow, DefaultRow, ConditionRow, ClassLine, HintRow}
use Rattle.data_rows.specs.Rows.{MagicLine, text_line, object_line, way_row, word_row}
use Rattle.data_rows.specs.Rows.{placement_row, default_row, condition_row, hint_row, entry_in}
use Rattle.data_rows.specs.RowGrammar.{IsRow, in_1, in_2, in_3, in_4, in_5, in_6, in_7, in_8, in_9}
use Rattle.data_rows.specs.RowGrammar.{in_10, in_11, in_12}
use Rattle.data_rows.proofs.ReadParts.{in_steps, same_ok}
use Rattle.data_rows.proofs.SectionRows.{text_row-read, read-text_row, object_line-read}
use Rattle.data_rows.proofs.SectionRows.{read-object_line, way-read, read-way, default-read}
use Rattle.data_rows.proofs.SectionRows.{read-default, condition-read, read-condition, hint-read}
use Rattle.data_rows.proofs.SectionRows.{read-hint, word-row-read, read-word-row, placement-read}
use Rattle.data_rows.proofs.SectionRows.{read-placement}

pub entry-read : (s : Section) (line : List ℕ) (entry : Entry) → IsRow s line entry
    → entry_in s line ≡ Ok entry
entry-read s line entry (in_1 {row = row} is) = rw (text_row-read 1 300 line row is) refl
entry-read s line entry (in_2 {row = row} is) = rw (text_row-read 1 300 line row is) refl
entry-read s line entry (in_3 {place = place} {going = going} is few) =
    rw (way-read line place going is few) refl
entry-read s line entry (in_4 {entry = word} is) = rw (word-row-read line word is) refl
entry-read s line entry (in_5 {row = row} is) = rw (object_line-read line row is) refl
entry-read s line entry (in_6 {row = row} is) = rw (text_row-read 1 499 line row is) refl
entry-read s line entry (in_7 {object = object} {placement = placement} is) =
    rw (placement-read line object placement is) refl
entry-read s line entry (in_8 {action = action} {message = message} is) =
    rw (default-read line action message is) refl
entry-read s line entry (in_9 {bit = bit} {places = places} is few) =
    rw (condition-read line bit places is few) refl
entry-read s line entry (in_10 {row = row} is) = rw (text_row-read 0 9999 line row is) refl
entry-read s line entry (in_11 {number = number} {hint = hint} is) =
    rw (hint-read line number hint is) refl
entry-read s line entry (in_12 {row = row} is) = rw (text_row-read 1 499 line row is) refl

pub read-entry : (s : Section) (line : List ℕ) (entry : Entry) → entry_in s line ≡ Ok entry
    → IsRow s line entry
read-entry Section.LongTexts line entry is =
    let row = in_steps (text_line 1 300 line) _ entry is in
    let same = same_ok (LongLine row.0) entry row.2 in
    subst (IsRow Section.LongTexts line) same (in_1 (read-text_row 1 300 line row.0 row.1))
read-entry Section.ShortTexts line entry is =
    let row = in_steps (text_line 1 300 line) _ entry is in
    let same = same_ok (ShortLine row.0) entry row.2 in
    subst (IsRow Section.ShortTexts line) same (in_2 (read-text_row 1 300 line row.0 row.1))
read-entry Section.Travel line entry is =
    let row = in_steps (way_row line) _ entry is in
    let found = read-way line row.0 row.1 in
    let same = same_ok (Way row.0.0 row.0.1) entry row.2 in
    subst (IsRow Section.Travel line) same (in_3 found.0 found.1)
read-entry Section.Words line entry is =
    let row = in_steps (word_row line) _ entry is in
    let same = same_ok (Word row.0) entry row.2 in
    subst (IsRow Section.Words line) same (in_4 (read-word-row line row.0 row.1))
read-entry Section.Objects line entry is =
    let row = in_steps (object_line line) _ entry is in
    let same = same_ok (ObjectLine row.0) entry row.2 in
    subst (IsRow Section.Objects line) same (in_5 (read-object_line line row.0 row.1))
read-entry Section.Messages line entry is =
    let row = in_steps (text_line 1 499 line) _ entry is in
    let same = same_ok (MessageLine row.0) entry row.2 in
    subst (IsRow Section.Messages line) same (in_6 (read-text_row 1 499 line row.0 row.1))
read-entry Section.Placements line entry is =
    let row = in_steps (placement_row line) _ entry is in
    let same = same_ok (PlacementRow row.0.0 row.0.1) entry row.2 in
    subst (IsRow Section.Placements line) same (in_7 (read-placement line row.0 row.1))
read-entry Section.Defaults line entry is =
    let row = in_steps (default_row line) _ entry is in
    let same = same_ok (DefaultRow row.0.0 row.0.1) entry row.2 in
    subst (IsRow Section.Defaults line) same (in_8 (read-default line row.0 row.1))
read-entry Section.Conditions line entry is =
    let row = in_steps (condition_row line) _ entry is in
    let found = read-condition line row.0 row.1 in
    let same = same_ok (ConditionRow row.0.0 row.0.1) entry row.2 in
    subst (IsRow Section.Conditions line) same (in_9 found.0 found.1)
read-entry Section.Classes line entry is =
    let row = in_steps (text_line 0 9999 line) _ entry is in
    let same = same_ok (ClassLine row.0) entry row.2 in
    subst (IsRow Section.Classes line) same (in_10 (read-text_row 0 9999 line row.0 row.1))
read-entry Section.Hints line entry is =
    let row = in_steps (hint_row line) _ entry is in
    let same = same_ok (HintRow row.0.0 row.0.1) entry row.2 in
    subst (IsRow Section.Hints line) same (in_11 (read-hint line row.0 row.1))
read-entry Section.Magic line entry is =
    let row = in_steps (text_line 1 499 line) _ entry is in
    let same = same_ok (MagicLine row.0) entry row.2 in
    subst (IsRow Section.Magic line) same (in_12 (read-text_row 1 499 line row.0 row.1))
