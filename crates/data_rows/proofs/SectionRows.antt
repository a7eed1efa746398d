-- A line is a row of a section's form exactly if it is read as one.
use Rattle.std.proofs.Common.{◌≡◌, ℕ, ◌≤◌, List, [], ◌∷◌, length, map, Ok, refl, sym, ap, subst}
use Rattle.std.proofs.Common.{◌∙◌}
use Rattle.std.specs.List.{All}
use Rattle.std.proofs.lemmas.List.{length-map}
use Rattle.data_rows.specs.declared.number.Number.{Number}
use Rattle.data_rows.specs.declared.number.Number.TheVariants.{Natural}
use Rattle.data_rows.specs.declared.rows.Placement.{Placement}
use Rattle.data_rows.specs.declared.rows.Hint.{Hint}
use Rattle.data_rows.specs.Rows.{TextLine, Going, WordEntry, number_or_cause, within, list_in}
use Rattle.data_rows.specs.Rows.{all_within, some_of, few_of, text_or_cause, text_line}
use Rattle.data_rows.specs.Rows.{object_or_prop, object_line, way_row, word_number, word_or_cause}
use Rattle.data_rows.specs.Rows.{word_row, number_or_zero, second_place, placement_row, default_row}
use Rattle.data_rows.specs.Rows.{condition_row, hint_row}
use Rattle.data_rows.specs.Fields.{after_blanks, after_field}
use Rattle.data_rows.specs.RowParts.{BeginsWithNumber, BeginsWithNumbers, no_number}
use Rattle.data_rows.specs.RowParts.{number_then, MayBeginWithNumber, IsNumberList}
use Rattle.data_rows.specs.RowGrammar.{IsBetween, IsTextRow, IsWayRow, IsWordRow, IsObjectOrProp}
use Rattle.data_rows.specs.RowGrammar.{IsPlacementRow, IsDefaultRow, IsConditionRow, IsHintRow}
use Rattle.data_rows.proofs.ReadParts.{in_steps, same_ok, number-read, read-number, within-read}
use Rattle.data_rows.proofs.ReadParts.{read-within, may-read, read-may, list-read, read-list}
use Rattle.data_rows.proofs.ReadParts.{all-read, read-all, some-read, read-some, few-read, read-few}
use Rattle.data_rows.proofs.ReadParts.{text-read, read-text, word-read, read-word}
use Rattle.data_rows.proofs.RowKinds.{object_or_prop-read, read-object_or_prop, word_number-read}
use Rattle.data_rows.proofs.RowKinds.{read-word_number, second-read, read-second}

-- ---- rows of texts

pub text_row-read : (low high : ℕ) (line : List ℕ) (row : TextLine)
    → IsTextRow (IsBetween low high) line row → text_line low high line ≡ Ok row
unfolding text_line
text_row-read low high line row is =
    let n = number-read line (Natural row.number) is.rest is.number in
    let range = within-read low high row.number is.number_in_range in
    let text = text-read is.rest row.text is.text is.short in
    rw (n, range, text) refl

pub read-text_row : (low high : ℕ) (line : List ℕ) (row : TextLine)
    → text_line low high line ≡ Ok row
    → IsTextRow (IsBetween low high) line row
unfolding text_line
read-text_row low high line row is =
    let n = in_steps (number_or_cause line) _ row is in
    let m = in_steps (within low high n.0.0) _ row n.2 in
    let text = in_steps (text_or_cause n.0.1) _ row m.2 in
    let begins = read-number line n.0 n.1 in
    let range = read-within low high n.0.0 m.0 m.1 in
    let said = read-text n.0.1 text.0 begins.begins.ended text.1 in
    let found : TextLine = record { number = m.0; text = text.0 } in
    let same = same_ok found row text.2 in
    subst (IsTextRow (IsBetween low high) line) same
    (record {
      rest = n.0.1;
      number = subst (λ x. BeginsWithNumber line x n.0.1) range.0 begins;
      text = said.0;
      number_in_range = range.1;
      short = said.1;
    })

pub object_line-read : (line : List ℕ) (row : TextLine) → IsTextRow IsObjectOrProp line row
    → object_line line ≡ Ok row
unfolding object_line
object_line-read line row is =
    let n = number-read line (Natural row.number) is.rest is.number in
    let range = object_or_prop-read row.number is.number_in_range in
    let text = text-read is.rest row.text is.text is.short in
    rw (n, range, text) refl

pub read-object_line : (line : List ℕ) (row : TextLine) → object_line line ≡ Ok row
    → IsTextRow IsObjectOrProp line row
unfolding object_line
read-object_line line row is =
    let n = in_steps (number_or_cause line) _ row is in
    let m = in_steps (object_or_prop n.0.0) _ row n.2 in
    let text = in_steps (text_or_cause n.0.1) _ row m.2 in
    let begins = read-number line n.0 n.1 in
    let range = read-object_or_prop n.0.0 m.0 m.1 in
    let said = read-text n.0.1 text.0 begins.begins.ended text.1 in
    let found : TextLine = record { number = m.0; text = text.0 } in
    let same = same_ok found row text.2 in
    subst (IsTextRow IsObjectOrProp line) same
    (record {
      rest = n.0.1;
      number = subst (λ x. BeginsWithNumber line x n.0.1) range.0 begins;
      text = said.0;
      number_in_range = range.1;
      short = said.1;
    })

-- ---- rows of numbers

pub way-read : (line : List ℕ) (place : ℕ) (going : Going) → IsWayRow line place going
    → length going.motions ≤ 40 → way_row line ≡ Ok (place, going)
unfolding way_row
way-read line place going is few = at is.numbers where
  at : BeginsWithNumbers line (Natural place ∷ Natural going.target ∷ []) is.rest
      → way_row line ≡ Ok (place, going)
  at (number_then {rest = after_place} x (number_then y no_number)) =
      let px = number-read line (Natural place) after_place x in
      let py = number-read after_place (Natural going.target) is.rest y in
      let list = list-read is.rest (map Natural going.motions) is.motions in
      let count : length (map Natural going.motions) ≡ length going.motions =
      length-map going.motions Natural in
      let some : 1 ≤ length (map Natural going.motions) = rw count is.some in
      let any = some-read (map Natural going.motions) some in
      let from = within-read 1 300 place is.place_in_range in
      let to = within-read 0 999999 going.target is.target_in_range in
      let all = all-read 1 999 going.motions is.motions_in_range in
      let most = few-read going.motions few in
      rw (px, py, list, any, from, to, all, most) refl

pub default-read : (line : List ℕ) (action message : ℕ) → IsDefaultRow line action message
    → default_row line ≡ Ok (action, message)
unfolding default_row
default-read line action message is = at is.numbers where
  at : BeginsWithNumbers line (Natural action ∷ Natural message ∷ []) is.ignored
      → default_row line ≡ Ok (action, message)
  at (number_then {rest = after_action} x (number_then y no_number)) =
      let px = number-read line (Natural action) after_action x in
      let py = number-read after_action (Natural message) is.ignored y in
      let rx = within-read 1 99 action is.action_in_range in
      let ry = within-read 0 499 message is.message_in_range in
      rw (px, py, rx, ry) refl

pub read-default : (line : List ℕ) (row : ℕ × ℕ) → default_row line ≡ Ok row
    → IsDefaultRow line row.0 row.1
unfolding default_row
read-default line row is =
    let x = in_steps (number_or_cause line) _ row is in
    let y = in_steps (number_or_cause x.0.1) _ row x.2 in
    let action = in_steps (within 1 99 x.0.0) _ row y.2 in
    let message = in_steps (within 0 499 y.0.0) _ row action.2 in
    let rx = read-within 1 99 x.0.0 action.0 action.1 in
    let ry = read-within 0 499 y.0.0 message.0 message.1 in
    let found : ℕ × ℕ = (action.0, message.0) in
    let same = same_ok found row message.2 in
    subst (λ (r : ℕ × ℕ). IsDefaultRow line r.0 r.1) same
    (record {
      ignored = y.0.1;
      numbers =
          number_then (subst (λ n. BeginsWithNumber line n x.0.1) rx.0 (read-number line x.0 x.1))
          (number_then (subst (λ n. BeginsWithNumber x.0.1 n y.0.1) ry.0
          (read-number x.0.1 y.0 y.1)) no_number);
      action_in_range = rx.1;
      message_in_range = ry.1;
    })

pub read-way : (line : List ℕ) (row : ℕ × Going) → way_row line ≡ Ok row
    → IsWayRow line row.0 row.1 × (length row.1.motions ≤ 40)
unfolding way_row
read-way line row is =
    let x = in_steps (number_or_cause line) _ row is in
    let y = in_steps (number_or_cause x.0.1) _ row x.2 in
    let list = in_steps (list_in y.0.1) _ row y.2 in
    let ns = in_steps (some_of list.0) _ row list.2 in
    let place = in_steps (within 1 300 x.0.0) _ row ns.2 in
    let target = in_steps (within 0 999999 y.0.0) _ row place.2 in
    let all = in_steps (all_within 1 999 ns.0) _ row target.2 in
    let motions = in_steps (few_of all.0) _ row all.2 in
    let rx = read-within 1 300 x.0.0 place.0 place.1 in
    let ry = read-within 0 999999 y.0.0 target.0 target.1 in
    let some = read-some list.0 ns.0 ns.1 in
    let each = read-all 1 999 ns.0 all.0 all.1 in
    let few = read-few all.0 motions.0 motions.1 in
    let numbers : list.0 ≡ map Natural motions.0 = some.0 ∙ each.0 ∙ ap (map Natural) few.0 in
    let count : length (map Natural motions.0) ≡ length motions.0 = length-map motions.0 Natural in
    let found : ℕ × Going =
    (place.0, record { target = target.0; motions = motions.0 }) in
    let same = same_ok found row motions.2 in
    subst (λ (r : ℕ × Going). IsWayRow line r.0 r.1 × (length r.1.motions ≤ 40)) same (
      record {
        rest = y.0.1;
        numbers =
            number_then (subst (λ n. BeginsWithNumber line n x.0.1) rx.0 (read-number line x.0 x.1))
            (number_then (subst (λ n. BeginsWithNumber x.0.1 n y.0.1) ry.0
            (read-number x.0.1 y.0 y.1)) no_number);
        motions = subst (IsNumberList y.0.1) numbers (read-list y.0.1 list.0 list.1);
        some = rw (sym count)
            (subst (λ (ms : List Number). 1 ≤ length ms) (sym some.0 ∙ numbers) some.1);
        place_in_range = rx.1;
        target_in_range = ry.1;
        motions_in_range = subst (All (IsBetween 1 999)) few.0 each.1;
      },
      few.1,
    )

pub condition-read : (line : List ℕ) (bit : ℕ) (places : List ℕ) → IsConditionRow line bit places
    → length places ≤ 40 → condition_row line ≡ Ok (bit, places)
unfolding condition_row
condition-read line bit places is few =
    let n = number-read line (Natural bit) is.rest is.number in
    let list = list-read is.rest (map Natural places) is.has_places in
    let range = within-read 0 20 bit is.bit_in_range in
    let all = all-read 1 300 places is.places_in_range in
    let most = few-read places few in
    rw (n, list, range, all, most) refl

pub read-condition : (line : List ℕ) (row : ℕ × List ℕ) → condition_row line ≡ Ok row
    → IsConditionRow line row.0 row.1 × (length row.1 ≤ 40)
unfolding condition_row
read-condition line row is =
    let n = in_steps (number_or_cause line) _ row is in
    let list = in_steps (list_in n.0.1) _ row n.2 in
    let bit = in_steps (within 0 20 n.0.0) _ row list.2 in
    let all = in_steps (all_within 1 300 list.0) _ row bit.2 in
    let places = in_steps (few_of all.0) _ row all.2 in
    let range = read-within 0 20 n.0.0 bit.0 bit.1 in
    let each = read-all 1 300 list.0 all.0 all.1 in
    let few = read-few all.0 places.0 places.1 in
    let found : ℕ × List ℕ = (bit.0, places.0) in
    let same = same_ok found row places.2 in
    subst (λ (r : ℕ × List ℕ). IsConditionRow line r.0 r.1 × (length r.1 ≤ 40)) same (
      record {
        rest = n.0.1;
        number = subst (λ m. BeginsWithNumber line m n.0.1) range.0 (read-number line n.0 n.1);
        has_places = subst (IsNumberList n.0.1) (each.0 ∙ ap (map Natural) few.0)
            (read-list n.0.1 list.0 list.1);
        bit_in_range = range.1;
        places_in_range = subst (All (IsBetween 1 300)) few.0 each.1;
      },
      few.1,
    )

pub hint-read : (line : List ℕ) (number : ℕ) (hint : Hint) → IsHintRow line number hint
    → hint_row line ≡ Ok (number, hint)
unfolding hint_row
hint-read line number hint is = at is.numbers where
  at : BeginsWithNumbers line
      (Natural number ∷ Natural hint.turns ∷ Natural hint.points ∷ Natural hint.question
      ∷ Natural hint.text ∷ []) is.ignored → hint_row line ≡ Ok (number, hint)
  at (number_then {rest = r1} h
      (number_then {rest = r2} t
      (number_then {rest = r3} p
      (number_then {rest = r4} q (number_then {rest = r5} x no_number))))) =
      let ph = number-read line (Natural number) r1 h in
      let pt = number-read r1 (Natural hint.turns) r2 t in
      let pp = number-read r2 (Natural hint.points) r3 p in
      let pq = number-read r3 (Natural hint.question) r4 q in
      let px = number-read r4 (Natural hint.text) r5 x in
      let rh = within-read 1 20 number is.hint_in_range in
      let rt = within-read 0 9999 hint.turns is.turns_in_range in
      let rp = within-read 0 100 hint.points is.points_in_range in
      let rq = within-read 0 499 hint.question is.question_in_range in
      let rx = within-read 0 499 hint.text is.text_in_range in
      rw (ph, pt, pp, pq, px, rh, rt, rp, rq, rx) refl

pub read-hint : (line : List ℕ) (row : ℕ × Hint) → hint_row line ≡ Ok row
    → IsHintRow line row.0 row.1
unfolding hint_row
read-hint line row is =
    let h = in_steps (number_or_cause line) _ row is in
    let t = in_steps (number_or_cause h.0.1) _ row h.2 in
    let p = in_steps (number_or_cause t.0.1) _ row t.2 in
    let q = in_steps (number_or_cause p.0.1) _ row p.2 in
    let x = in_steps (number_or_cause q.0.1) _ row q.2 in
    let number = in_steps (within 1 20 h.0.0) _ row x.2 in
    let turns = in_steps (within 0 9999 t.0.0) _ row number.2 in
    let points = in_steps (within 0 100 p.0.0) _ row turns.2 in
    let question = in_steps (within 0 499 q.0.0) _ row points.2 in
    let text = in_steps (within 0 499 x.0.0) _ row question.2 in
    let rh = read-within 1 20 h.0.0 number.0 number.1 in
    let rt = read-within 0 9999 t.0.0 turns.0 turns.1 in
    let rp = read-within 0 100 p.0.0 points.0 points.1 in
    let rq = read-within 0 499 q.0.0 question.0 question.1 in
    let rx = read-within 0 499 x.0.0 text.0 text.1 in
    let found : ℕ × Hint = (
      number.0,
      record { turns = turns.0; points = points.0; question = question.0; text = text.0 },
    ) in
    let same = same_ok found row text.2 in
    subst (λ (r : ℕ × Hint). IsHintRow line r.0 r.1) same
    (record {
      ignored = x.0.1;
      numbers =
          number_then (subst (λ n. BeginsWithNumber line n h.0.1) rh.0 (read-number line h.0 h.1))
          (number_then
          (subst (λ n. BeginsWithNumber h.0.1 n t.0.1) rt.0 (read-number h.0.1 t.0 t.1))
          (number_then
          (subst (λ n. BeginsWithNumber t.0.1 n p.0.1) rp.0 (read-number t.0.1 p.0 p.1))
          (number_then
          (subst (λ n. BeginsWithNumber p.0.1 n q.0.1) rq.0 (read-number p.0.1 q.0 q.1))
          (number_then
          (subst (λ n. BeginsWithNumber q.0.1 n x.0.1) rx.0 (read-number q.0.1 x.0 x.1))
          no_number))));
      hint_in_range = rh.1;
      turns_in_range = rt.1;
      points_in_range = rp.1;
      question_in_range = rq.1;
      text_in_range = rx.1;
    })

-- ---- rows of words and placements

pub word-row-read : (line : List ℕ) (entry : WordEntry) → IsWordRow line entry
    → word_row line ≡ Ok entry
unfolding word_row
word-row-read line entry is =
    let n = number-read line (Natural entry.number) is.rest is.number in
    let word = word-read is.rest entry.word is.ignored is.word in
    let range = word_number-read entry.number is.number_in_range in
    rw (n, word, range) refl

pub read-word-row : (line : List ℕ) (entry : WordEntry) → word_row line ≡ Ok entry
    → IsWordRow line entry
unfolding word_row
read-word-row line entry is =
    let n = in_steps (number_or_cause line) _ entry is in
    let word = in_steps (word_or_cause n.0.1) _ entry n.2 in
    let number = in_steps (word_number n.0.0) _ entry word.2 in
    let range = read-word_number n.0.0 number.0 number.1 in
    let found : WordEntry = record { number = number.0; word = word.0 } in
    let same = same_ok found entry number.2 in
    subst (IsWordRow line) same
    (record {
      rest = n.0.1;
      ignored = after_field (after_blanks n.0.1);
      number = subst (λ m. BeginsWithNumber line m n.0.1) range.0 (read-number line n.0 n.1);
      word = read-word n.0.1 word.0 word.1;
      number_in_range = range.1;
    })

pub placement-read : (line : List ℕ) (object : ℕ) (placement : Placement)
    → IsPlacementRow line object placement → placement_row line ≡ Ok (object, placement)
unfolding placement_row
placement-read line object placement is =
    let x = number-read line (Natural object) is.after_object is.begins in
    let p = may-read is.after_object (Natural placement.first) is.after_first is.has_first in
    let q = may-read is.after_first is.second is.ignored is.has_second in
    let rx = within-read 1 100 object is.object_in_range in
    let rp = within-read 0 300 placement.first is.first_in_range in
    let rq = second-read is.second placement.second is.second_in_range in
    rw (x, p, q, rx, rp, rq) refl

pub read-placement : (line : List ℕ) (row : ℕ × Placement) → placement_row line ≡ Ok row
    → IsPlacementRow line row.0 row.1
unfolding placement_row
read-placement line row is =
    let x = in_steps (number_or_cause line) _ row is in
    let p = in_steps (number_or_zero x.0.1) _ row x.2 in
    let q = in_steps (number_or_zero p.0.1) _ row p.2 in
    let object = in_steps (within 1 100 x.0.0) _ row q.2 in
    let first = in_steps (within 0 300 p.0.0) _ row object.2 in
    let second = in_steps (second_place q.0.0) _ row first.2 in
    let rx = read-within 1 100 x.0.0 object.0 object.1 in
    let rp = read-within 0 300 p.0.0 first.0 first.1 in
    let found : ℕ × Placement =
    (object.0, record { first = first.0; second = second.0 }) in
    let same = same_ok found row second.2 in
    subst (λ (r : ℕ × Placement). IsPlacementRow line r.0 r.1) same
    (record {
      after_object = x.0.1;
      after_first = p.0.1;
      second = q.0.0;
      ignored = q.0.1;
      begins = subst (λ n. BeginsWithNumber line n x.0.1) rx.0 (read-number line x.0 x.1);
      has_first = subst (λ n. MayBeginWithNumber x.0.1 n p.0.1) rp.0 (read-may x.0.1 p.0 p.1);
      has_second = read-may p.0.1 q.0 q.1;
      object_in_range = rx.1;
      first_in_range = rp.1;
      second_in_range = read-second q.0.0 second.0 second.1;
    })
