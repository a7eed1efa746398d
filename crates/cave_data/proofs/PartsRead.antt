-- The parts of a row are there, and in their ranges, exactly if they are read.
use Rattle.std.proofs.Common.{◌≡◌, ℕ, ◌≤◌, Bool, true, false, List, [], ◌∷◌, length, map, Result}
use Rattle.std.proofs.Common.{Ok, Err, refl, sym, ap, subst, ◌∙◌, arith}
use Rattle.std.proofs.lemmas.Bool.{false≢true}
use Rattle.std.specs.Result.{is_ok}
use Rattle.std.proofs.lemmas.List.{length-map}
use Rattle.data_rows.specs.declared.error.Cause.{Cause}
use Rattle.data_rows.specs.declared.error.Cause.TheVariants.{BadNumber, OutOfRange, TooManyRows}
use Rattle.data_rows.specs.declared.error.Section.{Section}
use Rattle.data_rows.specs.declared.number.Number.{Number}
use Rattle.data_rows.specs.declared.number.Number.TheVariants.{Natural}
use Rattle.data_rows.specs.Fields.{after_blanks, after_field}
use Rattle.data_rows.specs.Rows.{◌>>=◌, number_or_cause, list_in, some_of, word_or_cause}
use Rattle.data_rows.specs.Rows.{number_or_zero, within, all_within, entry_in, Going}
use Rattle.data_rows.specs.Rows.{LAST_MOTION, LAST_TARGET}
use Rattle.data_rows.specs.RowParts.{BeginsWithNumber, BeginsWithNumbers, no_number, number_then}
use Rattle.data_rows.specs.RowParts.{IsNumberList}
use Rattle.data_rows.specs.RowGrammar.{IsWayRow}
use Rattle.data_rows.proofs.ReadParts.{number-read, read-number, within-read, read-within, may-read}
use Rattle.data_rows.proofs.ReadParts.{all-read, read-may, list-read, read-list, read-all}
use Rattle.data_rows.proofs.ReadParts.{some-read, read-some, word-read, read-word}
use Rattle.data_rows.proofs.RowLemmas.{entry-read, read-entry}
use Rattle.cave_data.specs.Steps.{HasParts, IsInRange}
use Rattle.base_lines.specs.Numbers.{LAST_PLACE, LAST_HINT}

-- whether the numbers and words of a row of the section are read
abbrev pub reads_parts : Section → List ℕ → Bool
reads_parts Section.Travel line =
    is_ok (number_or_cause line >>= λ place. number_or_cause place.1 >>= λ target. list_in target.1
    >>= some_of)
reads_parts Section.Words line = is_ok (number_or_cause line >>= λ number. word_or_cause number.1)
reads_parts Section.Placements line =
    is_ok (number_or_cause line >>= λ object. number_or_zero object.1
    >>= λ first. number_or_zero first.1)
reads_parts Section.Defaults line =
    is_ok (number_or_cause line >>= λ action. number_or_cause action.1)
reads_parts Section.Conditions line = is_ok (number_or_cause line >>= λ bit. list_in bit.1)
reads_parts Section.Hints line =
    is_ok (number_or_cause line >>= λ hint. number_or_cause hint.1
    >>= λ turns. number_or_cause turns.1 >>= λ points. number_or_cause points.1
    >>= λ question. number_or_cause question.1)
reads_parts s line = is_ok (number_or_cause line)

-- whether a row is read, however long a list of it is
abbrev pub reads_in_range : Section → List ℕ → Bool
reads_in_range Section.Travel line =
    is_ok (number_or_cause line >>= λ place. number_or_cause place.1 >>= λ target. list_in target.1
    >>= λ list. some_of list >>= λ motions. within 1 LAST_PLACE place.0
    >>= λ from. within 0 LAST_TARGET target.0 >>= λ to. all_within 1 LAST_MOTION motions)
reads_in_range Section.Conditions line =
    is_ok (number_or_cause line >>= λ bit. list_in bit.1 >>= λ places. within 0 LAST_HINT bit.0
    >>= λ number. all_within 1 LAST_PLACE places)
reads_in_range s line = is_ok (entry_in s line)

-- what is read gives a row this cause, and no lower one
abbrev pub IsLowestRead : Cause → Bool → Bool → Type 0
IsLowestRead BadNumber parts ranges = parts ≡ false
IsLowestRead OutOfRange parts ranges = (parts ≡ true) × (ranges ≡ false)
IsLowestRead TooManyRows parts ranges = (parts ≡ true) × (ranges ≡ true)
IsLowestRead cause parts ranges = ⊥

-- ---- what is read is there

module _ {A B : Type 0} where
  ok_steps : (r : Result A Cause) (f : A → Result B Cause) → is_ok (r >>= f) ≡ true
      → (x : A) × (r ≡ Ok x) × (is_ok (f x) ≡ true)
  ok_steps (Ok x) f e = (x, refl, e)
  ok_steps (Err cause) f e = cc

module _ {A : Type 0} where
  ok_found : (r : Result A Cause) → is_ok r ≡ true → (x : A) × (r ≡ Ok x)
  ok_found (Ok x) e = (x, refl)
  ok_found (Err cause) e = cc

read_first : (line : List ℕ) → is_ok (number_or_cause line) ≡ true
    → (number : Number) × (rest : List ℕ) × BeginsWithNumber line number rest
read_first line e =
    let n = ok_found (number_or_cause line) e in (n.0.0, n.0.1, read-number line n.0 n.1)

pub parts_found : (s : Section) (line : List ℕ) → reads_parts s line ≡ true → HasParts s line
parts_found Section.Travel line e =
    let x = ok_steps (number_or_cause line) _ e in
    let y = ok_steps (number_or_cause x.0.1) _ x.2 in
    let list = ok_steps (list_in y.0.1) _ y.2 in
    let some = ok_found (some_of list.0) list.2 in
    let any = read-some list.0 some.0 some.1 in (
      x.0.0,
      y.0.0,
      y.0.1,
      some.0,
      number_then (read-number line x.0 x.1) (number_then (read-number x.0.1 y.0 y.1) no_number),
      subst (IsNumberList y.0.1) any.0 (read-list y.0.1 list.0 list.1),
      any.1,
    )
parts_found Section.Words line e =
    let n = ok_steps (number_or_cause line) _ e in
    let word = ok_found (word_or_cause n.0.1) n.2 in (
      n.0.0,
      n.0.1,
      word.0,
      after_field (after_blanks n.0.1),
      read-number line n.0 n.1,
      read-word n.0.1 word.0 word.1,
    )
parts_found Section.Placements line e =
    let x = ok_steps (number_or_cause line) _ e in
    let p = ok_steps (number_or_zero x.0.1) _ x.2 in
    let q = ok_found (number_or_zero p.0.1) p.2 in (
      x.0.0,
      x.0.1,
      p.0.0,
      p.0.1,
      q.0.0,
      q.0.1,
      read-number line x.0 x.1,
      read-may x.0.1 p.0 p.1,
      read-may p.0.1 q.0 q.1,
    )
parts_found Section.Defaults line e =
    let x = ok_steps (number_or_cause line) _ e in
    let y = ok_found (number_or_cause x.0.1) x.2 in (
      x.0.0,
      y.0.0,
      y.0.1,
      number_then (read-number line x.0 x.1) (number_then (read-number x.0.1 y.0 y.1) no_number),
    )
parts_found Section.Conditions line e =
    let n = ok_steps (number_or_cause line) _ e in
    let list = ok_found (list_in n.0.1) n.2 in
    (n.0.0, n.0.1, list.0, read-number line n.0 n.1, read-list n.0.1 list.0 list.1)
parts_found Section.Hints line e =
    let h = ok_steps (number_or_cause line) _ e in
    let t = ok_steps (number_or_cause h.0.1) _ h.2 in
    let p = ok_steps (number_or_cause t.0.1) _ t.2 in
    let q = ok_steps (number_or_cause p.0.1) _ p.2 in
    let x = ok_found (number_or_cause q.0.1) q.2 in (
      h.0.0 ∷ t.0.0 ∷ p.0.0 ∷ q.0.0 ∷ x.0.0 ∷ [],
      x.0.1,
      number_then (read-number line h.0 h.1) (number_then (read-number h.0.1 t.0 t.1)
          (number_then (read-number t.0.1 p.0 p.1) (number_then (read-number p.0.1 q.0 q.1)
          (number_then (read-number q.0.1 x.0 x.1) no_number)))),
      refl,
    )
parts_found Section.LongTexts line e = read_first line e
parts_found Section.ShortTexts line e = read_first line e
parts_found Section.Objects line e = read_first line e
parts_found Section.Messages line e = read_first line e
parts_found Section.Classes line e = read_first line e
parts_found Section.Magic line e = read_first line e

pub range_found : (s : Section) (line : List ℕ) → reads_in_range s line ≡ true → IsInRange s line
range_found Section.Travel line e =
    let x = ok_steps (number_or_cause line) _ e in
    let y = ok_steps (number_or_cause x.0.1) _ x.2 in
    let list = ok_steps (list_in y.0.1) _ y.2 in
    let some = ok_steps (some_of list.0) _ list.2 in
    let place = ok_steps (within 1 300 x.0.0) _ some.2 in
    let target = ok_steps (within 0 999999 y.0.0) _ place.2 in
    let motions = ok_found (all_within 1 999 some.0) target.2 in
    let rx = read-within 1 300 x.0.0 place.0 place.1 in
    let ry = read-within 0 999999 y.0.0 target.0 target.1 in
    let any = read-some list.0 some.0 some.1 in
    let each = read-all 1 999 some.0 motions.0 motions.1 in
    let count : length (map Natural motions.0) ≡ length motions.0 =
    length-map motions.0 Natural in (
      place.0,
      record { target = target.0; motions = motions.0 },
      record {
        rest = y.0.1;
        numbers =
            number_then
            (subst (λ n. BeginsWithNumber line n x.0.1) rx.0 (read-number line x.0 x.1))
            (number_then (subst (λ n. BeginsWithNumber x.0.1 n y.0.1) ry.0
            (read-number x.0.1 y.0 y.1)) no_number);
        motions = subst (IsNumberList y.0.1) (any.0 ∙ each.0) (read-list y.0.1 list.0 list.1);
        some = rw (sym count) (subst (λ (ms : List Number). 1 ≤ length ms) each.0 any.1);
        place_in_range = rx.1;
        target_in_range = ry.1;
        motions_in_range = each.1;
      },
    )
range_found Section.Conditions line e =
    let n = ok_steps (number_or_cause line) _ e in
    let list = ok_steps (list_in n.0.1) _ n.2 in
    let bit = ok_steps (within 0 20 n.0.0) _ list.2 in
    let places = ok_found (all_within 1 300 list.0) bit.2 in
    let range = read-within 0 20 n.0.0 bit.0 bit.1 in
    let each = read-all 1 300 list.0 places.0 places.1 in (
      bit.0,
      places.0,
      record {
        rest = n.0.1;
        number = subst (λ m. BeginsWithNumber line m n.0.1) range.0 (read-number line n.0 n.1);
        has_places = subst (IsNumberList n.0.1) each.0 (read-list n.0.1 list.0 list.1);
        bit_in_range = range.1;
        places_in_range = each.1;
      },
    )
range_found s line e =
    let row = ok_found (entry_in s line) e in (row.0, read-entry s line row.0 row.1)

-- ---- what is there is read

hint_parts_read : (line : List ℕ) (ns : List Number) (last : List ℕ)
    → BeginsWithNumbers line ns last → length ns ≡ 5 → reads_parts Section.Hints line ≡ true
hint_parts_read line ns last no_number count = absurd (omega (arith, count))
hint_parts_read line ns last (number_then a no_number) count = absurd (omega (arith, count))
hint_parts_read line ns last (number_then a (number_then b no_number)) count =
    absurd (omega (arith, count))
hint_parts_read line ns last (number_then a (number_then b (number_then c no_number))) count =
    absurd (omega (arith, count))
hint_parts_read line ns last
    (number_then a (number_then b (number_then c (number_then d no_number)))) count =
    absurd (omega (arith, count))
hint_parts_read line ns last (number_then {number = h} {rest = r1} ph
    (number_then {number = t} {rest = r2} pt
    (number_then {number = p} {rest = r3} pp
    (number_then {number = q} {rest = r4} pq
    (number_then {number = x} {rest = r5} px more))))) count =
    let eh = number-read line h r1 ph in
    let et = number-read r1 t r2 pt in
    let ep = number-read r2 p r3 pp in
    let eq = number-read r3 q r4 pq in
    let ex = number-read r4 x r5 px in
    rw (eh, et, ep, eq, ex) refl

parts_read : (s : Section) (line : List ℕ) → HasParts s line → reads_parts s line ≡ true
parts_read Section.Travel line
    (place, target, rest, motions, number_then {rest = mid} x (number_then y no_number), list, some)
    =
    let px = number-read line place mid x in
    let py = number-read mid target rest y in
    let pl = list-read rest motions list in
    let any = some-read motions some in
    rw (px, py, pl, any) refl
parts_read Section.Words line (number, rest, word, ignored, begins, goes_on) =
    let n = number-read line number rest begins in
    let w = word-read rest word ignored goes_on in
    rw (n, w) refl
parts_read Section.Placements line (object, r1, first, r2, second, r3, begins, one, two) =
    let x = number-read line object r1 begins in
    let p = may-read r1 first r2 one in
    let q = may-read r2 second r3 two in
    rw (x, p, q) refl
parts_read Section.Defaults line
    (action, message, ignored, number_then {rest = mid} x (number_then y no_number)) =
    let px = number-read line action mid x in
    let py = number-read mid message ignored y in
    rw (px, py) refl
parts_read Section.Conditions line (bit, rest, places, begins, list) =
    let n = number-read line bit rest begins in
    let pl = list-read rest places list in
    rw (n, pl) refl
parts_read Section.Hints line (numbers, ignored, begins, five) =
    hint_parts_read line numbers ignored begins five
parts_read Section.LongTexts line (number, rest, begins) =
    ap is_ok (number-read line number rest begins)
parts_read Section.ShortTexts line (number, rest, begins) =
    ap is_ok (number-read line number rest begins)
parts_read Section.Objects line (number, rest, begins) =
    ap is_ok (number-read line number rest begins)
parts_read Section.Messages line (number, rest, begins) =
    ap is_ok (number-read line number rest begins)
parts_read Section.Classes line (number, rest, begins) =
    ap is_ok (number-read line number rest begins)
parts_read Section.Magic line (number, rest, begins) =
    ap is_ok (number-read line number rest begins)

pub parts_missing : (s : Section) (line : List ℕ) → reads_parts s line ≡ false
    → ¬ HasParts s line
parts_missing s line e parts = absurd (false≢true (sym e ∙ parts_read s line parts))

way_range_read : (line : List ℕ) (place : ℕ) (going : Going) → IsWayRow line place going
    → reads_in_range Section.Travel line ≡ true
way_range_read line place going is = at is.numbers where
  at : BeginsWithNumbers line (Natural place ∷ Natural going.target ∷ []) is.rest
      → reads_in_range Section.Travel line ≡ true
  at (number_then {rest = after_place} x (number_then y no_number)) =
      let px = number-read line (Natural place) after_place x in
      let py = number-read after_place (Natural going.target) is.rest y in
      let list = list-read is.rest (map Natural going.motions) is.motions in
      let count : length (map Natural going.motions) ≡ length going.motions =
      length-map going.motions Natural in
      let any = some-read (map Natural going.motions) (rw count is.some) in
      let from = within-read 1 300 place is.place_in_range in
      let to = within-read 0 999999 going.target is.target_in_range in
      let all = all-read 1 999 going.motions is.motions_in_range in
      rw (px, py, list, any, from, to, all) refl

range_read : (s : Section) (line : List ℕ) → IsInRange s line → reads_in_range s line ≡ true
range_read Section.Travel line (place, going, is) = way_range_read line place going is
range_read Section.Conditions line (bit, places, is) =
    let n = number-read line (Natural bit) is.rest is.number in
    let list = list-read is.rest (map Natural places) is.has_places in
    let range = within-read 0 20 bit is.bit_in_range in
    let all = all-read 1 300 places is.places_in_range in
    rw (n, list, range, all) refl
range_read s line is = ap is_ok (entry-read s line is.0 is.1)

pub range_missed : (s : Section) (line : List ℕ) → reads_in_range s line ≡ false
    → ¬ IsInRange s line
range_missed s line e range = absurd (false≢true (sym e ∙ range_read s line range))
