-- A line is of the kind that is reported for it, and of no other.
use Rattle.std.proofs.Common.{◌≡◌, ℕ, Bool, true, false, cond, List, length, take, Option, Some}
use Rattle.std.proofs.Common.{None, option_map, codes, bytes_eq, IsTrue, refl, sym, subst, ◌∙◌, ◌⊎◌}
use Rattle.std.proofs.Common.{inl, inr}
use Rattle.std.specs.List.{list_all}
use Rattle.std.proofs.lemmas.Bool.{false≢true}
use Rattle.base_lines.specs.Bytes.{is_blank}
use Rattle.replay_edits.specs.Edit.{Change, inserts, deletes, replaces, reseeds}
use Rattle.replay_scripts.specs.EditFlaw.{edit_flaw_of}
use Rattle.replay_scripts.specs.Line.{LineKind, nothing, begin, end, edit, nonsense, IsKind}
use Rattle.replay_scripts.specs.Line.{IsNumbered, IsText, IsWord, Spells, change_without_text}
use Rattle.replay_scripts.specs.Line.{edit_of, edit_or_nonsense, is_word_line, kind_of_script_line}
use Rattle.replay_scripts.specs.Line.{number_after_word, text_of_edit, with_text}
use Rattle.base_lines.specs.LogLine.{is_skipped}
use Rattle.replay_scripts.proofs.WordLines.{not_true, first_of_text, first_of_blanks}
use Rattle.replay_scripts.proofs.WordLines.{text_of_edit-from_text, IsText-from_text_in}
use Rattle.replay_scripts.proofs.WordLines.{is_word_line-from_word, IsWord-from_is_word}
use Rattle.replay_scripts.proofs.WordLines.{number_after-from_line, some_found}
use Rattle.replay_scripts.proofs.WordLines.{IsNumbered-from_number_after}

-- ---- edits

missed : (word line : List ℕ) → bytes_eq (take (length word) line) word ≡ false
    → number_after_word word line ≡ None
unfolding number_after_word
missed word line other = rw other refl

edit_of-from_line : (line : List ℕ) (change : Change) → Spells line change
    → edit_of line ≡ Some change
unfolding edit_of
edit_of-from_line line (inserts at text) (rest, is, text_is) =
    let found =
    number_after-from_line (codes "insert") line at rest is (first_of_text rest text text_is) in
    let after_it = text_of_edit-from_text rest text text_is in
    rw (found, after_it) refl
edit_of-from_line line (deletes at) (rest, is, blank) =
    let parts = is.parts in
    let found =
    number_after-from_line (codes "delete") line at rest is (first_of_blanks rest blank) in
    let no_insert = missed (codes "insert") line (rw parts refl) in
    rw (no_insert, found, blank) refl
edit_of-from_line line (replaces at text) (rest, is, text_is) =
    let parts = is.parts in
    let found =
    number_after-from_line (codes "replace") line at rest is
    (first_of_text rest text text_is) in
    let after_it = text_of_edit-from_text rest text text_is in
    let no_insert = missed (codes "insert") line (rw parts refl) in
    let no_delete = missed (codes "delete") line (rw parts refl) in
    rw (no_insert, no_delete, found, after_it) refl
edit_of-from_line line (reseeds seed) (rest, is, blank) =
    let parts = is.parts in
    let found =
    number_after-from_line (codes "seed") line seed rest is (first_of_blanks rest blank) in
    let no_insert = missed (codes "insert") line (rw parts refl) in
    let no_delete = missed (codes "delete") line (rw parts refl) in
    let no_replace = missed (codes "replace") line (rw parts refl) in
    rw (no_insert, no_delete, no_replace, found, blank) refl

-- the change has the number that was found and the text after it
record IsOfText (make : ℕ → List ℕ → Change) (found : Option (ℕ × List ℕ)) (change : Change) : Type
    0 where
  number : ℕ
  rest : List ℕ
  text : List ℕ
  is_found : found ≡ some_found number rest
  is_text : IsText rest text
  made : make number text ≡ change

-- the change has the number that was found, with blanks after it
record IsAlone (make : ℕ → Change) (found : Option (ℕ × List ℕ)) (change : Change) : Type 0 where
  number : ℕ
  rest : List ℕ
  is_found : found ≡ some_found number rest
  all_blank : IsTrue (list_all is_blank rest)
  made : make number ≡ change

with_text_gives : (make : ℕ → List ℕ → Change) (found : Option (ℕ × List ℕ)) (later : Option Change)
    (change : Change) → with_text make found later ≡ Some change
    → IsOfText make found change ⊎ (later ≡ Some change)
with_text_gives make None later change is = inr is
with_text_gives make (Some (number, rest)) later change is = split (text_of_edit rest) refl is
  where
    split : (text : Option (List ℕ)) → text_of_edit rest ≡ text
        → option_map (make number) text ≡ Some change
        → IsOfText make (some_found number rest) change ⊎ (later ≡ Some change)
    split None e h = cc
    split (Some text) e h =
        let made : make number text ≡ change = cc in
        inl (record {
          number = number;
          rest = rest;
          text = text;
          is_found = refl;
          is_text = IsText-from_text_in rest text e;
          made = made;
        })

alone_gives : (make : ℕ → Change) (found : Option (ℕ × List ℕ)) (later : Option Change)
    (change : Change) → change_without_text make found later ≡ Some change
    → IsAlone make found change ⊎ (later ≡ Some change)
alone_gives make None later change is = inr is
alone_gives make (Some (number, rest)) later change is = split (list_all is_blank rest) refl is
  where
    split : (blank : Bool) → list_all is_blank rest ≡ blank
        → cond blank (Some (make number)) None ≡ Some change
        → IsAlone make (some_found number rest) change ⊎ (later ≡ Some change)
    split false e h = cc
    split true e h =
        let made : make number ≡ change = cc in
        inl (record { number = number; rest = rest; is_found = refl; all_blank = e; made = made })

Spells-of_text : (make : ℕ → List ℕ → Change) (word line : List ℕ) (change : Change)
    → ((number : ℕ) (rest text : List ℕ) → IsNumbered word line number rest → IsText rest text
    → Spells line (make number text))
    → IsOfText make (number_after_word word line) change → Spells line change
Spells-of_text make word line change spell is =
    subst (Spells line) is.made
    (spell is.number is.rest is.text
    (IsNumbered-from_number_after word line is.number is.rest is.is_found) is.is_text)

Spells-change_without_text : (make : ℕ → Change) (word line : List ℕ) (change : Change)
    → ((number : ℕ) (rest : List ℕ) → IsNumbered word line number rest
    → IsTrue (list_all is_blank rest) → Spells line (make number))
    → IsAlone make (number_after_word word line) change → Spells line change
Spells-change_without_text make word line change spell is =
    subst (Spells line) is.made
    (spell is.number is.rest
    (IsNumbered-from_number_after word line is.number is.rest is.is_found) is.all_blank)

abbrev reseed_in : List ℕ → Option Change
reseed_in line = change_without_text reseeds (number_after_word (codes "seed") line) None

abbrev replace_in : List ℕ → Option Change
replace_in line = with_text replaces (number_after_word (codes "replace") line) (reseed_in line)

abbrev delete_in : List ℕ → Option Change
delete_in line =
    change_without_text deletes (number_after_word (codes "delete") line) (replace_in line)

Spells-from_reseed : (line : List ℕ) (change : Change) → reseed_in line ≡ Some change
    → Spells line change
Spells-from_reseed line change is =
    elim (alone_gives reseeds (number_after_word (codes "seed") line) None change is) [
      | inl here ↦ Spells-change_without_text reseeds (codes "seed") line change
          (λ number rest numbered blank. (rest, numbered, blank)) here
      | inr none ↦ cc
    ]

Spells-from_replace : (line : List ℕ) (change : Change) → replace_in line ≡ Some change
    → Spells line change
Spells-from_replace line change is =
    elim (with_text_gives replaces (number_after_word (codes "replace") line)
    (reseed_in line) change is) [
      | inl here ↦ Spells-of_text replaces (codes "replace") line change
          (λ number rest text numbered of. (rest, numbered, of)) here
      | inr later ↦ Spells-from_reseed line change later
    ]

Spells-from_delete : (line : List ℕ) (change : Change) → delete_in line ≡ Some change
    → Spells line change
Spells-from_delete line change is =
    elim (alone_gives deletes (number_after_word (codes "delete") line) (replace_in line) change
    is) [
      | inl here ↦ Spells-change_without_text deletes (codes "delete") line change
          (λ number rest numbered blank. (rest, numbered, blank)) here
      | inr later ↦ Spells-from_replace line change later
    ]

Spells-from_edit_of : (line : List ℕ) (change : Change) → edit_of line ≡ Some change
    → Spells line change
unfolding edit_of
Spells-from_edit_of line change is =
    elim (with_text_gives inserts (number_after_word (codes "insert") line) (delete_in line) change
    is) [
      | inl here ↦ Spells-of_text inserts (codes "insert") line change
          (λ number rest text numbered of. (rest, numbered, of)) here
      | inr later ↦ Spells-from_delete line change later
    ]

-- ---- kinds

kind_holds : (line : List ℕ) (skipped begins ends : Bool) (found : Option Change)
    → is_skipped line ≡ skipped → is_word_line (codes "begin") line ≡ begins
    → is_word_line (codes "end") line ≡ ends → edit_of line ≡ found
    → IsKind line
    (cond skipped nothing
    (cond begins begin (cond ends end (edit_or_nonsense found (edit_flaw_of line)))))
kind_holds line true begins ends found s b e f = s
kind_holds line false true ends found s b e f = IsWord-from_is_word (codes "begin") line b
kind_holds line false false true found s b e f = IsWord-from_is_word (codes "end") line e
kind_holds line false false false (Some change) s b e f = Spells-from_edit_of line change f
kind_holds line false false false None s b e f = (
  λ is. false≢true (sym s ∙ is),
  λ is. false≢true (sym b ∙ is_word_line-from_word (codes "begin") line is),
  λ is. false≢true (sym e ∙ is_word_line-from_word (codes "end") line is),
  λ change is. let spelled = edit_of-from_line line change is in cc,
  refl,
)

-- the line is what it is reported to be
pub IsKind-kind_of_script_line : (line : List ℕ) → IsKind line (kind_of_script_line line)
unfolding kind_of_script_line
IsKind-kind_of_script_line line =
    kind_holds line (is_skipped line) (is_word_line (codes "begin") line)
    (is_word_line (codes "end") line) (edit_of line) refl refl refl refl

-- a line that spells a change is neither skipped nor one of the other words
record IsOther (line : List ℕ) : Type 0 where
  unskipped : is_skipped line ≡ false
  no_begin : is_word_line (codes "begin") line ≡ false
  no_end : is_word_line (codes "end") line ≡ false

other_than_words : (line : List ℕ) (change : Change) → Spells line change → IsOther line
unfolding is_word_line is_skipped
other_than_words line (inserts at text) (rest, is, _) =
    let parts =
    is.parts in
    record { unskipped = rw parts refl; no_begin = rw parts refl; no_end = rw parts refl }
other_than_words line (deletes at) (rest, is, _) =
    let parts =
    is.parts in
    record { unskipped = rw parts refl; no_begin = rw parts refl; no_end = rw parts refl }
other_than_words line (replaces at text) (rest, is, _) =
    let parts =
    is.parts in
    record { unskipped = rw parts refl; no_begin = rw parts refl; no_end = rw parts refl }
other_than_words line (reseeds seed) (rest, is, _) =
    let parts =
    is.parts in
    record { unskipped = rw parts refl; no_begin = rw parts refl; no_end = rw parts refl }

unskipped_begin : (line : List ℕ) → IsWord (codes "begin") line → is_skipped line ≡ false
unfolding is_skipped
unskipped_begin line is = let parts = is.parts in rw parts refl

unskipped_end : (line : List ℕ) → IsWord (codes "end") line → is_skipped line ≡ false
unfolding is_skipped
unskipped_end line is = let parts = is.parts in rw parts refl

end_no_begin : (line : List ℕ) → IsWord (codes "end") line
    → is_word_line (codes "begin") line ≡ false
unfolding is_word_line
end_no_begin line is = let parts = is.parts in rw parts refl

no_edit : (line : List ℕ) (found : Option Change) → edit_of line ≡ found
    → ((change : Change) → ¬ Spells line change) → found ≡ None
no_edit line None is none = refl
no_edit line (Some change) is none = absurd (none change (Spells-from_edit_of line change is))

-- and it is nothing else
pub kind_of_script_line-only : (line : List ℕ) (kind : LineKind) → IsKind line kind
    → kind_of_script_line line ≡ kind
unfolding kind_of_script_line
kind_of_script_line-only line nothing is = rw is refl
kind_of_script_line-only line begin is =
    let s = unskipped_begin line is in let b = is_word_line-from_word (codes "begin") line is in
    rw (s, b) refl
kind_of_script_line-only line end is =
    let s = unskipped_end line is in let b = end_no_begin line is in
    let e = is_word_line-from_word (codes "end") line is in rw (s, b, e) refl
kind_of_script_line-only line (edit change) is =
    let other = other_than_words line change is in
    let s = other.unskipped in
    let b = other.no_begin in
    let e = other.no_end in
    let f = edit_of-from_line line change is in
    rw (s, b, e, f) refl
kind_of_script_line-only line (nonsense flaw) is =
    let s = not_true (is_skipped line) is.0 in
    let b = not_true (is_word_line (codes "begin") line)
    (λ word. is.1 (IsWord-from_is_word (codes "begin") line word)) in
    let e = not_true (is_word_line (codes "end") line)
    (λ word. is.2 (IsWord-from_is_word (codes "end") line word)) in
    let f = no_edit line (edit_of line) refl is.3 in
    rw (s, b, e, f, is.4) refl
