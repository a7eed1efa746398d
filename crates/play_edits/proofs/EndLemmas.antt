-- The ends of the lines of a text that consists of lines and their ends.
use Rattle.std.proofs.Common.{◌≡◌, ℕ, ◌-◌, Bool, true, false, ◌==◌, List, [], ◌∷◌, ◌++◌, length}
use Rattle.std.proofs.Common.{take, drop, All, sym, ap, ◌∙◌, refl, arith, append_assoc, append-nil}
use Rattle.std.proofs.Common.{ap₂, ◌+◌, ◌<◌, subst, Option, None, Some}
use Rattle.std.specs.Prelude.{slice_index, if◌then◌else◌, not}
use Rattle.std.specs.List.{list_all, position_or_len}
use Rattle.std.specs.Str.Lines.{lines, strip_carriage_return}
use Rattle.std.proofs.Math.Seq.{drop-append-add}
use Rattle.std.proofs.lemmas.Bool.{and_parts, ne_eqb}
use Rattle.std.proofs.lemmas.Grind.{common_steps}
use Rattle.std.proofs.lemmas.List.Elements.{All-head, All-tail}
use Rattle.std.proofs.lemmas.List.Sums.{AllPass-from_list_all}
use Rattle.base_lines.proofs.FirstLines.{lines_ended, lines_unended}
use Rattle.base_lines.specs.Line.{is_line_byte}
use Rattle.replay_scripts.proofs.Texts.{IsTextLine}
use Rattle.play_edits.specs.Ends.{are_alike, bytes_of_end, with_line_ends, ends_from, ends_in}
use Rattle.play_edits.specs.Ends.{ends_after_items, ends_left, ends_with, first_end, is_unended}
use Rattle.play_edits.specs.Ends.{last_byte, last_end, log_ends, unlike_ends}
use Rattle.play_edits.specs.Items.{game_after_item}
use Rattle.play_edits.specs.Refusal.{item_refusal}
use Rattle.play_edits.specs.declared.refusal.Refusal.{Refusal}
use Rattle.replay_edits.specs.Edit.{Game}
use Rattle.replay_scripts.specs.Script.{Applied}
use Rattle.play_edits.specs.declared.ends.LineEnd.{LineEnd}
use Rattle.play_edits.specs.declared.ends.LineEnd.TheVariants.{Feed, Return}

-- ---- the bytes of a line

not_that : (byte other : ℕ) → is_line_byte byte ≡ true → is_line_byte other ≡ false
    → (byte == other) ≡ false
not_that byte other stands never =
    ne_eqb byte other
    (λ same. let both : true ≡ false = sym stands ∙ ap is_line_byte same ∙ never in
    cc)

byte_parts : (byte : ℕ) (line : List ℕ) → IsTextLine (byte ∷ line)
    → (is_line_byte byte ≡ true) × IsTextLine line
byte_parts byte line good = and_parts (is_line_byte byte) (list_all is_line_byte line) good

-- none of them ends a line
past_line : (last : ℕ) (line rest : List ℕ) → IsTextLine line
    → ends_from last (line ++ rest) ≡ ends_from (last_byte last line) rest
past_line last [] rest good = refl
past_line last (byte ∷ line) rest good =
    let both = byte_parts byte line good in
    rw (not_that byte 10 both.0 refl) (past_line byte line rest both.1)

last_byte-append : (last : ℕ) (front rest : List ℕ)
    → last_byte last (front ++ rest) ≡ last_byte (last_byte last front) rest
last_byte-append last [] rest = refl
last_byte-append last (byte ∷ front) rest = last_byte-append byte front rest

-- the last isn't a byte that no line has, if the byte before the line isn't
no_such_last : (other : ℕ) → is_line_byte other ≡ false → (last : ℕ) (line : List ℕ)
    → IsTextLine line → (last == other) ≡ false → (last_byte last line == other) ≡ false
no_such_last other never last [] good before = before
no_such_last other never last (byte ∷ line) good before =
    let both = byte_parts byte line good in
    no_such_last other never byte line both.1 (not_that byte other both.0 never)

-- a line with an end is the first of a text
ends_in-line : (line text : List ℕ) (end : LineEnd) → IsTextLine line
    → ends_in ((line ++ bytes_of_end end) ++ text) ≡ end ∷ ends_in text
ends_in-line line text Feed good =
    rw (
      append_assoc line (10 ∷ []) text,
      past_line 10 line (10 ∷ text) good,
      no_such_last 13 refl 10 line good refl,
    ) refl
ends_in-line line text Return good =
    rw (append_assoc line (13 ∷ 10 ∷ []) text, past_line 10 line (13 ∷ 10 ∷ text) good) refl

-- and the last byte of the text is that of the rest
is_unended-line : (line text : List ℕ) (end : LineEnd)
    → is_unended ((line ++ bytes_of_end end) ++ text) ≡ is_unended text
is_unended-line line text Feed =
    rw (append_assoc line (10 ∷ []) text, last_byte-append 10 line (10 ∷ text)) refl
is_unended-line line text Return =
    rw (append_assoc line (13 ∷ 10 ∷ []) text, last_byte-append 10 line (13 ∷ 10 ∷ text)) refl

-- ---- the lines of such a text

abbrev is_feed : ℕ → Bool
is_feed byte = byte == 10

first_feed : (line rest : List ℕ) → IsTextLine line
    → position_or_len is_feed (line ++ rest) ≡ length line + position_or_len is_feed rest
first_feed [] rest good = omega arith
first_feed (byte ∷ line) rest good =
    let both = byte_parts byte line good in
    rw (not_that byte 10 both.0 refl) (omega (arith, first_feed line rest both.1))

-- the bytes before the first line feed are a line, without a carriage return at its end
first_line : (front text : List ℕ)
    → length front ≡ position_or_len is_feed (front ++ 10 ∷ text)
    → lines (front ++ 10 ∷ text) ≡ strip_carriage_return front ∷ lines text
first_line front text at =
    let whole = front ++ 10 ∷ text in
    let inside : length front < length whole = grind (arith, common_steps) in
    let before : take (length front) whole ≡ front = grind (arith, common_steps) in
    lines_ended whole (length front) at inside
    ∙ ap₂ (λ line rest. strip_carriage_return line ∷ lines rest) before
    (drop-append-add front (10 ∷ text) 1)

strip_whole : (line : List ℕ) → IsTextLine line → strip_carriage_return line ≡ line
strip_whole [] good = refl
strip_whole (byte ∷ line) good =
    let last = length (byte ∷ line) - 1 in
    let stands = AllPass-from_list_all is_line_byte (byte ∷ line) good last 0 (omega arith) in
    rw (not_that (slice_index (byte ∷ line) last) 13 stands refl) refl

strip_return : (line : List ℕ) → strip_carriage_return (line ++ 13 ∷ []) ≡ line
strip_return line =
    let whole = line ++ 13 ∷ [] in
    let last : slice_index whole (length whole - 1) ≡ 13 = grind (arith, common_steps) in
    let front : take (length whole - 1) whole ≡ line = grind (arith, common_steps) in
    rw last front

lines_more : (line text : List ℕ) (end : LineEnd) → IsTextLine line
    → lines ((line ++ bytes_of_end end) ++ text) ≡ line ∷ lines text
lines_more line text Feed good =
    ap lines (append_assoc line (10 ∷ []) text)
    ∙ first_line line text (omega (arith, first_feed line (10 ∷ text) good))
    ∙ ap (λ first. first ∷ lines text) (strip_whole line good)
lines_more line text Return good =
    let front = line ++ 13 ∷ [] in
    let same : (line ++ 13 ∷ 10 ∷ []) ++ text ≡ front ++ 10 ∷ text =
    append_assoc line (13 ∷ 10 ∷ []) text ∙ sym (append_assoc line (13 ∷ []) (10 ∷ text)) in
    let at : position_or_len is_feed (front ++ 10 ∷ text) ≡ length line + 1 =
    ap (position_or_len is_feed) (append_assoc line (13 ∷ []) (10 ∷ text))
    ∙ first_feed line (13 ∷ 10 ∷ text) good in
    let long : length front ≡ length line + 1 = grind (arith, common_steps) in
    ap lines same ∙ first_line front text (omega (arith, at, long))
    ∙ ap (λ first. first ∷ lines text) (strip_return line)

-- the lines of such a text are these, with any ends
pub lines-ended : (usual : LineEnd) (unended : Bool) (ends : List LineEnd) (log : List (List ℕ))
    → All IsTextLine log → lines (with_line_ends usual unended ends log) ≡ log
lines-ended usual unended ends [] good = refl
lines-ended usual false ends (line ∷ []) good =
    ap lines (sym (append-nil (line ++ bytes_of_end (first_end usual ends))))
    ∙ lines_more line [] (first_end usual ends) (All-head IsTextLine line [] good)
lines-ended usual true ends ([] ∷ []) good =
    ap lines (sym (append-nil (bytes_of_end (first_end usual ends))))
    ∙ lines_more [] [] (first_end usual ends) refl
lines-ended usual true ends ((byte ∷ line) ∷ []) good =
    let whole = byte ∷ line in
    let none = first_feed whole [] (All-head IsTextLine whole [] good) in
    lines_unended (whole ++ []) (length whole) (omega (arith, none))
    (grind (arith, common_steps)) (grind (arith, common_steps))
    ∙ ap (λ text. text ∷ []) (append-nil whole)
lines-ended usual unended ends (line ∷ next ∷ more) good =
    lines_more line (with_line_ends usual unended (drop 1 ends) (next ∷ more)) (first_end usual ends)
    (All-head IsTextLine line (next ∷ more) good)
    ∙ ap (λ others. line ∷ others)
    (lines-ended usual unended (drop 1 ends) (next ∷ more)
    (All-tail IsTextLine line (next ∷ more) good))

-- ---- texts whose lines all end alike

abbrev pub alike_text : LineEnd → Bool → List (List ℕ) → List ℕ
alike_text end unended log = with_line_ends end unended [] log

pub first-alike : (end : LineEnd) (ends : List LineEnd) → are_alike end ends ≡ true
    → first_end end ends ≡ end
first-alike end [] all = refl
first-alike Feed (Feed ∷ ends) all = refl
first-alike Return (Return ∷ ends) all = refl
first-alike Feed (Return ∷ ends) all = cc
first-alike Return (Feed ∷ ends) all = cc

none-unlike : (end default : LineEnd) (ends : List LineEnd) → are_alike end ends ≡ true
    → unlike_ends (first_end default ends) ends ≡ []
none-unlike end default [] all = refl
none-unlike end default (first ∷ ends) all =
    ap (λ is. if is then [] else first ∷ ends)
    (ap (λ one. are_alike one (first ∷ ends)) (first-alike end (first ∷ ends) all) ∙ all)

one_more : (end : LineEnd) (ends : List LineEnd) → are_alike end ends ≡ true
    → are_alike end (end ∷ ends) ≡ true
one_more Feed ends all = all
one_more Return ends all = all

-- by what is read of such a text, its ends are all alike, and its first end and whether its last
-- line has one give the text again
record IsAlike (end : LineEnd) (unended : Bool) (log : List (List ℕ)) (text : List ℕ) : Type 0
  where
    all : are_alike end (ends_in text) ≡ true
    usual : (default : LineEnd)
        → alike_text (first_end default (ends_in text)) unended log ≡ text
    shut : alike_text end (is_unended text) log ≡ text

alike_alone : (end : LineEnd) (unended : Bool) (line : List ℕ) → IsTextLine line
    → ((one : LineEnd) → last_end unended line one ≡ bytes_of_end one)
    → IsAlike end unended (line ∷ []) (line ++ bytes_of_end end)
alike_alone end unended line good ended =
    let text = line ++ bytes_of_end end in
    let one : ends_in text ≡ end ∷ [] =
    ap ends_in (sym (append-nil text)) ∙ ends_in-line line [] end good in
    record {
      all = rw one (one_more end [] refl);
      usual = λ default. rw (one, ended end) refl;
      shut = ap (λ is. alike_text end is (line ∷ []))
          (ap is_unended (sym (append-nil text)) ∙ is_unended-line line [] end);
    }

alike : (end : LineEnd) (unended : Bool) (log : List (List ℕ)) → All IsTextLine log
    → IsAlike end unended log (alike_text end unended log)
alike end unended [] good = record { all = refl; usual = λ default. refl; shut = refl }
alike end false (line ∷ []) good =
    alike_alone end false line (All-head IsTextLine line [] good) (λ one. refl)
alike end true ([] ∷ []) good = alike_alone end true [] refl (λ one. refl)
alike end true ((byte ∷ line) ∷ []) good =
    let whole = byte ∷ line in
    let stands = All-head IsTextLine whole [] good in
    let both = byte_parts byte line stands in
    record {
      all = ap (are_alike end) (past_line 10 whole [] stands);
      usual = λ default. refl;
      shut = ap (λ is. alike_text end is (whole ∷ [])) (ap is_unended (append-nil whole)
          ∙ ap not (no_such_last 10 refl byte line both.1 (not_that byte 10 both.0 refl)));
    }
alike end unended (line ∷ next ∷ more) good =
    let rest = alike_text end unended (next ∷ more) in
    let others = alike end unended (next ∷ more) (All-tail IsTextLine line (next ∷ more) good) in
    let first = ends_in-line line rest end (All-head IsTextLine line (next ∷ more) good) in
    record {
      all = rw first (one_more end (ends_in rest) others.all);
      usual = λ default.
          ap (λ ends. alike_text (first_end default ends) unended (line ∷ next ∷ more)) first;
      shut = ap (λ is. alike_text end is (line ∷ next ∷ more)) (is_unended-line line rest end)
          ∙ ap (λ text. (line ++ bytes_of_end end) ++ text) others.shut;
    }

-- the ends of such a text are the same ones by what is read of it
pub alike-again : (end default : LineEnd) (unended : Bool) (log : List (List ℕ)) (text : List ℕ)
    → All IsTextLine log → text ≡ alike_text end unended log
    → alike_text (first_end default (ends_in text)) (is_unended text) log ≡ text
alike-again end default unended log text good is =
    let read = subst (IsAlike end unended log) (sym is) (alike end unended log good) in
    let again = subst (IsAlike end (is_unended text) log) read.shut
    (alike end (is_unended text) log good) in
    again.usual default

-- a text whose last line has an end
pub unended-closed : (end : LineEnd) (log : List (List ℕ))
    → is_unended (alike_text end false log) ≡ false
unended-closed end [] = refl
unended-closed end (line ∷ []) =
    ap is_unended (sym (append-nil (line ++ bytes_of_end end))) ∙ is_unended-line line [] end
unended-closed end (line ∷ next ∷ more) =
    is_unended-line line (alike_text end false (next ∷ more)) end
    ∙ unended-closed end (next ∷ more)

-- if each line has an end, the first end is that of all lines
pub first-closed : (end default : LineEnd) (line : List ℕ) (more : List (List ℕ))
    → All IsTextLine (line ∷ more)
    → first_end default (ends_in (alike_text end false (line ∷ more))) ≡ end
first-closed end default line [] good =
    ap (λ text. first_end default (ends_in text)) (sym (append-nil (line ++ bytes_of_end end)))
    ∙ ap (first_end default) (ends_in-line line [] end (All-head IsTextLine line [] good))
first-closed end default line (next ∷ more) good =
    ap (first_end default)
    (ends_in-line line (alike_text end false (next ∷ more)) end
    (All-head IsTextLine line (next ∷ more) good))

-- its ends are all that one, so no ends are listed of such a log, and none after items
pub ends-alike : (end : LineEnd) (unended : Bool) (log : List (List ℕ)) → All IsTextLine log
    → are_alike end (ends_in (alike_text end unended log)) ≡ true
ends-alike end unended log good = (alike end unended log good).all

pub log_ends-alike : (end : LineEnd) (unended : Bool) (log : List (List ℕ)) (text script : List ℕ)
    → All IsTextLine log → text ≡ alike_text end unended log
    → log_ends text script
    ≡ ends_with (first_end (first_end Feed (ends_in script)) (ends_in text)) [] (is_unended text)
    (ends_in script)
log_ends-alike end unended log text script good is =
    let read = subst (IsAlike end unended log) (sym is) (alike end unended log good) in
    rw (none-unlike end (first_end Feed (ends_in script)) (ends_in text) read.all) refl

left-alike : (item : Applied) (refusal : Option Refusal) (usual : LineEnd) (unended : Bool)
    (script : List LineEnd)
    → ends_left item refusal (ends_with usual [] unended script)
    ≡ ends_with usual [] unended script
left-alike item None usual unended script = refl
left-alike item (Some refusal) usual unended script = refl

pub ends_after_items-alike : (items : List Applied) (game : Game) (usual : LineEnd)
    (unended : Bool) (script : List LineEnd)
    → ends_after_items items game (ends_with usual [] unended script)
    ≡ ends_with usual [] unended script
ends_after_items-alike [] game usual unended script = refl
ends_after_items-alike (item ∷ items) game usual unended script =
    rw (left-alike item (item_refusal item game.log) usual unended script)
    (ends_after_items-alike items (game_after_item item game) usual unended script)
