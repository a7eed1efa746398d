-- New lines of a log, and the old log without those that were taken out.
use Rattle.std.proofs.Common.{◌≡◌, ℕ, ◌+◌, ◌-◌, ◌<◌, ◌≤◌, List, [], ◌∷◌, ◌++◌, length, take, drop}
use Rattle.std.proofs.Common.{get_or, zero, suc, subst, refl, sym, ap, ◌∙◌, arith}
use Rattle.std.proofs.lemmas.List.{take-set-le, drop-set-lt, drop-drop, append_assoc}
use Rattle.std.proofs.lemmas.List.{length-append, length-drop, length-map, length-take-le}
use Rattle.std.proofs.lemmas.List.{get_or_append_left, get_or-append_right, get_or-take}
use Rattle.std.proofs.lemmas.List.{get_or-drop, get_or-map, drop_more}
use Rattle.replay_edits.specs.declared.new_line.NewLine.{NewLine}
use Rattle.replay_edits.specs.declared.new_line.NewLine.TheVariants.{Old, Own}
use Rattle.replay_edits.specs.LineText.{LineText}
use Rattle.replay_edits.specs.Edit.{line_at}
use Rattle.replay_edits.specs.Outcome.{text_of, new_texts, log_with, log_without, AreRising}
use Rattle.replay_edits.specs.Outcome.{IsOldWithin}
use Rattle.replay_edits.proofs.Betweens.{get_between}
use Rattle.replay_edits.proofs.LogAfterLemmas.{line_in_rest}

-- ---- rising

pub rising_within : (from to : ℕ) (lines : List NewLine) → AreRising from to lines → from ≤ to
rising_within from to [] rising = rising
rising_within from to (Old place ∷ lines) rising =
    let later = rising_within (place + 1) to lines rising.1 in
    let first = rising.0 in omega arith
rising_within from to (Own line ∷ lines) rising = rising_within from to lines rising

pub rising_further : (from to further : ℕ) (lines : List NewLine) → AreRising from to lines
    → to ≤ further → AreRising from further lines
rising_further from to further [] rising more = omega arith
rising_further from to further (Old place ∷ lines) rising more =
    (rising.0, rising_further (place + 1) to further lines rising.1 more)
rising_further from to further (Own line ∷ lines) rising more =
    rising_further from to further lines rising more

pub rising-old : (from to place : ℕ) (lines : List NewLine) → AreRising from to lines → to ≤ place
    → AreRising from (place + 1) (lines ++ Old place ∷ [])
rising-old from to place [] rising after = (omega arith, omega arith)
rising-old from to place (Old first ∷ lines) rising after =
    (rising.0, rising-old (first + 1) to place lines rising.1 after)
rising-old from to place (Own line ∷ lines) rising after =
    rising-old from to place lines rising after

pub rising-own : (from to : ℕ) (own : LineText) (lines : List NewLine) → AreRising from to lines
    → AreRising from to (lines ++ Own own ∷ [])
rising-own from to own [] rising = rising
rising-own from to own (Old first ∷ lines) rising =
    (rising.0, rising-own (first + 1) to own lines rising.1)
rising-own from to own (Own line ∷ lines) rising = rising-own from to own lines rising

-- ---- taking lines out

-- `left` remains of the new lines, to be taken out of the log, which was `old` and is `now`; the
-- texts of the others are `taken`.
pub record IsTaking (head rest : ℕ) (old : List (List ℕ)) (all : List NewLine)
    (now : List (List ℕ)) (left : List NewLine) (taken : List (List ℕ)) : Type 0 where
  pub from : ℕ
  pub after : head ≤ from
  pub rising : AreRising from rest left
  pub before_same : take head now ≡ take head old
  pub rest_same : drop from now ≡ drop from old
  pub texts : taken ++ new_texts old left ≡ new_texts old all

pub IsTaking-start : (head rest : ℕ) (log : List (List ℕ)) (lines : List NewLine)
    → AreRising head rest lines → IsTaking head rest log lines log lines []
IsTaking-start head rest log lines rising = record {
  from = head;
  after = omega arith;
  rising = rising;
  before_same = refl;
  rest_same = refl;
  texts = refl;
}

same_end : (log old : List (List ℕ)) (from rest : ℕ) → from ≤ rest
    → drop from log ≡ drop from old → drop rest log ≡ drop rest old
same_end log old from rest before same =
    let e : rest ≡ from + (rest - from) = omega arith in
    ap (λ k. drop k log) e ∙ sym (drop-drop (rest - from) from log)
    ∙ ap (drop (rest - from)) same ∙ drop-drop (rest - from) from old
    ∙ ap (λ k. drop k old) (sym e)

pub IsTaking-end : {head rest : ℕ} {old now : List (List ℕ)} {all left : List NewLine}
    {taken : List (List ℕ)} → IsTaking head rest old all now left taken
    → drop rest now ≡ drop rest old
IsTaking-end {rest} {old} {now} {left} taking =
    same_end now old taking.from rest (rising_within taking.from rest left taking.rising)
    taking.rest_same

pub taking_within : (line : NewLine) (lines : List NewLine) (from rest length : ℕ)
    → AreRising from rest (line ∷ lines) → rest ≤ length → IsOldWithin length line
taking_within (Old place) lines from rest length rising within =
    let later = rising_within (place + 1) rest lines rising.1 in omega arith
taking_within (Own line) lines from rest length rising within = tt

-- one more line
pub IsTaking-more : (head rest : ℕ) (old now next : List (List ℕ)) (all left : List NewLine)
    (line : NewLine) (text : List ℕ) (taken : List (List ℕ))
    → IsTaking head rest old all now (line ∷ left) taken
    → text ≡ text_of now line → next ≡ log_without now line
    → IsTaking head rest old all next left (taken ++ text ∷ [])
IsTaking-more head rest old now next all left (Old place) text taken taking said without =
    let first = taking.rising.0 in
    let after = taking.after in
    let here : line_at now place ≡ line_at old place =
    line_in_rest old now taking.from taking.from place taking.rest_same first
    ∙ ap (line_at old) (omega arith) in
    record {
      from = place + 1;
      after = omega arith;
      rising = taking.rising.1;
      before_same =
          ap (take head) without ∙ take-set-le head now place [] (omega arith)
          ∙ taking.before_same;
      rest_same =
          ap (drop (place + 1)) without ∙ drop-set-lt (place + 1) now place [] (omega arith)
          ∙ same_end now old taking.from (place + 1) (omega arith) taking.rest_same;
      texts =
          append_assoc taken (text ∷ []) (new_texts old left)
          ∙ ap (λ t. taken ++ t ∷ new_texts old left) (said ∙ here) ∙ taking.texts;
    }
IsTaking-more head rest old now next all left (Own line) text taken taking said without =
    record {
      from = taking.from;
      after = taking.after;
      rising = taking.rising;
      before_same = ap (take head) without ∙ taking.before_same;
      rest_same = ap (drop taking.from) without ∙ taking.rest_same;
      texts =
          append_assoc taken (text ∷ []) (new_texts old left)
          ∙ ap (λ t. taken ++ t ∷ new_texts old left) said ∙ taking.texts;
    }

-- ---- the log with new lines

pub length-log_with : (log : List (List ℕ)) (head rest : ℕ) (lines : List NewLine)
    → head ≤ length log
    → length (log_with log head rest lines) ≡ head + length lines + (length log - rest)
length-log_with log head rest lines within =
    let a = length-take-le head log within in
    let b = length-append (take head log) (new_texts log lines ++ drop rest log) in
    let c = length-append (new_texts log lines) (drop rest log) in
    let d = length-map lines (text_of log) in
    let e = length-drop rest log in
    omega arith

pub line_before : (log : List (List ℕ)) (head rest place : ℕ) (lines : List NewLine)
    → head ≤ length log → place < head
    → line_at (log_with log head rest lines) place ≡ line_at log place
line_before log head rest place lines within before =
    let a = length-take-le head log within in
    get_or_append_left (take head log) (new_texts log lines ++ drop rest log) [] place (omega arith)
    ∙ get_or-take head log place [] before

pub line_after : (log : List (List ℕ)) (head rest start place : ℕ) (lines : List NewLine)
    → head ≤ length log → start ≡ head + length lines → start ≤ place
    → line_at (log_with log head rest lines) place ≡ line_at log (place - start + rest)
line_after log head rest start place lines within begins after =
    let a = length-take-le head log within in
    let d = length-map lines (text_of log) in
    let e : rest + (place - head - length lines) ≡ place - start + rest = omega arith in
    get_or-append_right (take head log) (new_texts log lines ++ drop rest log) head place [] a
    (omega arith)
    ∙ get_or-append_right (new_texts log lines) (drop rest log) (length lines) (place - head) [] d
    (omega arith)
    ∙ get_or-drop rest log (place - head - length lines) [] ∙ ap (line_at log) e

pub line_between : (log : List (List ℕ)) (head rest place : ℕ) (lines : List NewLine)
    (line : NewLine) → head ≤ length log → head ≤ place → place - head < length lines
    → line ≡ get_or lines (place - head) line
    → line_at (log_with log head rest lines) place ≡ text_of log line
line_between log head rest place lines line within after before read =
    let a = length-take-le head log within in
    let d = length-map lines (text_of log) in
    get_between (take head log) (new_texts log lines) (drop rest log) (place - head) place []
    (omega arith) (omega arith)
    ∙ get_or-map (text_of log) lines (place - head) line [] before ∙ sym (ap (text_of log) read)

pub old_within : (from to length' k : ℕ) (lines : List NewLine) (line : NewLine)
    → AreRising from to lines → to ≤ length' → k < length lines → line ≡ get_or lines k line
    → IsOldWithin length' line
old_within from to length' k [] line rising within below read = absurd (omega arith)
old_within from to length' zero (first ∷ lines) line rising within below read =
    subst (IsOldWithin length') (sym read)
    (taking_within first lines from to length' rising within)
old_within from to length' (suc k) (Old place ∷ lines) line rising within below read =
    old_within (place + 1) to length' k lines line rising.1 within (omega arith) read
old_within from to length' (suc k) (Own own ∷ lines) line rising within below read =
    old_within from to length' k lines line rising within (omega arith) read

-- the first of the remaining lines
pub left_more : (lines : List NewLine) (index : ℕ) (line item : NewLine) → index < length lines
    → line ≡ get_or lines index item → drop index lines ≡ line ∷ drop (index + 1) lines
left_more lines index line item below read =
    drop_more lines index item below ∙ ap (λ l. l ∷ drop (index + 1) lines) (sym read)
