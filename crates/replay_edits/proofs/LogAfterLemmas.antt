-- A log after changes: what they leave alone stays, and each line comes from the log or from a
-- change.
use Rattle.std.proofs.Common.{◌≡◌, ℕ, ◌+◌, ◌-◌, ◌<◌, ◌≤◌, List, [], ◌∷◌, ◌++◌, length, take, drop}
use Rattle.std.proofs.Common.{get_or, insert, remove, set, suc, refl, sym, ap, ◌∙◌, arith}
use Rattle.std.proofs.lemmas.List.{length-append, length-take-le, length-set, get_or-take}
use Rattle.std.proofs.lemmas.List.{get_or-drop, drop_at, drop-drop, append_assoc, take-append-le}
use Rattle.std.proofs.lemmas.List.{take-take, take-set-le, drop-set-lt}
use Rattle.std.proofs.lemmas.List.Edits.{length-insert, length-remove}
use Rattle.replay_edits.specs.declared.margins.Margins.{Margins}
use Rattle.replay_edits.specs.Edit.{Change, inserts, deletes, replaces, reseeds, line_at, log_after}
use Rattle.replay_edits.specs.Faults.{log_after_all}
use Rattle.replay_edits.specs.Leaves.{LeavesAlone, LeaveAlone}

-- a log stays as it is at the start and at the end
pub record StaysAround (log new : List (List ℕ)) (margins : Margins) : Type 0 where
  pub within : margins.head + margins.tail ≤ length new
  pub prefix : take margins.head new ≡ take margins.head log
  pub rest : drop (length new - margins.tail) new ≡ drop (length log - margins.tail) log

drop_past : (prefix rest : List (List ℕ)) (count more all : ℕ) → length prefix ≡ count
    → all ≡ count + more → drop all (prefix ++ rest) ≡ drop more rest
drop_past prefix rest count more all counted sum =
    ap (λ k. drop k (prefix ++ rest)) sum ∙ sym (drop-drop more count (prefix ++ rest))
    ∙ ap (drop more) (drop_at prefix rest count counted)

drop_again : (log : List (List ℕ)) (first more all : ℕ) → all ≡ first + more
    → drop more (drop first log) ≡ drop all log
drop_again log first more all sum = drop-drop more first log ∙ ap (λ k. drop k log) (sym sum)

take_prefix : (log rest : List (List ℕ)) (head place : ℕ) → head ≤ place → place ≤ length log
    → take head (take place log ++ rest) ≡ take head log
take_prefix log rest head place before within =
    let counted = length-take-le place log within in
    take-append-le head (take place log) rest (omega arith) ∙ take-take head place log before

insert_around : (log : List (List ℕ)) (place : ℕ) (line : List ℕ) (margins : Margins)
    → margins.head ≤ place → place + margins.tail ≤ length log
    → StaysAround log (insert log place line) margins
insert_around log place line margins before after =
    let longer : length (insert log place line) ≡ length log + 1 =
    length-insert log place line (omega arith) in
    let counted : length (take place log) ≡ place = length-take-le place log (omega arith) in
    let counted' : length (take place log ++ line ∷ []) ≡ suc place =
    length-append (take place log) (line ∷ []) ∙ omega arith in
    let split : insert log place line ≡ (take place log ++ line ∷ []) ++ drop place log =
    simp append_assoc in
    let more = length log - margins.tail - place in
    record {
      within = omega arith;
      prefix = take_prefix log (line ∷ drop place log) margins.head place before (omega arith);
      rest = ap (drop (length (insert log place line) - margins.tail)) split
          ∙ drop_past (take place log ++ line ∷ []) (drop place log) (suc place) more
          (length (insert log place line) - margins.tail) counted' (omega arith)
          ∙ drop_again log place more (length log - margins.tail) (omega arith);
    }

remove_around : (log : List (List ℕ)) (place : ℕ) (margins : Margins) → margins.head ≤ place
    → place + 1 + margins.tail ≤ length log → StaysAround log (remove log place) margins
remove_around log place margins before after =
    let shorter : length (remove log place) + 1 ≡ length log =
    length-remove log place (omega arith) in
    let counted : length (take place log) ≡ place = length-take-le place log (omega arith) in
    let more = length log - margins.tail - place - 1 in
    record {
      within = omega arith;
      prefix = take_prefix log (drop (suc place) log) margins.head place before (omega arith);
      rest = drop_past (take place log) (drop (suc place) log) place more
          (length (remove log place) - margins.tail) counted (omega arith)
          ∙ drop_again log (suc place) more (length log - margins.tail) (omega arith);
    }

set_around : (log : List (List ℕ)) (place : ℕ) (line : List ℕ) (margins : Margins)
    → margins.head ≤ place → place + 1 + margins.tail ≤ length log
    → StaysAround log (set log place line) margins
set_around log place line margins before after =
    let same : length (set log place line) ≡ length log = length-set log place line in
    record {
      within = omega arith;
      prefix = take-set-le margins.head log place line before;
      rest = ap (λ n. drop (n - margins.tail) (set log place line)) same
          ∙ drop-set-lt (length log - margins.tail) log place line (omega arith);
    }

stays_after : (change : Change) (log : List (List ℕ)) (margins : Margins)
    → LeavesAlone change (length log) margins.head margins.tail
    → margins.head + margins.tail ≤ length log
    → StaysAround log (log_after change log) margins
stays_after (inserts place line) log margins leaves fits =
    insert_around log place line margins leaves.0 leaves.1
stays_after (deletes place) log margins leaves fits =
    remove_around log place margins leaves.0 leaves.1
stays_after (replaces place line) log margins leaves fits =
    set_around log place line margins leaves.0 leaves.1
stays_after (reseeds seed) log margins leaves fits = record {
  within = fits;
  prefix = refl;
  rest = refl;
}

-- what several changes leave alone stays
pub stays_after_all : (changes : List Change) (log : List (List ℕ)) (margins : Margins)
    → LeaveAlone changes log margins → margins.head + margins.tail ≤ length log
    → StaysAround log (log_after_all changes log) margins
stays_after_all [] log margins alone fits = record {
  within = fits;
  prefix = refl;
  rest = refl;
}
stays_after_all (change ∷ changes) log margins alone fits =
    let first = stays_after change log margins alone.0 fits in
    let later = stays_after_all changes (log_after change log) margins alone.1 first.within in
    record {
      within = later.within;
      prefix = later.prefix ∙ first.prefix;
      rest = later.rest ∙ first.rest;
    }

-- a line of the prefix, and one of the end
pub line_in_prefix : (log new : List (List ℕ)) (head place : ℕ) → take head new ≡ take head log
    → place < head → line_at new place ≡ line_at log place
line_in_prefix log new head place same before =
    sym (get_or-take head new place [] before) ∙ ap (λ l. get_or l place []) same
    ∙ get_or-take head log place [] before

pub line_in_rest : (log new : List (List ℕ)) (start was place : ℕ) → drop start new ≡ drop was log
    → start ≤ place → line_at new place ≡ line_at log (place - start + was)
line_in_rest log new start was place same behind =
    let e : place ≡ start + (place - start) = omega arith in
    let e' : was + (place - start) ≡ place - start + was = omega arith in
    ap (λ k. get_or new k []) e ∙ sym (get_or-drop start new (place - start) [])
    ∙ ap (λ l. get_or l (place - start) []) same
    ∙ get_or-drop was log (place - start) [] ∙ ap (λ k. get_or log k []) e'
