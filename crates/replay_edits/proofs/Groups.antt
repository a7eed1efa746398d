-- A group of changes, one after another.
use Rattle.std.proofs.Common.{◌≡◌, ℕ, ◌+◌, ◌<◌, ◌≤◌, List, [], ◌∷◌, ◌++◌, length, get_or, take}
use Rattle.std.proofs.Common.{drop, insert, remove, set, refl, sym, ap, ◌∙◌, Option, Some, None}
use Rattle.std.proofs.Common.{suc, reverse}
use Rattle.replay_edits.specs.LineText.{LineText}
use Rattle.std.proofs.lemmas.List.{drop_more, drop_all, map-append, map-set, take-map, drop-map}
use Rattle.std.proofs.lemmas.List.{reverse-append}
use Rattle.replay_edits.specs.declared.edit.Edit.{Edit}
use Rattle.replay_edits.specs.declared.fault.EditFault.{EditFault}
use Rattle.replay_edits.specs.declared.fault.GroupFault.{GroupFault}
use Rattle.replay_edits.specs.Edit.{log_of, Change, change_of, changes_of, log_after, margins_after}
use Rattle.replay_edits.specs.Edit.{margins_after_all, margins_of}
use Rattle.replay_edits.specs.declared.margins.Margins.{Margins}
use Rattle.replay_edits.specs.Faults.{fault_of, first_of_two, fault_of_all, log_after_all}

-- the changes from a place on are the one there and those after it
pub changes_of-drop : (edits : List Edit) (i : ℕ) (edit : Edit) → i < length edits
    → edit ≡ get_or edits i edit → changes_of (drop i edits) ≡ change_of edit
    ∷ changes_of (drop (i + 1) edits)
changes_of-drop edits i edit below read = ap changes_of (drop_more edits i edit below)
    ∙ ap (λ e. change_of e ∷ changes_of (drop (i + 1) edits)) (sym read)

pub changes_of-drop_all : (edits : List Edit) (i : ℕ) → length edits ≤ i
    → changes_of (drop i edits) ≡ []
changes_of-drop_all edits i past = ap changes_of (drop_all i edits past)

-- `rest`, from the number on, remains of `all` changes, in a log of this many lines; those before
-- leave the margins alone
pub record IsReached (all : List Change) (log : List (List ℕ)) (rest : List Change)
    (number lines : ℕ) (margins : Margins) : Type 0 where
  pub now : List (List ℕ)
  pub counted : length now ≡ lines
  pub faults : fault_of_all rest now number ≡ fault_of_all all log 0
  pub ends : log_after_all rest now ≡ log_after_all all log
  pub left_alone : margins_after_all rest now margins ≡ margins_of all log

pub IsReached-start : (all : List Change) (log : List (List ℕ)) (lines : ℕ) → length log ≡ lines
    → IsReached all log all 0 lines (record { head = lines; tail = lines })
IsReached-start all log lines counted = record {
  now = log;
  counted = counted;
  faults = refl;
  ends = refl;
  left_alone = ap (λ n. margins_after_all all log (record { head = n; tail = n })) (sym counted);
}

-- one change that meets no fault
pub IsReached-more : (all : List Change) (log : List (List ℕ)) (change : Change)
    (rest : List Change) (number before after : ℕ) (margins : Margins)
    → (reached : IsReached all log (change ∷ rest) number before margins)
    → fault_of change reached.now ≡ None → after ≡ length (log_after change reached.now)
    → IsReached all log rest (number + 1) after (margins_after change before margins)
IsReached-more all log change rest number before after margins reached free counted = record {
  now = log_after change reached.now;
  counted = sym counted;
  faults =
      sym (ap (λ f. first_of_two f number
      (fault_of_all rest (log_after change reached.now) (number + 1))) free) ∙ reached.faults;
  ends = reached.ends;
  left_alone =
      ap (λ n. margins_after_all rest (log_after change reached.now)
      (margins_after change n margins)) (sym reached.counted) ∙ reached.left_alone;
}

-- a change that meets a fault
pub IsReached-fault : (all : List Change) (log : List (List ℕ)) (change : Change)
    (rest : List Change) (number before : ℕ) (margins : Margins) (fault : EditFault)
    → (reached : IsReached all log (change ∷ rest) number before margins)
    → fault_of change reached.now ≡ Some fault
    → fault_of_all all log 0 ≡ Some (record { cause = fault; at = number })
IsReached-fault all log change rest number before margins fault reached found =
    sym reached.faults
    ∙ ap (λ f.
    first_of_two f number (fault_of_all rest (log_after change reached.now) (number + 1))) found

-- if the changes from one on are free of faults, so is that one, and so are the ones after it
pub first_is_free : (f : Option EditFault) (number : ℕ) (later : Option GroupFault)
    → first_of_two f number later ≡ None → (f ≡ None) × (later ≡ None)
first_is_free None number later free = (refl, free)
first_is_free (Some fault) number later free = cc

-- edits of a kept log
pub log_of-insert : (log : List LineText) (place : ℕ) (line : LineText)
    → log_of (insert log place line) ≡ insert (log_of log) place line.items
log_of-insert log place line =
    let f : LineText → List ℕ = λ x. x.items in
    map-append f (take place log) (line ∷ drop place log)
    ∙ rw (take-map f place log, drop-map f place log) refl

pub log_of-remove : (log : List LineText) (place : ℕ)
    → log_of (remove log place) ≡ remove (log_of log) place
log_of-remove log place =
    let f : LineText → List ℕ = λ x. x.items in
    map-append f (take place log) (drop (suc place) log)
    ∙ rw (take-map f place log, drop-map f (suc place) log) refl

pub log_of-set : (log : List LineText) (place : ℕ) (line : LineText)
    → log_of (set log place line) ≡ set (log_of log) place line.items
log_of-set log place line = map-set (λ (x : LineText). x.items) log place line

pub changes_of-reverse : (edits : List Edit)
    → changes_of (reverse edits) ≡ reverse (changes_of edits)
changes_of-reverse [] = refl
changes_of-reverse (edit ∷ edits) =
    ap changes_of (reverse-append (edit ∷ []) edits)
    ∙ map-append change_of (reverse edits) (edit ∷ [])
    ∙ ap (λ prefix. prefix ++ change_of edit ∷ []) (changes_of-reverse edits)
    ∙ sym (reverse-append (change_of edit ∷ []) (changes_of edits))
