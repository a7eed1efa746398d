-- What guards refuse.
use Rattle.std.proofs.Common.{◌≡◌, ℕ, ◌+◌, ◌<◌, ◌≤◌, Bool, true, false, cond, List, [], ◌∷◌, length}
use Rattle.std.proofs.Common.{Option, None, Some, option_map, refl, sym, ap, ◌∙◌, take, bytes_eq}
use Rattle.std.proofs.Common.{arith, min, zero, suc, drop, get_or, map}
use Rattle.std.proofs.lemmas.Bool.Decides.{nat_tests}
use Rattle.std.proofs.lemmas.List.{drop_all, drop_more, length-map, take_min, take-map, take-take}
use Rattle.std.specs.Prelude.{is_none, nat_le, slice_get}
use Rattle.std.specs.List.{AllByRecursion}
use Rattle.std.specs.Option.{option_or}
use Rattle.std.proofs.lemmas.Slice.Eq.{bytes_eq-Decides}
use Rattle.replay_edits.specs.Draft.{IsDraft, made_in}
use Rattle.replay_edits.specs.Edit.{Change, change_of, changes_of, Game, log_after, log_of}
use Rattle.replay_edits.specs.LineText.{LineText}
use Rattle.replay_edits.specs.declared.draft.Draft.{Draft}
use Rattle.replay_edits.specs.Faults.{fault_of, fault_of_all, first_of_two, log_after_all}
use Rattle.replay_edits.specs.declared.edit.Edit.{Edit}
use Rattle.replay_edits.specs.declared.fault.EditFault.{EditFault}
use Rattle.replay_edits.specs.declared.fault.GroupFault.{GroupFault}
use Rattle.replay_edits.proofs.Groups.{first_is_free}
use Rattle.replay_scripts.specs.Script.{Applied, Expectation, guarded_by}
use Rattle.replay_scripts.specs.Views.{expectation_in}
use Rattle.replay_scripts.specs.declared.guard.Guard.{Guard}
use Rattle.play_edits.specs.Laws.{GuardsRefuseAlone, IsMet}
use Rattle.play_edits.specs.Items.{game_after_item, game_left}
use Rattle.play_edits.specs.Refusal.{IsFreeCount, edit_refusal, first_unmet, group_refusal}
use Rattle.play_edits.specs.Refusal.{expected_line, item_refusal, line_copy, log_in, other_line}
use Rattle.play_edits.specs.Refusal.{other_line_in, unmet, unmet_after}
use Rattle.play_edits.specs.declared.refusal.ExpectedLine.{ExpectedLine}
use Rattle.play_edits.specs.declared.refusal.Refusal.TheVariants.{OtherLine}
use Rattle.play_edits.specs.declared.refusal.Refusal.{Refusal}

-- ---- by guards, and then by changes

neither : (first : Option Refusal) (later : Option GroupFault) (tell : GroupFault → Refusal)
    → option_or first (option_map tell later) ≡ None → (first ≡ None) × (later ≡ None)
neither None None tell is = (refl, refl)
neither None (Some found) tell is = cc
neither (Some refused) later tell is = cc

-- an item that isn't refused
pub unrefused_item : (item : Applied) (log : List (List ℕ)) → item_refusal item log ≡ None
    → (first_unmet item.changes item.guards log ≡ None) × (group_refusal item.changes log ≡ None)
unfolding item_refusal
unrefused_item item log is = neither _ _ (edit_refusal item) is

-- an item whose guards are met is refused if its changes are, and for the same reason
pub item_refusal-met : (item : Applied) (log : List (List ℕ)) (found : Option GroupFault)
    → first_unmet item.changes item.guards log ≡ None → group_refusal item.changes log ≡ found
    → item_refusal item log ≡ option_map (edit_refusal item) found
unfolding item_refusal
item_refusal-met item log found met is = rw (met, is) refl

-- an item with a guard that isn't met
pub item_refusal-unmet : (item : Applied) (log : List (List ℕ)) (refused : Refusal)
    → first_unmet item.changes item.guards log ≡ Some refused
    → item_refusal item log ≡ Some refused
unfolding item_refusal
item_refusal-unmet item log refused is = rw is refl

-- ---- which guards are met

module _ (guard : Expectation) (expected : ExpectedLine) (lines : ℕ) where
  same_line : (line : List ℕ) → other_line guard expected lines (Some line) ≡ None
      → line ≡ guard.text
  same_line line is = by_test (bytes_eq line guard.text) refl is
    where
      by_test : (test : Bool) → bytes_eq line guard.text ≡ test
          → cond {A = Option Refusal} test None
          (Some (OtherLine guard.line (line_copy line) expected))
          ≡ None → line ≡ guard.text
      by_test true e h = (bytes_eq-Decides line guard.text).0 e
      by_test false e h = cc

  met_by_line : (line : Option (List ℕ)) → other_line guard expected lines line ≡ None
      → line ≡ Some guard.text
  met_by_line None is = cc
  met_by_line (Some line) is = ap Some (same_line line is)

  pub line_meets : (line : Option (List ℕ)) → line ≡ Some guard.text
      → other_line guard expected lines line ≡ None
  line_meets line is =
      let same : bytes_eq guard.text guard.text ≡ true = (bytes_eq-Decides guard.text guard.text).1
      refl in
      rw (is, same) refl

  pub differs : (line : List ℕ) → ¬ (Some line ≡ Some guard.text)
      → other_line guard expected lines (Some line)
      ≡ Some (OtherLine guard.line (line_copy line) expected)
  differs line other = by_test (bytes_eq line guard.text) refl
    where
      by_test : (test : Bool) → bytes_eq line guard.text ≡ test
          → cond {A = Option Refusal} test None
          (Some (OtherLine guard.line (line_copy line) expected))
          ≡ Some (OtherLine guard.line (line_copy line) expected)
      by_test true e = absurd (other (ap Some ((bytes_eq-Decides line guard.text).0 e)))
      by_test false e = refl

module _ (guard : Expectation) (before : List Change) (log : List (List ℕ)) where
  abbrev line_there : Option (List ℕ)
  line_there = slice_get (log_after_all before log) guard.place

  met_after : unmet_after before guard log ≡ None → fault_of_all before log 0 ≡ None
      → line_there ≡ Some guard.text
  met_after is free = met_by_line guard (expected_line guard (log_after_all before log))
      (length (log_after_all before log)) line_there (rw free at is)

  meets_after : (fault : Option GroupFault) → fault_of_all before log 0 ≡ fault
      → (fault_of_all before log 0 ≡ None → line_there ≡ Some guard.text)
      → unmet_after before guard log ≡ None
  meets_after None e met = rw e (line_meets guard (expected_line guard (log_after_all before log))
      (length (log_after_all before log)) line_there (met e))
  meets_after (Some fault) e met = rw e refl

module _ (changes : List Change) (log : List (List ℕ)) where
  IsMet-unmet : (guard : Expectation) → unmet changes guard log ≡ None → IsMet changes log guard
  unfolding unmet
  IsMet-unmet guard is = met_after guard (take guard.after changes) log is

  pub unmet-IsMet : (guard : Expectation) → IsMet changes log guard → unmet changes guard log ≡ None
  unfolding unmet
  unmet-IsMet guard met = meets_after guard (take guard.after changes) log _ refl met

  pub all_met : (guards : List Expectation) → AllByRecursion (IsMet changes log) guards
      → first_unmet changes guards log ≡ None
  all_met [] met = refl
  all_met (guard ∷ guards) met = rw (unmet-IsMet guard met.0) (all_met guards met.1)

  met_first : (guard : Expectation) (guards : List Expectation)
      → (first_unmet changes guards log ≡ None → AllByRecursion (IsMet changes log) guards)
      → (found : Option Refusal) → unmet changes guard log ≡ found
      → option_or found (first_unmet changes guards log) ≡ None
      → AllByRecursion (IsMet changes log) (guard ∷ guards)
  met_first guard guards later None e h = (IsMet-unmet guard e, later h)
  met_first guard guards later (Some refused) e h = cc

  met_all : (guards : List Expectation) → first_unmet changes guards log ≡ None
      → AllByRecursion (IsMet changes log) guards
  met_all [] is = tt
  met_all (guard ∷ guards) is =
      met_first guard guards (λ h. met_all guards h) (unmet changes guard log) refl is

-- ---- changes that are made

free_all : (changes : List Change) (log : List (List ℕ)) (number k : ℕ)
    → fault_of_all changes log number ≡ None
    → is_none (fault_of_all (take k changes) log number) ≡ true
free_all [] log number zero free = refl
free_all [] log number (suc k) free = refl
free_all (change ∷ changes) log number zero free = refl
free_all (change ∷ changes) log number (suc k) free =
    let both = first_is_free (fault_of change log) number _ free in
    let first = both.0 in
    rw first (free_all changes (log_after change log) (number + 1) k both.1)

-- the changes before the one that meets the first fault meet none
record IsFirst (changes : List Change) (log : List (List ℕ)) (number at : ℕ) : Type 0 where
  from : number ≤ at
  below : at < number + length changes
  tells : (k : ℕ) → is_none (fault_of_all (take k changes) log number) ≡ nat_le (number + k) at

first_at : (changes : List Change) (log : List (List ℕ)) (number : ℕ) (found : GroupFault)
    → fault_of_all changes log number ≡ Some found → IsFirst changes log number found.at
first_at [] log number found is = cc
first_at (change ∷ changes) log number found is =
    by_first (fault_of change log) refl is
    (λ later. first_at changes (log_after change log) (number + 1) found later)
  where
    by_first : (first : Option EditFault) → fault_of change log ≡ first
        → first_of_two first number (fault_of_all changes (log_after change log) (number + 1))
        ≡ Some found
        → (fault_of_all changes (log_after change log) (number + 1) ≡ Some found
        → IsFirst changes (log_after change log) (number + 1) found.at)
        → IsFirst (change ∷ changes) log number found.at
    by_first (Some cause) e is others =
        let at : found.at ≡ number = cc in
        record {
          from = omega (arith, at);
          below = omega (arith, at);
          tells = λ k. here k at;
        }
      where
        here : (k : ℕ) → found.at ≡ number
            → is_none (fault_of_all (take k (change ∷ changes)) log number)
            ≡ nat_le (number + k) found.at
        here zero at =
            let yes : nat_le (number + 0) found.at ≡ true = grind (arith, nat_tests, at) in
            sym yes
        here (suc k) at =
            let no : nat_le (number + suc k) found.at ≡ false = grind (arith, nat_tests, at) in
            rw e (sym no)
    by_first None e is others =
        let later = others is in
        let after = later.from in
        let before = later.below in
        record {
          from = omega arith;
          below = omega arith;
          tells = λ k. there k after later.tells;
        }
      where
        there : (k : ℕ) → number + 1 ≤ found.at
            → ((i : ℕ) → is_none (fault_of_all (take i changes) (log_after change log) (number + 1))
            ≡ nat_le (number + 1 + i) found.at)
            → is_none (fault_of_all (take k (change ∷ changes)) log number)
            ≡ nat_le (number + k) found.at
        there zero after tells =
            let yes : nat_le (number + 0) found.at ≡ true = grind (arith, nat_tests, after) in
            sym yes
        there (suc k) after tells =
            let same : number + 1 + k ≡ number + suc k = omega arith in
            rw e (tells k ∙ ap (λ n. nat_le n found.at) same)

pub free_count-all : (changes : List Change) (log : List (List ℕ)) (count : ℕ)
    → count ≡ length changes → fault_of_all changes log 0 ≡ None → IsFreeCount changes log count
free_count-all changes log count is free = record {
  within = omega (arith, is);
  tells = λ k below.
      let yes : nat_le k count ≡ true = grind (arith, nat_tests, below, is) in
      free_all changes log 0 k free ∙ sym yes;
}

pub free_count-some : (changes : List Change) (log : List (List ℕ)) (found : GroupFault)
    → fault_of_all changes log 0 ≡ Some found → IsFreeCount changes log found.at
free_count-some changes log found is =
    let first = first_at changes log 0 found is in
    let below = first.below in
    record {
      within = omega arith;
      tells = λ k inside. first.tells k ∙ ap (λ n. nat_le n found.at) (omega arith);
    }

none_from : (fault : Option GroupFault) → is_none fault ≡ true → fault ≡ None
none_from None is = refl
none_from (Some found) is = cc

pub free_changes : (edits : List Edit) (log : List (List ℕ)) (count : ℕ)
    → IsFreeCount (changes_of edits) log count
    → fault_of_all (changes_of (take count edits)) log 0 ≡ None
free_changes edits log count counted =
    let yes : nat_le count count ≡ true = grind (arith, nat_tests) in
    ap (λ some. fault_of_all some log 0) (sym (take-map change_of count edits))
    ∙ none_from _ (counted.tells count counted.within ∙ yes)

module _ (edits : List Edit) (log : List (List ℕ)) (count : ℕ)
    (counted : IsFreeCount (changes_of edits) log count) (guard : Expectation) (after : ℕ)
    (reached : after ≡ min guard.after (length edits)) where
  before_it : take after (changes_of edits) ≡ take guard.after (changes_of edits)
  before_it =
      ap (λ n. take n (changes_of edits)) reached
      ∙ take-map change_of (min guard.after (length edits)) edits
      ∙ ap changes_of (take_min guard.after edits) ∙ sym (take-map change_of guard.after edits)

  is_free : is_none (fault_of_all (take guard.after (changes_of edits)) log 0)
      ≡ nat_le after count
  is_free =
      let m = length-map edits change_of in
      ap (λ some. is_none (fault_of_all some log 0)) (sym before_it)
      ∙ counted.tells after (omega (arith, reached, m))

  -- a guard after a change that is refused
  pub unmet-past : count < after → unmet (changes_of edits) guard log ≡ None
  unfolding unmet
  unmet-past past =
      let no : nat_le after count ≡ false = grind (arith, nat_tests, past) in
      let here = is_free ∙ no in
      rw here refl

  -- a guard before it
  abbrev before_reached : List Change
  before_reached = changes_of (take after (take count edits))

  same_before : after ≤ count → before_reached ≡ take guard.after (changes_of edits)
  same_before within =
      ap changes_of (take-take after count edits within)
      ∙ sym (take-map change_of after edits) ∙ before_it

  pub unmet-reached : after ≤ count → (now : List (List ℕ)) → now ≡ log_after_all before_reached log
      → unmet (changes_of edits) guard log ≡ other_line_in guard now
  unfolding unmet
  unmet-reached within now is =
      let yes : nat_le after count ≡ true = grind (arith, nat_tests, within) in
      let here = is_free ∙ yes in
      rw (here, is, same_before within) refl

-- the log of a draft in which this many of the accepted changes have been made
pub log_reached : (edits : List Edit) (log : List LineText) (count after : ℕ) (draft : Draft)
    → IsDraft (take count edits) log after draft
    → log_in draft ≡ log_after_all (changes_of (take after (take count edits))) (log_of log)
log_reached edits log count after draft is =
    rw (is.made_is, is.edits_are, is.log_is)
    (ap (λ some. log_after_all some (log_of log)) (take-map change_of after (take count edits)))

pub within_edits : (edits : List Edit) (log : List (List ℕ)) (count : ℕ)
    → IsFreeCount (changes_of edits) log count → count ≤ length edits
within_edits edits log count counted =
    let m = length-map edits change_of in
    let within = counted.within in
    omega arith

-- a draft after this many changes is a draft after as many as it says
pub draft_own : (edits : List Edit) (log : List LineText) (made : ℕ) (draft : Draft)
    → IsDraft edits log made draft → IsDraft edits log (made_in draft) draft
draft_own edits log made draft is = rw (← is.made_is) at is

-- ---- the guards of an item

-- a guard that is met, and one that isn't, among the remaining ones
pub first_unmet-more : (changes : List Change) (log : List (List ℕ)) (guards : List Guard)
    (i : ℕ) (guard : Guard) → i < length guards → guard ≡ get_or guards i guard
    → unmet changes (expectation_in guard) log ≡ None
    → first_unmet changes (map expectation_in (drop (i + 1) guards)) log
    ≡ first_unmet changes (map expectation_in (drop i guards)) log
first_unmet-more changes log guards i guard inside is met =
    rw (drop_more guards i guard inside, ← is, met) refl

pub first_unmet-here : (changes : List Change) (log : List (List ℕ)) (guards : List Guard)
    (i : ℕ) (guard : Guard) (refused : Refusal) → i < length guards
    → guard ≡ get_or guards i guard → unmet changes (expectation_in guard) log ≡ Some refused
    → first_unmet changes (map expectation_in (drop i guards)) log ≡ Some refused
first_unmet-here changes log guards i guard refused inside is found =
    rw (drop_more guards i guard inside, ← is, found) refl

pub first_unmet-end : (changes : List Change) (log : List (List ℕ)) (guards : List Guard) (i : ℕ)
    → length guards ≤ i → first_unmet changes (map expectation_in (drop i guards)) log ≡ None
first_unmet-end changes log guards i past =
    ap (λ some. first_unmet changes (map expectation_in some) log) (drop_all i guards past)

-- ---- so guards refuse, and do nothing else

without_guards : (item : Applied) (game : Game)
    → first_unmet item.changes item.guards game.log ≡ None
    → game_after_item item game ≡ game_after_item (guarded_by [] item) game
unfolding game_after_item item_refusal
without_guards item game met =
    by_refusal (group_refusal item.changes game.log)
  where
    by_refusal : (found : Option GroupFault)
        → game_left item (option_or (first_unmet item.changes item.guards game.log)
        (option_map (edit_refusal item) found)) game
        ≡ game_left (guarded_by [] item)
        (option_map (edit_refusal (guarded_by [] item)) found) game
    by_refusal None = rw met refl
    by_refusal (Some fault) = rw met refl

unmet_stays : (item : Applied) (game : Game) (found : Option Refusal)
    → first_unmet item.changes item.guards game.log ≡ found
    → ¬ AllByRecursion (IsMet item.changes game.log) item.guards
    → game_after_item item game ≡ game
unfolding game_after_item
unmet_stays item game None is unmet = absurd (unmet (met_all item.changes game.log item.guards is))
unmet_stays item game (Some refused) is unmet =
    ap (λ refusal. game_left item refusal game) (item_refusal-unmet item game.log refused is)

pub guards_refuse_alone : GuardsRefuseAlone
guards_refuse_alone item game = (
  λ met. without_guards item game (all_met item.changes game.log item.guards met),
  λ unmet. unmet_stays item game _ refl unmet,
)
