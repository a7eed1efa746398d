-- The line at a place of a log by numbers, and one more edit that is made in it.
use Rattle.std.proofs.Common.{◌≡◌, ℕ, ◌+◌, ◌-◌, ◌<◌, ◌≤◌, List, [], ◌∷◌, ◌++◌, length, get_or, take}
use Rattle.std.proofs.Common.{drop, map, Some, None, max, sym, subst, ap, ◌∙◌, arith, refl}
use Rattle.std.specs.Prelude.{slice_get, slice_index}
use Rattle.std.proofs.lemmas.List.{get_or_append_left, get_or-append_right, get_or-drop, get_or-map}
use Rattle.std.proofs.lemmas.List.{get_or-take, length-map, take_more}
use Rattle.std.proofs.lemmas.Option.{slice_get-get_or, slice_get_past}
use Rattle.replay_edits.specs.LineText.{LineText}
use Rattle.replay_edits.specs.declared.edit.Edit.{Edit}
use Rattle.replay_edits.specs.declared.margins.Margins.{Margins}
use Rattle.replay_edits.specs.declared.stock.Stock.{Stock}
use Rattle.replay_edits.specs.Edit.{Change, change_of, changes_of, log_after, log_of, line_at}
use Rattle.replay_edits.specs.Edit.{margins_of, own_line}
use Rattle.replay_edits.specs.Faults.{fault_of, fault_of_all, log_after_all}
use Rattle.replay_edits.specs.Leaves.{LeavesAlone, LeaveAlone}
use Rattle.replay_edits.specs.Outcome.{lines_of, lines_by, log_by}
use Rattle.replay_edits.proofs.Betweens.{get_between}
use Rattle.replay_edits.proofs.Groups.{changes_of-drop, first_is_free}
use Rattle.replay_edits.proofs.Lines.{length-log_of}
use Rattle.replay_edits.proofs.Inverses.{IsFree-from_none}
use Rattle.replay_edits.proofs.MarginLemmas.{after_all_narrower, leave_alone, margins_of_edits}
use Rattle.replay_edits.proofs.OutcomeLemmas.{StaysIn, before_of, length-log_by}

module _ (stock : Stock) (numbers : List ℕ) (place : ℕ) (stays : StaysIn stock) where
  abbrev own : List (List ℕ)
  own = log_of stock.log.now.items

  abbrev before : List (List ℕ)
  before = take stock.head own

  abbrev among : List (List ℕ)
  among = lines_by stock numbers

  abbrev after : List (List ℕ)
  after = drop stock.rest own

  old_line : (number : ℕ) → number < length stock.log.now.items
      → line_at own number ≡ line_at (lines_of stock) number
  old_line number inside =
      let m = length-log_of stock.log.now.items in
      sym (get_or_append_left own (map own_line (changes_of stock.edits.now)) [] number
      (omega arith))

  pub line_before : place < stock.head
      → slice_get (log_by stock numbers) place ≡ Some (line_at (lines_of stock) place)
  line_before early =
      let n = length-log_by stock numbers stays in
      let a = before_of stock stays in
      let ordered = stays.ordered in
      let within = stays.within in
      slice_get-get_or (log_by stock numbers) place [] (omega arith)
      ∙ ap Some (get_or_append_left before (among ++ after) [] place
      (omega arith) ∙ get_or-take stock.head own place [] early ∙ old_line place (omega arith))

  pub line_among : stock.head ≤ place → place - stock.head < length numbers
      → slice_get (log_by stock numbers) place
      ≡ Some (line_at (lines_of stock) (slice_index numbers (place - stock.head)))
  line_among late inside =
      let n = length-log_by stock numbers stays in
      let d = length-map numbers (line_at (lines_of stock)) in
      let a = before_of stock stays in
      slice_get-get_or (log_by stock numbers) place [] (omega arith)
      ∙ ap Some (get_between before among after (place - stock.head) place [] (omega arith)
      (omega arith) ∙ get_or-map (line_at (lines_of stock)) numbers (place - stock.head) 0 []
      inside)

  pub line_past : (past : ℕ) → stock.head ≤ place → past + length numbers ≡ place - stock.head
      → past < length stock.log.now.items - stock.rest
      → slice_get (log_by stock numbers) place ≡ Some (line_at (lines_of stock) (stock.rest + past))
  line_past past late here inside =
      let n = length-log_by stock numbers stays in
      let d = length-map numbers (line_at (lines_of stock)) in
      let a = before_of stock stays in
      let e : place - stock.head - length numbers ≡ past = omega arith in
      slice_get-get_or (log_by stock numbers) place [] (omega arith)
      ∙ ap Some
      (get_or-append_right before (among ++ after) stock.head place [] a late
      ∙ get_or-append_right among after (length numbers) (place - stock.head) [] d (omega arith)
      ∙ ap (λ k. get_or after k []) e ∙ get_or-drop stock.rest own past []
      ∙ old_line (stock.rest + past) (omega arith))

  pub no_line : (past : ℕ) → stock.head ≤ place → past + length numbers ≡ place - stock.head
      → length stock.log.now.items - stock.rest ≤ past
      → slice_get (log_by stock numbers) place ≡ None
  no_line past late here outside =
      let n = length-log_by stock numbers stays in
      slice_get_past (log_by stock numbers) place (omega arith)

-- ---- one more edit

pub log_after_all-more : (changes : List Change) (change : Change) (log : List (List ℕ))
    → log_after_all (changes ++ change ∷ []) log ≡ log_after change (log_after_all changes log)
log_after_all-more [] change log = refl
log_after_all-more (first ∷ changes) change log =
    log_after_all-more changes change (log_after first log)

module _ (edits : List Edit) (made : ℕ) (edit : Edit) where
  pub made_more : (log : List (List ℕ)) → made < length edits → edit ≡ get_or edits made edit
      → log_after (change_of edit) (log_after_all (take made (changes_of edits)) log)
      ≡ log_after_all (take (made + 1) (changes_of edits)) log
  made_more log left read =
      let changes = changes_of edits in
      let m = length-map edits change_of in
      let here = get_or-map change_of edits made edit (change_of edit) left in
      sym (ap (λ some. log_after_all some log) (take_more changes made (change_of edit) (omega arith)
      ∙ ap (λ c. take made changes ++ c ∷ []) (here ∙ ap change_of (sym read)))
      ∙ log_after_all-more (take made changes) (change_of edit) log)

  pub free_more : (log : List (List ℕ)) → made < length edits → edit ≡ get_or edits made edit
      → fault_of_all (changes_of (drop made edits)) log made ≡ None
      → (fault_of (change_of edit) log ≡ None)
      × (fault_of_all (changes_of (drop (made + 1) edits)) (log_after (change_of edit) log)
      (made + 1) ≡ None)
  free_more log left read free =
      first_is_free (fault_of (change_of edit) log) made _
      (ap (λ some. fault_of_all some log made) (sym (changes_of-drop edits made edit left read))
      ∙ free)

  pub alone_more : (log : List (List ℕ)) (margins : Margins) → made < length edits
      → edit ≡ get_or edits made edit → LeaveAlone (changes_of (drop made edits)) log margins
      → LeavesAlone (change_of edit) (length log) margins.head margins.tail
      × LeaveAlone (changes_of (drop (made + 1) edits)) (log_after (change_of edit) log) margins
  alone_more log margins left read alone =
      rw (changes_of-drop edits made edit left read) at alone

-- ---- no edit yet

pub alone_at_start : (edits : List Edit) (log : List LineText) (margins : Margins) (head rest : ℕ)
    → fault_of_all (changes_of edits) (log_of log) 0 ≡ None
    → margins ≡ margins_of (changes_of edits) (log_of log) → head ≡ margins.head
    → rest ≡ max (length log - margins.tail) head
    → LeaveAlone (changes_of edits) (log_of log)
    (record { head = head; tail = length log - rest })
alone_at_start [] log margins head rest free is_margins at_head at_rest = tt
alone_at_start (edit ∷ edits) log margins head rest free is_margins at_head at_rest =
    let changes = changes_of (edit ∷ edits) in
    let lines = log_of log in
    let fits = margins_of_edits (edit ∷ edits) log margins (omega arith) free is_margins in
    let tail : margins.tail ≡ length log - rest = omega arith in
    let alone = leave_alone changes lines (record { head = length lines; tail = length lines })
    (IsFree-from_none changes lines 0 free) in
    let same : margins_of changes lines ≡ record { head = head; tail = length log - rest } =
    sym is_margins ∙ rw (at_head, ← tail) refl in
    subst (λ (m : Margins). LeaveAlone changes lines m) same alone

-- the lines that edits leave alone at the start and at the end are lines of the log
pub margins_within : (edits : List Edit) (log : List LineText) (margins : Margins)
    → margins ≡ margins_of (changes_of edits) (log_of log)
    → (margins.head ≤ length log) × (margins.tail ≤ length log)
margins_within edits log margins is_margins =
    let n = length-log_of log in
    let narrow = after_all_narrower (changes_of edits) (log_of log)
    (record { head = length (log_of log); tail = length (log_of log) }) in
    let head = narrow.head in
    let tail = narrow.tail in
    (rw is_margins (omega arith), rw is_margins (omega arith))
