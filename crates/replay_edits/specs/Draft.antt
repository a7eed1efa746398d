-- A log in the course of edits.
use Rattle.std.specs.Prelude.{◌≡◌, ℕ, ◌-◌, ◌≤◌, List, length, take, drop, None}
use Rattle.replay_edits.specs.LineText.{LineText}
use Rattle.replay_edits.specs.Edit.{changes_of, log_of}
use Rattle.replay_edits.specs.Faults.{fault_of_all, log_after_all}
use Rattle.replay_edits.specs.Leaves.{LeaveAlone}
use Rattle.replay_edits.specs.Outcome.{AreNumbers, log_by}
use Rattle.replay_edits.specs.declared.draft.Draft.{Draft}
use Rattle.replay_edits.specs.declared.edit.Edit.{Edit}
use Rattle.replay_edits.specs.declared.margins.Margins.{Margins}
use Rattle.replay_edits.specs.declared.stock.Stock.{Stock}

-- the lines that stay, at the start and at the end
abbrev pub staying_lines : Stock → Margins
staying_lines stock = record { head = stock.head; tail = length stock.log.now.items - stock.rest }

-- the edits that are made in a draft, the log before them, and how many have been made
abbrev pub edits_in : Draft → List Edit
edits_in draft = draft.stock.edits.now

abbrev pub log_before : Draft → List LineText
log_before draft = draft.stock.log.now.items

abbrev pub made_in : Draft → ℕ
made_in draft = draft.made

-- The log after this many of the edits, none of which is refused; the rest is still to be made
-- among its numbers.
pub record IsDraft (edits : List Edit) (log : List LineText) (made : ℕ) (draft : Draft) : Type 0
  where
    pub edits_are : edits_in draft ≡ edits
    pub log_is : log_before draft ≡ log
    pub made_is : made_in draft ≡ made
    pub now : log_by draft.stock draft.game.numbers
        ≡ log_after_all (take made (changes_of edits)) (log_of log)
    pub counted : draft.lines ≡ length (log_by draft.stock draft.game.numbers)
    pub ordered : draft.stock.head ≤ draft.stock.rest
    pub within : draft.stock.rest ≤ length log
    pub free : fault_of_all (changes_of (drop made edits)) (log_by draft.stock draft.game.numbers)
        made ≡ None
    pub alone : LeaveAlone (changes_of (drop made edits)) (log_by draft.stock draft.game.numbers)
        (staying_lines draft.stock)
    pub numbers : AreNumbers draft.stock draft.game.numbers
