-- If no line of a script is a guard, or all guards are met, `--guarded` changes nothing in a run.
use Rattle.std.specs.Prelude.{◌≡◌, ◌↔◌, ℕ, Bool, true, false, List, Option, Ok, ⊤, [], ◌∷◌, All}
use Rattle.std.specs.Prelude.{None, ◌+◌, ◌++◌, IsTrue, codes}
use Rattle.std.specs.Str.Lines.{lines}
use Rattle.cave_play.specs.Output.{IsEditRun}
use Rattle.play_edits.specs.declared.items.EditRun.{EditRun}
use Rattle.play_command.specs.declared.views.ReportView.{ReportView}
use Rattle.play_command.specs.declared.line.Editing.{Editing}
use Rattle.play_command.specs.declared.views.EditView.{EditView}
use Rattle.play_edits.specs.Ends.{ends_in}
use Rattle.replay_edits.specs.Edit.{game_of, Game, Change}
use Rattle.replay_scripts.specs.Guards.{script_by, unguarded, guarded_script_of}
use Rattle.replay_scripts.specs.Script.{Applied, Expectation, group_of, guarded_by, single}
use Rattle.std.specs.List.{AllByRecursion}
use Rattle.cave_data.specs.CaveView.{CaveView}
use Rattle.play_edits.specs.Items.{game_after_item}
use Rattle.play_edits.specs.Laws.{IsMet}
use Rattle.replay_scripts.specs.Line.{expected_in, IsExpected, IsWord, Spells}
use Rattle.play_edits.specs.Views.{IsEndedEdit}
use Rattle.cave_play.specs.Stages.{large_seed, log_fault}
use Rattle.base_lines.specs.LogLine.{is_skipped}

-- no line of a script is spelled as a guard
abbrev pub HasNoGuard : List ℕ → Type 0
HasNoGuard script = All (λ line. expected_in line ≡ None) (lines script)

-- the view has no guards, or has them whether or not the run is guarded
abbrev pub PrintsNoGuards : EditView → Type 0
PrintsNoGuards EditView.Undo = ⊥
PrintsNoGuards _ = ⊤

-- a script without guards gives the same items, or the same refusal
abbrev pub NoGuardsNoOtherScript : Type 0
NoGuardsNoOtherScript =
    (script : List ℕ) → HasNoGuard script → script_by true script ≡ script_by false script

-- and the same is printed of it, except as a script that takes the edits back
abbrev pub NoGuardsNoOtherOutput : Type 0
NoGuardsNoOtherOutput =
    (view : EditView) (cave : CaveView) (every : ℕ) (log script output : List ℕ) (seed played : ℕ)
    → PrintsNoGuards view → HasNoGuard script
    → IsEndedEdit view cave every log seed true script played output
    ↔ IsEndedEdit view cave every log seed false script played output

-- the log that the items before an item left meets its guards
abbrev pub AreMet : List Applied → Game → Type 0
AreMet [] game = ⊤
AreMet (item ∷ items) game =
    AllByRecursion (IsMet item.changes game.log) item.guards
    × AreMet items (game_after_item item game)

-- if all guards of a script are met, the edited log has the lines that it has by the script with
-- blank lines in the place of its guards
abbrev pub MetGuardsNoOtherLog : Type 0
MetGuardsNoOtherLog =
    (cave : CaveView) (every : ℕ) (log script blanked one other : List ℕ) (seed played again : ℕ)
    → log_fault log ≡ None → large_seed seed ≡ None → lines blanked ≡ unguarded (lines script)
    → (edit : IsEndedEdit EditView.Log cave every log seed true script played one)
    → AreMet edit.edit.items (game_of seed (lines log))
    → IsEndedEdit EditView.Log cave every log seed false blanked again other
    → lines one ≡ lines other

-- a script has blank lines in the place of the guards of another, and each line ends as it did
pub record IsBlanked (script blanked : List ℕ) : Type 0 where
  pub lines_are : lines blanked ≡ unguarded (lines script)
  pub ends_are : ends_in blanked ≡ ends_in script

-- a run that isn't guarded prints this too, unless it is a script that takes the edits back
abbrev pub PrintsItSo : EditView → Bool → Type 0
PrintsItSo view true = ⊤
PrintsItSo view false = PrintsNoGuards view

-- A guarded run of a script with guards, all of which are met, is that of the script with blank
-- lines in their place, guarded or not: it prints the same, plays as many lines, and returns the
-- same refusals and the same report.
abbrev pub MetGuardsNoOtherRun : Type 0
MetGuardsNoOtherRun =
    (database bindings log script blanked : List ℕ) (editing : Editing) (guarded : Bool)
    (report : Option ReportView) (run : EditRun) (output : List ℕ) (items : List Applied)
    → IsBlanked script blanked → script_by true script ≡ Ok items
    → AreMet items (game_of editing.seed (lines log)) → PrintsItSo editing.view guarded
    → IsEditRun database bindings log script (record editing { guarded = true }) report run output
    ↔ IsEditRun database bindings log blanked (record editing { guarded = guarded }) report run
    output

-- the guard on a line, after this many changes of its item
abbrev pub guard_on_line : ℕ → ℕ → List ℕ → ℕ → Expectation
guard_on_line number place text made =
    record { line = number; place = place; text = text; after = made }

-- the lines from `number` on and before `next` are skipped, except for these guards
pub data IsGuardedLead : ℕ → ℕ → List (List ℕ) → List Expectation → Type 0 where
  lead_done : {number : ℕ} → IsGuardedLead number number [] []
  lead_skips : {number next : ℕ} {line : List ℕ} {rest : List (List ℕ)} {guards : List Expectation}
      → IsTrue (is_skipped line) → IsGuardedLead (number + 1) next rest guards
      → IsGuardedLead number next (line ∷ rest) guards
  lead_guards : {number next place : ℕ} {line text : List ℕ} {rest : List (List ℕ)}
      {guards : List Expectation}
      → IsExpected line place text → IsGuardedLead (number + 1) next rest guards
      → IsGuardedLead number next (line ∷ rest) (guard_on_line number place text 0 ∷ guards)

-- what is in a group: the lines from `number` on and before `next` spell these changes, on the
-- lines with these numbers, after `made` others of the group, or are skipped, except for these
-- guards
pub data IsGuardedBody : ℕ → ℕ → ℕ → List (List ℕ) → List Change → List ℕ → List Expectation
    → Type 0 where
  inner_done : {number made : ℕ} → IsGuardedBody number number made [] [] [] []
  inner_skips : {number next made : ℕ} {line : List ℕ} {rest : List (List ℕ)}
      {changes : List Change} {numbers : List ℕ} {guards : List Expectation}
      → IsTrue (is_skipped line)
      → IsGuardedBody (number + 1) next made rest changes numbers guards
      → IsGuardedBody number next made (line ∷ rest) changes numbers guards
  inner_guards : {number next made place : ℕ} {line text : List ℕ} {rest : List (List ℕ)}
      {changes : List Change} {numbers : List ℕ} {guards : List Expectation}
      → IsExpected line place text
      → IsGuardedBody (number + 1) next made rest changes numbers guards
      → IsGuardedBody number next made (line ∷ rest) changes numbers
      (guard_on_line number place text made ∷ guards)
  inner_spells : {number next made : ℕ} {line : List ℕ} {change : Change} {rest : List (List ℕ)}
      {changes : List Change} {numbers : List ℕ} {guards : List Expectation}
      → Spells line change
      → IsGuardedBody (number + 1) next (made + 1) rest changes numbers guards
      → IsGuardedBody number next made (line ∷ rest) (change ∷ changes) (number ∷ numbers) guards

-- The lines from `number` on spell these items. The guards of an item are those on the lines after
-- the item before it, up to its own last line. None comes after the last item.
pub data IsGuardedScript : ℕ → List (List ℕ) → List Applied → Type 0 where
  script_done : {number next : ℕ} {lead : List (List ℕ)}
      → IsGuardedLead number next lead [] → IsGuardedScript number lead []
  script_spells : {number at : ℕ} {lead rest : List (List ℕ)} {change : Change}
      {guards : List Expectation} {items : List Applied} (line : List ℕ)
      → IsGuardedLead number at lead guards → Spells line change
      → IsGuardedScript (at + 1) rest items
      → IsGuardedScript number (lead ++ line ∷ rest)
      (guarded_by guards (single at change) ∷ items)
  script_groups : {number at last_number : ℕ} {lead body rest : List (List ℕ)}
      {first last : List ℕ} {changes : List Change} {numbers : List ℕ}
      {guards inner : List Expectation} {items : List Applied}
      → IsGuardedLead number at lead guards → IsWord (codes "begin") first
      → IsGuardedBody (at + 1) last_number 0 body changes numbers inner
      → IsWord (codes "end") last → IsGuardedScript (last_number + 1) rest items
      → IsGuardedScript number (lead ++ first ∷ (body ++ last ∷ rest))
      (guarded_by (guards ++ inner) (group_of at changes numbers) ∷ items)

-- what is read of a script, with its guards, is what its lines spell by the grammar, and nothing
-- else
abbrev pub GuardsBelongToItems : Type 0
GuardsBelongToItems = (text : List ℕ) (items : List Applied)
    → (guarded_script_of text ≡ Ok items) ↔ IsGuardedScript 1 (lines text) items
