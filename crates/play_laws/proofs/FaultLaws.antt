-- Which fault of a run is found, and why an item of a script is refused.
use Rattle.cave_play.proofs.AcceptedLogs.{IsGame-accepted}
use Rattle.base_lines.specs.Limits.{MAX_LOG_LINES, MAX_SEED}
use Rattle.base_lines.specs.Line.{flaw_of, is_line}
use Rattle.cave_play.specs.Stages.{IsFoundIn, IsOutsideOf, Stage, first_decided}
use Rattle.cave_play.specs.declared.fault.PlayFault.{PlayFault}
use Rattle.play_command.specs.declared.line.Input.{Input}
use Rattle.play_edits.proofs.EditLemmas.{IsGame-after_all}
use Rattle.play_edits.specs.Items.{game_after_items}
use Rattle.play_edits.specs.Refusal.{group_refusal}
use Rattle.play_laws.specs.RunLaws.{IsFromOutside, IsDecided, IsOfChange, RefusalsAreOfChanges}
use Rattle.replay_edits.proofs.Inverses.{IsFree-from_none, IsGame-apply_all, log-apply_all}
use Rattle.replay_edits.specs.Edit.{Change, inserts, deletes, replaces, reseeds, log_after, Game}
use Rattle.replay_edits.specs.Edit.{game_of, IsGame}
use Rattle.replay_edits.specs.Faults.{fault_of, fault_of_all, first_of_two, log_after_all}
use Rattle.replay_edits.specs.Faults.{or_group_meter_full}
use Rattle.replay_edits.specs.declared.fault.EditFault.TheVariants.{BadSeed, NoSuchPlace, BadLine}
use Rattle.replay_edits.specs.declared.fault.EditFault.TheVariants.{LogFull}
use Rattle.replay_edits.specs.declared.fault.EditFault.{EditFault}
use Rattle.replay_edits.specs.declared.fault.GroupFault.{GroupFault}
use Rattle.std.proofs.Common.{Option, None, Some, nat_lt, refl, ap, arith, le-ltb, subst, ◌≡◌, List}
use Rattle.std.proofs.Common.{[], ◌∷◌, inl, inr, ◌∙◌, ℕ, ◌+◌, ◌-◌, ◌^◌, ◌≤◌, Bool, true, false}
use Rattle.std.proofs.Common.{length}
use Rattle.std.specs.Option.{option_or}
use Rattle.std.specs.Prelude.{⊤, if◌then◌else◌, nat_le, not}
use Rattle.std.specs.Str.Lines.{lines}
use Rattle.std.specs.declared.option.Option.{Option}

-- ---- which fault is found

outside_of : (reads : Option Input) (found : PlayFault) → IsOutsideOf reads found
    → IsFromOutside found
outside_of reads PlayFault.Memory outside = tt
outside_of reads (PlayFault.Read from) outside = tt
outside_of reads (PlayFault.Cave error clue) outside = absurd outside
outside_of reads (PlayFault.Doubt found) outside = absurd outside
outside_of reads PlayFault.LargeKnown outside = absurd outside
outside_of reads (PlayFault.Unshown count) outside = absurd outside
outside_of reads (PlayFault.Unmapped place) outside = absurd outside
outside_of reads PlayFault.Seed outside = absurd outside
outside_of reads PlayFault.Every outside = absurd outside
outside_of reads (PlayFault.Log refused) outside = absurd outside
outside_of reads (PlayFault.NewLog refused) outside = absurd outside
outside_of reads (PlayFault.Script refused) outside = absurd outside
outside_of reads (PlayFault.Refused refusal) outside = absurd outside
outside_of reads PlayFault.LargeLog outside = absurd outside
outside_of reads PlayFault.LargeScript outside = absurd outside
outside_of reads PlayFault.Write outside = absurd outside

decided_after : (stage : Stage) (stages : List Stage) (found : PlayFault)
    → stage.decides ≡ None → IsDecided stages found → IsDecided (stage ∷ stages) found
decided_after stage stages found none (inl outside) = inl outside
decided_after stage stages found none (inr is) =
    inr (ap (λ f. option_or f (first_decided stages)) none ∙ is)

pub first_is_found : (stages : List Stage) (found : PlayFault)
    → IsFoundIn stages found → IsDecided stages found
first_is_found [] found memory = rw memory (inl tt)
first_is_found (stage ∷ stages) found (inl (inl outside)) =
    inl (outside_of stage.reads found outside)
first_is_found (stage ∷ stages) found (inl (inr is)) =
    inr (ap (λ f. option_or f (first_decided stages)) is)
first_is_found (stage ∷ stages) found (inr (none, there)) =
    decided_after stage stages found none (first_is_found stages found there)

-- ---- why a change is refused

abbrev InEdit : Option EditFault → Type 0
InEdit None = ⊤
InEdit (Some found) = IsOfChange found

abbrev InGroup : Option GroupFault → Type 0
InGroup None = ⊤
InGroup (Some found) = IsOfChange found.cause

by_test : (test : Bool) (found rest : Option EditFault) → InEdit found → InEdit rest
    → InEdit (if test then found else rest)
by_test true found rest here there = here
by_test false found rest here there = there

by_change : (change : Change) (log : List (List ℕ)) → InEdit (fault_of change log)
by_change (inserts at line) log =
    by_test (nat_lt (length log) at) (Some (NoSuchPlace (length log))) _ tt
    (by_test (not (is_line line)) (Some (BadLine (flaw_of line))) _ tt
    (by_test (nat_le MAX_LOG_LINES (length log)) (Some LogFull) None tt tt))
by_change (deletes at) log =
    by_test (nat_le (length log) at) (Some (NoSuchPlace (length log))) None tt tt
by_change (replaces at line) log =
    by_test (nat_le (length log) at) (Some (NoSuchPlace (length log))) _ tt
    (by_test (is_line line) None (Some (BadLine (flaw_of line))) tt tt)
by_change (reseeds seed) log = by_test (nat_lt MAX_SEED seed) (Some BadSeed) None tt tt

by_first : (first : Option EditFault) (number : ℕ) (later : Option GroupFault) → InEdit first
    → InGroup later → InGroup (first_of_two first number later)
by_first None number later here there = there
by_first (Some cause) number later here there = here

by_changes : (changes : List Change) (log : List (List ℕ)) (number : ℕ)
    → InGroup (fault_of_all changes log number)
by_changes [] log number = tt
by_changes (change ∷ changes) log number =
    by_first (fault_of change log) number _ (by_change change log)
    (by_changes changes (log_after change log) (number + 1))

unless_full : (first : Option GroupFault) (log : List (List ℕ)) (left : ℕ) → InGroup first
    → (first ≡ None → length log ≤ left) → InGroup (or_group_meter_full first log left)
unless_full (Some found) log left here fits = here
unless_full None log left here fits = rw (le-ltb left (length log) (fits refl)) tt

by_group : (changes : List Change) (game : Game) → IsGame game
    → InGroup (group_refusal changes game.log)
unfolding group_refusal
by_group [] game good = tt
by_group (change ∷ changes) game good =
    let all = change ∷ changes in
    unless_full (fault_of_all all game.log 0) (log_after_all all game.log) (2 ^ 64 - 1)
    (by_changes all game.log 0)
    (λ free.
    let left = IsGame-apply_all all game good (IsFree-from_none all game.log 0 free) in
    let few = left.few in
    let same = ap length (log-apply_all all game) in
    omega arith)

pub refusals_are_of_changes : RefusalsAreOfChanges
refusals_are_of_changes log seed free fits items item found is =
    let good = IsGame-after_all items (game_of seed (lines log))
    (IsGame-accepted log seed free fits)
    in
    subst InGroup is (by_group item.changes (game_after_items items (game_of seed (lines log)))
    good)
