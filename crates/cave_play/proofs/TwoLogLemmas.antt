-- Two logs, of which one is made of the other.
use Rattle.cave_play.specs.Output.{IsDifferenceOf}
use Rattle.cave_play.specs.Output.{new_log_fault, new_log_stage, ReadsWith}
use Rattle.std.proofs.Common.{◌≡◌, ◌∙◌, ℕ, ◌≤◌, List, [], ◌∷◌, ◌++◌, length, None, Some, inl, inr}
use Rattle.std.proofs.Common.{refl, sym, ap, subst, lt-ltb}
use Rattle.std.specs.Prelude.{Option, option_map}
use Rattle.std.specs.Str.Lines.{lines}
use Rattle.base_lines.specs.Limits.{MAX_INPUT_BYTES}
use Rattle.replay_difference.specs.Difference.{IsLog}
use Rattle.replay_difference.specs.ScriptTo.{GrowsByScript, IsScriptTo}
use Rattle.replay_difference.specs.declared.script.ScriptForm.{ScriptForm}
use Rattle.cave_play.specs.Stages.{lines_fault, log_fault, IsFoundIn}
use Rattle.cave_play.specs.Stages.{first_decided, judging_stage, log_stage}
use Rattle.cave_play.specs.Sources.{IsUnread, AreRead, Leads}
use Rattle.cave_play.specs.declared.fault.PlayFault.{PlayFault}
use Rattle.cave_play.specs.declared.two_logs.WithCompared.{WithCompared}
use Rattle.cave_play.proofs.SourceLemmas.{goes_on, stays}
use Rattle.play_command.specs.declared.line.Input.{Input}
use Rattle.cave_play.proofs.AcceptedLogs.{IsGame-accepted}
use Rattle.cave_play.proofs.JudgeLemmas.{log_fault-lines}
use Rattle.cave_play.proofs.StageLemmas.{first_decided-alone, first_decided-one, memory_alone}

-- ---- the new log

-- a log that couldn't be read, or is too large
pub IsFoundIn-unread : (bytes : List ℕ) (found : PlayFault) → IsUnread Input.NewLog bytes found
    → IsFoundIn (new_log_stage bytes ∷ []) found
unfolding log_fault
IsFoundIn-unread bytes found (inl outside) = inl (inl outside)
IsFoundIn-unread bytes found (inr (large, is)) =
    inl (inr (rw (lt-ltb MAX_INPUT_BYTES (length bytes) large, is) refl))

-- a log that is refused for its lines
pub IsFoundIn-new_log : (bytes text : List ℕ) (found : PlayFault) → text ≡ bytes
    → length bytes ≤ MAX_INPUT_BYTES
    → IsFoundIn (judging_stage (lines_fault (lines text)) ∷ []) found
    → IsFoundIn (new_log_stage bytes ∷ []) (new_log_fault found)
IsFoundIn-new_log bytes text found same fits (inl (inl outside)) =
    rw (memory_alone found outside) (inl (inl tt))
IsFoundIn-new_log bytes text found same fits (inl (inr is)) =
    inl (inr (ap (option_map new_log_fault)
    (log_fault-lines bytes fits ∙ ap (λ t. lines_fault (lines t)) (sym same) ∙ is)))
IsFoundIn-new_log bytes text found same fits (inr (none, memory)) = rw memory (inl (inl tt))

pub first_decided-new_log : (bytes : List ℕ) → first_decided (log_stage bytes ∷ []) ≡ None
    → first_decided (new_log_stage bytes ∷ []) ≡ None
first_decided-new_log bytes none =
    first_decided-one (new_log_stage bytes)
    (ap (option_map new_log_fault) (first_decided-alone (log_stage bytes) none))

-- ---- the script

-- a log that is accepted can be opened
pub IsLog-accepted : (bytes : List ℕ) (copies : List (List ℕ)) → copies ≡ lines bytes
    → first_decided (log_stage bytes ∷ []) ≡ None → IsLog copies
IsLog-accepted bytes copies same none =
    let game = IsGame-accepted bytes 0 (first_decided-alone (log_stage bytes) none) refl in
    subst IsLog (sym same) (record { lines = game.lines; few = game.few })

unmapped : (decided : Option PlayFault) → option_map new_log_fault decided ≡ None
    → decided ≡ None
unmapped None none = refl
unmapped (Some found) none = cc

pub IsLog-new : (bytes : List ℕ) (copies : List (List ℕ)) → copies ≡ lines bytes
    → first_decided (new_log_stage bytes ∷ []) ≡ None → IsLog copies
IsLog-new bytes copies same none =
    let free = unmapped (log_fault bytes) (first_decided-alone (new_log_stage bytes) none) in
    IsLog-accepted bytes copies same (first_decided-one (log_stage bytes) free)

pub IsDifferenceOf-grown : (form : ScriptForm) (old new : List ℕ) (copies others : List (List ℕ))
    (before after : List ℕ) → copies ≡ lines old → others ≡ lines new → before ≡ []
    → GrowsByScript form copies others before after → (copies ≡ others → after ≡ before)
    → IsDifferenceOf form old new after
IsDifferenceOf-grown form old new copies others before after same same' none (script, grown, is)
    equal =
    let whole : after ≡ script = grown ∙ ap (λ l. l ++ script) none in
    let here = subst (λ text. IsScriptTo form text copies others) (sym whole) is in
    let from = subst (λ log. IsScriptTo form after log others) same here in (
      subst (λ log. IsScriptTo form after (lines old) log) same' from,
      λ lines_equal. equal (same ∙ lines_equal ∙ sym same') ∙ none,
    )

-- what reading makes of the inputs that a run has beside two logs
within : {I : Type 0} (reads : Input → I → I → Type 0) (inputs : List Input)
    (old new : WithCompared I) → AreRead (ReadsWith reads) inputs old new
    → (new.inputs.ghost_name ≡ old.inputs.ghost_name) × Leads reads old.inputs.now new.inputs.now
within {I} reads [] old new same = (
  ap (λ (with : WithCompared I). with.inputs.ghost_name) same,
  subst (λ (with : WithCompared I). Leads reads old.inputs.now with.inputs.now) (sym same)
      (stays reads old.inputs.now),
)
within reads (input ∷ inputs) old new (next, (name, leads), more) =
    let later = within reads inputs next new more in
    (later.0 ∙ name, goes_on reads old.inputs.now next.inputs.now new.inputs.now leads later.1)

pub leads_within : {I : Type 0} (reads : Input → I → I → Type 0) (old new : WithCompared I)
    → Leads (ReadsWith reads) old new
    → (new.inputs.ghost_name ≡ old.inputs.ghost_name) × Leads reads old.inputs.now new.inputs.now
leads_within reads old new (inputs, read) = within reads inputs old new read
