-- The faults that are found while the inputs of a run are read.
use Rattle.std.proofs.Common.{◌≡◌, ℕ, ◌<◌, ◌≤◌, Bool, true, false, List, [], ◌∷◌, length, None}
use Rattle.std.proofs.Common.{Some, Ok, Err, MatchOption, nat_lt, inl, inr, option_map, subst, sym}
use Rattle.std.proofs.Common.{ap, ◌∙◌, refl, lt-ltb, le-ltb}
use Rattle.std.specs.Prelude.{◌⊎◌, ◌||◌, ◌==◌, if◌then◌else◌, Result, IfErr}
use Rattle.std.specs.Option.{option_or}
use Rattle.std.specs.declared.option.Option.{Option}
use Rattle.std.specs.Str.Lines.{lines}
use Rattle.std.proofs.lemmas.Result.{IfErr-at_err}
use Rattle.cave_data.proofs.ReadLemmas.{right_exactly}
use Rattle.cave_data.specs.Faults.{first_binding_fault, FaultIs}
use Rattle.cave_data.specs.CaveView.{CaveView}
use Rattle.cave_data.specs.Steps.{first_fault}
use Rattle.cave_data.specs.Reads.{Reads, fault as cave_fault, too_large_input as cave_too_large}
use Rattle.data_rows.specs.declared.error.Cause.TheVariants as cause
use Rattle.data_rows.specs.declared.error.CaveError.{CaveError}
use Rattle.data_rows.specs.declared.error.FaultSite.TheVariants as site
use Rattle.base_lines.specs.declared.line.LineFault.{LineFault}
use Rattle.cave_replay.specs.Opening.{open_fault, first_bad_line, or_game_fault}
use Rattle.cave_replay.specs.declared.fault.OpenFault.{OpenFault}
use Rattle.base_lines.specs.Limits.{MAX_SEED, MAX_EVERY, MAX_LOG_LINES, MAX_INPUT_BYTES}
use Rattle.replay_scripts.specs.Guards.{script_by}
use Rattle.replay_scripts.specs.Script.{Applied}
use Rattle.replay_scripts.specs.Views.{IsFaultOf}
use Rattle.replay_scripts.specs.declared.fault.ScriptRefusal.{ScriptRefusal}
use Rattle.replay_scripts.specs.declared.fault.ScriptRefusal.TheVariants.{Malformed, Memory}
use Rattle.cave_play.proofs.StageLemmas.{Judges-read, first_decided-one}
use Rattle.cave_play.specs.Stages.{large_seed, every_fault, too_large, input_size_fault}
use Rattle.cave_play.specs.Stages.{cave_refusal, inputs_fault, lines_fault, log_fault, script_fault}
use Rattle.cave_play.specs.Stages.{script_refusal, or_too_many, opening_fault}
use Rattle.std.specs.Result.{result_err}
use Rattle.cave_play.specs.Stages.{Judges, IsFoundAt, IsFoundIn, reading_stage, judging_stage}
use Rattle.cave_play.specs.Stages.{first_decided, cave_stages, known_stage, log_stage, script_stage}
use Rattle.cave_play.specs.Sources.{IsUnread}
use Rattle.play_command.specs.declared.line.Input.{Input}
use Rattle.cave_play.specs.declared.fault.LogFault.TheVariants as log
use Rattle.cave_play.specs.declared.fault.PlayFault.{PlayFault}

-- ---- the size of an input

input_size_fault-large : (from : Input) (bytes : List ℕ) (found : PlayFault)
    → MAX_INPUT_BYTES < length bytes → found ≡ too_large from
    → input_size_fault from bytes ≡ Some found
input_size_fault-large from bytes found large is =
    rw (lt-ltb MAX_INPUT_BYTES (length bytes) large, is) refl

input_size_fault-fits : (from : Input) (bytes : List ℕ)
    → length bytes ≤ MAX_INPUT_BYTES → input_size_fault from bytes ≡ None
input_size_fault-fits from bytes fits = rw (le-ltb MAX_INPUT_BYTES (length bytes) fits) refl

-- ---- a database and its bindings

-- an input that couldn't be read
pub IsFoundIn-database : (database bindings : List ℕ) (found : PlayFault)
    → IsUnread Input.Cave database found → IsFoundIn (cave_stages database bindings) found
IsFoundIn-database database bindings found (inl outside) = inl (inl outside)
IsFoundIn-database database bindings found (inr (large, is)) =
    inl (inr (input_size_fault-large Input.Cave database found large is))

pub IsFoundIn-bindings : (database bindings : List ℕ) (found : PlayFault)
    → length database ≤ MAX_INPUT_BYTES → IsUnread Input.Bindings bindings found
    → IsFoundIn (cave_stages database bindings) found
IsFoundIn-bindings database bindings found fits (inl outside) =
    inr (input_size_fault-fits Input.Cave database fits, inl (inl outside))
IsFoundIn-bindings database bindings found fits (inr (large, is)) =
    let here = input_size_fault-large Input.Bindings bindings found large is in
    inr (input_size_fault-fits Input.Cave database fits, inl (inr here))

judged_whole : (database bindings : List ℕ) (large larger : Bool) (lines_fault : Option CaveError)
    → option_or (if large then Some (too_large Input.Cave) else None)
    (option_or (if larger then Some (too_large Input.Bindings) else None)
    (option_or (option_map (cave_refusal database bindings)
    (option_or (if large then Some (cave_too_large site.Database)
    else (if larger then Some (cave_too_large site.Bindings) else None)) lines_fault)) None))
    ≡ option_map (cave_refusal database bindings)
    (option_or (if large then Some (cave_too_large site.Database)
    else (if larger then Some (cave_too_large site.Bindings) else None)) lines_fault)
judged_whole database bindings true larger lines_fault = refl
judged_whole database bindings false true lines_fault = refl
judged_whole database bindings false false None = refl
judged_whole database bindings false false (Some error) = refl

pub caves_are_judged_whole : (database bindings : List ℕ)
    → first_decided (cave_stages database bindings) ≡ inputs_fault database bindings
unfolding cave_fault
caves_are_judged_whole database bindings =
    judged_whole database bindings (nat_lt MAX_INPUT_BYTES (length database))
    (nat_lt MAX_INPUT_BYTES (length bindings))
    (option_or (first_fault [] (lines database)) (first_binding_fault [] (lines bindings)))

-- a database and bindings that describe a cave have no fault
inputs_fault-read : (database bindings : List ℕ) (cave : CaveView) → Reads database bindings cave
    → inputs_fault database bindings ≡ None
inputs_fault-read database bindings cave reads =
    ap (option_map (cave_refusal database bindings))
    ((right_exactly database bindings).0 reads.right)

pub cave_stages-read : (database bindings : List ℕ) (cave : CaveView) → Reads database bindings cave
    → first_decided (cave_stages database bindings) ≡ None
cave_stages-read database bindings cave reads =
    caves_are_judged_whole database bindings ∙ inputs_fault-read database bindings cave reads

-- which fault a cave was refused for
pub inputs_fault-some : (database bindings : List ℕ) (error : CaveError) (found : PlayFault)
    → FaultIs error (cave_fault database bindings)
    → (error.cause ≡ cause.Memory → found ≡ PlayFault.Memory)
    → (found ≡ PlayFault.Memory) ⊎ (found ≡ cave_refusal database bindings error)
    → (found ≡ PlayFault.Memory) ⊎ (inputs_fault database bindings ≡ Some found)
inputs_fault-some database bindings error found (inl none) memory told =
    inl (memory (ap (λ (e : CaveError). e.cause) none))
inputs_fault-some database bindings error found (inr is) memory (inl refused) = inl refused
inputs_fault-some database bindings error found (inr is) memory (inr refusal) =
    inr (ap (option_map (cave_refusal database bindings)) is ∙ ap Some (sym refusal))

found_of_inputs : (database bindings : List ℕ) (found : PlayFault)
    → (found ≡ PlayFault.Memory) ⊎ (inputs_fault database bindings ≡ Some found)
    → IsFoundAt (judging_stage (inputs_fault database bindings)) found
found_of_inputs database bindings found (inl memory) = rw memory (inl tt)
found_of_inputs database bindings found (inr is) = inr is

pub IsFoundIn-inputs : (database bindings : List ℕ) (found : PlayFault)
    → length database ≤ MAX_INPUT_BYTES → length bindings ≤ MAX_INPUT_BYTES
    → (found ≡ PlayFault.Memory) ⊎ (inputs_fault database bindings ≡ Some found)
    → IsFoundIn (cave_stages database bindings) found
IsFoundIn-inputs database bindings found fits small refused =
    inr (
      input_size_fault-fits Input.Cave database fits,
      inr (
        input_size_fault-fits Input.Bindings bindings small,
        inl (found_of_inputs database bindings found refused),
      ),
    )

-- ---- known doubts

pub IsFoundIn-known : (bytes : List ℕ) (found : PlayFault)
    → IsUnread Input.Known bytes found → IsFoundIn (known_stage bytes ∷ []) found
IsFoundIn-known bytes found (inl outside) = inl (inl outside)
IsFoundIn-known bytes found (inr (large, is)) =
    inl (inr (input_size_fault-large Input.Known bytes found large is))

pub first_decided-known : (bytes : List ℕ) → length bytes ≤ MAX_INPUT_BYTES
    → first_decided (known_stage bytes ∷ []) ≡ None
first_decided-known bytes fits =
    first_decided-one (known_stage bytes) (input_size_fault-fits Input.Known bytes fits)

-- ---- a log

pub IsFoundIn-log : (bytes : List ℕ) (found : PlayFault)
    → IsUnread Input.Log bytes found → IsFoundIn (log_stage bytes ∷ []) found
unfolding log_fault
IsFoundIn-log bytes found (inl outside) = inl (inl outside)
IsFoundIn-log bytes found (inr (large, is)) =
    inl (inr (rw (lt-ltb MAX_INPUT_BYTES (length bytes) large, is) refl))

-- a log that isn't too large is judged by its lines
pub log_fault-lines : (bytes : List ℕ) → length bytes ≤ MAX_INPUT_BYTES
    → log_fault bytes ≡ lines_fault (lines bytes)
unfolding log_fault
log_fault-lines bytes fits = rw (le-ltb MAX_INPUT_BYTES (length bytes) fits) refl

pub Judges-log : {X : Type 0} (P : List (List ℕ) → X → Type 0) (bytes text : List ℕ)
    (r : Result X PlayFault) → text ≡ bytes → length bytes ≤ MAX_INPUT_BYTES
    → Judges (judging_stage (lines_fault (lines text)) ∷ []) (P (lines text)) r
    → Judges (log_stage bytes ∷ []) (P (lines bytes)) r
Judges-log P bytes text r is fits judged =
    let here =
    subst (λ t. Judges (judging_stage (lines_fault (lines t)) ∷ []) (P (lines t)) r) is judged in
    Judges-read Input.Log (log_fault bytes) (P (lines bytes)) r
    (subst (λ d. Judges (judging_stage d ∷ []) (P (lines bytes)) r)
    (sym (log_fault-lines bytes fits))
    here)

-- what is wrong with a game whose seed fits is wrong with its log
too_many_or_seed : (many great : Bool) (found : OpenFault)
    → (if great then Some PlayFault.Seed else None) ≡ None
    → (if many then Some OpenFault.LogFull else (if great then Some OpenFault.BadSeed else None))
    ≡ Some found
    → (if many then Some (PlayFault.Log log.Full) else None) ≡ Some (opening_fault found)
too_many_or_seed true great found fits is = ap (option_map opening_fault) is
too_many_or_seed false true found fits is = absurd (cc)
too_many_or_seed false false found fits is = cc

too_many_or_none : (many great : Bool)
    → (if many then Some OpenFault.LogFull else (if great then Some OpenFault.BadSeed else None)) ≡ None
    → (if many then Some (PlayFault.Log log.Full) else None) ≡ None
too_many_or_none true great is = cc
too_many_or_none false great is = refl

or_game_fault-fits : (bad : Option (ℕ × LineFault)) (game : List (List ℕ)) (seed : ℕ)
    (found : OpenFault) → large_seed seed ≡ None → or_game_fault bad game seed ≡ Some found
    → or_too_many bad (length game) ≡ Some (opening_fault found)
or_game_fault-fits None game seed found fits is =
    too_many_or_seed (nat_lt MAX_LOG_LINES (length game)) (nat_lt MAX_SEED seed) found fits is
or_game_fault-fits (Some (number, flaw)) game seed found fits is = ap (option_map opening_fault) is

or_game_fault-none : (bad : Option (ℕ × LineFault)) (game : List (List ℕ)) (seed : ℕ)
    → or_game_fault bad game seed ≡ None → or_too_many bad (length game) ≡ None
or_game_fault-none None game seed is =
    too_many_or_none (nat_lt MAX_LOG_LINES (length game)) (nat_lt MAX_SEED seed) is
or_game_fault-none (Some (number, flaw)) game seed is = cc

-- apart from the distance of checkpoints, a session is refused for its game
by_game : (far : Bool) (other : Option OpenFault) → (if far then Some PlayFault.Every else None) ≡ None
    → (if far then Some OpenFault.BadEvery else other) ≡ other
by_game true other fits = absurd (cc)
by_game false other fits = refl

open_fault-fits : (every : ℕ) (game : List (List ℕ)) (seed : ℕ) → every_fault every ≡ None
    → open_fault every game seed ≡ or_game_fault (first_bad_line game 1) game seed
open_fault-fits every game seed fits =
    by_game (every == 0 || nat_lt MAX_EVERY every) (or_game_fault (first_bad_line game 1) game seed)
    fits

-- a session that was opened has no fault
opened_without : {S : Type 0} (decided : Option OpenFault) (s : S) (r : Result S OpenFault)
    → r ≡ Ok s
    → MatchOption decided (IfErr r (λ f. f ≡ OpenFault.Memory)) (λ f. r ≡ Err f) → decided ≡ None
opened_without None s r is h = refl
opened_without (Some first) s r is h = cc

pub lines_fault-opened : {S : Type 0} (every : ℕ) (game : List (List ℕ)) (seed : ℕ) (s : S)
    (r : Result S OpenFault) → every_fault every ≡ None → r ≡ Ok s
    → MatchOption (open_fault every game seed) (IfErr r (λ f. f ≡ OpenFault.Memory)) (λ f. r ≡ Err f)
    → lines_fault game ≡ None
unfolding lines_fault
lines_fault-opened every game seed s r near is h =
    or_game_fault-none (first_bad_line game 1) game seed
    (sym (open_fault-fits every game seed near) ∙ opened_without _ s r is h)

-- which fault a session was refused for
refused_for : {S : Type 0} (decided : Option OpenFault) (found : OpenFault) (r : Result S OpenFault)
    → r ≡ Err found
    → MatchOption decided (IfErr r (λ f. f ≡ OpenFault.Memory)) (λ f. r ≡ Err f)
    → (found ≡ OpenFault.Memory) ⊎ (decided ≡ Some found)
refused_for None found r is h = inl (IfErr-at_err (λ f. f ≡ OpenFault.Memory) is h)
refused_for (Some first) found r is h = inr (cc)

lines_fault-some : (every : ℕ) (game : List (List ℕ)) (seed : ℕ) (found : OpenFault)
    → large_seed seed ≡ None → every_fault every ≡ None → open_fault every game seed ≡ Some found
    → lines_fault game ≡ Some (opening_fault found)
unfolding lines_fault
lines_fault-some every game seed found fits near is =
    or_game_fault-fits (first_bad_line game 1) game seed found fits
    (sym (open_fault-fits every game seed near) ∙ is)

found_by : (every : ℕ) (game : List (List ℕ)) (seed : ℕ) (found : OpenFault)
    → large_seed seed ≡ None → every_fault every ≡ None
    → (found ≡ OpenFault.Memory) ⊎ (open_fault every game seed ≡ Some found)
    → IsFoundIn (judging_stage (lines_fault game) ∷ []) (opening_fault found)
found_by every game seed found fits near (inl memory) = rw memory (inl (inl tt))
found_by every game seed found fits near (inr is) =
    inl (inr (lines_fault-some every game seed found fits near is))

-- a session that wasn't opened
pub IsFoundIn-opened : {S : Type 0} (every : ℕ) (game : List (List ℕ)) (seed : ℕ)
    (found : OpenFault) (r : Result S OpenFault) → large_seed seed ≡ None → every_fault every ≡ None
    → r ≡ Err found
    → MatchOption (open_fault every game seed) (IfErr r (λ f. f ≡ OpenFault.Memory)) (λ f. r ≡ Err f)
    → IsFoundIn (judging_stage (lines_fault game) ∷ []) (opening_fault found)
IsFoundIn-opened every game seed found r fits near is h =
    found_by every game seed found fits near (refused_for _ found r is h)

-- ---- a log that is watched

-- a log that was watched to its end has no fault
pub lines_fault-watched : (game : List (List ℕ)) (seed : ℕ)
    → or_game_fault (first_bad_line game 1) game seed ≡ None → lines_fault game ≡ None
unfolding lines_fault
lines_fault-watched game seed none = or_game_fault-none (first_bad_line game 1) game seed none

lines_fault-refused : (game : List (List ℕ)) (seed : ℕ) (found : OpenFault)
    → large_seed seed ≡ None → or_game_fault (first_bad_line game 1) game seed ≡ Some found
    → lines_fault game ≡ Some (opening_fault found)
unfolding lines_fault
lines_fault-refused game seed found fits is =
    or_game_fault-fits (first_bad_line game 1) game seed found fits is

-- a log that wasn't watched to its end
pub IsFoundIn-watched : (game : List (List ℕ)) (seed : ℕ) (found : OpenFault)
    → large_seed seed ≡ None
    → (found ≡ OpenFault.Memory) ⊎ (or_game_fault (first_bad_line game 1) game seed ≡ Some found)
    → IsFoundIn (judging_stage (lines_fault game) ∷ []) (opening_fault found)
IsFoundIn-watched game seed found fits (inl memory) = rw memory (inl (inl tt))
IsFoundIn-watched game seed found fits (inr is) =
    inl (inr (lines_fault-refused game seed found fits is))

-- ---- a script

pub IsFoundIn-script : (guarded : Bool) (bytes : List ℕ) (found : PlayFault)
    → IsUnread Input.Script bytes found → IsFoundIn (script_stage guarded bytes ∷ []) found
unfolding script_fault
IsFoundIn-script guarded bytes found (inl outside) = inl (inl outside)
IsFoundIn-script guarded bytes found (inr (large, is)) =
    inl (inr (rw (lt-ltb MAX_INPUT_BYTES (length bytes) large, is) refl))

-- what a script is refused for
abbrev refusal_in : Result (List Applied) ScriptRefusal → Option PlayFault
refusal_in read = option_map script_refusal (result_err read)

-- a script that isn't too large is judged by its first malformed line
pub script_fault-lines : (guarded : Bool) (bytes : List ℕ) → length bytes ≤ MAX_INPUT_BYTES
    → script_fault guarded bytes ≡ refusal_in (script_by guarded bytes)
unfolding script_fault
script_fault-lines guarded bytes fits = rw (le-ltb MAX_INPUT_BYTES (length bytes) fits) refl

pub script_fault-none : (guarded : Bool) (bytes : List ℕ) (items : List Applied)
    → length bytes ≤ MAX_INPUT_BYTES
    → script_by guarded bytes ≡ Ok items → script_fault guarded bytes ≡ None
script_fault-none guarded bytes items fits is =
    script_fault-lines guarded bytes fits ∙ ap refusal_in is

-- a script that was refused
refused_by : (answer : Result (List Applied) ScriptRefusal) (found : ScriptRefusal)
    → IsFaultOf found answer
    → IsFoundAt (reading_stage Input.Script (refusal_in answer)) (script_refusal found)
refused_by answer Memory is = inl tt
refused_by answer (Malformed line flaw) is = inr (ap refusal_in is)

pub IsFoundIn-refused : (guarded : Bool) (bytes text : List ℕ) (found : ScriptRefusal)
    → length bytes ≤ MAX_INPUT_BYTES
    → text ≡ bytes → IsFaultOf found (script_by guarded text)
    → IsFoundIn (script_stage guarded bytes ∷ []) (script_refusal found)
IsFoundIn-refused guarded bytes text found fits is refused =
    let told = script_refusal found in
    let here =
    subst (λ t. IsFoundAt (reading_stage Input.Script (refusal_in (script_by guarded t))) told)
    is (refused_by (script_by guarded text) found refused) in
    inl (subst (λ d. IsFoundAt (reading_stage Input.Script d) told)
    (sym (script_fault-lines guarded bytes fits)) here)
