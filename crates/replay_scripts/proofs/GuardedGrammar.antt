-- What a script with guards gives is what it gives with its guards taken as blank.
use Rattle.std.proofs.Common.{Bool, true, false, ◌≡◌, ℕ, ◌+◌, List, [], ◌∷◌, ◌++◌, Option, Some}
use Rattle.std.proofs.Common.{None, Result, Ok, Err, MatchResult, IfErr, IfOk, option_map, refl}
use Rattle.std.proofs.lemmas.List.{map-append}
use Rattle.std.specs.Str.Lines.{lines}
use Rattle.replay_scripts.specs.declared.fault.ScriptFlaw.TheVariants as flaw_is
use Rattle.replay_scripts.specs.declared.fault.ScriptRefusal.{ScriptRefusal}
use Rattle.replay_scripts.specs.declared.fault.ScriptRefusal.TheVariants.{Malformed, Memory}
use Rattle.replay_scripts.specs.declared.script.Script.{Script}
use Rattle.replay_scripts.specs.Guards.{guarded_script_of, IsRefusedByGuards}
use Rattle.replay_scripts.specs.Guards.{IsScriptBy, read_guarded_from, unguarded}
use Rattle.replay_scripts.specs.Guards.{script_by, unguarded_items, unguarded_line, with_expected}
use Rattle.replay_scripts.specs.Line.{LineKind, nothing, begin, end, edit, nonsense, expected_in}
use Rattle.replay_scripts.specs.Line.{kind_of_script_line}
use Rattle.replay_scripts.specs.Script.{Applied, Expectation, guarded_by, group_at_line, onward}
use Rattle.replay_scripts.specs.Script.{group_with_change, items_at_end, read_from, IsScript}
use Rattle.replay_scripts.specs.Script.{reading_after_line, single}
use Rattle.replay_scripts.specs.Views.{IsFaultOf, items_of}
use Rattle.replay_scripts.proofs.Grammar.{IsScript-read_from, IsScript-script_of}
use Rattle.replay_scripts.proofs.Malformed.{IsMalformedAt-read_from}

abbrev blank_group : Option Applied → Option Applied
blank_group group = option_map (guarded_by []) group

-- what a script gives with guards follows from what it gives with its guards taken as blank
abbrev ComesOf : Result (List Applied) ScriptRefusal → Result (List Applied) ScriptRefusal → Type 0
ComesOf (Ok out) plain = plain ≡ Ok (unguarded_items out)
ComesOf (Err (Malformed at flaw_is.NoneGuarded)) plain =
    (out : List Applied) × (plain ≡ Ok out)
ComesOf (Err refusal) plain = plain ≡ Err refusal

at_end : (items : List Applied) (group : Option Applied) (guards : List Expectation)
    → ComesOf (items_at_end items group guards)
    (items_at_end (unguarded_items items) (blank_group group) [])
at_end items (Some group) guards = refl
at_end items None [] = refl
at_end items None (guard ∷ guards) = (unguarded_items items, refl)

one_more : (items : List Applied) (item : Applied)
    → unguarded_items (items ++ item ∷ []) ≡ unguarded_items items ++ guarded_by [] item ∷ []
one_more items item = map-append (guarded_by []) items (item ∷ [])

module _ (number : ℕ) (rest : List (List ℕ)) (next : (items : List Applied) (group : Option Applied)
    (guards : List Expectation)
    → ComesOf (read_guarded_from (number + 1) rest items group guards)
    (read_from (number + 1) (unguarded rest) (unguarded_items items) (blank_group group) [])) where
  closed : (items : List Applied) (item : Applied) (guards : List Expectation)
      → ComesOf (read_guarded_from (number + 1) rest (items ++ guarded_by guards item ∷ []) None [])
      (read_from (number + 1) (unguarded rest) (unguarded_items items ++ guarded_by [] item ∷ [])
      None [])
  closed items item guards =
      let same = one_more items (guarded_by guards item) in
      rw (← same) (next (items ++ guarded_by guards item ∷ []) None [])

  by_kind : (kind : LineKind) (items : List Applied) (group : Option Applied)
      (guards : List Expectation)
      → ComesOf (onward (reading_after_line number kind items group guards)
      (read_guarded_from (number + 1) rest))
      (onward (reading_after_line number kind (unguarded_items items) (blank_group group) [])
      (read_from (number + 1) (unguarded rest)))
  by_kind nothing items None guards = next items None guards
  by_kind begin items None guards = next items (Some (group_at_line number)) guards
  by_kind end items None guards = refl
  by_kind (edit change) items None guards = closed items (single number change) guards
  by_kind (nonsense flaw) items None guards = refl
  by_kind nothing items (Some group) guards = next items (Some group) guards
  by_kind begin items (Some group) guards = refl
  by_kind end items (Some group) guards = closed items group guards
  by_kind (edit change) items (Some group) guards =
      next items (Some (group_with_change group number change)) guards
  by_kind (nonsense flaw) items (Some group) guards = refl

comes_of : (whole : List (List ℕ)) (number : ℕ) (items : List Applied) (group : Option Applied)
    (guards : List Expectation)
    → ComesOf (read_guarded_from number whole items group guards)
    (read_from number (unguarded whole) (unguarded_items items) (blank_group group) [])
comes_of [] number items group guards = at_end items group guards
comes_of (line ∷ rest) number items group guards =
    by_kind number rest (λ i g more. comes_of rest (number + 1) i g more)
    (kind_of_script_line (unguarded_line (expected_in line) line)) items group
    (with_expected number (expected_in line) group guards)

-- ---- a script with guards is spelled, and refused for its first malformed line

abbrev IsAnswer : List ℕ → Result Script ScriptRefusal → Type 0
IsAnswer text answer =
    MatchResult answer (λ script. guarded_script_of text ≡ Ok (items_of script.items))
    (λ fault. IsFaultOf fault (guarded_script_of text))

module _ (whole : List (List ℕ)) where
  spelled : (out : List Applied) (read : Result (List Applied) ScriptRefusal)
      → ComesOf read (read_from 1 (unguarded whole) [] None [])
      → read ≡ Ok out
      → IsScript 1 (unguarded whole) (unguarded_items out)
  spelled out (Ok items) comes is =
      let same : items ≡ out = cc in
      rw same at (IsScript-read_from (unguarded whole) (unguarded_items items) comes)
  spelled out (Err refusal) comes is = cc

  refused : (found : ScriptRefusal) (read : Result (List Applied) ScriptRefusal)
      → ComesOf read (read_from 1 (unguarded whole) [] None [])
      → read ≡ Err found
      → IsRefusedByGuards whole found
  refused found (Ok items) comes is = cc
  refused found (Err refusal) comes is =
      let same : refusal ≡ found = cc in
      rw same at (by_refusal refusal comes)
    where
      by_refusal : (other : ScriptRefusal)
          → ComesOf (Err other) (read_from 1 (unguarded whole) [] None [])
          → IsRefusedByGuards whole other
      by_refusal Memory given = tt
      by_refusal (Malformed at flaw_is.NoneGuarded) (items, given) =
          (items, IsScript-read_from (unguarded whole) items given)
      by_refusal (Malformed at (flaw_is.NoEdit flaw)) given =
          IsMalformedAt-read_from (unguarded whole) at (flaw_is.NoEdit flaw) given
      by_refusal (Malformed at flaw_is.BeginInGroup) given =
          IsMalformedAt-read_from (unguarded whole) at flaw_is.BeginInGroup given
      by_refusal (Malformed at flaw_is.EndOutsideGroup) given =
          IsMalformedAt-read_from (unguarded whole) at flaw_is.EndOutsideGroup given
      by_refusal (Malformed at flaw_is.NoEnd) given =
          IsMalformedAt-read_from (unguarded whole) at flaw_is.NoEnd given

-- the lines spell what reading gives, by whether some may be guards
pub IsScriptBy-script_by : (guarded : Bool) (text : List ℕ) (items : List Applied)
    → script_by guarded text ≡ Ok items → IsScriptBy guarded text items
IsScriptBy-script_by false text items is = IsScript-script_of text items is
IsScriptBy-script_by true text items is = (
  is,
  spelled (lines text) items (read_guarded_from 1 (lines text) [] None [])
      (comes_of (lines text) 1 [] None []) is,
)

pub answer_spelled : (text : List ℕ) (answer : Result Script ScriptRefusal) → IsAnswer text answer
    → IfOk answer (λ script. IsScriptBy true text (items_of script.items))
answer_spelled text (Ok script) is = IsScriptBy-script_by true text (items_of script.items) is
answer_spelled text (Err fault) is = tt

pub answer_refused : (text : List ℕ) (answer : Result Script ScriptRefusal) → IsAnswer text answer
    → IfErr answer (IsRefusedByGuards (lines text))
answer_refused text (Ok script) is = tt
answer_refused text (Err Memory) is = tt
answer_refused text (Err (Malformed at flaw)) is =
    refused (lines text) (Malformed at flaw) (read_guarded_from 1 (lines text) [] None [])
    (comes_of (lines text) 1 [] None []) is

pub ruleset answers = (answer_spelled, answer_refused)
