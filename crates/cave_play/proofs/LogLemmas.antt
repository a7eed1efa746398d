-- Where the fault of several logs is found.
use Rattle.std.proofs.Common.{◌≡◌, ℕ, suc, ◌+◌, List, [], ◌∷◌, ◌++◌, length, Option, Some, None}
use Rattle.std.proofs.Common.{Result, Ok, Err, inl, inr, refl, sym, ap, ◌∙◌, subst, arith}
use Rattle.std.specs.List.{AllZip}
use Rattle.std.specs.Option.{option_or}
use Rattle.cave_play.specs.Sources.{Says}
use Rattle.cave_play.specs.Stages.{log_fault, Stage, first_decided, log_stage}
use Rattle.cave_play.specs.Stages as stage
use Rattle.cave_play.specs.declared.logs.LogsFault.{LogsFault}
use Rattle.cave_play.specs.declared.fault.PlayFault.{PlayFault}
use Rattle.cave_play.proofs.InputLemmas.{Says-some}
use Rattle.cave_play.proofs.StageLemmas.{IsFoundIn-later, first_decided-later}
use Rattle.cave_play.specs.Logs.{AreValidLogs, IsFoundFrom, JudgesLogs}

-- ---- bytes of several readers

pub AllZip-append : {A B : Type 0} (R : A → B → Type 0) (xs us : List A) (ys vs : List B)
    → AllZip R xs ys → AllZip R us vs → AllZip R (xs ++ us) (ys ++ vs)
AllZip-append R [] us [] vs none more = more
AllZip-append R [] us (y ∷ ys) vs none more = absurd none
AllZip-append R (x ∷ xs) us [] vs none more = absurd none
AllZip-append R (x ∷ xs) us (y ∷ ys) vs all more = (all.0, AllZip-append R xs us ys vs all.1 more)

pub AllZip-length : {A B : Type 0} (R : A → B → Type 0) (xs : List A) (ys : List B) → AllZip R xs ys
    → length xs ≡ length ys
AllZip-length R [] [] none = refl
AllZip-length R [] (y ∷ ys) none = absurd none
AllZip-length R (x ∷ xs) [] none = absurd none
AllZip-length R (x ∷ xs) (y ∷ ys) all = ap (λ n. suc n) (AllZip-length R xs ys all.1)

-- some bytes that readers have
pub AllSay-some : (known : List (Option (List ℕ)))
    → (bytes : List (List ℕ)) × AllZip Says known bytes
AllSay-some [] = ([], tt)
AllSay-some (first ∷ others) =
    let here = Says-some first in
    let rest = AllSay-some others in
    (here.0 ∷ rest.0, (here.1, rest.1))

-- ---- one log

-- a fault that is met at this log
abbrev pub at_log : ℕ → PlayFault → LogsFault
at_log place found = record { fault = found; log = Some place }

-- the only stage decides what it decides
decides_alone : (decides : Option PlayFault) → option_or decides None ≡ decides
decides_alone None = refl
decides_alone (Some found) = refl

-- a log without a fault
pub log_right : (log : List ℕ) → first_decided (log_stage log ∷ []) ≡ None → log_fault log ≡ None
log_right log none = sym (decides_alone (log_fault log)) ∙ none

-- the fault of the first of some logs; memory may be refused there
pub IsFoundFrom-here : (place : ℕ) (log : List ℕ) (logs : List (List ℕ)) (found : PlayFault)
    → stage.IsFoundIn (log_stage log ∷ []) found
    → IsFoundFrom place (log ∷ logs) (at_log place found)
IsFoundFrom-here place log logs found (inl here) = inl (refl, here)
IsFoundFrom-here place log logs found (inr (none, memory)) = inl (refl, inl (rw memory tt))

-- ---- several logs

-- one more log without a fault
pub AreValidLogs-more : (logs : List (List ℕ)) (log : List ℕ) → AreValidLogs logs
    → log_fault log ≡ None
    → AreValidLogs (logs ++ log ∷ [])
AreValidLogs-more [] log right none = (none, tt)
AreValidLogs-more (first ∷ logs) log right none = (right.0, AreValidLogs-more logs log right.1 none)

-- a fault that is found after logs without one
pub IsFoundFrom-later : (place : ℕ) (logs more : List (List ℕ)) (found : LogsFault)
    → AreValidLogs logs
    → IsFoundFrom (place + length logs) more found → IsFoundFrom place (logs ++ more) found
IsFoundFrom-later place [] more found right there =
    let same : place + 0 ≡ place = omega arith in
    subst (λ n. IsFoundFrom n more found) same there
IsFoundFrom-later place (log ∷ logs) more found right there =
    let same : place + length (log ∷ logs) ≡ place + 1 + length logs = omega arith in
    inr (
      right.0,
      IsFoundFrom-later (place + 1) logs more found right.1
          (subst (λ n. IsFoundFrom n more found) same there),
    )

-- ---- what is made

-- what is made is also right in another way
pub JudgesLogs-also : {X : Type 0} (first : List Stage) (logs : List (List ℕ)) (P Q : X → Type 0)
    (r : Result X LogsFault) → ((made : X) → P made → Q made)
    → JudgesLogs first logs P r → JudgesLogs first logs Q r
JudgesLogs-also first logs P Q (Ok made) gives (none, right, is) = (none, right, gives made is)
JudgesLogs-also first logs P Q (Err found) gives there = there

-- what is made after stages that decide no fault
pub JudgesLogs-behind : {X : Type 0} (first later : List Stage) (logs : List (List ℕ))
    (P : X → Type 0) (r : Result X LogsFault) → first_decided first ≡ None
    → JudgesLogs later logs P r → JudgesLogs (first ++ later) logs P r
JudgesLogs-behind first later logs P (Ok made) none (rest, right, is) =
    (first_decided-later first later none ∙ rest, right, is)
JudgesLogs-behind first later logs P (Err found) none (inl (at, there)) =
    inl (at, IsFoundIn-later first later found.fault none there)
JudgesLogs-behind first later logs P (Err found) none (inr (rest, there)) =
    inr (first_decided-later first later none ∙ rest, there)
