-- Where a fault is found, and what is made, at some stages and then at later ones.
use Rattle.std.proofs.Common.{◌≡◌, List, [], ◌∷◌, ◌++◌, None, Some, Ok, Err, inl, inr, ap, ◌∙◌}
use Rattle.std.proofs.Common.{refl, subst, sym, MatchResult}
use Rattle.std.specs.Prelude.{Result}
use Rattle.std.specs.Option.{option_or}
use Rattle.std.specs.declared.option.Option.{Option}
use Rattle.cave_play.specs.Stages.{IsOutsideOf, IsFoundIn, Judges, Stage, reading_stage}
use Rattle.cave_play.specs.Stages.{judging_stage, first_decided}
use Rattle.play_command.specs.declared.line.Input.{Input}
use Rattle.cave_play.specs.declared.fault.PlayFault.{PlayFault}

-- memory can be refused at any time
pub IsFoundIn-memory : (stages : List Stage) → IsFoundIn stages PlayFault.Memory
IsFoundIn-memory [] = refl
IsFoundIn-memory (stage ∷ stages) = inl (inl tt)

-- a fault that is found at the first of two runs of stages is found at both
pub IsFoundIn-first : (stages later : List Stage) (found : PlayFault)
    → IsFoundIn stages found → IsFoundIn (stages ++ later) found
IsFoundIn-first [] later found memory = rw memory (IsFoundIn-memory later)
IsFoundIn-first (stage ∷ stages) later found (inl here) = inl here
IsFoundIn-first (stage ∷ stages) later found (inr (none, there)) =
    inr (none, IsFoundIn-first stages later found there)

pub neither : (first later : Option PlayFault)
    → option_or first later ≡ None → (first ≡ None) × (later ≡ None)
neither None later none = (refl, none)
neither (Some first) later none = cc

-- if the first decide none, so is one that is found at the later ones
pub IsFoundIn-later : (stages later : List Stage) (found : PlayFault)
    → first_decided stages ≡ None → IsFoundIn later found → IsFoundIn (stages ++ later) found
IsFoundIn-later [] later found none there = there
IsFoundIn-later (stage ∷ stages) later found none there =
    let (here, rest) = neither stage.decides (first_decided stages) none in
    inr (here, IsFoundIn-later stages later found rest there)

-- what is made after stages that decide no fault, unless memory runs out
pub Judges-made : {X : Type 0} (stages : List Stage) (P Q : X → Type 0) (r : Result X PlayFault)
    → first_decided stages ≡ None → ((x : X) → Q x → P x)
    → MatchResult r Q (λ found. found ≡ PlayFault.Memory) → Judges stages P r
Judges-made stages P Q (Ok x) none gives made = (none, gives x made)
Judges-made stages P Q (Err found) none gives memory =
    subst (IsFoundIn stages) (sym memory) (IsFoundIn-memory stages)

-- one stage that decides no fault
pub first_decided-one : (stage : Stage) → stage.decides ≡ None → first_decided (stage ∷ []) ≡ None
first_decided-one stage none = ap (λ f. option_or f None) none

-- if a stage by itself decides none, it has none to decide
pub first_decided-alone : (stage : Stage) → first_decided (stage ∷ []) ≡ None
    → stage.decides ≡ None
first_decided-alone stage none = (neither stage.decides None none).0

-- if the first decide none, the later ones decide what is decided
pub first_decided-later : (stages later : List Stage)
    → first_decided stages ≡ None → first_decided (stages ++ later) ≡ first_decided later
first_decided-later [] later none = refl
first_decided-later (stage ∷ stages) later none =
    let (here, rest) = neither stage.decides (first_decided stages) none in
    ap (λ f. option_or f (first_decided (stages ++ later))) here
    ∙ first_decided-later stages later rest

-- neither a judgement nor the stages after it decide a fault
pub first_decided-after : (decides : Option PlayFault) (later : List Stage)
    → decides ≡ None → first_decided later ≡ None
    → first_decided (judging_stage decides ∷ later) ≡ None
first_decided-after decides later none rest =
    ap (λ f. option_or f (first_decided later)) none ∙ rest

-- what is right at later stages is right at both, if the first decide no fault
pub Judges-later : {X : Type 0} (stages later : List Stage) (P Q : X → Type 0)
    (r : Result X PlayFault) → first_decided stages ≡ None → ((x : X) → P x → Q x)
    → Judges later P r → Judges (stages ++ later) Q r
Judges-later stages later P Q (Ok x) none gives judged =
    (first_decided-later stages later none ∙ judged.0, gives x judged.1)
Judges-later stages later P Q (Err found) none gives judged =
    IsFoundIn-later stages later found none judged

-- what is right at later stages is also right after a judgement that found no fault
pub Judges-after : {X : Type 0} (decides : Option PlayFault) (later : List Stage) (P : X → Type 0)
    (r : Result X PlayFault) → decides ≡ None → Judges later P r
    → Judges (judging_stage decides ∷ later) P r
Judges-after decides later P r none judged =
    Judges-later (judging_stage decides ∷ []) later P P r
    (first_decided-one (judging_stage decides) none) (λ x is. is) judged

-- if nothing is read, only memory is refused from outside
pub memory_alone : (found : PlayFault) → IsOutsideOf None found → found ≡ PlayFault.Memory
memory_alone PlayFault.Memory outside = refl
memory_alone (PlayFault.Read from) outside = cc
memory_alone (PlayFault.Cave error clue) outside = absurd outside
memory_alone (PlayFault.Doubt found) outside = absurd outside
memory_alone PlayFault.LargeKnown outside = absurd outside
memory_alone (PlayFault.Unshown count) outside = absurd outside
memory_alone (PlayFault.Unmapped place) outside = absurd outside
memory_alone PlayFault.Seed outside = absurd outside
memory_alone PlayFault.Every outside = absurd outside
memory_alone (PlayFault.Log refused) outside = absurd outside
memory_alone (PlayFault.NewLog refused) outside = absurd outside
memory_alone (PlayFault.Script refused) outside = absurd outside
memory_alone (PlayFault.Refused refusal) outside = absurd outside
memory_alone PlayFault.LargeLog outside = absurd outside
memory_alone PlayFault.LargeScript outside = absurd outside
memory_alone PlayFault.Write outside = absurd outside

-- what is right of an input that was read is also right of the reading
pub Judges-read : {X : Type 0} (input : Input) (decides : Option PlayFault) (P : X → Type 0)
    (r : Result X PlayFault) → Judges (judging_stage decides ∷ []) P r
    → Judges (reading_stage input decides ∷ []) P r
Judges-read input decides P (Ok x) judged = judged
Judges-read input decides P (Err found) (inl (inl outside)) =
    rw (memory_alone found outside) (inl (inl tt))
Judges-read input decides P (Err found) (inl (inr is)) = inl (inr is)
Judges-read input decides P (Err found) (inr rest) = inr rest
