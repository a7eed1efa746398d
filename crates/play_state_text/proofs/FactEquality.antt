-- Two facts are compared as equal exactly if they are.
use Rattle.std.proofs.Common.{◌≡◌, Bool, true, ap}
use Rattle.std.specs.Bool.{Decides}
use Rattle.std.specs.Cmp.{booleans_Decides, signed_Decides, unsigned_Decides}
use Rattle.std.specs.Cmp.Lexicographic.{pointwise_decides}
use Rattle.std.proofs.lemmas.Bool.{false≢true}
use Rattle.std.proofs.lemmas.List.Elements.{recursion_from_All}
use Rattle.std.proofs.lemmas.List.Sums.{AllPass-from_list_all}
use Rattle.std.specs.List.{list_all}
use Rattle.world_objects.proofs.SameObjects.{objects_decides}
use Rattle.cave_world.proofs.Equality.{by_dwarf, by_hints, ending_decides, knife_decides}
use Rattle.cave_world.proofs.Equality.{option_decides, question_decides}
use Rattle.cave_world.specs.declared.state.State.{State}
use Rattle.play_state_text.specs.Facts.{StateFact, Number, Signed, Answer, Asked, Ended, Verb, Thing}
use Rattle.play_state_text.specs.Facts.{Thrown, AllObjects, AllDwarves, AllHints, AllVisits}
use Rattle.play_state_text.specs.Facts.{each_kind, fact_in, are_equal, is_same_in}
use Rattle.play_state_text.specs.declared.kind.FactKind.{FactKind}
use Rattle.play_state_text.proofs.FactsRead.{each_of, state_of_facts}

made_decides : {A : Type 0} (form : A → StateFact) → ((a b : A) → form a ≡ form b → a ≡ b)
    → (same : Bool) (a b : A) → Decides same (a ≡ b) → Decides same (form a ≡ form b)
made_decides form inner same a b decides =
    (λ e. ap form (decides.0 e), λ e. decides.1 (inner a b e))

pub fact_decides : (one other : StateFact) → Decides (are_equal one other) (one ≡ other)
fact_decides (Number a) (Number b) =
    made_decides Number (λ _ _ e. cc) _ a b (unsigned_Decides a b)
fact_decides (Signed a) (Signed b) =
    made_decides Signed (λ _ _ e. cc) _ a b (signed_Decides a b)
fact_decides (Answer a) (Answer b) =
    made_decides Answer (λ _ _ e. cc) _ a b (booleans_Decides a b)
fact_decides (Asked a) (Asked b) =
    made_decides Asked (λ _ _ e. cc) _ a b (option_decides _ question_decides a b)
fact_decides (Ended a) (Ended b) =
    made_decides Ended (λ _ _ e. cc) _ a b (option_decides _ ending_decides a b)
fact_decides (Verb a) (Verb b) =
    made_decides Verb (λ _ _ e. cc) _ a b (option_decides _ unsigned_Decides a b)
fact_decides (Thing a) (Thing b) =
    made_decides Thing (λ _ _ e. cc) _ a b (unsigned_Decides a b)
fact_decides (Thrown a) (Thrown b) =
    made_decides Thrown (λ _ _ e. cc) _ a b (knife_decides a b)
fact_decides (AllObjects a) (AllObjects b) =
    made_decides AllObjects (λ _ _ e. cc) _ a b (objects_decides a b)
fact_decides (AllDwarves a) (AllDwarves b) =
    made_decides AllDwarves (λ _ _ e. cc) _ a b (pointwise_decides (λ x y. (by_dwarf x y).decides) a b)
fact_decides (AllHints a) (AllHints b) =
    made_decides AllHints (λ _ _ e. cc) _ a b (by_hints a b).decides
fact_decides (AllVisits a) (AllVisits b) =
    made_decides AllVisits (λ _ _ e. cc) _ a b (pointwise_decides unsigned_Decides a b)
fact_decides _ _ = (λ e. absurd (false≢true e), λ e. cc)

pub same_if_alike : (s t : State) → list_all (λ kind. is_same_in kind s t) each_kind ≡ true → s ≡ t
same_if_alike s t alike =
    let same : FactKind → Type 0 = λ kind. is_same_in kind s t ≡ true in
    let pass = AllPass-from_list_all (λ kind. is_same_in kind s t) each_kind alike in
    let each = recursion_from_All same each_kind pass in
    state_of_facts s t
    (λ kind. (fact_decides (fact_in kind s) (fact_in kind t)).0 (each_of same each kind))
