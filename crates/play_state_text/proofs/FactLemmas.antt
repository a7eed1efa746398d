-- A fact is read back from its lines.
use Rattle.std.proofs.Common.{◌≡◌, ℕ, List, ◌++◌, Option, Some, None, refl, ap, arith}
use Rattle.std.specs.Prelude.{⊤, codes, decimal}
use Rattle.std.proofs.lemmas.Bool.{false≢true}
use Rattle.std.proofs.lemmas.List.{append_cancel_left}
use Rattle.cave_data.specs.CaveView.{CaveView}
use Rattle.world_objects.specs.Objects.{Layout}
use Rattle.cave_world.specs.declared.dwarves.Knife.{Knife}
use Rattle.cave_world.specs.declared.dwarves.Knife.TheVariants.{Unthrown, At, Vanished}
use Rattle.cave_world.specs.declared.ending.Ending.{Ending}
use Rattle.cave_world.specs.declared.ending.Question.{Question}
use Rattle.play_state_text.specs.Facts.{StateFact, Number, Signed, Answer, Asked, Ended, Verb}
use Rattle.play_state_text.specs.Facts.{Thing, Thrown, AllObjects, AllDwarves, AllHints, AllVisits}
use Rattle.play_state_text.specs.StateText.{fact_text}
use Rattle.play_state_text.specs.Within.{IsFactWithin, IsKnifeWithin, IsQuestionWithin, IsUpTo}
use Rattle.play_state_text.specs.Within.{IsWide}
use Rattle.play_state_text.specs.Words.{end_words, knife_text, question_text}
use Rattle.play_state_text.proofs.DwarfLemmas.{dwarves_read}
use Rattle.play_state_text.proofs.EntryLemmas.{IsPast}
use Rattle.play_state_text.proofs.HintLemmas.{hints_read}
use Rattle.play_state_text.proofs.LineLemmas.{answer_line_read, number_line_read, signed_line_read}
use Rattle.play_state_text.proofs.LineLemmas.{words_read}
use Rattle.play_state_text.proofs.ObjectLemmas.{AreSameThings, objects_read}
use Rattle.play_state_text.proofs.Reading.{differ, number_step}
use Rattle.play_state_text.proofs.VisitLemmas.{visits_read}
use Rattle.play_state_text.proofs.WordLemmas.{object_line_read, verb_line_read}

-- words and the end of their line
abbrev ends : List ℕ → List ℕ → List ℕ
ends words s = (words ++ codes "\n") ++ s

numbered_read : (name : List ℕ) (m n : ℕ) (s t : List ℕ) → IsWide m → IsWide n
    → (name ++ (decimal m ++ codes "\n")) ++ s ≡ (name ++ (decimal n ++ codes "\n")) ++ t
    → (m ≡ n) × (s ≡ t)
numbered_read name m n s t hm hn e =
    let number = number_step name m n (codes "\n") (codes "\n") s t hm hn refl refl e in
    (number.0, append_cancel_left (codes "\n") s t number.1)

question_read : (p q : Option Question) (s t : List ℕ) → IsQuestionWithin p → IsQuestionWithin q
    → ends (question_text p) s ≡ ends (question_text q) t → (p ≡ q) × (s ≡ t)
question_read None None s t hp hq e = (refl, append_cancel_left (codes "none\n") s t e)
question_read (Some Question.Welcome) (Some Question.Welcome) s t hp hq e =
    (refl, append_cancel_left (codes "welcome\n") s t e)
question_read (Some Question.Quit) (Some Question.Quit) s t hp hq e =
    (refl, append_cancel_left (codes "quit\n") s t e)
question_read (Some Question.ScoreQuit) (Some Question.ScoreQuit) s t hp hq e =
    (refl, append_cancel_left (codes "score, quit\n") s t e)
question_read (Some Question.Die) (Some Question.Die) s t hp hq e =
    (refl, append_cancel_left (codes "revive\n") s t e)
question_read (Some (Question.Hint m)) (Some (Question.Hint n)) s t hp hq e =
    let number = numbered_read (codes "hint ") m n s t hp hq e in
    (λ i. Some (Question.Hint (number.0 i)), number.1)
question_read (Some (Question.Take m)) (Some (Question.Take n)) s t hp hq e =
    let number = numbered_read (codes "take hint ") m n s t hp hq e in
    (λ i. Some (Question.Take (number.0 i)), number.1)
question_read (Some Question.Oyster) (Some Question.Oyster) s t hp hq e =
    (refl, append_cancel_left (codes "oyster\n") s t e)
question_read (Some Question.Dragon) (Some Question.Dragon) s t hp hq e =
    (refl, append_cancel_left (codes "dragon\n") s t e)
question_read None (Some Question.Welcome) s t hp hq e = absurd (false≢true (differ 0 _ _ e))
question_read _ _ s t hp hq e = absurd (false≢true (differ 0 _ _ e))

ending_read : (p q : Option Ending) (s t : List ℕ) → ends (end_words p) s ≡ ends (end_words q) t
    → (p ≡ q) × (s ≡ t)
ending_read None None s t e = (refl, append_cancel_left (codes "no\n") s t e)
ending_read (Some Ending.Quit) (Some Ending.Quit) s t e =
    (refl, append_cancel_left (codes "quit\n") s t e)
ending_read (Some Ending.Killed) (Some Ending.Killed) s t e =
    (refl, append_cancel_left (codes "killed\n") s t e)
ending_read (Some Ending.Klutz) (Some Ending.Klutz) s t e =
    (refl, append_cancel_left (codes "klutz\n") s t e)
ending_read (Some Ending.WrongWay) (Some Ending.WrongWay) s t e =
    (refl, append_cancel_left (codes "wrong way\n") s t e)
ending_read (Some Ending.Success) (Some Ending.Success) s t e =
    (refl, append_cancel_left (codes "success\n") s t e)
ending_read (Some Ending.Killed) (Some Ending.Klutz) s t e =
    absurd (false≢true (differ 1 _ _ e))
ending_read (Some Ending.Klutz) (Some Ending.Killed) s t e =
    absurd (false≢true (differ 1 _ _ e))
ending_read None (Some Ending.Quit) s t e = absurd (false≢true (differ 0 _ _ e))
ending_read _ _ s t e = absurd (false≢true (differ 0 _ _ e))

knife_read : (p q : Knife) (s t : List ℕ) → IsKnifeWithin p → IsKnifeWithin q
    → ends (knife_text p) s ≡ ends (knife_text q) t → (p ≡ q) × (s ≡ t)
knife_read Unthrown Unthrown s t hp hq e = (refl, append_cancel_left (codes "none\n") s t e)
knife_read (At m) (At n) s t hp hq e =
    let number = numbered_read (codes "at ") m n s t hp hq e in
    (λ i. At (number.0 i), number.1)
knife_read Vanished Vanished s t hp hq e = (refl, append_cancel_left (codes "vanished\n") s t e)
knife_read _ _ s t hp hq e = absurd (false≢true (differ 0 _ _ e))

-- the constructor of a fact
abbrev pub form_of : StateFact → ℕ
form_of (Number _) = 0
form_of (Signed _) = 1
form_of (Answer _) = 2
form_of (Asked _) = 3
form_of (Ended _) = 4
form_of (Verb _) = 5
form_of (Thing _) = 6
form_of (Thrown _) = 7
form_of (AllObjects _) = 8
form_of (AllDwarves _) = 9
form_of (AllHints _) = 10
form_of (AllVisits _) = 11

-- what the same lines say of two facts; the lists of objects are read with the places
abbrev pub Same : StateFact → StateFact → Type 0
Same (AllObjects a) (AllObjects b) = (x : ℕ) → IsUpTo 100 x → AreSameThings a b x
Same a b = a ≡ b

-- what follows a list isn't another line of it
abbrev pub IsAfter : StateFact → List ℕ → Type 0
IsAfter (AllObjects _) s = IsPast (codes "object ") 100 s
IsAfter (AllDwarves _) s = IsPast (codes "dwarf ") 6 s
IsAfter (AllHints _) s = IsPast (codes "hint ") 20 s
IsAfter (AllVisits _) s = IsPast (codes "visits ") 300 s
IsAfter _ s = ⊤

-- facts that are made of what was read
made : {A : Type 0} (form : A → StateFact) (a b : A) (s t : List ℕ) → (a ≡ b) × (s ≡ t)
    → (form a ≡ form b) × (s ≡ t)
made form a b s t read = (ap form read.0, read.1)

pub fact_read : (cave : CaveView) (begun : Layout) (name : List ℕ) (one other : StateFact)
    (s t : List ℕ) → form_of one ≡ form_of other → IsFactWithin one → IsFactWithin other
    → IsAfter one s → IsAfter other t
    → fact_text cave begun name one ++ s ≡ fact_text cave begun name other ++ t
    → Same one other × (s ≡ t)
fact_read cave begun name (Number a) (Number b) s t _ ha hb _ _ e =
    made Number a b s t (number_line_read name a b s t ha hb e)
fact_read cave begun name (Signed a) (Signed b) s t _ ha hb _ _ e =
    made Signed a b s t (signed_line_read name a b s t ha hb e)
fact_read cave begun name (Answer a) (Answer b) s t _ ha hb _ _ e =
    made Answer a b s t (answer_line_read name a b s t e)
fact_read cave begun name (Asked a) (Asked b) s t _ ha hb _ _ e =
    made Asked a b s t
    (question_read a b s t ha hb (words_read name (question_text a) (question_text b) s t e))
fact_read cave begun name (Ended a) (Ended b) s t _ ha hb _ _ e =
    made Ended a b s t (ending_read a b s t (words_read name (end_words a) (end_words b) s t e))
fact_read cave begun name (Verb a) (Verb b) s t _ ha hb _ _ e =
    made Verb a b s t (verb_line_read cave a b s t ha hb e)
fact_read cave begun name (Thing a) (Thing b) s t _ ha hb _ _ e =
    made Thing a b s t (object_line_read cave name a b s t ha hb e)
fact_read cave begun name (Thrown a) (Thrown b) s t _ ha hb _ _ e =
    made Thrown a b s t
    (knife_read a b s t ha hb (words_read name (knife_text a) (knife_text b) s t e))
fact_read cave begun name (AllObjects a) (AllObjects b) s t _ ha hb past other e =
    objects_read cave begun a b s t ha hb past other e
fact_read cave begun name (AllDwarves a) (AllDwarves b) s t _ ha hb past other e =
    made AllDwarves a b s t (dwarves_read a b s t ha hb past other e)
fact_read cave begun name (AllHints a) (AllHints b) s t _ ha hb past other e =
    made AllHints a b s t (hints_read a b s t ha hb past other e)
fact_read cave begun name (AllVisits a) (AllVisits b) s t _ ha hb past other e =
    made AllVisits a b s t (visits_read a b s t ha hb past other e)
fact_read cave begun name _ _ s t alike _ _ _ _ e = absurd (omega (arith, alike))
