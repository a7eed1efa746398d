-- A state is read back from its text.
use Rattle.std.proofs.Common.{◌≡◌, ℕ, List, [], ◌++◌, sym, ◌∙◌, arith, Option}
use Rattle.std.proofs.Common.{Some, None, ◌∷◌, drop}
use Rattle.std.proofs.lemmas.Bool.{false≢true}
use Rattle.std.proofs.lemmas.List.{append-nil}
use Rattle.std.specs.List.{AllByRecursion, flat_map}
use Rattle.std.specs.Prelude.{codes}
use Rattle.cave_data.specs.CaveView.{CaveView}
use Rattle.world_objects.proofs.SameLists.{Ascend-AreLists, same_lists}
use Rattle.world_objects.specs.Lists.{halves_at}
use Rattle.world_objects.specs.Objects.{Layout}
use Rattle.cave_world.specs.declared.state.State.{State}
use Rattle.play_state_text.specs.Facts.{each_kind, kinds_after_places, kinds_before_places}
use Rattle.play_state_text.specs.StateText.{AreToldApart, state_text, text_in}
use Rattle.play_state_text.specs.Within.{AreFactsWithin, AreObjectsWithin, IsUpTo, IsWithin}
use Rattle.play_state_text.specs.Words.{named_line, verb_line}
use Rattle.play_state_text.specs.declared.kind.FactKind.{FactKind}
use Rattle.play_state_text.proofs.EntryLemmas.{IsPast}
use Rattle.play_state_text.proofs.FactsRead.{AreParted, AreSameOf, IsSameOf, each_of, facts_are, facts_read}
use Rattle.play_state_text.proofs.FactsRead.{state_of_facts}
use Rattle.play_state_text.proofs.LineLemmas.{number_line_read}
use Rattle.play_state_text.proofs.ObjectLemmas.{AreSameThings, things_same}
use Rattle.play_state_text.proofs.PlaceLemmas.{places_read}
use Rattle.play_state_text.proofs.Reading.{differ}

-- ---- what follows each list begins otherwise

verb_past : (cave : CaveView) (verb : Option ℕ) (more s : List ℕ)
    → IsPast (codes "object ") 100 ((verb_line cave verb ++ more) ++ s)
unfolding named_line
verb_past cave None more s number rest within goes clash = false≢true (differ 0 _ _ clash)
verb_past cave (Some verb) more s number rest within goes clash = false≢true (differ 0 _ _ clash)

before_parted : (cave : CaveView) (begun : Layout) (s : State) (rest : List ℕ)
    → AreParted cave begun s kinds_before_places rest
unfolding text_in
before_parted cave begun s rest =
    (tt, (tt, (tt, (tt, (tt, (tt, (tt, (tt, (tt, (tt, (tt, (tt, (tt, (tt, (tt, (verb_past cave s.talk.verb _ rest, (tt, (tt, (tt, (tt, (tt, (tt, tt))))))))))))))))))))))

after_parted : (cave : CaveView) (begun : Layout) (s : State)
    → AreParted cave begun s kinds_after_places []
unfolding text_in named_line
after_parted cave begun s =
    (tt, (tt, (knife, (tt, (stream, (tt, (nothing, tt)))))))
  where
    knife : IsPast (codes "dwarf ") 6
        (flat_map (text_in cave begun s) (drop 3 kinds_after_places) ++ [])
    knife number more within goes clash = false≢true (differ 0 _ _ clash)

    stream : IsPast (codes "hint ") 20
        (flat_map (text_in cave begun s) (drop 5 kinds_after_places) ++ [])
    stream number more within goes clash = false≢true (differ 0 _ _ clash)

    nothing : IsPast (codes "visits ") 300 []
    nothing number more within goes clash = false≢true (differ 0 _ _ clash)

places_past : (cave : CaveView) (begun : Layout) (s : State)
    → IsPast (codes "place ") 300 (flat_map (text_in cave begun s) kinds_after_places)
unfolding text_in named_line
places_past cave begun s number more within goes clash = false≢true (differ 0 _ _ clash)

-- ---- the whole state

first_of : (P : FactKind → Type 0) (xs ys : List FactKind) → AllByRecursion P (xs ++ ys)
    → AllByRecursion P xs
first_of P [] ys all = tt
first_of P (x ∷ xs) ys all = (all.0, first_of P xs ys all.1)

later_of : (P : FactKind → Type 0) (xs ys : List FactKind) → AllByRecursion P (xs ++ ys)
    → AllByRecursion P ys
later_of P [] ys all = all
later_of P (x ∷ xs) ys all = later_of P xs ys all.1

both_of : (P : FactKind → Type 0) (xs ys : List FactKind) → AllByRecursion P xs
    → AllByRecursion P ys → AllByRecursion P (xs ++ ys)
both_of P [] ys first later = later
both_of P (x ∷ xs) ys first later = (first.0, both_of P xs ys first.1 later)

objects_same : (o p : Layout) → AreObjectsWithin o → AreObjectsWithin p
    → ((x : ℕ) → IsUpTo 100 x → AreSameThings o p x)
    → ((place : ℕ) → halves_at place o.lists ≡ halves_at place p.lists) → o ≡ p
objects_same o p ho hp things places =
    let same = things_same o p ho hp things in
    let lists =
    same_lists o.lists p.lists (Ascend-AreLists o.lists ho.lists) (Ascend-AreLists p.lists hp.lists)
    places in
    λ i. record { first = same.0 i; second = same.1.0 i; props = same.1.1 i; lists = lists i }

pub told_apart : (cave : CaveView) (begun : Layout) (a b : State) → AreFactsWithin a each_kind
    → AreFactsWithin b each_kind → AreToldApart cave begun a b
unfolding state_text
told_apart cave begun a b ha hb turns others score other ht ho hs hq e =
    let text : State → List ℕ = λ z. flat_map (text_in cave begun z) kinds_after_places in
    let taken =
    number_line_read (codes "turns") turns others _ _ (omega (arith, ht)) (omega (arith, ho)) e in
    let scored =
    number_line_read (codes "score") score other _ _ (omega (arith, hs)) (omega (arith, hq))
    taken.1 in
    let first =
    facts_read cave begun a b kinds_before_places _ _
    (first_of (IsWithin a) kinds_before_places kinds_after_places ha)
    (first_of (IsWithin b) kinds_before_places kinds_after_places hb)
    (before_parted cave begun a _) (before_parted cave begun b _) scored.1 in
    let here = each_of (IsWithin a) ha FactKind.Objects in
    let there = each_of (IsWithin b) hb FactKind.Objects in
    let places =
    places_read cave begun a.objects b.objects (text a) (text b) here there
    (places_past cave begun a) (places_past cave begun b) first.1 in
    let later =
    facts_read cave begun a b kinds_after_places [] []
    (later_of (IsWithin a) kinds_before_places kinds_after_places ha)
    (later_of (IsWithin b) kinds_before_places kinds_after_places hb)
    (after_parted cave begun a) (after_parted cave begun b)
    (append-nil (text a) ∙ (places.1 ∙ sym (append-nil (text b)))) in
    let all : AreSameOf a b each_kind =
    both_of (IsSameOf a b) kinds_before_places kinds_after_places first.0 later.0 in
    let objects =
    objects_same a.objects b.objects here there (each_of (IsSameOf a b) all FactKind.Objects) places.0 in
    (taken.0, state_of_facts a b (facts_are a b all objects))
