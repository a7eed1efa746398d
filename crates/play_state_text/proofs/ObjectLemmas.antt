-- Objects are read back from their lines.
use Rattle.std.proofs.Common.{◌≡◌, ℕ, ℤ, ◌+◌, ◌-◌, true, false, List, [], ◌++◌, refl, sym, ap}
use Rattle.std.proofs.Common.{◌∙◌, arith, append_assoc, pos, subst}
use Rattle.std.specs.Prelude.{◌==◌, ◌&&◌, codes, slice_index_or}
use Rattle.std.specs.Bool.{Decides}
use Rattle.std.specs.Cmp.{unsigned_Decides, signed_Decides}
use Rattle.std.specs.Fmt.{signed_decimal}
use Rattle.std.specs.Ordering.{int_eq}
use Rattle.std.proofs.lemmas.Bool.{false≢true}
use Rattle.std.proofs.lemmas.List.{append_cancel_left}
use Rattle.cave_data.specs.CaveView.{CaveView}
use Rattle.world_objects.specs.Objects.{Layout, spot_of, anchor_of, prop_of}
use Rattle.world_objects.specs.declared.spot.Spot.{Spot}
use Rattle.world_objects.specs.declared.spot.Anchor.{Anchor}
use Rattle.world_objects.specs.contracts.spot.SpotPartialEq.TheImpl as spot_eq
use Rattle.world_objects.specs.contracts.spot.AnchorPartialEq.TheImpl as anchor_eq
use Rattle.play_state_text.specs.Things.{text_up_to, spot_text, anchor_text}
use Rattle.play_state_text.specs.Things.{is_as_in, thing_line, thing_text}
use Rattle.play_state_text.specs.Within.{IsUpTo, AreObjectsWithin, IsSpotWithin, IsAnchorWithin}
use Rattle.play_state_text.specs.Within.{IsThingWithin}
use Rattle.play_state_text.proofs.EntryLemmas.{IsPast, entries_read}
use Rattle.play_state_text.proofs.Reading.{GoesOn, number_read, signed_step, after_name, both_true}
use Rattle.play_state_text.proofs.Reading.{differ, peel}
use Rattle.play_state_text.specs.Words.{named_line, word_of_object}
use Rattle.play_state_text.proofs.WordLemmas.{object_beside}
use Rattle.play_state_text.proofs.ListedLemmas.{listed, not_zero}

spot_read : (p q : Spot) (s t : List ℕ) → IsSpotWithin p → IsSpotWithin q → GoesOn s → GoesOn t
    → spot_text p ++ s ≡ spot_text q ++ t → (p ≡ q) × (s ≡ t)
spot_read Spot.Away Spot.Away s t hp hq g h e = (refl, append_cancel_left (codes " away") s t e)
spot_read Spot.InHands Spot.InHands s t hp hq g h e =
    (refl, append_cancel_left (codes " carried") s t e)
spot_read (Spot.At m) (Spot.At n) s t hp hq g h e =
    let number = number_read m n s t hp hq g h (after_name (codes " at ") _ _ s t e) in
    (λ i. Spot.At (number.0 i), number.1)
spot_read Spot.Away (Spot.At n) s t hp hq g h e = absurd (false≢true (differ 2 _ _ e))
spot_read (Spot.At m) Spot.Away s t hp hq g h e = absurd (false≢true (differ 2 _ _ e))
spot_read _ _ s t hp hq g h e = absurd (false≢true (differ 1 _ _ e))

-- what comes after an anchor
abbrev prop_text : List ℕ → List ℕ
prop_text s = codes ", prop " ++ s

anchor_read : (p q : Anchor) (s t : List ℕ) → IsAnchorWithin p → IsAnchorWithin q
    → anchor_text p ++ prop_text s ≡ anchor_text q ++ prop_text t → (p ≡ q) × (s ≡ t)
anchor_read Anchor.Loose Anchor.Loose s t hp hq e =
    (refl, append_cancel_left (codes ", prop ") s t e)
anchor_read Anchor.Fixed Anchor.Fixed s t hp hq e =
    (refl, append_cancel_left (codes ", fixed, prop ") s t e)
anchor_read (Anchor.At m) (Anchor.At n) s t hp hq e =
    let number =
    number_read m n (prop_text s) (prop_text t) hp hq refl refl
    (after_name (codes ", also at ") _ _ (prop_text s) (prop_text t) e) in
    (λ i. Anchor.At (number.0 i), append_cancel_left (codes ", prop ") s t number.1)
anchor_read _ _ s t hp hq e = absurd (false≢true (differ 2 _ _ e))

anchor_goes_on : (p : Anchor) (s : List ℕ) → GoesOn (anchor_text p ++ prop_text s)
anchor_goes_on Anchor.Loose s = refl
anchor_goes_on Anchor.Fixed s = refl
anchor_goes_on (Anchor.At place) s = refl

abbrev pub AreSameThings : Layout → Layout → ℕ → Type 0
AreSameThings o p x =
    (spot_of o x ≡ spot_of p x) × ((anchor_of o x ≡ anchor_of p x) × (prop_of o x ≡ prop_of p x))

thing_read : (cave : CaveView) (o p : Layout) (x : ℕ) → IsThingWithin o x → IsThingWithin p x
    → (s t : List ℕ) → thing_text cave o x ++ s ≡ thing_text cave p x ++ t
    → AreSameThings o p x × (s ≡ t)
unfolding thing_text named_line
thing_read cave o p x ho hp s t e =
    let word = after_name (word_of_object cave x) _ _ s t e in
    let rest = after_name (codes ":") _ _ s t word in
    let spots = peel (spot_text (spot_of o x)) (spot_text (spot_of p x)) _ _ s t rest in
    let more = codes "\n" in
    let tail : ℤ → List ℕ → List ℕ = λ z u. prop_text ((signed_decimal z ++ codes "\n") ++ u) in
    let split : (a : Anchor) (z : ℤ) (u : List ℕ)
    → (anchor_text a ++ (codes ", prop " ++ (signed_decimal z ++ codes "\n"))) ++ u
    ≡ anchor_text a ++ tail z u = λ a z u. append_assoc (anchor_text a) _ u in
    let anchors = ap (λ r. spot_text (spot_of o x) ++ r)
    (sym (split (anchor_of o x) (prop_of o x) s))
    ∙ (spots ∙ ap (λ r. spot_text (spot_of p x) ++ r) (split (anchor_of p x) (prop_of p x) t)) in
    let first =
    spot_read (spot_of o x) (spot_of p x) _ _ ho.0 hp.0
    (anchor_goes_on (anchor_of o x) ((signed_decimal (prop_of o x) ++ codes "\n") ++ s))
    (anchor_goes_on (anchor_of p x) ((signed_decimal (prop_of p x) ++ codes "\n") ++ t)) anchors in
    let second = anchor_read (anchor_of o x) (anchor_of p x) _ _ ho.1.0 hp.1.0 first.1 in
    let third =
    signed_step [] (prop_of o x) (prop_of p x) more more s t ho.1.1 hp.1.1 refl refl second.1 in
    ((first.0, (second.0, third.0)), append_cancel_left more s t third.1)

thing_goes_on : (cave : CaveView) (o : Layout) (x : ℕ) (u : List ℕ)
    → GoesOn (thing_text cave o x ++ u)
unfolding thing_text
thing_goes_on cave o x u =
    let rest =
    codes ":" ++ (spot_text (spot_of o x)
    ++ (anchor_text (anchor_of o x) ++ named_line (codes ", prop") (signed_decimal (prop_of o x)))) in
    let whole = append_assoc (word_of_object cave x) rest u in
    subst GoesOn (sym whole) (object_beside cave x (rest ++ u) refl)

spot_decides : (a b : Spot) → Decides (spot_eq.eq-value.it a b) (a ≡ b)
spot_decides Spot.Away Spot.Away = (λ _. refl, λ _. refl)
spot_decides Spot.InHands Spot.InHands = (λ _. refl, λ _. refl)
spot_decides (Spot.At x) (Spot.At y) =
    (λ e i. Spot.At ((unsigned_Decides x y).0 e i), λ e. (unsigned_Decides x y).1 cc)
spot_decides _ _ = (λ e. absurd (false≢true e), λ e. cc)

anchor_decides : (a b : Anchor) → Decides (anchor_eq.eq-value.it a b) (a ≡ b)
anchor_decides Anchor.Loose Anchor.Loose = (λ _. refl, λ _. refl)
anchor_decides Anchor.Fixed Anchor.Fixed = (λ _. refl, λ _. refl)
anchor_decides (Anchor.At x) (Anchor.At y) =
    (λ e i. Anchor.At ((unsigned_Decides x y).0 e i), λ e. (unsigned_Decides x y).1 cc)
anchor_decides _ _ = (λ e. absurd (false≢true e), λ e. cc)

as_begun : (begun o : Layout) (x : ℕ) → is_as_in begun o x ≡ true → AreSameThings o begun x
as_begun begun o x e =
    let spots = spot_eq.eq-value.it (spot_of o x) (spot_of begun x) in
    let anchors = anchor_eq.eq-value.it (anchor_of o x) (anchor_of begun x) in
    let props = int_eq (prop_of o x) (prop_of begun x) in
    let one = both_true spots (anchors && props) e in
    let two = both_true anchors props one.1 in (
      (spot_decides (spot_of o x) (spot_of begun x)).0 one.0,
      (
        (anchor_decides (anchor_of o x) (anchor_of begun x)).0 two.0,
        (signed_Decides (prop_of o x) (prop_of begun x)).0 two.1,
      ),
    )

pub objects_read : (cave : CaveView) (begun o p : Layout) (s t : List ℕ) → AreObjectsWithin o
    → AreObjectsWithin p → IsPast (codes "object ") 100 s → IsPast (codes "object ") 100 t
    → text_up_to (thing_line cave begun o) 100 ++ s
    ≡ text_up_to (thing_line cave begun p) 100 ++ t
    → ((x : ℕ) → IsUpTo 100 x → AreSameThings o p x) × (s ≡ t)
unfolding thing_line
objects_read cave begun o p s t ho hp past other e =
    entries_read (codes "object ") (is_as_in begun o) (is_as_in begun p) (thing_text cave o)
    (thing_text cave p) (AreSameThings o p) 100 s t (omega arith)
    (thing_goes_on cave o) (thing_goes_on cave p)
    (λ x up. (
      λ here there.
          let one = as_begun begun o x here in
          let two = as_begun begun p x there in
          (one.0 ∙ sym two.0, (one.1.0 ∙ sym two.1.0, one.1.1 ∙ sym two.1.1)),
      thing_read cave o p x (ho.things x up) (hp.things x up),
    ))
    past other e

-- ---- the arrays of objects

spot_at : (o p : Layout) (n : ℕ) → n == 0 ≡ false → spot_of o n ≡ spot_of p n
    → slice_index_or o.first (n - 1) Spot.Away ≡ slice_index_or p.first (n - 1) Spot.Away
unfolding spot_of
spot_at o p n some e = rw some at e

anchor_at : (o p : Layout) (n : ℕ) → n == 0 ≡ false → anchor_of o n ≡ anchor_of p n
    → slice_index_or o.second (n - 1) Anchor.Loose ≡ slice_index_or p.second (n - 1) Anchor.Loose
unfolding anchor_of
anchor_at o p n some e = rw some at e

prop_at : (o p : Layout) (n : ℕ) → n == 0 ≡ false → prop_of o n ≡ prop_of p n
    → slice_index_or o.props (n - 1) (pos 0) ≡ slice_index_or p.props (n - 1) (pos 0)
unfolding prop_of
prop_at o p n some e = rw some at e

pub things_same : (o p : Layout) → AreObjectsWithin o → AreObjectsWithin p
    → ((x : ℕ) → IsUpTo 100 x → AreSameThings o p x)
    → (o.first ≡ p.first) × ((o.second ≡ p.second) × (o.props ≡ p.props))
things_same o p ho hp each = (
  listed Spot.Away o.first p.first 100 ho.spots hp.spots
      (λ n up. spot_at o p n (not_zero n up.0) (each n up).0),
  (
    listed Anchor.Loose o.second p.second 100 ho.anchors hp.anchors
        (λ n up. anchor_at o p n (not_zero n up.0) (each n up).1.0),
    listed (pos 0) o.props p.props 100 ho.props hp.props
        (λ n up. prop_at o p n (not_zero n up.0) (each n up).1.1),
  ),
)
