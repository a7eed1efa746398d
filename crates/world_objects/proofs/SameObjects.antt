-- `==` of objects and of their lists holds exactly if they are equal, field by field.
use Rattle.std.proofs.Common.{◌≡◌, List, sym, ap, ◌∙◌}
use Rattle.std.specs.Bool.{Decides}
use Rattle.std.specs.Cmp.{unsigned_Decides, signed_Decides}
use Rattle.std.specs.Cmp.Lexicographic.{pointwise_decides}
use Rattle.std.proofs.lemmas.Bool.{false≢true}
use Rattle.std.proofs.lemmas.Bool.Decides.{Decides-and, Decides-like}
use Rattle.world_objects.specs.Packed.{code_of_spot, spot_of_code, code_of_anchor, anchor_of_code}
use Rattle.world_objects.specs.Packed.{code_of_spot_back, code_of_anchor_back}
use Rattle.world_objects.specs.declared.spot.Spot.{Spot}
use Rattle.world_objects.specs.declared.spot.Anchor.{Anchor}
use Rattle.world_objects.specs.declared.object.Half.{Half}
use Rattle.world_objects.specs.declared.lists.PlacedHalf.{PlacedHalf}
use Rattle.world_objects.specs.declared.objects.Objects.{Objects}
use Rattle.world_objects.specs.contracts.packed.PackedSpotPartialEq.TheImpl as packed_spot_eq
use Rattle.world_objects.specs.contracts.packed.PackedAnchorPartialEq.TheImpl as packed_anchor_eq
use Rattle.world_objects.specs.contracts.object.HalfPartialEq.TheImpl as half_eq
use Rattle.world_objects.specs.contracts.lists.PlacedHalfPartialEq.TheImpl as entry_eq
use Rattle.world_objects.specs.contracts.lists.ObjectListsPartialEq.TheImpl as object_lists_eq
use Rattle.world_objects.specs.contracts.objects.ObjectsPartialEq.TheImpl as objects_eq

packed_spot_decides : (a b : Spot) → Decides (packed_spot_eq.eq-value.it a b) (a ≡ b)
packed_spot_decides a b =
    Decides-like _ (λ e. sym (code_of_spot_back a) ∙ (ap spot_of_code e ∙ code_of_spot_back b))
    (λ e. ap code_of_spot e)
    (unsigned_Decides (code_of_spot a) (code_of_spot b))

packed_anchor_decides : (a b : Anchor) → Decides (packed_anchor_eq.eq-value.it a b) (a ≡ b)
packed_anchor_decides a b =
    Decides-like _ (λ e. sym (code_of_anchor_back a)
    ∙ (ap anchor_of_code e ∙ code_of_anchor_back b)) (λ e. ap code_of_anchor e)
    (unsigned_Decides (code_of_anchor a) (code_of_anchor b))

half_decides : (a b : Half) → Decides (half_eq.eq-value.it a b) (a ≡ b)
half_decides (Half.First x) (Half.First y) =
    (λ e i. Half.First ((unsigned_Decides x y).0 e i), λ e. (unsigned_Decides x y).1 cc)
half_decides (Half.Second x) (Half.Second y) =
    (λ e i. Half.Second ((unsigned_Decides x y).0 e i), λ e. (unsigned_Decides x y).1 cc)
half_decides _ _ = (λ e. absurd (false≢true e), λ e. cc)

pub entry_decides : (a b : PlacedHalf) → Decides (entry_eq.eq-value.it a b) (a ≡ b)
entry_decides a b =
    Decides-like _
    (λ h i.
    let (place, half) = h in
    record { place = place i; half = half i })
    (λ e. (ap (λ (s : PlacedHalf). s.place) e, ap (λ (s : PlacedHalf). s.half) e))
    (Decides-and _ _ (unsigned_Decides a.place b.place) (half_decides a.half b.half))

object_lists_decides : (a b : List PlacedHalf) → Decides (object_lists_eq.eq-value.it a b) (a ≡ b)
object_lists_decides = pointwise_decides entry_decides

pub objects_decides : (a b : Objects) → Decides (objects_eq.eq-value.it a b) (a ≡ b)
objects_decides a b =
    Decides-like _
    (λ h i.
    let (first, (second, (props, lists))) = h in
    record { first = first i; second = second i; props = props i; lists = lists i })
    (λ e. (
      ap (λ (s : Objects). s.first) e,
      (
        ap (λ (s : Objects). s.second) e,
        (ap (λ (s : Objects). s.props) e, ap (λ (s : Objects). s.lists) e),
      ),
    ))
    (Decides-and _ _ (pointwise_decides packed_spot_decides a.first b.first)
    (Decides-and _ _ (pointwise_decides packed_anchor_decides a.second b.second)
    (Decides-and _ _ (pointwise_decides signed_Decides a.props b.props)
    (object_lists_decides a.lists b.lists))))
