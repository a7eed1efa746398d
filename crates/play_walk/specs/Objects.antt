-- Objects as JSON: those that are carried, and those that have moved.
use Rattle.std.specs.Prelude.{ℕ, ◌+◌, Bool, not, ◌&&◌, List, [], ◌∷◌, codes, Option, None, Some}
use Rattle.std.specs.Fmt.{decimal}
use Rattle.std.specs.List.{filter, range_with_len}
use Rattle.base_lines.specs.Numbers.{LAST_OBJECT}
use Rattle.cave_data.specs.CaveView.{CaveView, first_word}
use Rattle.data_rows.specs.Rows.{OBJECT_WORDS}
use Rattle.world_objects.specs.Objects.{Layout, anchor_of, spot_of}
use Rattle.world_objects.specs.contracts.spot.AnchorPartialEq.TheImpl as anchor_eq
use Rattle.world_objects.specs.contracts.spot.SpotPartialEq.TheImpl as spot_eq
use Rattle.world_objects.specs.declared.spot.Anchor.{Anchor}
use Rattle.world_objects.specs.declared.spot.Spot.{Spot}
use Rattle.play_walk.specs.Json.{Member, json_list, json_object, string_or_null}

-- an object by its number, and by the first word that the cave has for it
abbrev pub name_member : CaveView → ℕ → Member
name_member cave x = (codes "name", string_or_null (first_word cave.words (OBJECT_WORDS + x)))

-- where the first half of an object is, by the number of the place: 0 is nowhere, and -1 in the
-- hands
abbrev pub spot_number : Spot → List ℕ
spot_number Spot.Away = codes "0"
spot_number Spot.InHands = codes "-1"
spot_number (Spot.At place) = decimal place

-- where its second half is: 0 if it has none, and -1 if nothing can move it
abbrev pub anchor_number : Anchor → List ℕ
anchor_number Anchor.Loose = codes "0"
anchor_number Anchor.Fixed = codes "-1"
anchor_number (Anchor.At place) = decimal place

-- where both are in a layout, if there is one
abbrev pub half_members : Option Layout → ℕ → List Member
half_members None x = []
half_members (Some o) x =
    (codes "first", spot_number (spot_of o x)) ∷ (codes "second", anchor_number (anchor_of o x)) ∷ []

unfoldable pub listed_object : CaveView → Option Layout → ℕ → List ℕ
listed_object cave among x =
    json_object (codes "object", decimal x) (name_member cave x ∷ half_members among x)

-- an object is elsewhere in the second layout than in the first
unfoldable pub is_moved : Layout → Layout → ℕ → Bool
is_moved before after x =
    not (spot_eq.eq-value.it (spot_of before x) (spot_of after x)
    && anchor_eq.eq-value.it (anchor_of before x) (anchor_of after x))

-- those of the objects 1 to n that are
unfoldable pub moved_up_to : Layout → Layout → ℕ → List ℕ
moved_up_to before after n = filter (is_moved before after) (range_with_len 1 n)

unfoldable pub moved_member : CaveView → Layout → Layout → Member
moved_member cave before after = (
  codes "moved",
  json_list (listed_object cave (Some after))
      (moved_up_to before after LAST_OBJECT),
)
