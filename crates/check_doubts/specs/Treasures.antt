-- Treasures that no place holds, and treasures without an inventory text.
use Rattle.std.specs.Prelude.{ℕ, pos, Bool, ◌&&◌, ◌||◌, not, nat_lt, int_lt, List}
use Rattle.std.specs.List.{list_any}
use Rattle.check_tables.specs.Unused.{is_number}
use Rattle.cave_data.specs.CaveView.{CaveView, placement_of}
use Rattle.cave_words.specs.Named.{object_named}
use Rattle.cave_words.specs.declared.named.Named.TheVariants as name
use Rattle.turn_scene.specs.Treasures.{is_known, is_treasure}
use Rattle.data_lines.specs.Marks.{is_name}
use Rattle.data_lines.specs.declared.mark.MarkedRow.{MarkedRow}

module _ (cave : CaveView) (object : ℕ) where
  -- a place has one of its halves as a game begins
  abbrev pub is_placed : Bool
  is_placed =
      nat_lt 0 (placement_of cave object).first || int_lt (pos 0) (placement_of cave object).second

  -- rules put it somewhere: the pirate hides the chest, and the pearl rolls out of the clam
  abbrev pub is_put_by_rules : Bool
  is_put_by_rules =
      is_number object (object_named cave name.Chest)
      || is_number object (object_named cave name.Pearl)

  -- a row is the first line of the inventory text of a treasure that is nowhere, after these rows
  abbrev pub is_nowhere : List MarkedRow → Bool
  is_nowhere before =
      is_treasure object && not (list_any (is_name object) before) && not is_placed
      && not is_put_by_rules

  abbrev pub is_nameless : Bool
  is_nameless = is_treasure object && not (is_known cave object)
