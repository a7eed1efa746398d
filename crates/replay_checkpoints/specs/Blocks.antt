-- Lists that lie in blocks.
use Rattle.std.specs.Prelude.{◌≡◌, ℕ, ◌+◌, ◌-◌, ◌<◌, ◌≤◌, ◌^◌, List, [], ◌∷◌, length, take, Option}
use Rattle.std.specs.Prelude.{Some, IfSome, vec_len, vec_capacity, slice_index_or}
use Rattle.std.specs.Global.{Vec}
use Rattle.std.specs.List.{flat_map}
use Rattle.replay_checkpoints.specs.declared.block.Block.{Block}
use Rattle.replay_checkpoints.specs.declared.blocks.Stretch.{Stretch}

-- what a list in blocks shows: its items, and the stretch of them that is open, if one is
pub record BlocksView (T : Type 0) : Type 0 where
  pub items : List T
  pub stretch : Option Stretch

-- the stretch from `from` up to `to` is open, for this many items in its place
pub record IsOpenAt {T : Type 0} (blocks : BlocksView T) (from to count : ℕ) : Type 0 where
  pub stretch : Stretch
  pub stretch_is : blocks.stretch ≡ Some stretch
  pub from_is : stretch.from ≡ from
  pub to_is : stretch.to ≡ to
  pub room : count ≤ stretch.room

-- ---- how they lie

-- the items of all blocks, side by side
abbrev pub items_in : {T : Type 0} → List (Block T) → List T
items_in blocks = flat_map (λ block. block.items.items) blocks

-- where the block of an index begins
abbrev pub start_at : {T : Type 0} → List (Block T) → ℕ → ℕ
start_at blocks index = length (items_in (take index blocks))

-- each block begins where the one before it ends, and the first one here
abbrev pub AreLaid : {T : Type 0} → ℕ → List (Block T) → Type 0
AreLaid start [] = Unit {0}
AreLaid start (block ∷ blocks) =
    (block.start ≡ start) × AreLaid (start + length block.items.items) blocks

-- a block after `come` items have replaced `gone` items before it
abbrev pub moved_block : {T : Type 0} → ℕ → ℕ → Block T → Block T
moved_block gone come block = record { start = block.start - gone + come; items = block.items }

-- a place is in the block of this index, or the place is after all items, and the block is the last
-- one
pub record IsBlockOf {T : Type 0} (blocks : List (Block T)) (place index : ℕ) : Type 0 where
  pub inside : index < length blocks
  pub begun : start_at blocks index ≤ place
  pub ended : index + 1 < length blocks → place < start_at blocks (index + 1)

-- there is room for `count` items if `gone` items go
abbrev pub HasRoom : {T : Type 0} → Vec T → ℕ → ℕ → Type 0
HasRoom items gone count = vec_len items + count ≤ vec_capacity items + gone

-- The items from `from` up to `to` lie in the block of an index, which has room for `count` others
-- in their place.
pub record HoldsStretch {T : Type 0} (blocks : List (Block T)) (from to count index : ℕ) : Type 0
  where
    pub ordered : from ≤ to
    pub inside : index < length blocks
    pub begun : start_at blocks index ≤ from
    pub ended : to ≤ start_at blocks (index + 1)
    pub room : (other : Block T) → HasRoom (slice_index_or blocks index other).items (to - from)
        count

-- The blocks of a list of this many items, and of its open stretch.
pub record AreBlocks {T : Type 0} (blocks : List (Block T)) (len : ℕ) (stretch : Option Stretch) :
    Type 0 where
  pub some : 0 < length blocks
  pub laid : AreLaid 0 blocks
  pub len_is : len ≡ length (items_in blocks)
  pub few : len < 2 ^ 63
  pub held : IfSome stretch
      (λ stretch. HoldsStretch blocks stretch.from stretch.to stretch.room stretch.block)
  pub fits : IfSome stretch (λ stretch. len + stretch.room < 2 ^ 63)
