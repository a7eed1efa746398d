-- Where blocks begin after one of them has other items, and the stretch that lies in one.
use Rattle.std.proofs.Common.{◌≡◌, ℕ, ◌+◌, ◌-◌, ◌<◌, ◌≤◌, List, [], ◌∷◌, ◌++◌, length, get_or, take}
use Rattle.std.proofs.Common.{drop, set, map, suc, zero, refl, sym, ap, ◌∙◌, arith, subst, add-zero}
use Rattle.std.specs.Prelude.{Option, None, Some, IfSome}
use Rattle.std.proofs.lemmas.List.{length-append, take-append-drop, length-take-le, length-map}
use Rattle.std.proofs.lemmas.List.{length-set, get_or-append_right, get_or-drop, take-take}
use Rattle.replay_checkpoints.specs.declared.block.Block.{Block}
use Rattle.replay_checkpoints.specs.declared.blocks.Stretch.{Stretch}
use Rattle.replay_checkpoints.specs.Blocks.{items_in, start_at, HasRoom, HoldsStretch, moved_block}
use Rattle.replay_checkpoints.proofs.BlockLemmas.{block_items, items_in-append}

module _ {T : Type 0} where
  -- the blocks begin where they began
  pub set_starts : (blocks : List (Block T)) (index : ℕ) (old new : Block T) → index < length blocks
      → old ≡ get_or blocks index old → block_items new ≡ block_items old
      → (k : ℕ) → items_in (take k (set blocks index new)) ≡ items_in (take k blocks)
  set_starts [] index old new below read same k = absurd (omega arith)
  set_starts (block ∷ blocks) index old new below read same zero = refl
  set_starts (block ∷ blocks) zero old new below read same (suc k) =
      ap (λ l. l ++ items_in (take k blocks)) (same ∙ ap block_items read)
  set_starts (block ∷ blocks) (suc index) old new below read same (suc k) =
      ap (λ l. block_items block ++ l)
      (set_starts blocks index old new (omega arith) read same k)

  -- a block that hasn't been moved yet
  pub unmoved : (gone come i : ℕ) (blocks now : List (Block T)) (other : Block T)
      → i < length blocks
      → now ≡ map (moved_block gone come) (take i blocks) ++ drop i blocks
      → get_or now i other ≡ get_or blocks i other
  unmoved gone come i blocks now other below so_far =
      let count = length-map (take i blocks) (moved_block gone come)
      ∙ length-take-le i blocks (omega arith) in
      let none : i - i ≡ 0 = omega arith in
      ap (λ l. get_or l i other) so_far
      ∙ get_or-append_right (map (moved_block gone come) (take i blocks)) (drop i blocks) i i other
      count (omega arith)
      ∙ ap (λ n. get_or (drop i blocks) n other) none
      ∙ get_or-drop i blocks 0 other ∙ ap (λ n. get_or blocks n other) (add-zero i)

  -- and if they have as many items
  pub set_lengths : (blocks : List (Block T)) (index : ℕ) (old new : Block T)
      → index < length blocks → old ≡ get_or blocks index old
      → length (block_items new) ≡ length (block_items old)
      → (k : ℕ) → start_at (set blocks index new) k ≡ start_at blocks k
  set_lengths [] index old new below read same k = absurd (omega arith)
  set_lengths (block ∷ blocks) index old new below read same zero = refl
  set_lengths (block ∷ blocks) zero old new below read same (suc k) =
      let items = same ∙ ap (λ b. length (block_items b)) read in
      length-append (block_items new) (items_in (take k blocks))
      ∙ ap (λ n. n + start_at blocks k) items
      ∙ sym (length-append (block_items block) (items_in (take k blocks)))
  set_lengths (block ∷ blocks) (suc index) old new below read same (suc k) =
      length-append (block_items block) (items_in (take k (set blocks index new)))
      ∙ ap (λ n. length (block_items block) + n)
      (set_lengths blocks index old new (omega arith) read same k)
      ∙ sym (length-append (block_items block) (items_in (take k blocks)))

  -- the blocks begin one after another, and all of them before the end
  pub start-within : (blocks : List (Block T)) (k : ℕ)
      → start_at blocks k ≤ length (items_in blocks)
  start-within blocks k =
      let whole = ap (λ l. length (items_in l)) (sym (take-append-drop k blocks))
      ∙ ap length (items_in-append (take k blocks) (drop k blocks))
      ∙ length-append (items_in (take k blocks)) (items_in (drop k blocks)) in
      omega arith

  pub start-later : (blocks : List (Block T)) (i k : ℕ) → i ≤ k
      → start_at blocks i ≤ start_at blocks k
  start-later blocks i k later =
      let first : take i (take k blocks) ≡ take i blocks =
      take-take i k blocks later in
      rw (← first) (start-within (take k blocks) i)

  -- what is known of a block after another one was replaced
  pub known_after : (P : Block T → Type 0) (blocks : List (Block T)) (index k : ℕ)
      (old new : Block T) → index < length blocks → old ≡ get_or blocks index old → (P old → P new)
      → ((other : Block T) → P (get_or blocks k other))
      → (other : Block T) → P (get_or (set blocks index new) k other)
  known_after P [] index k old new below read same known other = absurd (omega arith)
  known_after P (block ∷ blocks) zero zero old new below read same known other =
      same (subst P (sym read) (known other))
  known_after P (block ∷ blocks) zero (suc k) old new below read same known other = known other
  known_after P (block ∷ blocks) (suc index) zero old new below read same known other = known other
  known_after P (block ∷ blocks) (suc index) (suc k) old new below read same known other =
      known_after P blocks index k old new (omega arith) read same known other

  -- a stretch lies in its block as before if one block has another item
  pub holds_after : (blocks : List (Block T)) (index : ℕ) (old new : Block T)
      → index < length blocks → old ≡ get_or blocks index old
      → length (block_items new) ≡ length (block_items old)
      → ((gone come : ℕ) → HasRoom old.items gone come → HasRoom new.items gone come)
      → (from to count k : ℕ) → HoldsStretch blocks from to count k
      → HoldsStretch (set blocks index new) from to count k
  holds_after blocks index old new below read same room from to count k held = record {
    ordered = held.ordered;
    inside = rw (length-set blocks index new) held.inside;
    begun = rw (set_lengths blocks index old new below read same k) held.begun;
    ended = rw (set_lengths blocks index old new below read same (k + 1)) held.ended;
    room = known_after (λ block. HasRoom block.items (to - from) count) blocks index k old new below
        read (room (to - from) count) held.room;
  }

-- what is known of a stretch, if one is open
pub still_held : {P Q : Stretch → Type 0} (stretch : Option Stretch) → IfSome stretch P
    → ((s : Stretch) → P s → Q s) → IfSome stretch Q
still_held None held more = held
still_held (Some s) held more = more s held
