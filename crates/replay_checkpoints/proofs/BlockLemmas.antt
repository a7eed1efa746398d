-- Items that lie in blocks.
use Rattle.std.proofs.Common.{◌≡◌, ℕ, ◌+◌, ◌-◌, ◌<◌, ◌≤◌, List, [], ◌∷◌, ◌++◌, length, get_or, take}
use Rattle.std.proofs.Common.{drop, insert, remove, set, map, suc, refl, sym, ap, ◌∙◌, arith}
use Rattle.std.proofs.Common.{subst, zero-add, add-zero, add-one, inl, inr}
use Rattle.std.proofs.Math.Seq.{get_or-append_seam}
use Rattle.std.specs.List.{splice}
use Rattle.std.proofs.lemmas.List.{append-nil, append_assoc, length-append, drop_more, take_more}
use Rattle.std.proofs.lemmas.List.{drop-set-lt, length-take-le, length-set, get_or-append_right}
use Rattle.std.proofs.lemmas.List.{get_or_append_left, set-append_left, set-append_right, take_all}
use Rattle.std.proofs.lemmas.Bool.{cases_lt}
use Rattle.std.proofs.lemmas.List.Concat.{flat_map-append}
use Rattle.replay_checkpoints.specs.declared.block.Block.{Block}
use Rattle.replay_checkpoints.specs.Blocks.{items_in, start_at, AreLaid, IsBlockOf, moved_block}
use Rattle.replay_checkpoints.proofs.AroundLemmas.{insert_form, later_form, read_form, remove_form}
use Rattle.replay_checkpoints.proofs.AroundLemmas.{reset_form, set_form, splice_between}

module _ {T : Type 0} where
  abbrev pub block_items : Block T → List T
  block_items block = block.items.items

  pub items_in-append : (xs ys : List (Block T)) → items_in (xs ++ ys) ≡ items_in xs ++ items_in ys
  items_in-append xs ys = flat_map-append block_items xs ys

  pub laid_part : (start : ℕ) (xs ys : List (Block T)) → AreLaid start (xs ++ ys)
      → AreLaid start xs × AreLaid (start + length (items_in xs)) ys
  laid_part start [] ys laid = (tt, subst (λ n. AreLaid n ys) (sym (add-zero start)) laid)
  laid_part start (x ∷ xs) ys laid =
      let (first, others) = laid_part (start + length (block_items x)) xs ys laid.1 in
      let count = length-append (block_items x) (items_in xs) in
      let here : start + length (block_items x) + length (items_in xs)
      ≡ start + length (items_in (x ∷ xs)) = omega arith in
      ((laid.0, first), subst (λ n. AreLaid n ys) here others)

  pub laid_join : (start : ℕ) (xs ys : List (Block T)) → AreLaid start xs
      → AreLaid (start + length (items_in xs)) ys → AreLaid start (xs ++ ys)
  laid_join start [] ys first others = subst (λ n. AreLaid n ys) (add-zero start) others
  laid_join start (x ∷ xs) ys first others =
      let count = length-append (block_items x) (items_in xs) in
      let here : start + length (items_in (x ∷ xs))
      ≡ start + length (block_items x) + length (items_in xs) = omega arith in (
        first.0,
        laid_join (start + length (block_items x)) xs ys first.1
            (subst (λ n. AreLaid n ys) here others),
      )

  -- where the blocks after `gone` items begin after `come` items have replaced these
  pub laid_moved : (start gone come : ℕ) (ys : List (Block T)) → gone ≤ start → AreLaid start ys
      → AreLaid (start - gone + come) (map (moved_block gone come) ys)
  laid_moved start gone come [] after laid = tt
  laid_moved start gone come (y ∷ ys) after laid =
      let next : start + length (block_items y) - gone + come
      ≡ start - gone + come + length (block_items y) = omega arith in (
        ap (λ n. n - gone + come) laid.0,
        subst (λ n. AreLaid n (map (moved_block gone come) ys)) next
            (laid_moved (start + length (block_items y)) gone come ys (omega arith) laid.1),
      )

  pub items_in-moved : (gone come : ℕ) (ys : List (Block T))
      → items_in (map (moved_block gone come) ys) ≡ items_in ys
  items_in-moved gone come [] = refl
  items_in-moved gone come (y ∷ ys) =
      ap (λ l. block_items y ++ l) (items_in-moved gone come ys)

  module _ (blocks : List (Block T)) (index : ℕ) where
    -- the items around a block
    pub items_around : (block : Block T) → index < length blocks → block ≡ get_or blocks index block
        → items_in blocks ≡ items_in (take index blocks)
        ++ (block_items block ++ items_in (drop (index + 1) blocks))
    items_around block below read =
        ap items_in (read_form blocks index block below read)
        ∙ items_in-append (take index blocks) (block ∷ drop (index + 1) blocks)

    -- the start of a block is where it begins
    pub start_is : (block : Block T) → index < length blocks → block ≡ get_or blocks index block
        → AreLaid 0 blocks → block.start ≡ start_at blocks index
    start_is block below read laid =
        (laid_part 0 (take index blocks) (block ∷ drop (index + 1) blocks)
        (subst (AreLaid 0) (read_form blocks index block below read) laid)).1.0
        ∙ zero-add (start_at blocks index)

    pub start-more : (block : Block T) → index < length blocks → block ≡ get_or blocks index block
        → start_at blocks (index + 1) ≡ start_at blocks index + length (block_items block)
    start-more block below read =
        ap (λ l. length (items_in l))
        (take_more blocks index block below ∙ ap (λ e. take index blocks ++ e ∷ []) (sym read))
        ∙ ap length (items_in-append (take index blocks) (block ∷ [])
        ∙ ap (λ l. items_in (take index blocks) ++ l) (append-nil (block_items block)))
        ∙ length-append (items_in (take index blocks)) (block_items block)

    -- a block ends before the items do
    pub ends_within : (block : Block T) → index < length blocks → block ≡ get_or blocks index block
        → AreLaid 0 blocks → block.start + length (block_items block) ≤ length (items_in blocks)
    ends_within block below read laid =
        let around = ap length (items_around block below read) in
        let first = length-append (items_in (take index blocks))
        (block_items block ++ items_in (drop (index + 1) blocks)) in
        let second = length-append (block_items block) (items_in (drop (index + 1) blocks)) in
        let start = start_is block below read laid in
        omega arith

    -- how the blocks are laid around one
    pub laid_around : (block : Block T) → index < length blocks → block ≡ get_or blocks index block
        → AreLaid 0 blocks → AreLaid 0 (take index blocks) × AreLaid (0 + start_at blocks index)
        (block ∷ drop (index + 1) blocks)
    laid_around block below read laid =
        laid_part 0 (take index blocks) (block ∷ drop (index + 1) blocks)
        (subst (AreLaid 0) (read_form blocks index block below read) laid)

    -- ---- a place in a block

    pub place_within : (block : Block T) (place : ℕ) → block ≡ get_or blocks index block
        → AreLaid 0 blocks → IsBlockOf blocks place index → place < length (items_in blocks)
        → (block.start ≤ place) × (place < block.start + length (block_items block))
    place_within block place read laid found inside =
        let start = start_is block found.inside read laid in
        let more = start-more block found.inside read in
        let begun = found.begun in (
          omega arith,
          elim (cases_lt (index + 1) (length blocks)) [
            | inl next ↦ let ended = found.ended next in omega arith
            | inr last ↦
                let all = ap (λ l. length (items_in l)) (take_all (index + 1) blocks last) in
                omega arith
          ],
        )

    pub get_within : (block : Block T) (place : ℕ) (other : T) → index < length blocks
        → block ≡ get_or blocks index block → AreLaid 0 blocks → block.start ≤ place
        → place < block.start + length (block_items block)
        → get_or (items_in blocks) place other
        ≡ get_or (block_items block) (place - block.start) other
    get_within block place other below read laid begun ended =
        let start = start_is block below read laid in
        let before = items_in (take index blocks) in
        let after = items_in (drop (index + 1) blocks) in
        let here : place - length before ≡ place - block.start = omega arith in
        ap (λ l. get_or l place other) (items_around block below read)
        ∙ get_or-append_right before (block_items block ++ after) (length before) place other refl
        (omega arith)
        ∙ ap (λ n. get_or (block_items block ++ after) n other) here
        ∙ get_or_append_left (block_items block) after other (place - block.start) (omega arith)

    pub put_within : (old new : Block T) (place : ℕ) (item : T) → index < length blocks
        → old ≡ get_or blocks index old → AreLaid 0 blocks → old.start ≤ place
        → place < old.start + length (block_items old)
        → block_items new ≡ set (block_items old) (place - old.start) item
        → items_in (set blocks index new) ≡ set (items_in blocks) place item
    put_within old new place item below read laid begun ended made =
        let start = start_is old below read laid in
        let before = items_in (take index blocks) in
        let after = items_in (drop (index + 1) blocks) in
        let here : place - length before ≡ place - old.start = omega arith in
        ap items_in (set_form blocks index new below)
        ∙ items_in-append (take index blocks) (new ∷ drop (index + 1) blocks)
        ∙ ap (λ l. before ++ (l ++ after)) made
        ∙ ap (λ l. before ++ l)
        (sym (set-append_left (block_items old) after (place - old.start) item (omega arith)))
        ∙ ap (λ n. before ++ set (block_items old ++ after) n item) (sym here)
        ∙ sym (set-append_right before (block_items old ++ after) (length before) place item refl
        (omega arith))
        ∙ ap (λ l. set l place item) (sym (items_around old below read))

    -- ---- another stretch in a block, with those after it moved

    module _ (old new : Block T) (from to gone come : ℕ) (middle : List T)
        (below : index < length blocks) (read : old ≡ get_or blocks index old)
        (laid : AreLaid 0 blocks) where
      pub replace_items : from ≤ to → old.start ≤ from
          → to ≤ old.start + length (block_items old)
          → block_items new
          ≡ splice (block_items old) (from - old.start) (from - old.start + (to - from)) middle
          → items_in (set (take (index + 1) blocks
          ++ map (moved_block gone come) (drop (index + 1) blocks)) index new)
          ≡ splice (items_in blocks) from to middle
      replace_items ordered begun ended made =
          let before = items_in (take index blocks) in
          let others = drop (index + 1) blocks in
          let after = items_in others in
          let moved = map (moved_block gone come) others in
          let start = start_is old below read laid in
          ap items_in (later_form blocks moved index below new)
          ∙ items_in-append (take index blocks) (new ∷ moved)
          ∙ ap (λ l. before ++ (block_items new ++ l)) (items_in-moved gone come others)
          ∙ ap (λ l. before ++ (l ++ after)) made
          ∙ sym (splice_between before (block_items old) after middle (from - old.start)
          (from - old.start + (to - from)) from to (omega arith) (omega arith) (omega arith)
          (omega arith))
          ∙ ap (λ l. splice l from to middle) (sym (items_around old below read))

      pub replace_laid : new.start ≡ old.start
          → length (block_items new) + gone ≡ length (block_items old) + come
          → gone ≤ length (block_items old)
          → AreLaid 0 (set (take (index + 1) blocks
          ++ map (moved_block gone come) (drop (index + 1) blocks)) index new)
      replace_laid start count fits =
          let (before, here) = laid_around old below read laid in
          let others = drop (index + 1) blocks in
          let end = 0 + start_at blocks index + length (block_items old) in
          let next : end - gone + come ≡ 0 + start_at blocks index + length (block_items new) =
          omega arith in
          let moved = map (moved_block gone come) others in
          subst (AreLaid 0) (sym (later_form blocks moved index below new))
          (laid_join 0 (take index blocks) (new ∷ moved) before (
            start ∙ here.0,
            subst (λ n. AreLaid n moved) next
                (laid_moved end gone come others (omega arith) here.1),
          ))

    -- ---- another block in the place of one

    pub set_items : (old new : Block T) → index < length blocks → old ≡ get_or blocks index old
        → block_items new ≡ block_items old → items_in (set blocks index new) ≡ items_in blocks
    set_items old new below read same =
        ap items_in (set_form blocks index new below)
        ∙ items_in-append (take index blocks) (new ∷ drop (index + 1) blocks)
        ∙ ap (λ l. items_in (take index blocks) ++ (l ++ items_in (drop (index + 1) blocks))) same
        ∙ sym (items_around old below read)

    pub set_laid : (old new : Block T) → index < length blocks → old ≡ get_or blocks index old
        → new.start ≡ old.start → length (block_items new) ≡ length (block_items old)
        → AreLaid 0 blocks → AreLaid 0 (set blocks index new)
    set_laid old new below read start count laid =
        let (before, here) = laid_around old below read laid in
        let after = drop (index + 1) blocks in
        subst (AreLaid 0) (sym (set_form blocks index new below))
        (laid_join 0 (take index blocks) (new ∷ after) before (
          start ∙ here.0,
          subst (λ n. AreLaid (0 + start_at blocks index + n) after) (sym count) here.1,
        ))

    -- ---- a block that is cut

    pub cut_items : (old front back : Block T) → index < length blocks
        → old ≡ get_or blocks index old → block_items front ++ block_items back ≡ block_items old
        → items_in (insert (set blocks index front) (index + 1) back) ≡ items_in blocks
    cut_items old front back below read whole =
        let after = drop (index + 1) blocks in
        ap items_in (insert_form blocks index front back below)
        ∙ items_in-append (take index blocks) (front ∷ (back ∷ after))
        ∙ ap (λ l. items_in (take index blocks) ++ l)
        (sym (append_assoc (block_items front) (block_items back) (items_in after))
        ∙ ap (λ l. l ++ items_in after) whole)
        ∙ sym (items_around old below read)

    pub cut_laid : (old front back : Block T) → index < length blocks
        → old ≡ get_or blocks index old → block_items front ++ block_items back ≡ block_items old
        → front.start ≡ old.start → back.start ≡ old.start + length (block_items front)
        → AreLaid 0 blocks → AreLaid 0 (insert (set blocks index front) (index + 1) back)
    cut_laid old front back below read whole first second laid =
        let (before, here) = laid_around old below read laid in
        let after = drop (index + 1) blocks in
        let start = 0 + start_at blocks index in
        let count = length-append (block_items front) (block_items back) in
        let all = ap length whole in
        let end : start + length (block_items old)
        ≡ start + length (block_items front) + length (block_items back) = omega arith in
        subst (AreLaid 0) (sym (insert_form blocks index front back below))
        (laid_join 0 (take index blocks) (front ∷ (back ∷ after)) before (
          first ∙ here.0,
          (
            second ∙ ap (λ n. n + length (block_items front)) here.0,
            subst (λ n. AreLaid n after) end here.1,
          ),
        ))

    -- ---- two blocks that are joined

    module _ (old wide next joined : Block T) (below : index < length blocks)
        (read : old ≡ get_or blocks index old)
        (inside : index + 1 < length blocks)
        (read' : next ≡ get_or (set blocks index wide) (index + 1) next) where
      -- the first is followed by the second, and then by the others
      after_next : drop (index + 1) blocks ≡ next ∷ drop (suc (index + 1)) blocks
      after_next =
          let count = length-set blocks index wide in
          sym (drop-set-lt (index + 1) blocks index wide (omega arith))
          ∙ drop_more (set blocks index wide) (index + 1) next (omega arith)
          ∙ ap (λ e. e ∷ drop (index + 1 + 1) (set blocks index wide)) (sym read')
          ∙ ap (λ l. next ∷ l) (drop-set-lt (index + 1 + 1) blocks index wide (omega arith)
          ∙ ap (λ n. drop n blocks) (add-one (index + 1)))

      -- the first is read again
      pub read_again : (again : Block T)
          → again ≡ get_or (remove (set blocks index wide) (index + 1)) index again → again ≡ wide
      read_again again here =
          let count = length-take-le index blocks (omega arith) in
          here ∙ ap (λ l. get_or l index again) (remove_form blocks index wide below)
          ∙ ap (λ n. get_or (take index blocks ++ (wide ∷ drop (suc (index + 1)) blocks)) n again)
          (sym count)
          ∙ get_or-append_seam (take index blocks) wide (drop (suc (index + 1)) blocks) again

      pub join_items : block_items joined ≡ block_items old ++ block_items next
          → items_in (set (remove (set blocks index wide) (index + 1)) index joined)
          ≡ items_in blocks
      join_items made =
          let before = items_in (take index blocks) in
          let after = drop (suc (index + 1)) blocks in
          ap items_in (reset_form blocks index wide joined below)
          ∙ items_in-append (take index blocks) (joined ∷ after)
          ∙ ap (λ l. before ++ (l ++ items_in after)) made
          ∙ ap (λ l. before ++ l)
          (append_assoc (block_items old) (block_items next) (items_in after)
          ∙ ap (λ l. block_items old ++ items_in l) (sym after_next))
          ∙ sym (items_around old below read)

      pub join_laid : block_items joined ≡ block_items old ++ block_items next
          → joined.start ≡ old.start → AreLaid 0 blocks
          → AreLaid 0 (set (remove (set blocks index wide) (index + 1)) index joined)
      join_laid made start laid =
          let (before, here) = laid_around old below read laid in
          let after = drop (suc (index + 1)) blocks in
          let others = subst (AreLaid (0 + start_at blocks index + length (block_items old)))
          after_next here.1 in
          let count = ap length made ∙ length-append (block_items old) (block_items next) in
          let end : 0 + start_at blocks index + length (block_items old) + length (block_items next)
          ≡ 0 + start_at blocks index + length (block_items joined) = omega arith in
          subst (AreLaid 0) (sym (reset_form blocks index wide joined below))
          (laid_join 0 (take index blocks) (joined ∷ after) before
          (start ∙ here.0, subst (λ n. AreLaid n after) end others.1))
