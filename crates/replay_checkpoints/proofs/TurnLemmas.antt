-- A list in four parts, and what rotating its middle does to it; a stretch of a list that replaces
-- another.
use Rattle.std.proofs.Common.{◌≡◌, ℕ, ◌+◌, ◌-◌, ◌≤◌, List, [], ◌++◌, length, take, drop, arith, sym}
use Rattle.std.proofs.Common.{refl, ◌∙◌, ap, append_assoc, length-append}
use Rattle.std.proofs.lemmas.List.{take_at, drop_at, take-append-le, take-take, append-nil}
use Rattle.std.proofs.lemmas.List.{take-append-drop, length-take-le, length-drop}
use Rattle.std.proofs.lemmas.List.Edits.{split_between, length-between}
use Rattle.std.specs.Prelude.{slice_range}
use Rattle.std.specs.List.{splice}
use borrow.Rule.Slice.PartMut.{put_mid, mid_of, take_put, Post-is, same_len_mid, mid_len}

-- the middle two parts as `items[from..to]` shows them
pub middle_of : {X : Type 0} (a m d : List X) (from k : ℕ) → length a ≡ from → length m ≡ k
    → mid_of from k (a ++ (m ++ d)) ≡ m
middle_of a m d from k p q = ap (take k) (drop_at a (m ++ d) from p) ∙ take_at m d k q

pub put_middle : {X : Type 0} (a m d ys : List X) (from k : ℕ) → length a ≡ from → length m ≡ k
    → put_mid from k (a ++ (m ++ d)) ys ≡ a ++ (ys ++ d)
put_middle a m d ys from k p q =
    let front : take from (a ++ (m ++ d)) ≡ a = take_at a (m ++ d) from p in
    let back : drop k (drop from (a ++ (m ++ d))) ≡ d = ap (drop k) (drop_at a (m ++ d) from p)
    ∙ drop_at m d k q in
    rw (front, back) refl

-- after `items[from..to].rotate_left(count)`
pub turned : {X : Type 0} (xs ys a b c d : List X) (from to count : ℕ) → xs ≡ a ++ (b ++ (c ++ d))
    → length a ≡ from → length b ≡ count → from + count + length c ≡ to
    → ys ≡ drop count (mid_of from (to - from) xs) ++ take count (mid_of from (to - from) xs)
    → put_mid from (to - from) xs ys ≡ a ++ (c ++ (b ++ d))
turned xs ys a b c d from to count whole p q r e =
    let regroup : xs ≡ a ++ ((b ++ c) ++ d) = whole ∙ ap (λ t. a ++ t) (sym (append_assoc b c d)) in
    let len : length (b ++ c) ≡ to - from = omega (arith, length-append b c) in
    let mid : mid_of from (to - from) xs ≡ b ++ c = ap (mid_of from (to - from)) regroup
    ∙ middle_of a (b ++ c) d from (to - from) p len in
    let parts : ys ≡ c ++ b = e ∙ ap (λ t. drop count t ++ take count t) mid
    ∙ ap (λ t. t ++ take count (b ++ c)) (drop_at b c count q)
    ∙ ap (λ t. c ++ t) (take_at b c count q) in
    ap (λ t. put_mid from (to - from) t ys) regroup
    ∙ put_middle a (b ++ c) d ys from (to - from) p len ∙ ap (λ t. a ++ (t ++ d)) parts
    ∙ ap (λ t. a ++ t) (append_assoc c b d)

-- after a turn that brings a stretch to the end, where it is cut off
pub taken_out : {X : Type 0} (xs ys : List X) (from to : ℕ) → from ≤ to → to ≤ length xs
    → ((a b c d : List X) → xs ≡ a ++ (b ++ (c ++ d)) → length a ≡ from → length b ≡ to - from
    → from + (to - from) + length c ≡ length xs → ys ≡ a ++ (c ++ (b ++ d)))
    → take (length xs - (to - from)) ys ≡ take from xs ++ drop to xs
taken_out xs ys from to ordered within turn =
    let front = length-take-le from xs (omega arith) in
    let back = length-drop to xs in
    let whole : xs ≡ take from xs ++ (slice_range xs from to ++ (drop to xs ++ [])) =
    split_between xs from to ordered
    ∙ ap (λ t. take from xs ++ (slice_range xs from to ++ t)) (sym (append-nil (drop to xs))) in
    let result : ys ≡ take from xs ++ (drop to xs ++ (slice_range xs from to ++ [])) =
    turn (take from xs) (slice_range xs from to) (drop to xs) [] whole front
    (length-between xs from to within) (omega arith) in
    ap (take (length xs - (to - from)))
    (result ∙ sym (append_assoc (take from xs) (drop to xs) (slice_range xs from to ++ [])))
    ∙ take_at (take from xs ++ drop to xs) (slice_range xs from to ++ []) (length xs - (to - from))
    (omega (arith, length-append (take from xs) (drop to xs)))

-- after a turn that brings what was added to its place
pub brought_in : {X : Type 0} (xs ms ys : List X) (at : ℕ) → at ≤ length xs
    → ((a b c d : List X) → xs ++ ms ≡ a ++ (b ++ (c ++ d)) → length a ≡ at
    → length b ≡ length xs - at → at + (length xs - at) + length c ≡ length xs + length ms
    → ys ≡ a ++ (c ++ (b ++ d))) → ys ≡ take at xs ++ (ms ++ drop at xs)
brought_in xs ms ys at within turn =
    let front = length-take-le at xs within in
    let whole : xs ++ ms ≡ take at xs ++ (drop at xs ++ (ms ++ [])) =
    ap (λ t. t ++ ms) (sym (take-append-drop at xs)) ∙ append_assoc (take at xs) (drop at xs) ms
    ∙ ap (λ t. take at xs ++ (drop at xs ++ t)) (sym (append-nil ms)) in
    turn (take at xs) (drop at xs) ms [] whole front (length-drop at xs) (omega arith)
    ∙ ap (λ t. take at xs ++ (ms ++ t)) (append-nil (drop at xs))

-- the items of a Vec that was lent as a slice of its length
pub lent_items : {X : Type 0} (n : ℕ) (ys zs : List X) → length ys ≡ n → take n (ys ++ zs) ≡ ys
lent_items n ys zs e = take_at ys zs n e

-- what is from `a` on, after the items from `a` up to `to` were replaced
pub put_back : {X : Type 0} (xs ys : List X) (a to : ℕ) → a ≤ to → to ≤ length xs
    → drop a (put_mid a (to - a) xs ys) ≡ ys ++ drop to xs
put_back xs ys a to ordered within =
    drop_at (take a xs) (ys ++ drop (to - a) (drop a xs)) a (length-take-le a xs (omega arith))
    ∙ ap (λ t. ys ++ t) (Post-is a to xs ordered)

pub length-put_back : {X : Type 0} (xs ys : List X) (a to : ℕ) → a ≤ to → to ≤ length xs
    → length ys ≡ to - a → length (put_mid a (to - a) xs ys) ≡ length xs
length-put_back xs ys a to ordered within same =
    same_len_mid a (to - a) xs ys (same ∙ sym (mid_len a to xs within))

-- The last items of a stretch are those of `ms` after its first `more`; these come before them, in
-- the place of the stretch's other items.
pub spliced : {X : Type 0} (xs ms ws taken : List X) (from to last more : ℕ) → from ≤ last
    → last ≤ to → to ≤ length xs → ws ≡ put_mid last (to - last) xs (drop more ms)
    → taken ≡ take from ws ++ drop last ws
    → take from taken ++ (take more ms ++ drop from taken) ≡ splice xs from to ms
spliced xs ms ws taken from to last more ordered later within changed cut =
    let len : length (take last xs) ≡ last = length-take-le last xs (omega arith) in
    let front : take from ws ≡ take from xs = ap (take from) changed
    ∙ take-append-le from (take last xs) (drop more ms ++ drop (to - last) (drop last xs))
    (omega arith) ∙ take-take from last xs ordered in
    let back : drop last ws ≡ drop more ms ++ drop to xs = ap (drop last) changed
    ∙ put_back xs (drop more ms) last to later within in
    let taken_is : taken ≡ take from xs ++ (drop more ms ++ drop to xs) = cut
    ∙ rw (front, back) refl in
    let head = length-take-le from xs (omega arith) in
    rw (
      taken_is,
      take_at (take from xs) (drop more ms ++ drop to xs) from head,
      drop_at (take from xs) (drop more ms ++ drop to xs) from head,
    )
    (ap (λ t. take from xs ++ t) (sym (append_assoc (take more ms) (drop more ms) (drop to xs))
    ∙ ap (λ t. t ++ drop to xs) (take-append-drop more ms)))

-- what is before `a` stays as it is
pub front_kept : {X : Type 0} (xs ys zs : List X) (n a k : ℕ) → a ≤ n → a ≤ length xs
    → take a (take n (put_mid a k xs ys ++ zs)) ≡ take a xs
front_kept xs ys zs n a k fits within =
    let len : a ≤ length (put_mid a k xs ys) =
    omega (
      arith,
      length-append (take a xs) (ys ++ drop k (drop a xs)),
      length-take-le a xs within,
    ) in
    take-take a n (put_mid a k xs ys ++ zs) fits ∙ take-append-le a (put_mid a k xs ys) zs len
    ∙ take_put a k xs ys within
