-- The first words of a line, one after another, and when two titles are the same.
use Rattle.std.proofs.Common.{◌≡◌, ℕ, zero, suc, ◌+◌, ◌-◌, ◌<◌, ◌≤◌, Bool, true, false, List, []}
use Rattle.std.proofs.Common.{◌∷◌, ◌++◌, Option, None, Some, cond, length, refl, sym, ap, ap₂, ◌∙◌}
use Rattle.std.proofs.Common.{subst, append_assoc, append-nil, arith}
use Rattle.std.specs.Prelude.{◌==◌, ◌||◌, not, bytes_eq, nat_lt}
use Rattle.std.proofs.lemmas.Bool.{eq-eqb, eqb-false, eqb-true, false≢true, ltb-false, ltb-true}
use Rattle.std.proofs.lemmas.Bool.{ne_eqb}
use Rattle.std.proofs.lemmas.Slice.Eq.{bytes_eq-Decides}
use Rattle.base_lines.specs.Bytes.{after_prefix, is_blank, is_nonblank, prefix_while}
use Rattle.cave_data.specs.CaveView.{CaveView}
use Rattle.cave_words.specs.Words.{after_first_run, first_word_of, some_run}
use Rattle.map_ways.specs.Regions.{is_one_of}
use Rattle.map_ways.specs.Titles.{MAX_TITLE_WORDS, TitlesTellApart, WORDS_SHOWN, count_shared}
use Rattle.map_ways.specs.Titles.{first_words, greater_of, parts_from, title_source, word_start}
use Rattle.map_ways.specs.Titles.{words_as_shown, words_from, words_of_line, words_telling}
use Rattle.map_ways.specs.Titles.{words_telling_all}
use Rattle.map_ways.proofs.Bools.{not_false, or_none}

no_word : (word : List ℕ) (others : List (List ℕ)) → (length word == 0) ≡ true
    → words_from (some_run word) others ≡ []
no_word [] others none = refl
no_word (byte ∷ bytes) others none =
    absurd (omega (arith, eqb-true (length (byte ∷ bytes)) 0 none))

one_word : (word : List ℕ) (others : List (List ℕ)) → (length word == 0) ≡ false
    → words_from (some_run word) others ≡ word ∷ others
one_word [] others some = absurd (eqb-false 0 0 some refl)
one_word (byte ∷ bytes) others some = refl

module _ (line rest word : List ℕ) (blanks : rest ≡ after_prefix is_blank line)
    (run : word ≡ prefix_while is_nonblank rest) where
  is_run : prefix_while is_nonblank (after_prefix is_blank line) ≡ word
  is_run = sym (run ∙ ap (prefix_while is_nonblank) blanks)

  -- a line without a word has none
  pub no_first_words : (most : ℕ) → (length word == 0) ≡ true → first_words most line ≡ []
  unfolding first_word_of
  no_first_words zero none = refl
  no_first_words (suc most) none =
      ap (λ w. words_from (some_run w) (first_words most (after_first_run line))) is_run
      ∙ no_word word (first_words most (after_first_run line)) none

  pub first_words_run : (most : ℕ) (after : List ℕ) → after ≡ after_prefix is_nonblank rest
      → first_words (suc most) line ≡ words_from (some_run word) (first_words most after)
  unfolding first_word_of after_first_run
  first_words_run most after left =
      ap₂ (λ w l. words_from (some_run w) (first_words most l)) is_run
      (sym (left ∙ ap (after_prefix is_nonblank) blanks))

  -- the first word of a line, and then those of what follows it
  first_words_on : (most : ℕ) (after : List ℕ) → after ≡ after_prefix is_nonblank rest
      → (length word == 0) ≡ false
      → first_words (suc most) line ≡ word ∷ first_words most after
  first_words_on most after left some =
      first_words_run most after left ∙ one_word word (first_words most after) some

  -- nothing is left to show
  pub shown_whole : (before : List ℕ) (shown most : ℕ) → (length word == 0) ≡ true
      → before ++ words_as_shown shown (first_words most line) ≡ before
  shown_whole before shown most none =
      ap (λ words. before ++ words_as_shown shown words) (no_first_words most none)
      ∙ append-nil before

  -- the first word of a line is shown, and then those of what follows it
  pub shown_on : (before : List ℕ) (shown most : ℕ) (after : List ℕ)
      → after ≡ after_prefix is_nonblank rest → (length word == 0) ≡ false → shown < most
      → ((before ++ word_start shown) ++ word)
      ++ words_as_shown (shown + 1) (first_words (most - (shown + 1)) after)
      ≡ before ++ words_as_shown shown (first_words (most - shown) line)
  shown_on before shown most after left some few =
      let fewer = most - (shown + 1) in
      let more = words_as_shown (shown + 1) (first_words fewer after) in
      let one : suc fewer ≡ most - shown = omega (arith, few) in
      append_assoc (before ++ word_start shown) word more
      ∙ append_assoc before (word_start shown) (word ++ more)
      ∙ ap (λ words. before ++ words_as_shown shown words)
      (sym (first_words_on fewer after left some))
      ∙ ap (λ n. before ++ words_as_shown shown (first_words n line)) one

-- two lines share no more words if the first has none, or if the next ones differ
shares_end : (w v : List ℕ) (words others : List (List ℕ)) → parts_from w v ≡ true
    → count_shared (words_from (some_run w) words) (words_from (some_run v) others) ≡ 0
shares_end [] v words others ends = refl
shares_end (byte ∷ bytes) [] words others ends = refl
shares_end (byte ∷ bytes) (first ∷ more) words others ends =
    by_test (bytes_eq (byte ∷ bytes) (first ∷ more)) refl
  where
    some : (length (byte ∷ bytes) == 0) ≡ false
    some = ne_eqb (length (byte ∷ bytes)) 0 (λ e. omega (arith, e))

    by_test : (b : Bool) → bytes_eq (byte ∷ bytes) (first ∷ more) ≡ b
        → cond b (suc (count_shared words others)) 0 ≡ 0
    by_test false is = refl
    by_test true is = absurd (false≢true (sym (ap₂ (λ a b. a || not b) some is) ∙ ends))

-- and otherwise one more
shares_more : (w v : List ℕ) (words others : List (List ℕ)) → parts_from w v ≡ false
    → count_shared (words_from (some_run w) words) (words_from (some_run v) others)
    ≡ suc (count_shared words others)
shares_more [] v words others more =
    absurd (false≢true (sym more ∙ ap (λ b. b || not (bytes_eq [] v)) (eq-eqb 0 0 refl)))
shares_more (byte ∷ bytes) [] words others more =
    let same : (byte ∷ bytes) ≡ [] = (bytes_eq-Decides (byte ∷ bytes) []).0
    (not_false (bytes_eq (byte ∷ bytes) [])
    (or_none (length (byte ∷ bytes) == 0) (not (bytes_eq (byte ∷ bytes) [])) more)) in
    cc
shares_more (byte ∷ bytes) (first ∷ rest) words others more =
    ap (λ b. cond b (suc (count_shared words others)) 0)
    (not_false (bytes_eq (byte ∷ bytes) (first ∷ rest))
    (or_none (length (byte ∷ bytes) == 0) (not (bytes_eq (byte ∷ bytes) (first ∷ rest))) more))

zero_plus : (n : ℕ) → 0 + n ≡ n
zero_plus n = omega arith

pub begins_shared : (line other : List ℕ)
    → 0 + count_shared (first_words MAX_TITLE_WORDS line) (first_words MAX_TITLE_WORDS other)
    ≡ count_shared (words_of_line line) (words_of_line other)
unfolding words_of_line
begins_shared line other =
    zero_plus
    (count_shared (first_words MAX_TITLE_WORDS line) (first_words MAX_TITLE_WORDS other))

pub ends_shared : (shared whole : ℕ) (line other : List ℕ) → MAX_TITLE_WORDS - shared ≡ 0
    → shared ≤ MAX_TITLE_WORDS
    → shared + count_shared (first_words (MAX_TITLE_WORDS - shared) line)
    (first_words (MAX_TITLE_WORDS - shared) other) ≡ whole
    → MAX_TITLE_WORDS ≡ whole
ends_shared shared whole line other none within is =
    let last : shared + 0 ≡ whole =
    subst (λ n. shared + count_shared (first_words n line) (first_words n other) ≡ whole) none is in
    omega (arith, none, within, last)

module _ (line other rest rest_of_other word word_of_other after after_other : List ℕ)
    (blanks : rest ≡ after_prefix is_blank line) (run : word ≡ prefix_while is_nonblank rest)
    (left : after ≡ after_prefix is_nonblank rest)
    (also : rest_of_other ≡ after_prefix is_blank other)
    (runs : word_of_other ≡ prefix_while is_nonblank rest_of_other)
    (leaves : after_other ≡ after_prefix is_nonblank rest_of_other)
    (shared : ℕ) (few : shared < MAX_TITLE_WORDS) where
  abbrev pub fewer : ℕ
  fewer = MAX_TITLE_WORDS - (shared + 1)

  shared_next : count_shared (first_words (MAX_TITLE_WORDS - shared) line)
      (first_words (MAX_TITLE_WORDS - shared) other)
      ≡ count_shared (words_from (some_run word) (first_words fewer after))
      (words_from (some_run word_of_other) (first_words fewer after_other))
  shared_next =
      let one : MAX_TITLE_WORDS - shared ≡ suc fewer = omega (arith, few) in
      ap (λ n. count_shared (first_words n line) (first_words n other)) one
      ∙ ap₂ count_shared (first_words_run line rest word blanks run fewer after left)
      (first_words_run other rest_of_other word_of_other also runs fewer after_other leaves)

  pub shared_ends : parts_from word word_of_other ≡ true
      → shared + count_shared (first_words (MAX_TITLE_WORDS - shared) line)
      (first_words (MAX_TITLE_WORDS - shared) other) ≡ shared
  shared_ends ends =
      let none = shared_next ∙ shares_end word word_of_other _ _ ends in omega (arith, none)

  pub shared_more : parts_from word word_of_other ≡ false
      → (shared + 1) + count_shared (first_words fewer after) (first_words fewer after_other)
      ≡ shared + count_shared (first_words (MAX_TITLE_WORDS - shared) line)
      (first_words (MAX_TITLE_WORDS - shared) other)
  shared_more more =
      let next = shared_next ∙ shares_more word word_of_other _ _ more in omega (arith, next)

-- the first words of two lines are the same, if more of them than both begin with are
step : (first second : Option (List ℕ)) (words others shown also : List (List ℕ)) (n m : ℕ)
    → (count_shared words others < n → count_shared others words < m → shown ≡ also
    → words ≡ others)
    → count_shared (words_from first words) (words_from second others) < suc n
    → count_shared (words_from second others) (words_from first words) < suc m
    → words_from first shown ≡ words_from second also
    → words_from first words ≡ words_from second others
step None None words others shown also n m on one other same = refl
step None (Some v) words others shown also n m on one other same = cc
step (Some w) None words others shown also n m on one other same = cc
step (Some w) (Some v) words others shown also n m on one other same =
    let first : w ≡ v = cc in
    let rest : shown ≡ also = cc in
    let forth = (bytes_eq-Decides w v).1 first in
    let back = (bytes_eq-Decides v w).1 (sym first) in
    let fewer = subst (λ b. cond b (suc (count_shared words others)) 0 < suc n) forth one in
    let less = subst (λ b. cond b (suc (count_shared others words)) 0 < suc m) back other in
    ap₂ (λ x xs. x ∷ xs) first (on (omega (arith, fewer)) (omega (arith, less)) rest)

same_words : (most n m : ℕ) (line other : List ℕ)
    → count_shared (first_words most line) (first_words most other) < n
    → count_shared (first_words most other) (first_words most line) < m
    → first_words n line ≡ first_words m other
    → first_words most line ≡ first_words most other
same_words zero n m line other few less same = refl
same_words (suc most) zero m line other few less same = absurd (omega (arith, few))
same_words (suc most) (suc n) zero line other few less same = absurd (omega (arith, less))
same_words (suc most) (suc n) (suc m) line other few less same =
    step (first_word_of line) (first_word_of other) (first_words most (after_first_run line))
    (first_words most (after_first_run other)) (first_words n (after_first_run line))
    (first_words m (after_first_run other)) n m
    (same_words most n m (after_first_run line) (after_first_run other)) few less same

greater : (one other : ℕ) → (one ≤ greater_of one other) × (other ≤ greater_of one other)
greater one other = by_test (nat_lt one other) refl
  where
    by_test : (b : Bool) → nat_lt one other ≡ b
        → (one ≤ cond b other one) × (other ≤ cond b other one)
    by_test true is =
        let less = ltb-true one other is in
        (omega (arith, less), omega arith)
    by_test false is =
        let more = ltb-false one other is in
        (omega arith, omega (arith, more))

module _ (cave : CaveView) (place : ℕ) where
  least_told : (least : ℕ) (others : List ℕ) → least ≤ words_telling_all cave place least others
  least_told least [] = omega arith
  least_told least (other ∷ others) =
      let more = greater least (words_telling cave place other) in
      let rest = least_told (greater_of least (words_telling cave place other)) others in
      omega (arith, more.0, rest)

  each_told : (least : ℕ) (others : List ℕ) (number : ℕ) → is_one_of others number ≡ true
      → words_telling cave place number ≤ words_telling_all cave place least others
  each_told least [] number is = absurd (false≢true is)
  each_told least (other ∷ others) number is =
      by_test (other == number) refl is
      (each_told (greater_of least (words_telling cave place other)) others number)
    where
      by_test : (b : Bool) → (other == number) ≡ b → (b || is_one_of others number) ≡ true
          → (is_one_of others number ≡ true → words_telling cave place number
          ≤ words_telling_all cave place (greater_of least (words_telling cave place other)) others)
          → words_telling cave place number
          ≤ words_telling_all cave place (greater_of least (words_telling cave place other)) others
      by_test true same is later =
          let here = (greater least (words_telling cave place other)).1 in
          let rest = least_told (greater_of least (words_telling cave place other)) others in
          let named : words_telling cave place other ≡ words_telling cave place number =
          ap (words_telling cave place) (eqb-true other number same) in
          omega (arith, here, rest, named)
      by_test false differ is later = later is

pub titles_tell_apart : TitlesTellApart
unfolding first_word_of words_of_line
titles_tell_apart cave places place other here there same = by_test (place == other) refl
  where
    words : ℕ → List (List ℕ)
    words number = words_of_line (title_source cave number)

    by_test : (b : Bool) → (place == other) ≡ b → words place ≡ words other
    by_test true is = ap words (eqb-true place other is)
    by_test false differ =
        let one = each_told cave place WORDS_SHOWN places other there in
        let two = each_told cave other WORDS_SHOWN places place here in
        let swapped = ne_eqb other place (λ e. eqb-false place other differ (sym e)) in
        same_words MAX_TITLE_WORDS (words_telling_all cave place WORDS_SHOWN places)
        (words_telling_all cave other WORDS_SHOWN places)
        (title_source cave place) (title_source cave other)
        (subst (λ b. cond b 0 (suc (count_shared (words place) (words other)))
        ≤ words_telling_all cave place WORDS_SHOWN places) differ one)
        (subst (λ b. cond b 0 (suc (count_shared (words other) (words place)))
        ≤ words_telling_all cave other WORDS_SHOWN places) swapped two) same
