-- The first of some words with a number, word by word.
use Rattle.std.proofs.Common.{◌≡◌, ◌≢◌, ℕ, ◌+◌, Bool, true, false, cond, List, ◌∷◌, drop, Option}
use Rattle.std.proofs.Common.{Some, option_map, refl, ap, ◌∙◌}
use Rattle.std.specs.Prelude.{◌==◌}
use Rattle.std.specs.List.{find, slice_get}
use Rattle.std.proofs.lemmas.Bool.{eq-eqb, ne_eqb}
use Rattle.std.proofs.lemmas.List.{drop_more}
use Rattle.std.proofs.lemmas.Option.{get_or_from_slice_get, slice_get_within}
use Rattle.data_rows.specs.Rows.{WordEntry}
use Rattle.cave_data.specs.CaveView.{first_word}

found_here : (has : Bool) (entry : WordEntry) (others : Option WordEntry)
    → option_map (λ (e : WordEntry). e.word) (cond has (Some entry) others)
    ≡ cond has (Some entry.word) (option_map (λ (e : WordEntry). e.word) others)
found_here true entry others = refl
found_here false entry others = refl

pub first_word-drop : (words : List WordEntry) (index number : ℕ) (entry : WordEntry)
    → slice_get words index ≡ Some entry
    → first_word (drop index words) number
    ≡ cond (entry.number == number) (Some entry.word) (first_word (drop (index + 1) words) number)
first_word-drop words index number entry is =
    let inside = slice_get_within words index entry is in
    let read = get_or_from_slice_get words index entry entry is in
    let rest = drop (index + 1) words in
    ap (λ ws. first_word ws number) (drop_more words index entry inside)
    ∙ ap (λ e. first_word (e ∷ rest) number) read
    ∙ found_here (entry.number == number) entry (find (λ e. e.number == number) rest)

-- the word at a place has the number
pub first_word-found : (words : List WordEntry) (index number : ℕ) (entry : WordEntry)
    → slice_get words index ≡ Some entry → entry.number ≡ number
    → first_word (drop index words) number ≡ Some entry.word
first_word-found words index number entry is same =
    first_word-drop words index number entry is
    ∙ ap (λ b. cond b (Some entry.word) (first_word (drop (index + 1) words) number))
    (eq-eqb entry.number number same)

-- it has another one
pub first_word-other : (words : List WordEntry) (index number : ℕ) (entry : WordEntry)
    → slice_get words index ≡ Some entry → entry.number ≢ number
    → first_word (drop index words) number ≡ first_word (drop (index + 1) words) number
first_word-other words index number entry is other =
    first_word-drop words index number entry is
    ∙ ap (λ b. cond b (Some entry.word) (first_word (drop (index + 1) words) number))
    (ne_eqb entry.number number other)
