use Rattle.std.proofs.Common.{◌≡◌, Some, option_map, ap, sym, ◌∙◌}
use Rattle.std.specs.List.{find}
use Rattle.data_rows.specs.RowViews.{word_entry}
use Rattle.data_rows.specs.Rows.{WordEntry}
use Rattle.cave_words.proofs.Walks.{find_here, find_later}
use Rattle.cave_words.specs.Meanings.{is_word_in, meaning_of}
use Rattle.cave_words.specs.Named.{object_of_word}
use Rattle.cave_words.specs.Words.{NAME_LETTERS, word_of}
use Rattle.cave_words.specs.declared.meaning.Class.TheVariants.{Object}
use Rattle.cave_words.specs.declared.meaning.Meaning.{Meaning}
use Rattle.cave_words.proofs.walked.object_of_word.Goals as goal

pub returns-then-is_object_word : goal.returns-then-is_object_word
unfolding object_of_word
returns-then-is_object_word c =
    let words = c.words-words.result.now in
    let row = word_entry c.row-row.result in
    let test = is_word_in NAME_LETTERS c.of-word.result Object in
    let whole : find test words ≡ Some row =
    sym c.loop-at.invariant
    ∙ find_here test words c.loop-at.at row c.row-row.ensures
    (sym c.is_object_word.ensures ∙ c.if-is_object_word.true) in
    ap (λ (m : Meaning). Some m.number) c.of.ensures
    ∙ sym (ap (λ found. option_map (λ (m : Meaning). m.number)
    (option_map (λ (e : WordEntry). meaning_of e.number) found)) whole)
    ∙ ap (λ word. option_map (λ (m : Meaning). m.number)
    (option_map (λ (e : WordEntry). meaning_of e.number)
    (find (is_word_in NAME_LETTERS word Object) words))) c.of-word.ensures.word
    ∙ ap (λ ws. option_map (λ (m : Meaning). m.number)
    (option_map (λ (e : WordEntry). meaning_of e.number)
    (find (is_word_in NAME_LETTERS (word_of NAME_LETTERS c.args.written.now) Object) ws)))
    c.words-words.ensures

pub loop-at-preserved : goal.loop-at-preserved
loop-at-preserved c =
    sym (find_later (is_word_in NAME_LETTERS c.of-word.result Object) c.words-words.result.now
    c.loop-at.at (word_entry c.row-row.result) c.row-row.ensures
    (sym c.is_object_word.ensures ∙ c.if-is_object_word.false))
    ∙ c.loop-at.invariant
