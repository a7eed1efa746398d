use Rattle.std.proofs.Common.{◌≡◌, length, take, refl, ap, ◌∙◌, arith}
use Rattle.std.proofs.Math.Seq.{take-length}
use Rattle.data_rows.specs.RowViews.{word_entry}
use Rattle.cave_words.proofs.Indexes.{index_more}
use Rattle.cave_words.specs.Lexicon.{meanings_in}
use Rattle.cave_words.specs.Meanings.{meaning_of, meanings_of, with_meaning}
use Rattle.cave_words.specs.Words.{word_of}
use Rattle.cave_words.proofs.lexicon.index.Goals as goal

pub loop-i-init : goal.loop-i-init
unfolding meanings_of
loop-i-init c = λ word. rw c.in_ok-index.ensures.empty refl

pub loop-i-preserved : goal.loop-i-preserved
loop-i-preserved c =
    let row = c.row-row.result in
    let old = c.loop-i.index.entries in
    let key : c.of-word.result ≡ word_of c.args.letters row.word.now = c.of-word.ensures.word in
    let meanings : c.with-meanings.result
    ≡ with_meaning (meanings_in old c.of-word.result) (meaning_of row.number) =
    cc (c.with-meanings.ensures, c.look_up-known.ensures, c.of.ensures) in
    index_more c.args.letters c.loop-i.i c.args.words.now (word_entry row) old _ c.row-row.ensures
    c.loop-i.invariant
    (λ word. rw (← key, ← meanings) (c.in_ok-insert.ensures.updates.0 word))

pub returns : goal.returns
returns c =
    let all : c.loop-i.i ≡ length c.args.words.now = omega arith in
    let whole : take c.loop-i.i c.args.words.now ≡ c.args.words.now =
    ap (λ n. take n c.args.words.now) all ∙ take-length c.args.words.now in
    λ word. c.loop-i.invariant word ∙ ap (λ rows. meanings_of c.args.letters rows word) whole
