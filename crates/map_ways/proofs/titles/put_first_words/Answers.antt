use Rattle.std.proofs.Common.{◌++◌, ◌+◌, ◌-◌, ap, sym, ◌∙◌}
use Rattle.map_ways.specs.Titles.{first_words, words_as_shown}
use Rattle.map_ways.proofs.TitleLemmas.{shown_on, shown_whole}
use Rattle.map_ways.proofs.titles.put_first_words.Goals as goal

pub returns-then-is_empty : goal.returns-then-is_empty
returns-then-is_empty c = λ enough.
    let told = c.loop-shown.invariant enough in (
      told.0,
      sym (shown_whole c.loop-shown.rest.now c.skip_blanks.result.now
          c.split_word.result.0.now c.skip_blanks.ensures c.split_word.ensures.prefix
          c.loop-shown.text.bytes.items c.loop-shown.shown (c.args.most - c.loop-shown.shown)
          (sym c.is_empty.ensures ∙ c.if-is_empty.true))
          ∙ told.1,
    )

pub loop-shown-preserved : goal.loop-shown-preserved
loop-shown-preserved c = λ enough.
    let shown = c.loop-shown.shown in
    let before = c.loop-shown.text.bytes.items in
    let word = c.split_word.result.0.now in
    let after = c.split_word.result.1.now in
    let second = c.put-in-loop-shown.ensures enough in
    let first = c.put.ensures second.0 in
    let told = c.loop-shown.invariant first.0 in
    let begun = first.1
    ∙ ap (λ start. before ++ start) (c.as_bytes.ensures.value ∙ c.word_start.ensures) in
    let left = first_words (c.args.most - (shown + 1)) after in (
      told.0,
      ap (λ items. items ++ words_as_shown (shown + 1) left)
          (second.1 ∙ ap (λ items. items ++ word) begun)
          ∙ shown_on c.loop-shown.rest.now c.skip_blanks.result.now word c.skip_blanks.ensures
          c.split_word.ensures.prefix before shown c.args.most after c.split_word.ensures.rest
          (sym c.is_empty.ensures ∙ c.if-is_empty.false) c.loop-shown-test.true
          ∙ told.1,
    )
