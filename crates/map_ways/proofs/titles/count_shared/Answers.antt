use Rattle.std.proofs.Common.{sym, ◌∙◌, arith}
use Rattle.map_ways.proofs.TitleLemmas.{begins_shared, ends_shared, shared_ends, shared_more}
use Rattle.map_ways.proofs.titles.count_shared.Goals as goal

pub loop-shared-init : goal.loop-shared-init
loop-shared-init c = begins_shared c.args.line.now c.args.other.now

pub returns-clause-value : goal.returns-clause-value
returns-clause-value c =
    ends_shared c.loop-shared.shared _ c.loop-shared.rest.now c.loop-shared.rest_of_other.now
    (omega (arith, c.loop-shared-test.false)) (omega (arith, c.loop-shared.auto.shared-end))
    c.loop-shared.invariant

pub returns-then-parts_from-clause-value : goal.returns-then-parts_from-clause-value
returns-then-parts_from-clause-value c =
    sym (shared_ends c.loop-shared.rest.now c.loop-shared.rest_of_other.now
    c.skip_blanks.result.now c.skip_blanks-in-loop-shared.result.now
    c.split_word.result.0.now c.split_word-in-loop-shared.result.0.now
    c.split_word.result.1.now c.split_word-in-loop-shared.result.1.now
    c.skip_blanks.ensures c.split_word.ensures.prefix c.split_word.ensures.rest
    c.skip_blanks-in-loop-shared.ensures c.split_word-in-loop-shared.ensures.prefix
    c.split_word-in-loop-shared.ensures.rest c.loop-shared.shared c.loop-shared-test.true
    (sym c.parts_from.ensures ∙ c.if-parts_from.true))
    ∙ c.loop-shared.invariant

pub loop-shared-preserved : goal.loop-shared-preserved
loop-shared-preserved c =
    shared_more c.loop-shared.rest.now c.loop-shared.rest_of_other.now
    c.skip_blanks.result.now c.skip_blanks-in-loop-shared.result.now
    c.split_word.result.0.now c.split_word-in-loop-shared.result.0.now
    c.split_word.result.1.now c.split_word-in-loop-shared.result.1.now
    c.skip_blanks.ensures c.split_word.ensures.prefix c.split_word.ensures.rest
    c.skip_blanks-in-loop-shared.ensures c.split_word-in-loop-shared.ensures.prefix
    c.split_word-in-loop-shared.ensures.rest c.loop-shared.shared c.loop-shared-test.true
    (sym c.parts_from.ensures ∙ c.if-parts_from.false)
    ∙ c.loop-shared.invariant
