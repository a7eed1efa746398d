use Rattle.std.proofs.Common.{length, ◌∙◌}
use Rattle.std.specs.List.{filter}
use Rattle.play_cover.specs.Coverage.{covered}
use Rattle.check_tables.specs.Marks.{is_marked, mark}
use Rattle.play_cover.proofs.coverage.find.Goals as goal

pub returns-clause-covered : goal.returns-clause-covered
unfolding covered
returns-clause-covered g c =
    let numbers = c.deref.ensures.value ∙ c.in_ok-numbers.ensures.numbers in
    c.count_covered-covered.ensures.value
    ∙ (λ i. length (filter (λ n. is_marked c.args.marks.now (mark (c.number-number.ensures i) n))
    (numbers i)))
