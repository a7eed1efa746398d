use Rattle.std.proofs.Common.{ap, ◌∙◌, ◌++◌, drop, length}
use Rattle.std.specs.Prelude.{replicate}
use Rattle.std.proofs.lemmas.List.{drop-replicate}
use Rattle.play_machine.proofs.visited.all_visits.Goals as goal

pub returns : goal.returns
returns c =
    let first = c.args.first.now in
    ap (λ front. front ++ drop (length first) (replicate 300 c.new-visits.result))
    c.copy_from_slice.ensures.after
    ∙ ap (λ none. first ++ drop (length first) (replicate 300 none)) c.new-visits.ensures
    ∙ ap (λ rest. first ++ rest) (drop-replicate (length first) 300 0)
