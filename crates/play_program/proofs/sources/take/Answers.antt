use Rattle.std.proofs.Common.{◌≡◌, None, Option, Some, ap, map, option_map, subst, sym, ◌∙◌}
use Rattle.std.specs.List.{position}
use Rattle.std.proofs.lemmas.List.Quantifiers.{position-Some}
use Rattle.play_program.specs.Files.{is_same_input}
use Rattle.play_program.specs.Sources.{IsTakenFrom, waiting_entry}
use Rattle.play_program.specs.declared.sources.WaitingFile.{WaitingFile}
use Rattle.play_program.proofs.TakenLemmas.{IsTakenFrom-at, IsTakenFrom-none}
use Rattle.play_program.proofs.sources.take.Goals as goal

pub returns-in_err-place : goal.returns-in_err-place
returns-in_err-place g c = λ bytes_of.
    let is_of = λ (file : WaitingFile g.row.F.Denot). is_same_input file.input c.args.input in
    let left = g.F.Read.remaining in
    let entries = map (waiting_entry bytes_of left) c.args.waiting.now.items in
    subst
    (λ (taken : Option (WaitingFile g.row.F.Denot)). IsTakenFrom c.args.input entries entries
    (option_map (waiting_entry bytes_of left) taken))
    (sym c.from_residual.ensures)
    (IsTakenFrom-none bytes_of left c.args.input c.args.waiting.now.items
    (subst (λ l. position is_of l ≡ None) c.deref.ensures.value (sym c.in_err-place.ensures)))

pub returns : goal.returns
returns g c = λ bytes_of.
    let left = g.F.Read.remaining in
    let is_of = λ (file : WaitingFile g.row.F.Denot). is_same_input file.input c.args.input in
    let place = c.in_ok-place.place in
    let files = c.args.waiting.now.items in
    let found =
    position-Some is_of files place c.remove.result
    (subst (λ l. position is_of l ≡ Some place) c.deref.ensures.value
    (sym c.in_ok-place.ensures)) in
    let taken =
    IsTakenFrom-at bytes_of left c.args.input files place c.remove.result found.0 found.1 found.2 in (
      ap (λ (file : WaitingFile g.row.F.Denot). Some (waiting_entry bytes_of left file))
          c.remove.ensures.value ∙ taken.0,
      ap (map (waiting_entry bytes_of left)) c.remove.ensures.items ∙ taken.1,
    )
