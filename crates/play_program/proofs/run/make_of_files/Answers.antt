use Rattle.std.proofs.Common.{Err, None, Ok, ap, inl, inr, length, map, refl, rules, sym, ◌∙◌}
use Rattle.std.proofs.lemmas.Result.{err_from_is_err_and}
use Rattle.play_command.specs.declared.line.Input.TheVariants.{Log}
use Rattle.play_program.specs.Sources.{Entry, of_input, waiting_entry}
use Rattle.play_program.proofs.MakeLemmas.{MakesOpened-made, held_logs, reads}
use Rattle.play_program.proofs.run.make_of_files.Goals as goal

pub returns-in_err-waiting : goal.returns-in_err-waiting
returns-in_err-waiting g c =
    let exit = err_from_is_err_and c.from_residual.result c.from_residual.ensures.1 in
    rw (exit.1, exit.2) (inr (_, refl, c.in_err-waiting.ensures.opened))

pub make-requires : goal.make-requires
make-requires g c =
    let of = c.of-files.ensures in
    let known = g.S.System.bytes_of c.args.system.now in
    let left = g.S.File.Read.remaining in
    let waiting =
    ap (λ b. map (waiting_entry b left) c.of-files.result.waiting.now.items)
    (ap g.S.System.bytes_of of.system ∙ c.in_ok-waiting.ensures.kept)
    ∙ ap (λ w. map (waiting_entry known left) w.items) of.waiting ∙ c.in_ok-waiting.ensures.reads in
    sym (ap (λ es. length (map (λ (e : Entry). e.known) (of_input Log es))) waiting
    ∙ held_logs known c.args.request.now)

pub returns-in-Ok : goal.returns-in-Ok
returns-in-Ok g c =
    let of = c.of-files.ensures in
    let made = c.in-Ok.ensures in
    let calls = g.S.System.calls in
    let bytes_of = g.S.System.bytes_of in
    let known = bytes_of c.args.system.now in
    let left = g.S.File.Read.remaining in
    let waiting =
    ap (λ b. map (waiting_entry b left) c.of-files.result.waiting.now.items)
    (ap bytes_of of.system ∙ c.in_ok-waiting.ensures.kept)
    ∙ ap (λ w. map (waiting_entry known left) w.items) of.waiting ∙ c.in_ok-waiting.ensures.reads in
    let called = ap calls of.system ∙ c.in_ok-waiting.ensures.opened in
    let read = reads calls bytes_of left c.args.request.now known _ c.of-files.result _ waiting
    of.request called made.leads in
    inl (MakesOpened-made calls bytes_of left c.args.request.now known _ c.of-files.result _ waiting
    of.request called made.leads _
    (ap calls (let same = sym (read.1.system ∙ of.reference) in search rules))
    (Ok c.in-Ok.made) None (Ok c.in-Ok.made) refl made.all made.judged)

pub returns : goal.returns
returns g c =
    let of = c.of-files.ensures in
    let made = c.in-Err.ensures in
    let calls = g.S.System.calls in
    let bytes_of = g.S.System.bytes_of in
    let known = bytes_of c.args.system.now in
    let left = g.S.File.Read.remaining in
    let waiting =
    ap (λ b. map (waiting_entry b left) c.of-files.result.waiting.now.items)
    (ap bytes_of of.system ∙ c.in_ok-waiting.ensures.kept)
    ∙ ap (λ w. map (waiting_entry known left) w.items) of.waiting ∙ c.in_ok-waiting.ensures.reads in
    let called = ap calls of.system ∙ c.in_ok-waiting.ensures.opened in
    let read = reads calls bytes_of left c.args.request.now known _ c.of-files.result _ waiting
    of.request called made.leads in
    inl (MakesOpened-made calls bytes_of left c.args.request.now known _ c.of-files.result _ waiting
    of.request called made.leads _
    (ap calls (let same = sym (read.1.system ∙ of.reference) in search rules))
    (Err c.in-Err.found) _ _ (ap Err c.why_unmade.ensures) tt made.judged)
