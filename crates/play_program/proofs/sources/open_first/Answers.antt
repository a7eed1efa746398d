use Rattle.std.proofs.Common.{◌<◌, ◌++◌, [], ◌∷◌, ap, ap₂, get_or, inl, length, map, refl, subst}
use Rattle.std.proofs.Common.{sym, take, ◌∙◌}
use Rattle.std.proofs.lemmas.List.{map-append, take_more}
use Rattle.std.proofs.lemmas.Result.{err_from_is_err_and}
use Rattle.play_command.specs.Asked.{named_file}
use Rattle.play_program.specs.Calls.{and_then, told_of}
use Rattle.play_program.specs.Sources.{Stops, entry_of, opening, waiting_entry}
use Rattle.play_program.proofs.CallLemmas.{no_file, opened-next, stopped-next}
use Rattle.play_program.proofs.sources.open_first.Goals as goal

pub returns-in_err-next-clause-opened : goal.returns-in_err-next-clause-opened
returns-in_err-next-clause-opened g c =
    let exit = err_from_is_err_and c.from_residual.result c.from_residual.ensures.1 in
    let what = c.args.request.now.what in
    let i = c.loop-file.file-index in
    let same = c.deref-file-items.ensures.value in
    let said = told_of c.in_err-next.field-0.0 in
    rw (exit.1, exit.2)
    (stopped-next what c.args.request.now.files.items i no_file
    (subst (λ l. i < length l) same c.loop-file-test.true) _ _ _ c.loop-file.invariant.opened said
    (subst (λ l. Stops what (named_file (get_or l i no_file) ∷ [])
    (g.S.System.calls c.loop-file.system) (g.S.System.calls c.wait_for.new.system) said) same
    c.in_err-next.ensures.opened))

pub returns-in-Err-clause-opened : goal.returns-in-Err-clause-opened
returns-in-Err-clause-opened g c =
    let what = c.args.request.now.what in
    let i = c.loop-file.file-index in
    let files = c.args.request.now.files.items in
    let same = c.deref-file-items.ensures.value in
    let said = told_of c.memory.result in
    let file = named_file (get_or files i no_file) in
    let called = c.in_ok-next.ensures.opened
    ∙ ap (λ l. and_then (g.S.System.calls c.loop-file.system)
    (opening what (named_file (get_or l i no_file) ∷ []))) same in
    stopped-next what files i no_file
    (subst (λ l. i < length l) same c.loop-file-test.true) _ _ _ c.loop-file.invariant.opened said
    ([], file, [], refl, called, inl c.memory.ensures)

pub loop-file-preserved : goal.loop-file-preserved
loop-file-preserved g c =
    let left = g.S.File.Read.remaining in
    let bytes = g.S.System.bytes_of c.args.system.now in
    let what = c.args.request.now.what in
    let files = c.args.request.now.files.items in
    let i = c.loop-file.file-index in
    let before = c.loop-file.invariant in
    let same = c.deref-file-items.ensures.value in
    let inside = subst (λ l. i < length l) same c.loop-file-test.true in
    let file = named_file (get_or files i no_file) in
    let file_is = ap (λ l. named_file (get_or l i no_file)) same in
    let named = ap (map named_file) (take_more files i no_file inside)
    ∙ map-append named_file (take i files) (get_or files i no_file ∷ []) in
    let here = ap (λ b. waiting_entry b left c.in_ok-next.next) (sym before.kept)
    ∙ c.in_ok-next.ensures.reads ∙ ap₂ (entry_of what) before.kept file_is in
    record {
      kept = c.in_ok-next.ensures.kept ∙ before.kept;
      reads = ap (map (waiting_entry bytes left)) c.in-Ok.ensures.items
          ∙ map-append (waiting_entry bytes left) c.loop-file.waiting.items (c.in_ok-next.next ∷ [])
          ∙ ap₂ (λ l e. l ++ e ∷ []) before.reads here
          ∙ sym (map-append (entry_of what bytes) (map named_file (take i files)) (file ∷ []))
          ∙ ap (map (entry_of what bytes)) (sym named);
      opened = opened-next what files i no_file inside _ _ _ before.opened
          (c.in_ok-next.ensures.opened ∙ ap (λ f. and_then (g.S.System.calls c.loop-file.system)
          (opening what (f ∷ []))) file_is);
    }
