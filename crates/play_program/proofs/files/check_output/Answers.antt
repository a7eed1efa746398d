use Rattle.std.proofs.Common.{◌≡◌, ◌<◌, ◌≤◌, All, ap, get_or, inl, inr, length, map, refl, subst}
use Rattle.std.proofs.Common.{take_all}
use Rattle.std.specs.Prelude.{Contains, IfSome}
use Rattle.std.proofs.lemmas.List.Elements.{All-map, All-more}
use Rattle.play_command.specs.Asked.{named_file}
use Rattle.play_command.specs.declared.line.NamedFile.{NamedFile}
use Rattle.play_program.specs.Calls.Told.{clashing}
use Rattle.play_program.specs.Files.{IsApart}
use Rattle.play_program.proofs.CallLemmas.{Contains-named, no_file}
use Rattle.play_program.proofs.files.check_output.Goals as goal

pub returns-in-Ok-true : goal.returns-in-Ok-true
returns-in-Ok-true g c =
    let i = c.loop-file.file-index in
    let list = c.deref-file-items.result.now in
    let file = named_file (get_or list i no_file) in
    let known = g.S.System.one_file c.args.system.now c.in-Some.output.now file.1 in
    rw c.in-Some.is
    (inl (
      file,
      subst (λ files. Contains (map named_file files) file) c.deref-file-items.ensures.value
          (Contains-named list i no_file c.loop-file-test.true),
      (λ may. let no = c.if-may_replace.ensures.1 may in cc),
      subst (λ same. IfSome known (λ is. same ≡ is)) c.in-Ok-true.field-0-test
          c.in-Ok-true.ensures,
      ap (clashing file.1) c.view_over.ensures,
    ))

pub loop-file-preserved-then-may_replace : goal.loop-file-preserved-then-may_replace
loop-file-preserved-then-may_replace g c =
    let i = c.loop-file.file-index in
    let same = c.deref-file-items.ensures.value in
    let IsApartFrom = λ (file : NamedFile).
    IsApart (g.S.System.one_file c.args.system.now) c.args.request.now.what c.in-Some.output.now
    (named_file file) in
    All-more IsApartFrom c.args.request.now.files.items i no_file
    (subst (λ files. i < length files) same c.loop-file-test.true) c.loop-file.invariant
    (subst (λ files. IsApartFrom (get_or files i no_file)) same
    (inl (c.if-may_replace.ensures.0 refl)))

pub loop-file-preserved : goal.loop-file-preserved
loop-file-preserved g c =
    let i = c.loop-file.file-index in
    let same = c.deref-file-items.ensures.value in
    let one_file = g.S.System.one_file c.args.system.now c.in-Some.output.now in
    let file = named_file (get_or c.deref-file-items.result.now i no_file) in
    let IsApartFrom = λ (file : NamedFile).
    IsApart (g.S.System.one_file c.args.system.now) c.args.request.now.what c.in-Some.output.now
    (named_file file) in
    All-more IsApartFrom c.args.request.now.files.items i no_file
    (subst (λ files. i < length files) same c.loop-file-test.true) c.loop-file.invariant
    (subst (λ files. IsApartFrom (get_or files i no_file)) same
    (inr (subst (λ same. IfSome (one_file file.1) (λ is. same ≡ is)) c.in-Ok-false.field-0-test
    c.in-Ok-false.ensures)))

pub returns : goal.returns
returns g c =
    let i = c.loop-file.file-index in
    let files = c.args.request.now.files.items in
    let IsApartFrom =
    IsApart (g.S.System.one_file c.args.system.now) c.args.request.now.what c.in-Some.output.now in
    rw c.in-Some.is
    (All-map IsApartFrom named_file files
    (subst (λ l. All (λ file. IsApartFrom (named_file file)) l)
    (take_all i files
    (subst (λ l. length l ≤ i) c.deref-file-items.ensures.value c.loop-file-test.false))
    c.loop-file.invariant))
