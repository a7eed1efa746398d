use Rattle.play_program.specs.Files.{FileName}
use Rattle.std.proofs.Common.{◌≡◌, ◌⊎◌, append-nil, false, refl, true, ap, inl, inr, subst, sym}
use Rattle.std.proofs.Common.{◌∙◌}
use Rattle.std.proofs.lemmas.Result.{err_from_is_err_and}
use Rattle.cave_play.specs.Stages.{IsOutsideOf}
use Rattle.cave_play.specs.Sources.{Says}
use Rattle.cave_play.specs.declared.fault.PlayFault.{PlayFault}
use Rattle.cave_play.proofs.SourceLemmas.{said, some_bytes}
use Rattle.play_command.specs.declared.line.Input.{Input}
use Rattle.std.specs.Prelude.{Some, is_some}
use Rattle.play_program.specs.Calls.{and_then}
use Rattle.play_program.specs.Sources.{opening_unless, telling_if, waiting_entry}
use Rattle.play_program.proofs.CallLemmas.{and_then-more}
use Rattle.play_program.proofs.sources.read_file.Goals as goal

outside : (from : Input) (found : PlayFault) → (found ≡ PlayFault.Memory) ⊎ (found ≡ PlayFault.Read from)
    → IsOutsideOf (Some from) found
outside from found (inl is) = subst (IsOutsideOf (Some from)) (sym is) tt
outside from found (inr is) = subst (IsOutsideOf (Some from)) (sym is) refl

pub returns-in_err-file-clause-read : goal.returns-in_err-file-clause-read
returns-in_err-file-clause-read g c =
    let exit = err_from_is_err_and c.from_residual.result c.from_residual.ensures.1 in
    let entry = waiting_entry (g.S.System.bytes_of c.args.system.now) g.S.File.Read.remaining
    c.args.waiting in
    rw (exit.1, exit.2) (
      some_bytes entry.known,
      said entry.known,
      inl (outside c.args.waiting.input _ c.in_err-file.ensures.failed),
    )

pub returns-in_err-file-clause-asks : goal.returns-in_err-file-clause-asks
returns-in_err-file-clause-asks g c =
    let entry = waiting_entry (g.S.System.bytes_of c.args.system.now) g.S.File.Read.remaining
    c.args.waiting in (
      some_bytes entry.known,
      false,
      said entry.known,
      c.in_err-file.ensures.call
          ∙ ap (and_then (g.S.System.calls c.args.system.now)) (sym (append-nil _)),
    )

pub returns-in_err-text-clause-read : goal.returns-in_err-text-clause-read
returns-in_err-text-clause-read g c =
    let exit = err_from_is_err_and c.from_residual-in_err-text.result
    c.from_residual-in_err-text.ensures.1 in
    let (bytes, says, unread) = c.in_err-text.ensures in
    rw (exit.1, exit.2)
    (bytes, subst (λ known. Says known bytes) c.in_ok-file.ensures.file says, unread)

pub returns-in_err-text-clause-asks : goal.returns-in_err-text-clause-asks
returns-in_err-text-clause-asks g c =
    let (bytes, says, unread) = c.in_err-text.ensures in (
      bytes,
      false,
      subst (λ known. Says known bytes) c.in_ok-file.ensures.file says,
      c.in_ok-file.ensures.call
          ∙ ap (and_then (g.S.System.calls c.args.system.now)) (sym (append-nil _)),
    )

pub returns-clause-read : goal.returns-clause-read
returns-clause-read g c =
    let (bytes, says, whole) = c.in_ok-text.ensures in
    (bytes, subst (λ known. Says known bytes) c.in_ok-file.ensures.file says, whole)

pub returns-clause-asks : goal.returns-clause-asks
returns-clause-asks g c =
    let (bytes, says, whole) = c.in_ok-text.ensures in
    let file : FileName = (c.args.waiting.input, c.args.waiting.name.now) in
    let told = telling_if true c.args.request.now file c.deref.result.now in
    let says_text = subst (Says (g.S.File.Read.remaining c.in_ok-file.file))
    (sym (c.deref.ensures.value ∙ whole.0)) says in (
      c.deref.result.now,
      true,
      subst (λ known. Says known c.deref.result.now) c.in_ok-file.ensures.file says_text,
      c.tell_head.ensures.call
          ∙ ap (λ k. and_then k told) c.in_ok-file.ensures.call
          ∙ and_then-more (g.S.System.calls c.args.system.now)
          (opening_unless (is_some c.args.waiting.file) c.args.waiting.name.now) told,
    )
