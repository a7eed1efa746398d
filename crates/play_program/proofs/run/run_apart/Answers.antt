use Rattle.std.proofs.Common.{Err, None, Ok, ap, inl, inr, refl, sym, ◌∙◌}
use Rattle.std.proofs.lemmas.Result.{err_from_is_err_and}
use Rattle.play_program.specs.Files.{fault_told}
use Rattle.std.specs.Option.{option_map_or}
use Rattle.play_program.proofs.run.run_apart.Goals as goal

pub returns-in_err-check_output : goal.returns-in_err-check_output
returns-in_err-check_output g c =
    let exit = err_from_is_err_and c.from_residual.result c.from_residual.ensures.1 in
    rw (exit.1, exit.2) (inr (_, refl, c.in_err-check_output.ensures, refl, refl))

pub returns-in_err-made : goal.returns-in_err-made
returns-in_err-made g c =
    let exit = err_from_is_err_and c.from_residual-in_err-made.result
    c.from_residual-in_err-made.ensures.1 in
    rw (exit.1, exit.2)
    (inl (
      c.in_ok-check_output.ensures,
      (_, Err _, c.in_err-made.ensures, ((refl, refl), refl)),
    ))

pub returns-in_err-deliver : goal.returns-in_err-deliver
returns-in_err-deliver g c =
    let exit = err_from_is_err_and c.from_residual-in_err-deliver.result
    c.from_residual-in_err-deliver.ensures.1 in
    rw (exit.1, exit.2)
    (inl (
      c.in_ok-check_output.ensures,
      (_, Ok c.in_ok-made.made, c.in_ok-made.ensures, (Err _, c.in_err-deliver.ensures, (tt, refl))),
    ))

pub returns-in-Some : goal.returns-in-Some
returns-in-Some g c =
    let made = c.in_ok-made.made in
    inl (
      c.in_ok-check_output.ensures,
      (
        _,
        Ok made,
        c.in_ok-made.ensures,
        (
          Ok tt,
          c.in_ok-deliver.ensures,
          ap Err c.of_fault.ensures ∙ ap (λ left. option_map_or
              (λ found. Err (fault_told c.args.request.now found None)) left (Ok made.edits))
              (sym c.in-Some.is),
        ),
      ),
    )

pub returns : goal.returns
returns g c =
    let made = c.in_ok-made.made in
    inl (
      c.in_ok-check_output.ensures,
      (
        _,
        Ok made,
        c.in_ok-made.ensures,
        (
          Ok tt,
          c.in_ok-deliver.ensures,
          ap (λ left. option_map_or
              (λ found. Err (fault_told c.args.request.now found None)) left (Ok made.edits))
              (sym c.in-None.is),
        ),
      ),
    )
