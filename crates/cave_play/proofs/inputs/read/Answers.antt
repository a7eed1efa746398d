use Rattle.cave_play.proofs.InputLemmas.{Consumes-none, Says-some, Says-whole, IsUnread-large}
use Rattle.std.proofs.Common.{◌++◌, ap, inl, refl, rules, subst, sym, take, ◌∙◌}
use Rattle.std.specs.Prelude.{if◌then◌else◌}
use Rattle.std.specs.Result.{is_ok, result_from_control_flow}
use Rattle.std.specs.Io.KnownBytes.{Consumes}
use Rattle.std.proofs.KnownBytes.{Consumes-trans}
use Rattle.std.proofs.lemmas.Result.{err_from_is_err_and}
use Rattle.cave_play.proofs.inputs.read.Goals as goal

pub returns-in_err-room : goal.returns-in_err-room
returns-in_err-room g c =
    let exit = err_from_is_err_and c.from_residual.result c.from_residual.ensures.1 in
    let some = Says-some (g.R.Read.remaining c.args.reader.now) in
    rw (exit.1, exit.2) (some.0, some.1, inl tt)

pub pieces-init : goal.pieces-init
pieces-init g c = record {
  taken = Consumes-none _ _ c.new-text.ensures.items;
  within = search rules;
  room = search rules;
}

pub returns-in-Err : goal.returns-in-Err
returns-in-Err g c =
    let some = Says-some (g.R.Read.remaining c.args.reader.now) in
    (some.0, some.1, inl refl)

pub returns-in_err-extend_from_slice : goal.returns-in_err-extend_from_slice
returns-in_err-extend_from_slice g c =
    let exit =
    err_from_is_err_and c.from_residual-in_err-extend_from_slice.result
    c.from_residual-in_err-extend_from_slice.ensures.1 in
    let some = Says-some (g.R.Read.remaining c.args.reader.now) in
    rw (exit.1, exit.2) (some.0, some.1, inl tt)

pub returns-then-count-eq0 : goal.returns-then-count-eq0
returns-then-count-eq0 g c =
    let whole =
    Consumes-trans _ _ _ _ _ c.pieces.invariant.taken c.in-Ok.ensures.bytes.0 in (
      _,
      Says-whole _ _ _ whole (c.in-Ok.ensures.bytes.1 (search rules) (search rules)),
      (search rules, search rules),
    )

pub returns-then-count-len : goal.returns-then-count-len
returns-then-count-len g c =
    rw c.too_large.ensures
    (IsUnread-large c.args.input _ _ _ _ _ c.pieces.invariant.taken c.in-Ok.ensures.bytes.0
    (search rules))

pub pieces-preserved : goal.pieces-preserved
pieces-preserved g c =
    let before = c.pieces.text.items in
    let ok = c.branch-extend_from_slice.ensures
    ∙ ap result_from_control_flow c.in_ok-extend_from_slice.is in
    let grown = c.extend_from_slice.ensures.items
    ∙ ap (λ done. if done then before ++ take c.in-Ok.count c.read.new.buf else before)
    (ap is_ok ok) in
    record {
      taken = subst (Consumes (g.R.Read.remaining c.args.reader.now)
          (g.R.Read.remaining c.read.new.self)) (sym grown)
          (Consumes-trans _ _ _ _ _ c.pieces.invariant.taken c.in-Ok.ensures.bytes.0);
      within = search rules;
      room = search rules;
    }
