use Rattle.std.proofs.Common.{ℕ, Bool, List, None, Some, nat_lt, ap, inl, inr, refl, sym, ◌∙◌}
use Rattle.std.specs.Prelude.{if◌then◌else◌, ◌∷◌, []}
use Rattle.std.proofs.lemmas.Result.{err_from_is_err_and}
use Rattle.base_lines.specs.Limits.{MAX_INPUT_BYTES}
use Rattle.cave_play.specs.Sources.{AreHeld, Held, InputTexts, Says, next_log}
use Rattle.cave_play.specs.Output.{script_size_stage, two_logs_stages}
use Rattle.cave_play.specs.declared.fault.PlayFault.TheVariants.{LargeScript}
use Rattle.cave_play.proofs.SourceLemmas.{said, some_texts}
use Rattle.cave_play.proofs.StageLemmas.{IsFoundIn-later, first_decided-later, first_decided-one}
use Rattle.cave_play.proofs.two_logs.make_script.Goals as goal

abbrev is_large : ℕ → Bool
is_large bytes = nat_lt MAX_INPUT_BYTES bytes

-- two logs, and a cave that isn't asked for
abbrev texts_with : Held → List ℕ → List ℕ → InputTexts
texts_with held old made = record (some_texts held) { log = old; new_log = made }

two_held : (held : Held) (old made : List ℕ) → Says (next_log held.logs) old
    → Says held.new_log made → AreHeld held (texts_with held old made)
two_held held old made three four = record {
  database = said held.cave;
  bindings = said held.bindings;
  log = three;
  new_log = four;
  script = said held.script;
  known = said held.known;
}

pub returns-in_err-compared : goal.returns-in_err-compared
returns-in_err-compared g c =
    let exit = err_from_is_err_and c.from_residual.result c.from_residual.ensures.1 in
    let held = g.I.Sources.held c.args.inputs.now in
    let (old, made, three, four, found) = c.in_err-compared.ensures.judged in
    rw (exit.1, exit.2)
    (record {
      judged = (
        texts_with held old made,
        two_held held old made three four,
        inl (_, refl, found),
      );
      leads = c.in_err-compared.ensures.leads;
    })

pub returns-then-is_large_input : goal.returns-then-is_large_input
returns-then-is_large_input g c =
    let held = g.I.Sources.held c.args.inputs.now in
    let (old, made, three, four, judged) = c.in_ok-compared.ensures.judged in
    let script = c.in_ok-compared.compared.script in
    let size = ap is_large (sym script.ok.0 ∙ sym c.len.ensures) ∙ sym c.is_large_input.ensures
    ∙ c.if-is_large_input.true in
    record {
      judged = (
        texts_with held old made,
        two_held held old made three four,
        inr (
          script.items,
          judged.1.1,
          IsFoundIn-later (two_logs_stages old made) (script_size_stage script.items ∷ []) LargeScript
              judged.0
              (inl (inr (ap (λ large. if large then Some LargeScript else None) size))),
        ),
      );
      leads = c.in_ok-compared.ensures.leads;
    }

pub returns : goal.returns
returns g c =
    let held = g.I.Sources.held c.args.inputs.now in
    let (old, made, three, four, judged) = c.in_ok-compared.ensures.judged in
    let script = c.in_ok-compared.compared.script in
    let size = ap is_large (sym script.ok.0 ∙ sym c.len.ensures) ∙ sym c.is_large_input.ensures
    ∙ c.if-is_large_input.false in
    record {
      judged = (
        texts_with held old made,
        two_held held old made three four,
        inr (
          script.items,
          judged.1.1,
          (
            first_decided-later (two_logs_stages old made) (script_size_stage script.items ∷ [])
                judged.0
                ∙ first_decided-one (script_size_stage script.items)
                (ap (λ large. if large then Some LargeScript else None) size),
            refl,
          ),
        ),
      );
      leads = c.in_ok-compared.ensures.leads;
    }
