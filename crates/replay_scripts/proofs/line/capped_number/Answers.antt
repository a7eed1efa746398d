use Rattle.std.proofs.Common.{◌≡◌, ◌+◌, ◌-◌, ◌*◌, ◌∙◌, fold, min, rules}
use Rattle.replay_scripts.proofs.Numbers.{number_capped}
use Rattle.base_lines.specs.Limits.{max_script_number}
use Rattle.replay_scripts.proofs.line.capped_number.Goals as goal

pub returns : goal.returns
returns c =
    let folded : c.fold.result
    ≡ fold (λ number digit. min (10 * number + (digit - 48)) max_script_number) 0
    c.args.digits.now = search rules in
    folded ∙ number_capped max_script_number c.args.digits.now
