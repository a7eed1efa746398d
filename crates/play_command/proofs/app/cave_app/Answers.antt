use Rattle.std.proofs.Common.{refl}
use Rattle.std.proofs.lemmas.Result.{IfOk-weaker}
use Rattle.play_command.proofs.app.cave_app.Goals as goal

pub returns : goal.returns
returns c = IfOk-weaker c.with_commands.result _ _
    (λ command is. (
      record {
        check = (_, refl);
        play = (_, refl);
        edit = (_, refl);
        report = (_, refl);
        cover = (_, refl);
      },
      is,
    ))
    c.with_commands.ensures
