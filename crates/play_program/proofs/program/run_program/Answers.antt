use Rattle.std.proofs.Common.{map, refl, string_bytes, subst}
use Rattle.play_command.specs.Line.{IsAnswer}
use Rattle.play_program.proofs.program.run_program.Goals as goal

pub returns-in-Ok-Run-clause-words : goal.returns-in-Ok-Run-clause-words
returns-in-Ok-Run-clause-words g c =
    rw c.in-Ok.is (
      c.command_line.result,
      subst (λ words. IsAnswer (map string_bytes words) c.command_line.result)
          c.as_slice.ensures.value c.command_line.ensures,
      rw (c.in-Ok-Run.is, c.in-Ok-Run.field-0-is) c.run.ensures.ends,
    )

pub returns-in-Ok-Text-clause-words : goal.returns-in-Ok-Text-clause-words
returns-in-Ok-Text-clause-words g c =
    rw c.in-Ok.is (
      c.command_line.result,
      subst (λ words. IsAnswer (map string_bytes words) c.command_line.result)
          c.as_slice.ensures.value c.command_line.ensures,
      rw (c.in-Ok-Text.is, c.in-Ok-Text.field-0-is) c.print.ensures.ends,
    )

pub returns-in-Ok-clause-words : goal.returns-in-Ok-clause-words
returns-in-Ok-clause-words g c =
    rw c.in-Ok.is (
      c.command_line.result,
      subst (λ words. IsAnswer (map string_bytes words) c.command_line.result)
          c.as_slice.ensures.value c.command_line.ensures,
      rw c.in-Err-command_line.is (refl, c.refuse.ensures.ends),
    )
