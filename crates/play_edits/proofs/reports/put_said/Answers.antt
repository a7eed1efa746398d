use Rattle.std.proofs.Common.{◌++◌, ◌∙◌, ap, append_assoc, sym}
use Rattle.std.specs.Prelude.{codes}
use Rattle.std.specs.Fmt.{decimal}
use Rattle.play_edits.specs.Accounts.{expected_text, refusal_said}
use Rattle.play_edits.proofs.reports.put_said.Goals as goal

pub returns-in-NoLine : goal.returns-in-NoLine
returns-in-NoLine c = λ enough.
    let text = c.args.text.now.bytes.items in
    let first = codes "no line: the log has " ++ decimal c.in-NoLine.lines in
    let more = expected_text c.in-NoLine.expected in
    let last = c.put_expected.ensures enough in
    let written = c.write-in-NoLine.ensures last.0 in (
      written.0,
      last.1 ∙ ap (λ bytes. bytes ++ more) written.1 ∙ append_assoc text first more
          ∙ ap (λ refusal. text ++ refusal_said refusal) (sym c.in-NoLine.is),
    )
