use Rattle.std.proofs.Common.{◌++◌, ◌∙◌, ap, append_assoc, sym}
use Rattle.std.specs.Prelude.{codes}
use Rattle.std.specs.Fmt.{decimal}
use Rattle.play_edits.specs.Accounts.{expected_text, expected_words}
use Rattle.play_edits.proofs.reports.put_expected.Goals as goal

pub returns-in-Nowhere : goal.returns-in-Nowhere
returns-in-Nowhere c = λ enough.
    let text = c.args.text.now.bytes.items in
    let more = codes ", which is nowhere" in
    let last = c.put-in-Nowhere.ensures enough in
    let words = c.put_expected_words.ensures last.0 in (
      words.0,
      last.1 ∙ ap (λ bytes. bytes ++ more) words.1
          ∙ append_assoc text (expected_words c.in-Nowhere.line) more
          ∙ ap (λ said. text ++ expected_text said) (sym c.in-Nowhere.is),
    )

pub returns-in-At : goal.returns-in-At
returns-in-At c = λ enough.
    let text = c.args.text.now.bytes.items in
    let more = codes ", which is at " ++ decimal c.in-At.place in
    let last = c.write.ensures enough in
    let words = c.put_expected_words-in-At.ensures last.0 in (
      words.0,
      last.1 ∙ ap (λ bytes. bytes ++ more) words.1
          ∙ append_assoc text (expected_words c.in-At.line) more
          ∙ ap (λ said. text ++ expected_text said) (sym c.in-At.is),
    )
