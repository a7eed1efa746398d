use Rattle.std.proofs.Common.{◌++◌, codes, sym, ap, ◌∙◌, append_assoc, append-nil}
use Rattle.play_walk.specs.Json.{json_string}
use Rattle.play_walk.specs.Walk.{text_members}
use Rattle.play_walk.proofs.line.put_opening_text.Goals as goal

pub returns : goal.returns
unfolding text_members
returns c = λ enough.
    let said = json_string c.args.said.now in
    let start = codes "{\"place\":null,\"line\":null,\"said\":" in
    let before = c.args.text.now.bytes.items in
    let whole = c.put_json_string.ensures enough in
    let begun = c.put.ensures whole.0 in (
      begun.0,
      whole.1 ∙ ap (λ items. items ++ said) begun.1 ∙ append_assoc before start said
          ∙ ap (λ end. before ++ (start ++ end)) (sym (append-nil said)),
    )
