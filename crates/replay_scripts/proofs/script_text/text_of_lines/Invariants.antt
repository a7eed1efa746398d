use Rattle.std.proofs.Common.{◌≡◌, map, string_bytes, take}
use Rattle.replay_scripts.specs.ScriptText.{text_of_lines}
use Rattle.replay_scripts.proofs.script_text.text_of_lines.Given as goal

abbrev pub invariant-loop-line : goal.invariant-loop-line
invariant-loop-line l =
    string_bytes l.text
    ≡ text_of_lines (map (λ line. line.now) (take l.line-index l.lines))
