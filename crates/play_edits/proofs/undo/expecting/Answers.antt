use Rattle.std.proofs.Common.{ap, ◌∙◌, rules}
use Rattle.std.specs.declared.option.Option.{Option}
use Rattle.std.proofs.lemmas.Iterator.{YieldsList-from_map, YieldsList-from_zip, items_from_collect}
use Rattle.std.proofs.lemmas.Iterator.Adapters.{YieldsList-from_vec}
use Rattle.std.specs.Vec.Iter.{into_iter_items, into_iter_len}
use Rattle.replay_edits.specs.LineText.{LineText}
use Rattle.replay_edits.specs.declared.edit.Edit.{Edit}
use Rattle.replay_scripts.specs.declared.script_text.BackEdit.{BackEdit}
use Rattle.play_edits.proofs.MetLemmas.{backs_made, expecting-zip}
use Rattle.play_edits.proofs.undo.expecting.Goals as goal

abbrev expected_by : Edit × Option LineText → BackEdit
expected_by pair = record { edit = pair.0; expected = pair.1 }

pub returns : goal.returns
returns c =
    let edits = c.args.edits in
    let lines = c.args.lines in
    let source = c.map.ensures.source in
    let first = c.zip.ensures.first in
    let second = c.zip.ensures.second in
    let edits_yielded =
    YieldsList-from_vec edits.items
    (ap (λ s. into_iter_items s.a) source ∙ ap into_iter_items first ∙ c.into_iter.ensures.rest)
    (ap (λ s. into_iter_len s.a) source ∙ ap into_iter_len first ∙ c.into_iter.ensures.len
    ∙ edits.ok.0) in
    let lines_yielded =
    YieldsList-from_vec lines.items (ap (λ s. into_iter_items s.b) source ∙ second.0)
    (ap (λ s. into_iter_len s.b) source ∙ second.1 ∙ lines.ok.0) in
    let made =
    items_from_collect _ c.collect.ensures.ran
    (YieldsList-from_map _ expected_by (YieldsList-from_zip edits_yielded lines_yielded)
    c.map.ensures.closure (λ x r q k. search rules)) in
    backs_made _ _ _ made (expecting-zip edits.items lines.items)
