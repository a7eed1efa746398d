use Rattle.std.proofs.Common.{None, ap, ◌∙◌, rules}
use Rattle.std.proofs.lemmas.Iterator.{YieldsList-from_map, items_from_collect}
use Rattle.std.proofs.lemmas.Iterator.Adapters.{YieldsList-from_vec}
use Rattle.std.specs.Vec.Iter.{into_iter_items, into_iter_len}
use Rattle.replay_edits.specs.declared.edit.Edit.{Edit}
use Rattle.replay_scripts.specs.declared.script_text.BackEdit.{BackEdit}
use Rattle.play_edits.proofs.MetLemmas.{backs_made, without_guards-map}
use Rattle.play_edits.proofs.undo.without_guards.Goals as goal

abbrev without : Edit → BackEdit
without edit = record { edit = edit; expected = None }

pub returns : goal.returns
returns c =
    let edits = c.args.edits in
    let items = ap into_iter_items c.map.ensures.source ∙ c.into_iter.ensures.rest in
    let len = ap into_iter_len c.map.ensures.source ∙ c.into_iter.ensures.len ∙ edits.ok.0 in
    let made =
    items_from_collect _ c.collect.ensures.ran
    (YieldsList-from_map _ without (YieldsList-from_vec edits.items items len)
    c.map.ensures.closure (λ x r q k. search rules)) in
    backs_made _ _ _ made (without_guards-map edits.items)
