-- Two outputs of the same inputs are the same.
use Rattle.cave_play.proofs.ScriptLemmas.{same_items}
use Rattle.std.proofs.Common.{◌≡◌, ℕ, Bool, List, Some, subst, sym, ap, ◌∙◌}
use Rattle.std.specs.Str.Lines.{lines}
use Rattle.cave_data.specs.CaveView.{CaveView}
use Rattle.cave_data.proofs.ReadLemmas.{same_cave}
use Rattle.play_command.specs.declared.views.EditView.{EditView}
use Rattle.play_command.specs.declared.views.EditView.TheVariants.{Transcript, Play, Log, Reports}
use Rattle.play_command.specs.declared.views.EditView.TheVariants.{Steps, Score, FinalState, Table}
use Rattle.play_command.specs.declared.views.EditView.TheVariants.{Undo, Guarded, Walk}
use Rattle.replay_edits.specs.Edit.{Game, game_of}
use Rattle.replay_scripts.specs.Script.{Applied}
use Rattle.play_laws.specs.RunLaws.{OneCheckedOutput, OnePlayedOutput, OneEditedOutput}
use Rattle.play_laws.specs.RunLaws.{KnowsNoCheckpoints}
use Rattle.cave_play.specs.Output.{check_text, play_view_text}
use Rattle.play_edits.specs.Ends.{printed_text, ends_after_items, log_ends}
use Rattle.play_edits.specs.Views.{IsViewOf}
use Rattle.play_edits.specs.Outcome.{ItemOutcome}

pub one_checked_output : OneCheckedOutput
one_checked_output database bindings view =
    λ one other first second.
    let (cave, reads, is) = first in
    let (kept, rereads, same) = second in
    is ∙ ap (λ cave. check_text view cave database bindings)
    (same_cave database bindings kept cave rereads reads) ∙ sym same

pub one_played_output : OnePlayedOutput
one_played_output database bindings log seed view =
    λ one other first second.
    let (cave, reads, is) = first in
    let (kept, rereads, same) = second in
    let game = game_of seed (lines log) in
    is
    ∙ ap (λ c. play_view_text view c game) (same_cave database bindings kept cave rereads reads)
    ∙ sym same

-- so for the same items in the same cave it is the same text, with any outcomes
one_view : (view : EditView) (cave : CaveView) (game : Game) (guarded : Bool) (items : List Applied)
    (near far : List ItemOutcome) (one other : List ℕ) → KnowsNoCheckpoints view
    → IsViewOf view cave game guarded items near one
    → IsViewOf view cave game guarded items far other → one ≡ other
one_view Transcript cave game guarded items near far one other free is same = is ∙ sym same
one_view Play cave game guarded items near far one other free is same = is ∙ sym same
one_view Log cave game guarded items near far one other free is same = is.written ∙ sym same.written
one_view Undo cave game guarded items near far one other free is same =
    is.written ∙ sym same.written
one_view Guarded cave game guarded items near far one other free is same =
    is.written ∙ sym same.written
one_view Reports cave game guarded items near far one other free is same = absurd free
one_view Table cave game guarded items near far one other free is same = absurd free
one_view Steps cave game guarded items near far one other free is same = is ∙ sym same
one_view Walk cave game guarded items near far one other free is same = is ∙ sym same
one_view Score cave game guarded items near far one other free is same = is ∙ sym same
one_view FinalState cave game guarded items near far one other free is same = is ∙ sym same

pub one_edited_output : OneEditedOutput
one_edited_output database bindings log script seed near far view guarded strict lenient played
    replayed free =
    λ one other first second.
    let (cave, reads, is) = first in
    let (kept, rereads, same) = second in
    let game = game_of seed (lines log) in
    let opened = log_ends log script in
    let caves = same_cave database bindings kept cave rereads reads in
    let here =
    subst (λ k. IsViewOf view k game guarded is.edit.items is.edit.outcomes is.text) caves
    is.edit.written in
    let spells =
    same_items guarded script is.edit.items same.edit.items is.edit.spelled same.edit.spelled in
    let there =
    subst (λ l. IsViewOf view kept game guarded l is.edit.outcomes is.text) spells here in
    let texts =
    one_view view kept game guarded same.edit.items is.edit.outcomes same.edit.outcomes is.text
    same.text free there same.edit.written in
    is.printed
    ∙ ap (λ items. printed_text (Some view) (ends_after_items items game opened) is.text) spells
    ∙ ap (printed_text (Some view) (ends_after_items same.edit.items game opened)) texts
    ∙ sym same.printed
