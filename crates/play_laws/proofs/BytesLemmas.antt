-- What is printed of an edited log is read again, and the bytes of a log come back.
use Rattle.std.proofs.Common.{◌≡◌, ℕ, ◌+◌, Bool, true, false, List, [], ◌∷◌, length, reverse, All}
use Rattle.std.proofs.Common.{IsTrue, None, Ok, sym, ap, ap₂, ◌∙◌, refl, subst, le-ltb, Some}
use Rattle.std.specs.Prelude.{if◌then◌else◌}
use Rattle.std.specs.Str.Lines.{lines}
use Rattle.std.proofs.lemmas.List.Elements.{All-cons, All-head, All-nil, All-tail}
use Rattle.base_lines.specs.Limits.{MAX_LOG_LINES}
use Rattle.base_lines.specs.Line.{flaw_of, is_line}
use Rattle.base_lines.proofs.GoodLines.{good_bytes}
use Rattle.cave_data.specs.CaveView.{CaveView}
use Rattle.cave_replay.specs.Opening.{first_bad_line}
use Rattle.play_command.specs.declared.views.EditView.TheVariants as asked
use Rattle.play_edits.specs.Undo.{guarded_groups, backs_of}
use Rattle.play_edits.specs.Items.{game_after_items}
use Rattle.play_edits.proofs.EditLemmas.{IsGame-after_all}
use Rattle.play_edits.proofs.GuardedLemmas.{spellable-guarded_all}
use Rattle.play_edits.proofs.SayableLemmas.{spellable-all}
use Rattle.replay_edits.specs.Edit.{Game, IsGame, game_of}
use Rattle.play_edits.specs.Ends.{with_line_ends, ends_in, first_end, are_alike, is_unended, ends_with}
use Rattle.play_edits.specs.Ends.{log_ends, ends_after_items, printed_text}
use Rattle.play_edits.specs.declared.ends.LineEnd.{LineEnd}
use Rattle.play_edits.specs.declared.ends.LineEnd.TheVariants.{Feed}
use Rattle.play_edits.proofs.EndLemmas.{alike-again, ends-alike, first-alike, first-closed}
use Rattle.play_edits.proofs.EndLemmas.{ends_after_items-alike, log_ends-alike, unended-closed}
use Rattle.play_edits.proofs.EndLemmas.{lines-ended}
use Rattle.replay_scripts.proofs.Texts.{IsTextLine}
use Rattle.replay_scripts.specs.Guards.{IsScriptBy, read_guarded_from, unguarded, unguarded_items}
use Rattle.replay_scripts.specs.Script.{Applied, IsScript, read_from}
use Rattle.replay_scripts.proofs.Grammar.{script_of-only}
use Rattle.play_laws.specs.Bytes.{EditedLogsAreAccepted, EndsAlike, GuardedScriptsDoTheSame}
use Rattle.play_laws.specs.Bytes.{UndoGivesTheBytes, UndoScriptsTakeBack}
use Rattle.play_edits.specs.Views.{IsEndedEdit, IsGuarded, IsUndo}
use Rattle.cave_play.specs.Stages.{lines_fault, or_too_many}
use Rattle.cave_play.specs.declared.fault.LogFault.TheVariants as fault_of_log
use Rattle.cave_play.specs.declared.fault.PlayFault.TheVariants as fault
use Rattle.cave_play.proofs.ScriptLemmas.{same_items, script_by-spelled}
use Rattle.cave_play.proofs.JudgeLemmas.{log_fault-lines, script_fault-none}
use Rattle.cave_play.proofs.AcceptedLogs.{IsGame-accepted}
use Rattle.play_laws.proofs.UndoLines.{undo_lines_stand}

-- ---- the lines of a game

abbrev IsGoodLine : List ℕ → Type 0
IsGoodLine line = IsTrue (is_line line)

pub text_lines : (log : List (List ℕ)) → All IsGoodLine log → All IsTextLine log
text_lines [] good = All-nil IsTextLine
text_lines (line ∷ log) good =
    All-cons IsTextLine line log (good_bytes line (All-head IsGoodLine line log good))
    (text_lines log (All-tail IsGoodLine line log good))

none_bad : (log : List (List ℕ)) (number : ℕ) → All IsGoodLine log
    → first_bad_line log number ≡ None
none_bad [] number good = refl
none_bad (line ∷ log) number good =
    ap (λ is. if is then first_bad_line log (number + 1) else Some (number, flaw_of line))
    (All-head IsGoodLine line log good)
    ∙ none_bad log (number + 1) (All-tail IsGoodLine line log good)

-- ---- an edited log

pub lines_printed : (cave : CaveView) (every : ℕ) (log script edited : List ℕ) (seed played : ℕ)
    (guarded : Bool) → IsGame (game_of seed (lines log))
    → (edit : IsEndedEdit asked.Log cave every log seed guarded script played edited)
    → lines edited ≡ (game_after_items edit.edit.items (game_of seed (lines log))).log
lines_printed cave every log script edited seed played guarded good edit =
    let game = game_of seed (lines log) in
    let after = game_after_items edit.edit.items game in
    let ends = ends_after_items edit.edit.items game (log_ends log script) in
    let there = text_lines after.log (IsGame-after_all edit.edit.items game good).lines in
    ap lines edit.printed
    ∙ ap (λ found. lines (with_line_ends ends.usual ends.unended ends.each found))
    edit.edit.written.reads_back
    ∙ lines-ended ends.usual ends.unended ends.each after.log there

no_fault : (game : Game) → IsGame game → lines_fault game.log ≡ None
unfolding lines_fault
no_fault game good =
    ap (λ bad. or_too_many bad (length game.log)) (none_bad game.log 1 good.lines)
    ∙ ap (λ many. if many then Some (fault.Log fault_of_log.Full) else None)
    (le-ltb MAX_LOG_LINES (length game.log) good.few)

pub edited_logs_are_accepted : EditedLogsAreAccepted
edited_logs_are_accepted cave every log script edited seed played guarded free fits edit =
    let game = game_of seed (lines log) in
    let good = IsGame-accepted log seed free fits in
    let same = lines_printed cave every log script edited seed played guarded good edit in
    let after = IsGame-after_all edit.edit.items game good in
    record {
      lines_are = same;
      fault = λ small. log_fault-lines edited small ∙ ap lines_fault same ∙ no_fault _ after;
    }

-- ---- the script that takes edits back

pub by_lines : (guarded : Bool) (text other : List ℕ) (items : List Applied)
    → lines text ≡ lines other → IsScriptBy guarded text items → IsScriptBy guarded other items
by_lines false text other items same spelled = subst (λ found. IsScript 1 found items) same spelled
by_lines true text other items same spelled =
    subst (λ found. (read_guarded_from 1 found [] None [] ≡ Ok items)
    × IsScript 1 (unguarded found) (unguarded_items items)) same spelled

undo_stands : (guarded : Bool) (items : List Applied) (game : Game) (text : List ℕ) → IsGame game
    → IsUndo guarded items game text → All IsTextLine (lines text)
undo_stands guarded items game text good undo =
    let groups = reverse (backs_of guarded items game) in
    subst (λ t. All IsTextLine (lines t)) (sym undo.written)
    (undo_lines_stand guarded groups (spellable-all guarded items game good))

pub lines_undone : (cave : CaveView) (every : ℕ) (log script undo : List ℕ) (seed played : ℕ)
    (guarded : Bool) → IsGame (game_of seed (lines log))
    → (edit : IsEndedEdit asked.Undo cave every log seed guarded script played undo)
    → lines undo ≡ lines edit.text
lines_undone cave every log script undo seed played guarded good edit =
    let game = game_of seed (lines log) in
    let ends = ends_after_items edit.edit.items game (log_ends log script) in
    ap lines edit.printed
    ∙ lines-ended ends.usual false [] (lines edit.text)
    (undo_stands guarded edit.edit.items game edit.text good edit.edit.written)

pub undo_scripts_take_back : UndoScriptsTakeBack
undo_scripts_take_back cave every log script undo seed played guarded free fits edit =
    let good = IsGame-accepted log seed free fits in
    let same = lines_undone cave every log script undo seed played guarded good edit in
    let is = edit.edit.written in
    let spelled = by_lines guarded edit.text undo is.backs (sym same) is.spelled in
    record {
      backs = is.backs;
      spelled = spelled;
      fault = λ small. script_fault-none guarded undo is.backs small
          (script_by-spelled guarded undo is.backs spelled);
      accepted = is.accepted;
      back = is.back;
    }

-- ---- the script with guards

guarded_stands : (items : List Applied) (game : Game) (text : List ℕ) → IsGame game
    → IsGuarded items game text → All IsTextLine (lines text)
guarded_stands items game text good is =
    let groups = guarded_groups items game in
    subst (λ t. All IsTextLine (lines t)) (sym is.written)
    (undo_lines_stand true groups (spellable-guarded_all items game good))

pub guarded_scripts_do_the_same : GuardedScriptsDoTheSame
guarded_scripts_do_the_same cave every log script printed seed played guarded free fits edit =
    let game = game_of seed (lines log) in
    let good = IsGame-accepted log seed free fits in
    let ends = ends_after_items edit.edit.items game (log_ends log script) in
    let is = edit.edit.written in
    let same : lines printed ≡ lines edit.text =
    ap lines edit.printed
    ∙ lines-ended ends.usual false [] (lines edit.text)
    (guarded_stands edit.edit.items game edit.text good is) in
    let spelled = by_lines true edit.text printed is.again (sym same) is.spelled in
    record {
      again = is.again;
      spelled = spelled;
      fault = λ small. script_fault-none true printed is.again small
          (script_by-spelled true printed is.again spelled);
      accepted = is.accepted;
      same = is.same;
    }

-- ---- the bytes

nothing_spelled : (guarded : Bool) (text : List ℕ) (items : List Applied)
    → lines text ≡ [] → IsScriptBy guarded text items → items ≡ []
nothing_spelled false text items none spelled =
    let found : read_from 1 [] [] None [] ≡ Ok items =
    subst (λ all. read_from 1 all [] None [] ≡ Ok items) none (script_of-only text items spelled) in
    cc
nothing_spelled true text items none (read, spelled) =
    let found : read_guarded_from 1 [] [] None [] ≡ Ok items =
    subst (λ all. read_guarded_from 1 all [] None [] ≡ Ok items) none read in
    cc

-- the end of the lines of an alike text, and whether its last line has one
same_unended : (end : LineEnd) (log : List (List ℕ)) (unended : Bool) (edited : List ℕ)
    → edited ≡ with_line_ends end unended [] log → (unended ≡ true → is_unended edited ≡ true)
    → is_unended edited ≡ unended
same_unended end log true edited is shut = shut refl
same_unended end log false edited is shut = ap is_unended is ∙ unended-closed end log

-- the log that comes back, if this is the text of the script that takes the edits back
comes_back : (end : LineEnd) (unended : Bool) (log edited_log undo_lines : List (List ℕ))
    (edited undo : List ℕ) → All IsTextLine log → All IsTextLine edited_log
    → All IsTextLine undo_lines
    → edited ≡ with_line_ends end unended [] edited_log → undo ≡ with_line_ends end false [] undo_lines
    → (undo_lines ≡ [] → edited_log ≡ log) → (unended ≡ true → is_unended edited ≡ true)
    → with_line_ends (first_end (first_end Feed (ends_in undo)) (ends_in edited)) (is_unended edited) []
    log ≡ with_line_ends end unended [] log
comes_back end unended log edited_log [] edited undo good after there is undo_is none shut =
    let same : edited ≡ with_line_ends end unended [] log =
    is ∙ ap (with_line_ends end unended []) (none refl) in
    alike-again end (first_end Feed (ends_in undo)) unended log edited good same ∙ same
comes_back end unended log edited_log (first ∷ more) edited undo good after there is undo_is none
    shut =
    let usual : first_end Feed (ends_in undo) ≡ end =
    ap (λ text. first_end Feed (ends_in text)) undo_is ∙ first-closed end Feed first more there in
    let all : are_alike end (ends_in edited) ≡ true =
    ap (λ text. are_alike end (ends_in text)) is
    ∙ ends-alike end unended edited_log after in
    ap (λ one. with_line_ends (first_end one (ends_in edited)) (is_unended edited) [] log) usual
    ∙ ap (λ one. with_line_ends one (is_unended edited) [] log) (first-alike end (ends_in edited) all)
    ∙ ap (λ is. with_line_ends end is [] log) (same_unended end edited_log unended edited is shut)

-- how the lines of a log end after edits, if they all ended alike
pub ends_stay : (end : LineEnd) (unended : Bool) (items : List Applied) (game : Game)
    (log script : List ℕ) (each : List (List ℕ)) → All IsTextLine each
    → log ≡ with_line_ends end unended [] each
    → ends_after_items items game (log_ends log script)
    ≡ ends_with (first_end (first_end Feed (ends_in script)) (ends_in log)) [] (is_unended log)
    (ends_in script)
ends_stay end unended items game log script each good alike =
    ap (ends_after_items items game) (log_ends-alike end unended each log script good alike)
    ∙ ends_after_items-alike items game
    (first_end (first_end Feed (ends_in script)) (ends_in log)) (is_unended log) (ends_in script)

-- of any game that a session can hold
pub bytes_undone : (cave : CaveView) (every : ℕ) (log script edited undo again : List ℕ)
    (seed next played counted replayed : ℕ) (guarded : Bool) → IsGame (game_of seed (lines log))
    → EndsAlike log
    → (first : IsEndedEdit asked.Log cave every log seed guarded script played edited)
    → IsEndedEdit asked.Undo cave every log seed guarded script counted undo
    → next ≡ (game_after_items first.edit.items (game_of seed (lines log))).seed
    → (is_unended log ≡ true → is_unended edited ≡ true)
    → IsEndedEdit asked.Log cave every edited next guarded undo replayed again → again ≡ log
bytes_undone cave every log script edited undo again seed next played counted replayed guarded good
    (end, unended, alike) first second seeds shut third =
    let game = game_of seed (lines log) in
    let items = first.edit.items in
    let after = game_after_items items game in
    let kept = text_lines (lines log) good.lines in
    let changed = text_lines after.log (IsGame-after_all items game good).lines in
    let usual = first_end (first_end Feed (ends_in script)) (ends_in log) in
    let log_is : with_line_ends usual (is_unended log) [] (lines log) ≡ log =
    alike-again end (first_end Feed (ends_in script)) unended (lines log) log kept alike in
    let edited_is : edited ≡ with_line_ends usual (is_unended log) [] after.log =
    first.printed
    ∙ ap (λ ends. printed_text (Some asked.Log) ends first.text)
    (ends_stay end unended items game log script (lines log) kept alike)
    ∙ ap (with_line_ends usual (is_unended log) []) first.edit.written.reads_back in
    let undo_is : undo ≡ with_line_ends usual false [] (lines second.text) =
    second.printed
    ∙ ap (λ ends. printed_text (Some asked.Undo) ends second.text)
    (ends_stay end unended second.edit.items game log script (lines log) kept alike) in
    let there =
    undo_stands guarded second.edit.items game second.text good second.edit.written in
    let spells = same_items guarded script second.edit.items items second.edit.spelled
    first.edit.spelled in
    let taken : IsUndo guarded items game second.text =
    subst (λ some. IsUndo guarded some game second.text) spells second.edit.written in
    let backs = taken.backs in
    let spelled =
    by_lines guarded second.text undo backs
    (sym (lines_undone cave every log script undo seed counted guarded good second))
    taken.spelled in
    let same = same_items guarded undo third.edit.items backs third.edit.spelled spelled in
    let now : game_of next (lines edited) ≡ after =
    ap₂ game_of seeds (lines_printed cave every log script edited seed played guarded good first) in
    let back : game_after_items third.edit.items (game_of next (lines edited)) ≡ game =
    ap₂ game_after_items same now ∙ taken.back in
    let none : lines second.text ≡ [] → after.log ≡ lines log =
    λ empty. ap (λ (g : Game). g.log)
    (sym (ap (λ some. game_after_items some after)
    (nothing_spelled guarded second.text backs empty taken.spelled)) ∙ taken.back) in
    third.printed
    ∙ ap (λ ends. printed_text (Some asked.Log) ends third.text)
    (ends_stay usual (is_unended log) third.edit.items (game_of next (lines edited)) edited undo
    after.log changed edited_is)
    ∙ ap (with_line_ends (first_end (first_end Feed (ends_in undo)) (ends_in edited))
    (is_unended edited) [])
    (third.edit.written.reads_back ∙ ap (λ (g : Game). g.log) back)
    ∙ comes_back usual (is_unended log) (lines log) after.log (lines second.text) edited undo kept
    changed there edited_is undo_is none shut
    ∙ log_is

pub undo_gives_the_bytes : UndoGivesTheBytes
undo_gives_the_bytes cave every log script edited undo again seed next played counted replayed
    guarded free fits alike first second seeds shut third =
    bytes_undone cave every log script edited undo again seed next played counted replayed guarded
    (IsGame-accepted log seed free fits) alike first second seeds shut third
