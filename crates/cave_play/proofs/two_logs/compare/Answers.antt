use Rattle.cave_play.proofs.SourceLemmas.{goes_on, once, same_cave, same_cave_bindings}
use Rattle.cave_play.proofs.SourceLemmas.{same_new_log}
use Rattle.std.proofs.Common.{◌≡◌, ℕ, List, [], ◌∷◌, Ok, Err, ap, ◌∙◌}
use Rattle.std.proofs.lemmas.Result.{err_from_is_err_and}
use Rattle.std.specs.Global.{Vec}
use Rattle.replay_edits.specs.Edit.{log_of}
use Rattle.replay_edits.specs.LineText.{LineText}
use Rattle.cave_play.specs.Stages.{log_stage}
use Rattle.cave_play.specs.Output.{new_log_stage, two_logs_stages}
use Rattle.cave_play.proofs.InputLemmas.{Says-some}
use Rattle.cave_play.proofs.JudgeLemmas.{IsFoundIn-log, Judges-log}
use Rattle.cave_play.proofs.StageLemmas.{IsFoundIn-first, IsFoundIn-later, IsFoundIn-memory}
use Rattle.cave_play.proofs.StageLemmas.{first_decided-later}
use Rattle.cave_play.specs.Sources.{Held}
use Rattle.cave_play.proofs.TwoLogLemmas.{IsDifferenceOf-grown, IsFoundIn-new_log, IsFoundIn-unread}
use Rattle.cave_play.proofs.TwoLogLemmas.{IsLog-accepted, IsLog-new, first_decided-new_log}
use Rattle.cave_play.proofs.two_logs.compare.Goals as goal

-- the lines are those of a log
abbrev AreLines : List (List ℕ) → Vec LineText → Type 0
AreLines log copies = log_of copies.items ≡ log

pub push_difference-requires-clause-old_opens : goal.push_difference-requires-clause-old_opens
push_difference-requires-clause-old_opens g c =
    let (old, said, read) = c.in_ok-log.ensures.read in
    let first =
    Judges-log AreLines old c.deref.result.now (Ok c.in_ok-old.old)
    (c.deref.ensures.value ∙ read.0) read.1 c.in_ok-old.ensures.judged in
    IsLog-accepted old _ (ap log_of c.deref-3.ensures.value ∙ first.1) first.0

pub push_difference-requires-clause-new_opens : goal.push_difference-requires-clause-new_opens
push_difference-requires-clause-new_opens g c =
    let (made, said, read) = c.in_ok-new_log.ensures.read in
    let second =
    Judges-log AreLines made c.deref-2.result.now (Ok c.in-Ok.lines)
    (c.deref-2.ensures.value ∙ read.0) read.1 c.in-Ok.ensures.judged in
    IsLog-new made _ (ap log_of c.deref-4.ensures.value ∙ second.1)
    (first_decided-new_log made second.0)

pub returns-in_err-log : goal.returns-in_err-log
returns-in_err-log g c =
    let exit = err_from_is_err_and c.from_residual.result c.from_residual.ensures.1 in
    let (old, said, refused) = c.in_err-log.ensures.read in
    let (made, other) = Says-some (g.I.Sources.held c.args.inputs.now).new_log in
    let taken = c.in_err-log.ensures.taken in
    rw (exit.1, exit.2)
    (record {
      judged = (
        old,
        made,
        said,
        other,
        IsFoundIn-first (log_stage old ∷ []) (new_log_stage made ∷ []) _
            (IsFoundIn-log old _ refused),
      );
      cave = ap (λ (held : Held). held.cave) taken.others;
      bindings = ap (λ (held : Held). held.bindings) taken.others;
      leads = once g.I.Sources.Reads _ _ _ c.in_err-log.ensures.reads;
    })

pub returns-in_err-old : goal.returns-in_err-old
returns-in_err-old g c =
    let exit =
    err_from_is_err_and c.from_residual-in_err-old.result
    c.from_residual-in_err-old.ensures.1 in
    let (old, said, read) = c.in_ok-log.ensures.read in
    let (made, other) = Says-some (g.I.Sources.held c.args.inputs.now).new_log in
    let taken = c.in_ok-log.ensures.taken in
    let found =
    Judges-log AreLines old c.deref.result.now (Err _)
    (c.deref.ensures.value ∙ read.0) read.1 c.in_err-old.ensures.judged in
    rw (exit.1, exit.2)
    (record {
      judged = (
        old,
        made,
        said,
        other,
        IsFoundIn-first (log_stage old ∷ []) (new_log_stage made ∷ []) _ found,
      );
      cave = ap (λ (held : Held). held.cave) taken.others;
      bindings = ap (λ (held : Held). held.bindings) taken.others;
      leads = once g.I.Sources.Reads _ _ _ c.in_ok-log.ensures.reads;
    })

pub returns-in_err-new_log : goal.returns-in_err-new_log
returns-in_err-new_log g c =
    let exit =
    err_from_is_err_and c.from_residual-in_err-new_log.result
    c.from_residual-in_err-new_log.ensures.1 in
    let (old, said, read) = c.in_ok-log.ensures.read in
    let first =
    Judges-log AreLines old c.deref.result.now (Ok c.in_ok-old.old)
    (c.deref.ensures.value ∙ read.0) read.1 c.in_ok-old.ensures.judged in
    let (made, said_new, refused) = c.in_err-new_log.ensures.read in
    let taken = c.in_ok-log.ensures.taken in
    rw (exit.1, exit.2)
    (record {
      judged = (
        old,
        made,
        said,
        same_new_log _ _ made taken said_new,
        IsFoundIn-later (log_stage old ∷ []) (new_log_stage made ∷ []) _ first.0
            (IsFoundIn-unread made _ refused),
      );
      cave = same_cave _ _ _ taken c.in_err-new_log.ensures.taken;
      bindings = same_cave_bindings _ _ _ taken c.in_err-new_log.ensures.taken;
      leads = goes_on g.I.Sources.Reads _ _ _
          (once g.I.Sources.Reads _ _ _ c.in_ok-log.ensures.reads)
          (once g.I.Sources.Reads _ _ _ c.in_err-new_log.ensures.reads);
    })

pub returns-in-Err : goal.returns-in-Err
returns-in-Err g c =
    let (old, said, read) = c.in_ok-log.ensures.read in
    let first =
    Judges-log AreLines old c.deref.result.now (Ok c.in_ok-old.old)
    (c.deref.ensures.value ∙ read.0) read.1 c.in_ok-old.ensures.judged in
    let (made, said_new, more) = c.in_ok-new_log.ensures.read in
    let taken = c.in_ok-log.ensures.taken in
    rw c.new_log_fault.ensures
    (record {
      judged = (
        old,
        made,
        said,
        same_new_log _ _ made taken said_new,
        IsFoundIn-later (log_stage old ∷ []) (new_log_stage made ∷ []) _ first.0
            (IsFoundIn-new_log made _ _ (c.deref-2.ensures.value ∙ more.0) more.1
            c.in-Err.ensures.judged),
      );
      cave = same_cave _ _ _ taken c.in_ok-new_log.ensures.taken;
      bindings = same_cave_bindings _ _ _ taken c.in_ok-new_log.ensures.taken;
      leads = goes_on g.I.Sources.Reads _ _ _
          (once g.I.Sources.Reads _ _ _ c.in_ok-log.ensures.reads)
          (once g.I.Sources.Reads _ _ _ c.in_ok-new_log.ensures.reads);
    })

pub returns-in_err-push_difference : goal.returns-in_err-push_difference
returns-in_err-push_difference g c =
    let exit =
    err_from_is_err_and c.from_residual-in_err-push_difference.result
    c.from_residual-in_err-push_difference.ensures.1 in
    let (old, said, read) = c.in_ok-log.ensures.read in
    let (made, said_new, more) = c.in_ok-new_log.ensures.read in
    let taken = c.in_ok-log.ensures.taken in
    rw (exit.1, exit.2)
    (record {
      judged = (
        old,
        made,
        said,
        same_new_log _ _ made taken said_new,
        IsFoundIn-memory (two_logs_stages old made),
      );
      cave = same_cave _ _ _ taken c.in_ok-new_log.ensures.taken;
      bindings = same_cave_bindings _ _ _ taken c.in_ok-new_log.ensures.taken;
      leads = goes_on g.I.Sources.Reads _ _ _
          (once g.I.Sources.Reads _ _ _ c.in_ok-log.ensures.reads)
          (once g.I.Sources.Reads _ _ _ c.in_ok-new_log.ensures.reads);
    })

pub returns : goal.returns
returns g c =
    let (old, said, read) = c.in_ok-log.ensures.read in
    let first =
    Judges-log AreLines old c.deref.result.now (Ok c.in_ok-old.old)
    (c.deref.ensures.value ∙ read.0) read.1 c.in_ok-old.ensures.judged in
    let (made, said_new, more) = c.in_ok-new_log.ensures.read in
    let second =
    Judges-log AreLines made c.deref-2.result.now (Ok c.in-Ok.lines)
    (c.deref-2.ensures.value ∙ more.0) more.1 c.in-Ok.ensures.judged in
    let taken = c.in_ok-log.ensures.taken in
    let decided =
    first_decided-later (log_stage old ∷ []) (new_log_stage made ∷ []) first.0
    ∙ first_decided-new_log made second.0 in
    let difference =
    IsDifferenceOf-grown c.args.form old made _ _ _ c.push_difference.new.text.items
    (ap log_of c.deref-3.ensures.value ∙ first.1) (ap log_of c.deref-4.ensures.value ∙ second.1)
    c.new-script.ensures.items c.in_ok-push_difference.ensures.script
    c.in_ok-push_difference.ensures.none in
    record {
      judged = (
        old,
        made,
        said,
        same_new_log _ _ made taken said_new,
        (decided, (read.0, difference)),
      );
      cave = same_cave _ _ _ taken c.in_ok-new_log.ensures.taken;
      bindings = same_cave_bindings _ _ _ taken c.in_ok-new_log.ensures.taken;
      leads = goes_on g.I.Sources.Reads _ _ _
          (once g.I.Sources.Reads _ _ _ c.in_ok-log.ensures.reads)
          (once g.I.Sources.Reads _ _ _ c.in_ok-new_log.ensures.reads);
    }
