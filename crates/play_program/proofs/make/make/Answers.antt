use Rattle.std.proofs.Common.{◌≡◌, [], Err, None, Ok, ap, refl, rules, subst, sym, ◌∙◌}
use Rattle.std.proofs.lemmas.Result.{err_from_is_err_and}
use Rattle.std.specs.Prelude.{unwrap_or}
use Rattle.check_tables.specs.Known.{known_entries}
use Rattle.play_command.specs.declared.line.Input.TheVariants as input
use Rattle.play_cover.specs.Plays.{IsCovered, cover_stages}
use Rattle.cave_play.specs.Logs.{IsMadeReport, JudgesLogs}
use Rattle.cave_play.specs.Sources.{InputTexts, next_log}
use Rattle.cave_play.proofs.LogLemmas.{AllSay-some}
use Rattle.cave_play.proofs.SourceLemmas.{said, some_bytes}
use Rattle.play_program.specs.Files.{file_of}
use Rattle.play_program.specs.Ends.{made_by, unshown}
use Rattle.std.specs.Result.{result_from_control_flow}
use Rattle.play_program.proofs.MakeLemmas.{IsJudged, now_of_name}
use Rattle.play_program.proofs.make.make.Goals as goal

pub returns-in_err-make_check-in-Check : goal.returns-in_err-make_check-in-Check
returns-in_err-make_check-in-Check g c =
    let exit =
    err_from_is_err_and c.from_residual.result
    c.from_residual.ensures.1 in
    let held = g.I.Sources.held c.args.inputs.now in
    let (texts, are, made) = c.in_err-make_check-in-Check.ensures.judged in
    let (logs, every) = AllSay-some held.logs in
    rw (exit.1, exit.2, c.in-Check.is)
    (record {
      judged = (texts, logs, are, every, (Err _, made, refl));
      all = tt;
      leads = c.in_err-make_check-in-Check.ensures.leads;
    })

pub returns-in_ok-make_check-in-Check : goal.returns-in_ok-make_check-in-Check
returns-in_ok-make_check-in-Check g c =
    let held = g.I.Sources.held c.args.inputs.now in
    let (texts, are, made) = c.in_ok-make_check-in-Check.ensures.judged in
    let (logs, every) = AllSay-some held.logs in
    rw c.in-Check.is
    (record {
      judged = (texts, logs, are, every, (Ok _, made, ap Ok c.of.ensures));
      all = tt;
      leads = c.in_ok-make_check-in-Check.ensures.leads;
    })

pub returns-in_err-text-in-Doubts-clause-judged : goal.returns-in_err-text-in-Doubts-clause-judged
returns-in_err-text-in-Doubts-clause-judged g c =
    let exit =
    err_from_is_err_and c.from_residual-in_err-text-in-Doubts.result
    c.from_residual-in_err-text-in-Doubts.ensures.1 in
    let held = g.I.Sources.held c.args.inputs.now in
    let (texts, are, made) = c.in_err-text-in-Doubts.ensures.judged in
    let (logs, every) = AllSay-some held.logs in
    subst (λ what. IsJudged what c.args.request.now held
    c.from_residual-in_err-text-in-Doubts.result) (sym c.in-Doubts.is) (
      texts,
      logs,
      are,
      every,
      (
        Err _,
        c.doubt_files-files.result,
        c.doubt_files-files.ensures,
        made,
        exit.1 ∙ ap Err exit.2,
      ),
    )

pub returns-in_ok-text-in-Doubts-clause-judged : goal.returns-in_ok-text-in-Doubts-clause-judged
returns-in_ok-text-in-Doubts-clause-judged g c =
    let held = g.I.Sources.held c.args.inputs.now in
    let (texts, are, made) = c.in_ok-text-in-Doubts.ensures.judged in
    let (logs, every) = AllSay-some held.logs in
    subst (λ what. IsJudged what c.args.request.now held (Ok c.of-in-Doubts.result))
    (sym c.in-Doubts.is) (
      texts,
      logs,
      are,
      every,
      (
        Ok _,
        c.doubt_files-files.result,
        c.doubt_files-files.ensures,
        made,
        search rules,
      ),
    )

pub returns-in_err-make_play-in-Play : goal.returns-in_err-make_play-in-Play
returns-in_err-make_play-in-Play g c =
    let exit =
    err_from_is_err_and c.from_residual-in_err-make_play-in-Play.result
    c.from_residual-in_err-make_play-in-Play.ensures.1 in
    let held = g.I.Sources.held c.args.inputs.now in
    let (texts, are, made) = c.in_err-make_play-in-Play.ensures.judged in
    let (logs, every) = AllSay-some held.logs in
    rw (exit.1, exit.2, c.in-Play.is)
    (record {
      judged = (texts, logs, are, every, (Err _, made, refl));
      all = tt;
      leads = c.in_err-make_play-in-Play.ensures.leads;
    })

pub returns-in_ok-make_play-in-Play : goal.returns-in_ok-make_play-in-Play
returns-in_ok-make_play-in-Play g c =
    let held = g.I.Sources.held c.args.inputs.now in
    let (texts, are, made) = c.in_ok-make_play-in-Play.ensures.judged in
    let (logs, every) = AllSay-some held.logs in
    rw c.in-Play.is
    (record {
      judged = (texts, logs, are, every, (Ok _, made, ap Ok c.of-in-Play.ensures));
      all = tt;
      leads = c.in_ok-make_play-in-Play.ensures.leads;
    })

pub returns-in_err-edited-in-Script-edits_from : goal.returns-in_err-edited-in-Script-edits_from
returns-in_err-edited-in-Script-edits_from g c =
    let exit =
    err_from_is_err_and c.from_residual-in_err-edited-in-Script-edits_from.result
    c.from_residual-in_err-edited-in-Script-edits_from.ensures.1 in
    let held = g.I.Sources.held c.args.inputs.now in
    let (texts, are, made) = c.in_err-edited-in-Script-edits_from.ensures.judged in
    let (logs, every) = AllSay-some held.logs in
    rw (exit.1, exit.2, c.in-Edit.is, c.in-Script-edits_from.is)
    (record {
      judged = (texts, logs, are, every, (Err _, made, refl));
      all = tt;
      leads = c.in_err-edited-in-Script-edits_from.ensures.leads;
    })

pub returns-in_ok-edited-in-Script-edits_from : goal.returns-in_ok-edited-in-Script-edits_from
returns-in_ok-edited-in-Script-edits_from g c =
    let held = g.I.Sources.held c.args.inputs.now in
    let (texts, are, made) = c.in_ok-edited-in-Script-edits_from.ensures.judged in
    let (logs, every) = AllSay-some held.logs in
    rw (c.in-Edit.is, c.in-Script-edits_from.is)
    (record {
      judged = (texts, logs, are, every, (Ok _, made, ap Ok c.of-in-Script-edits_from.ensures));
      all = tt;
      leads = c.in_ok-edited-in-Script-edits_from.ensures.leads;
    })

pub returns-in_err-edited-in-NewLog : goal.returns-in_err-edited-in-NewLog
returns-in_err-edited-in-NewLog g c =
    let exit =
    err_from_is_err_and c.from_residual-in_err-edited-in-NewLog.result
    c.from_residual-in_err-edited-in-NewLog.ensures.1 in
    let held = g.I.Sources.held c.args.inputs.now in
    let (texts, are, made) = c.in_err-edited-in-NewLog.ensures.judged in
    let (logs, every) = AllSay-some held.logs in
    rw (exit.1, exit.2, c.in-Edit.is, c.in-NewLog.is)
    (record {
      judged = (texts, logs, are, every, (Err _, made, refl));
      all = tt;
      leads = c.in_err-edited-in-NewLog.ensures.leads;
    })

pub returns-in_ok-edited-in-NewLog : goal.returns-in_ok-edited-in-NewLog
returns-in_ok-edited-in-NewLog g c =
    let held = g.I.Sources.held c.args.inputs.now in
    let (texts, are, made) = c.in_ok-edited-in-NewLog.ensures.judged in
    let (logs, every) = AllSay-some held.logs in
    rw (c.in-Edit.is, c.in-NewLog.is)
    (record {
      judged = (texts, logs, are, every, (Ok _, made, ap Ok c.of-in-NewLog.ensures));
      all = tt;
      leads = c.in_ok-edited-in-NewLog.ensures.leads;
    })

pub returns-in_err-make_script-in-Script : goal.returns-in_err-make_script-in-Script
returns-in_err-make_script-in-Script g c =
    let exit =
    err_from_is_err_and c.from_residual-in_err-make_script-in-Script.result
    c.from_residual-in_err-make_script-in-Script.ensures.1 in
    let held = g.I.Sources.held c.args.inputs.now in
    let (texts, are, made) = c.in_err-make_script-in-Script.ensures.judged in
    let (logs, every) = AllSay-some held.logs in
    rw (exit.1, exit.2, c.in-Script.is)
    (record {
      judged = (texts, logs, are, every, (Err _, made, refl));
      all = tt;
      leads = c.in_err-make_script-in-Script.ensures.leads;
    })

pub returns-in_ok-make_script-in-Script : goal.returns-in_ok-make_script-in-Script
returns-in_ok-make_script-in-Script g c =
    let held = g.I.Sources.held c.args.inputs.now in
    let (texts, are, made) = c.in_ok-make_script-in-Script.ensures.judged in
    let (logs, every) = AllSay-some held.logs in
    rw c.in-Script.is
    (record {
      judged = (texts, logs, are, every, (Ok _, made, ap Ok c.of-in-Script.ensures));
      all = tt;
      leads = c.in_ok-make_script-in-Script.ensures.leads;
    })

pub returns-in_err-text-in-Cover-clause-judged : goal.returns-in_err-text-in-Cover-clause-judged
returns-in_err-text-in-Cover-clause-judged g c =
    let exit =
    err_from_is_err_and c.from_residual-in_err-text-in-Cover.result
    c.from_residual-in_err-text-in-Cover.ensures.1 in
    let held = g.I.Sources.held c.args.inputs.now in
    let (database, bindings, list, logs, one, two, three, last, made) =
    c.make_cover.ensures.judged in
    let texts : InputTexts = record {
      database = database;
      bindings = bindings;
      log = some_bytes (next_log held.logs);
      new_log = some_bytes held.new_log;
      script = some_bytes held.script;
      known = list;
    } in
    let known : c.unwrap_or-known.result.now
    ≡ unwrap_or (file_of c.args.request.now input.Known 0) [] =
    ap (λ s. s.now) c.unwrap_or-known.ensures ∙ now_of_name c.file_of.result _
    ∙ ap (λ name. unwrap_or name []) c.file_of.ensures in
    let is =
    ap (made_by (λ _. None) (unshown c.in-Cover.strict) (λ found. found))
    (c.branch-text-in-Cover.ensures
    ∙ ap result_from_control_flow c.in_err-text-in-Cover.is) in
    subst (λ what. IsJudged what c.args.request.now held
    c.from_residual-in_err-text-in-Cover.result) (sym c.in-Cover.is) (
      texts,
      logs,
      record {
        database = one;
        bindings = two;
        log = said (next_log held.logs);
        new_log = said held.new_log;
        script = said held.script;
        known = three;
      },
      last,
      (
        c.make_cover.result,
        subst (λ name. JudgesLogs (cover_stages database bindings list c.in-Cover.seed) logs
            (IsMadeReport (IsCovered database bindings (known_entries name list) logs
            c.in-Cover.seed c.in-Cover.view)) c.make_cover.result) known made,
        exit.1 ∙ ap Err exit.2 ∙ sym is,
      ),
    )

pub returns-after-strict-clause-judged : goal.returns-after-strict-clause-judged
returns-after-strict-clause-judged g c =
    let held = g.I.Sources.held c.args.inputs.now in
    let (database, bindings, list, logs, one, two, three, last, made) =
    c.make_cover.ensures.judged in
    let texts : InputTexts = record {
      database = database;
      bindings = bindings;
      log = some_bytes (next_log held.logs);
      new_log = some_bytes held.new_log;
      script = some_bytes held.script;
      known = list;
    } in
    let known : c.unwrap_or-known.result.now
    ≡ unwrap_or (file_of c.args.request.now input.Known 0) [] =
    ap (λ s. s.now) c.unwrap_or-known.ensures ∙ now_of_name c.file_of.result _
    ∙ ap (λ name. unwrap_or name []) c.file_of.ensures in
    let is =
    ap (made_by (λ _. None) (unshown c.in-Cover.strict) (λ found. found))
    (c.branch-text-in-Cover.ensures
    ∙ ap result_from_control_flow c.in_ok-text-in-Cover.is) in
    subst (λ what. IsJudged what c.args.request.now held
    (Ok c.of-in-Cover.result)) (sym c.in-Cover.is) (
      texts,
      logs,
      record {
        database = one;
        bindings = two;
        log = said (next_log held.logs);
        new_log = said held.new_log;
        script = said held.script;
        known = three;
      },
      last,
      (
        c.make_cover.result,
        subst (λ name. JudgesLogs (cover_stages database bindings list c.in-Cover.seed) logs
            (IsMadeReport (IsCovered database bindings (known_entries name list) logs
            c.in-Cover.seed c.in-Cover.view)) c.make_cover.result) known made,
        ap Ok (c.of-in-Cover.ensures ∙ search rules) ∙ sym is,
      ),
    )

pub returns-in_err-make_map-in-Map : goal.returns-in_err-make_map-in-Map
returns-in_err-make_map-in-Map g c =
    let exit =
    err_from_is_err_and c.from_residual-in_err-make_map-in-Map.result
    c.from_residual-in_err-make_map-in-Map.ensures.1 in
    let held = g.I.Sources.held c.args.inputs.now in
    let (database, bindings, logs, one, two, last, made) =
    c.in_err-make_map-in-Map.ensures.judged in
    rw (exit.1, exit.2, c.in-Map.is)
    (record {
      judged = (
        record {
          database = database;
          bindings = bindings;
          log = some_bytes (next_log held.logs);
          new_log = some_bytes held.new_log;
          script = some_bytes held.script;
          known = some_bytes held.known;
        },
        logs,
        record {
          database = one;
          bindings = two;
          log = said (next_log held.logs);
          new_log = said held.new_log;
          script = said held.script;
          known = said held.known;
        },
        last,
        (Err _, made, refl),
      );
      all = tt;
      leads = c.in_err-make_map-in-Map.ensures.leads;
    })

pub returns-in_ok-make_map-in-Map : goal.returns-in_ok-make_map-in-Map
returns-in_ok-make_map-in-Map g c =
    let held = g.I.Sources.held c.args.inputs.now in
    let (database, bindings, logs, one, two, last, made) = c.in_ok-make_map-in-Map.ensures.judged in
    rw c.in-Map.is
    (record {
      judged = (
        record {
          database = database;
          bindings = bindings;
          log = some_bytes (next_log held.logs);
          new_log = some_bytes held.new_log;
          script = some_bytes held.script;
          known = some_bytes held.known;
        },
        logs,
        record {
          database = one;
          bindings = two;
          log = said (next_log held.logs);
          new_log = said held.new_log;
          script = said held.script;
          known = said held.known;
        },
        last,
        (Ok _, made, ap Ok c.of-in-Map.ensures),
      );
      all = c.in_ok-make_map-in-Map.ensures.all;
      leads = c.in_ok-make_map-in-Map.ensures.leads;
    })
