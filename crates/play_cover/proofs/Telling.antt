-- The report by marks is the report on what the plays of logs cover.
use Rattle.std.proofs.Common.{◌≡◌, ℕ, Bool, List, length, sym, ap, ◌∙◌}
use Rattle.std.specs.Str.Lines.{lines}
use Rattle.std.proofs.lemmas.List.{length-map}
use Rattle.std.proofs.lemmas.List.Folds.{flat_map-map}
use Rattle.cave_data.specs.CaveView.{CaveView}
use Rattle.cave_data.specs.Reads.{Reads}
use Rattle.play_command.specs.declared.views.CoverView.{CoverView}
use Rattle.cave_play.specs.Logs.{games_of}
use Rattle.replay_edits.specs.Edit.{Game, game_of}
use Rattle.check_tables.specs.Known.{KnownEntries}
use Rattle.check_tables.specs.Marks.{AreMarksOf, is_among, is_marked}
use Rattle.play_cover.specs.Plays.{IsCovered, cover_text, covered_in, left_by, left_in_games}
use Rattle.play_cover.specs.Plays.{left_in_logs, report_by, report_of_logs, report_on_games}
use Rattle.std.specs.List.{flat_map}

module _ (view : CoverView) (known : KnownEntries) (database : List ℕ) (cave : CaveView) where
  -- the report by the marks of games is that on the games
  pub told_by_marks : (games : List Game) (marks : List (List Bool)) (count : ℕ)
      → AreMarksOf (flat_map (covered_in view cave) games) marks → count ≡ length games
      → report_by view known database cave (is_marked marks) count
      ≡ report_on_games view known database cave games
  told_by_marks games marks count marked many =
      λ i. report_by view known database cave (λ mark. marked.is mark i) (many i)

  -- what is left by the marks of games is left in the games
  pub left_by_marks : (games : List Game) (marks : List (List Bool))
      → AreMarksOf (flat_map (covered_in view cave) games) marks
      → left_by view known database cave (is_marked marks)
      ≡ left_in_games view known database cave games
  left_by_marks games marks marked =
      λ i. left_by view known database cave (λ mark. marked.is mark i)

  -- the report on the games of logs is that on the logs
  games_reported : (seed : ℕ) (logs : List (List ℕ))
      → report_on_games view known database cave (games_of seed logs)
      ≡ cover_text known database cave seed view logs
  games_reported seed logs =
      let game = λ (log : List ℕ). game_of seed (lines log) in
      ap (λ marks. report_by view known database cave (λ mark. is_among mark marks)
      (length (games_of seed logs))) (flat_map-map (covered_in view cave) game logs)
      ∙ ap (report_of_logs known database cave seed view logs) (length-map logs game)

  games_left : (seed : ℕ) (logs : List (List ℕ))
      → left_in_games view known database cave (games_of seed logs)
      ≡ left_in_logs known database cave seed view logs
  games_left seed logs =
      let game = λ (log : List ℕ). game_of seed (lines log) in
      ap (λ marks. left_by view known database cave (λ mark. is_among mark marks))
      (flat_map-map (covered_in view cave) game logs)

pub covered-reported : (database bindings : List ℕ) (logs : List (List ℕ)) (seed : ℕ)
    (asked view : CoverView) (listed known : KnownEntries) (left : ℕ) (output : List ℕ)
    → asked ≡ view → known ≡ listed
    → ((cave : CaveView) × Reads database bindings cave
    × ((output ≡ report_on_games view known database cave (games_of seed logs))
    × (left ≡ left_in_games view known database cave (games_of seed logs))))
    → IsCovered database bindings listed logs seed asked left output
covered-reported database bindings logs seed asked view listed known left output is same
    (cave, reads, (told, found)) = (
      cave,
      reads,
      told ∙ games_reported view known database cave seed logs
          ∙ (λ i. cover_text (same i) database cave seed (sym is i) logs),
      found ∙ games_left view known database cave seed logs
          ∙ (λ i. left_in_logs (same i) database cave seed (sym is i) logs),
    )
