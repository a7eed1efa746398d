-- More logs cover what fewer cover.
use Rattle.std.proofs.Common.{◌≡◌, ℕ, Bool, true, false, cond, List, [], ◌∷◌, ◌++◌, sym, ap, subst}
use Rattle.std.proofs.Common.{◌∙◌}
use Rattle.std.specs.Prelude.{◌||◌, not}
use Rattle.std.specs.List.{filter}
use Rattle.std.proofs.lemmas.Grind.{flat_map-append}
use Rattle.std.proofs.lemmas.List.Folds.{list_any-append}
use Rattle.cave_data.specs.CaveView.{CaveView}
use Rattle.cave_world.specs.declared.tables.RuleRow.TheVariants.{OfPlace}
use Rattle.play_command.specs.declared.views.CoverView.{CoverView}
use Rattle.play_command.specs.declared.views.CoverView.TheVariants.{Rules, Said}
use Rattle.play_cover.specs.Coverage.{Catalogue, missing}
use Rattle.check_tables.specs.Marks.{is_among, is_same, mark}
use Rattle.play_cover.specs.MoreLogs.{covered_by, IsPartOf, keeps, leaves_out, MoreLogsListNoMore}
use Rattle.play_cover.specs.MoreLogs.{nothing_left}
use Rattle.play_cover.specs.Plays.{covered_in_all, covered_in_log}
use Rattle.play_cover.specs.RowMarks.{mark_of_row, rule_rows}
use Rattle.play_cover.specs.TravelRows.{ways_missing}
use Rattle.play_cover.specs.Texts.{cave_texts}
use Rattle.check_tables.specs.declared.marks.Mark.{Mark}

covered_by-more : (view : CoverView) (cave : CaveView) (seed : ℕ) (logs more : List (List ℕ))
    (one : Mark) → covered_by view cave seed (logs ++ more) one
    ≡ (covered_by view cave seed logs one || covered_by view cave seed more one)
covered_by-more view cave seed logs more one =
    ap (is_among one) (flat_map-append (covered_in_log view cave seed) logs more)
    ∙ list_any-append (is_same one) (covered_in_all view cave seed logs)
    (covered_in_all view cave seed more)

by_tests : {A : Type 0} {few all : List A} (x : A) (first later : Bool) → IsPartOf few all
    → IsPartOf (cond (not (first || later)) (x ∷ few) few) (cond (not first) (x ∷ all) all)
by_tests x true later part = part
by_tests x false true part = leaves_out part
by_tests x false false part = keeps part

-- what neither of two tests finds is part of what the first doesn't find
neither_finds : {A : Type 0} (first later both : A → Bool) (xs : List A)
    → ((x : A) → both x ≡ (first x || later x))
    → IsPartOf (filter (λ x. not (both x)) xs) (filter (λ x. not (first x)) xs)
neither_finds first later both [] is = nothing_left
neither_finds first later both (x ∷ xs) is =
    let few = filter (λ x. not (both x)) xs in
    let all = filter (λ x. not (first x)) xs in
    subst (λ here. IsPartOf (cond (not here) (x ∷ few) few) (cond (not (first x)) (x ∷ all) all))
    (sym (is x)) (by_tests x (first x) (later x) (neither_finds first later both xs is))

module _ (cave : CaveView) (seed : ℕ) (logs more : List (List ℕ)) (view : CoverView) where
  missing-more : {Group : Type 0} (of : Catalogue Group) (group : Group)
      → IsPartOf (missing of (covered_by view cave seed (logs ++ more)) group)
      (missing of (covered_by view cave seed logs) group)
  unfolding missing
  missing-more of group =
      let one = λ (n : ℕ). mark (of.number group) n in
      neither_finds (λ n. covered_by view cave seed logs (one n))
      (λ n. covered_by view cave seed more (one n))
      (λ n. covered_by view cave seed (logs ++ more) (one n)) (of.present group)
      (λ n. covered_by-more view cave seed logs more (one n))

pub more_logs_list_no_more : MoreLogsListNoMore
unfolding ways_missing
more_logs_list_no_more cave seed logs more = record {
  texts = λ view kind. missing-more cave seed logs more (Said view) (cave_texts cave) kind;
  rows = λ table. missing-more cave seed logs more Rules rule_rows table;
  ways = λ ways. neither_finds
      (λ way. covered_by Rules cave seed logs (mark_of_row (OfPlace way.place way.index true)))
      (λ way. covered_by Rules cave seed more (mark_of_row (OfPlace way.place way.index true)))
      (λ way.
      covered_by Rules cave seed (logs ++ more) (mark_of_row (OfPlace way.place way.index true)))
      ways
      (λ way. covered_by-more Rules cave seed logs more
      (mark_of_row (OfPlace way.place way.index true)));
}
