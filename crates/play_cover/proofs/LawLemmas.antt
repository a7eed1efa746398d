-- What the order and the number of logs say.
use Rattle.std.proofs.Common.{◌≡◌, ℕ, Bool, true, false, List, ◌∷◌, refl, sym, ap, ◌∙◌}
use Rattle.std.specs.Prelude.{◌||◌}
use Rattle.std.specs.List.{Contains, list_any}
use Rattle.std.proofs.lemmas.List.Folds.{list_any_at}
use Rattle.std.proofs.lemmas.List.Sorted.{length_permutation, list_any-IsPermutation}
use Rattle.cave_data.proofs.ReadLemmas.{same_cave}
use Rattle.cave_data.specs.CaveView.{CaveView}
use Rattle.play_command.specs.declared.views.CoverView.{CoverView}
use Rattle.play_machine.proofs.Lists.{any_flat}
use Rattle.check_tables.specs.Marks.{is_among, is_same}
use Rattle.play_cover.specs.Plays.{AgainIsNothing, OneCoveredOutput, OrderIsNothing, cover_text}
use Rattle.play_cover.specs.Plays.{covered_in_all, covered_in_log, report_by}
use Rattle.check_tables.specs.declared.marks.Mark.{Mark}

-- whether a log covers it
abbrev covers : CoverView → CaveView → ℕ → Mark → List ℕ → Bool
covers view cave seed mark log = is_among mark (covered_in_log view cave seed log)

among_all : (view : CoverView) (cave : CaveView) (seed : ℕ) (logs : List (List ℕ)) (mark : Mark)
    → is_among mark (covered_in_all view cave seed logs)
    ≡ list_any (covers view cave seed mark) logs
among_all view cave seed logs mark = any_flat (is_same mark) (covered_in_log view cave seed) logs

pub order_is_nothing : OrderIsNothing
order_is_nothing known database cave seed view logs others shuffled =
    let agree = λ (mark : Mark).
    among_all view cave seed others mark
    ∙ sym (list_any-IsPermutation (covers view cave seed mark) logs others shuffled)
    ∙ sym (among_all view cave seed logs mark) in
    let many = length_permutation logs others shuffled in
    λ i. report_by view known database cave (λ mark. agree mark i) (many i)

once : (covers : List ℕ → Bool) (logs : List (List ℕ)) (log : List ℕ) → Contains logs log
    → (covers log || list_any covers logs) ≡ list_any covers logs
once covers logs log (place, below, is) = go (covers log) refl
  where
    go : (b : Bool) → covers log ≡ b → (b || list_any covers logs) ≡ list_any covers logs
    go false never = refl
    go true does = sym (list_any_at covers logs place log below (ap covers is ∙ does))

pub again_is_nothing : AgainIsNothing
again_is_nothing known database cave seed view logs log given count =
    let agree = λ (mark : Mark).
    among_all view cave seed (log ∷ logs) mark
    ∙ once (covers view cave seed mark) logs log given
    ∙ sym (among_all view cave seed logs mark) in
    λ i. report_by view known database cave (λ mark. agree mark i) count

pub one_covered_output : OneCoveredOutput
one_covered_output database bindings known logs seed view =
    λ one other first second.
    let (left, (cave, reads, is, count)) = first in
    let (others, (kept, rereads, same, recount)) = second in
    let caves = same_cave database bindings kept cave rereads reads in
    is ∙ ap (λ c. cover_text known database c seed view logs) caves ∙ sym same
