use Rattle.std.proofs.Common.{◌≡◌, ◌+◌, [], ◌∷◌, refl, sym, subst, ◌∙◌}
use Rattle.std.specs.Prelude.{◌==◌, ◌||◌, false, if◌then◌else◌, slice_index_or}
use Rattle.std.proofs.lemmas.Result.{on_ok_weaker}
use Rattle.check_tables.specs.Marks.{is_marked, mark}
use Rattle.map_graph.specs.Stops.{Stops, stops_of, with_stops}
use Rattle.map_graph.specs.contracts.stops.Stops.{the_view}
use Rattle.map_graph.proofs.StopLemmas.{comes, noted_state, noted_way, stays}
use Rattle.map_graph.proofs.stops.Stops.note.Goals as goal

pub returns-then-eq : goal.returns-then-eq
returns-then-eq c =
    let old : Stops = stops_of (the_view c.self.inside) in
    noted_state old _ c.in-InState.before c.in-InState.here
    (λ place. subst (λ n. is_marked c.note.new.self (mark 0 place)
    ≡ (((place == n) || false) || old.was_at place))
    c.number-number.ensures.value (c.in_ok-note-in-InState.ensures.is (mark 0 place)))
    (λ place row. refl)
    (λ place. stays place c.in-InState.before c.in-InState.here (old.visits place)
    (sym c.eq.ensures ∙ c.if-eq.true))
    ∙ (λ i. with_stops (stops_of (c.self.view_is i)) (sym c.in-InState.is i ∷ []))

pub returns-else-eq : goal.returns-else-eq
returns-else-eq c =
    let old : Stops = stops_of (the_view c.self.inside) in
    on_ok_weaker c.count_one.result
    (λ counted.
    noted_state old _ c.in-InState.before c.in-InState.here
    (λ place. subst (λ n. is_marked c.note.new.self (mark 0 place)
    ≡ (((place == n) || false) || old.was_at place))
    c.number-number.ensures.value (c.in_ok-note-in-InState.ensures.is (mark 0 place)))
    (λ place row. refl)
    (λ place. comes place c.in-InState.before c.in-InState.here (old.visits place) _
    (sym c.eq.ensures ∙ c.if-eq.false)
    (subst (λ n. slice_index_or c.count_one.new.counts.items place 0
    ≡ old.visits place + (if place == n then 1 else 0))
    c.number-number.ensures.value (counted place)))
    ∙ (λ i. with_stops (stops_of (c.self.view_is i)) (sym c.in-InState.is i ∷ [])))
    c.count_one.ensures

pub returns-in-OnWay : goal.returns-in-OnWay
returns-in-OnWay c =
    let old : Stops = stops_of (the_view c.self.inside) in
    on_ok_weaker c.note-in-OnWay.result
    (λ noted.
    noted_way old _ c.in-OnWay.place c.in-OnWay.number
    (λ place. refl)
    (λ place row. noted.is (mark place row))
    (λ place. refl)
    ∙ (λ i. with_stops (stops_of (c.self.view_is i)) (sym c.in-OnWay.is i ∷ [])))
    c.note-in-OnWay.ensures
