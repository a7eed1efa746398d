use Rattle.std.proofs.Common.{◌≡◌, subst}
use Rattle.turn_laws.proofs.Reaching.{reachable_is_lawful}
use Rattle.turn_laws.specs.Reachable.{HasPlaces}
use Rattle.play_laws.proofs.Holding.{each_reached, reached}
use Rattle.play_laws.proofs.held_states_are_lawful.Goals as goal

pub returns-clause-reachable : goal.returns-clause-reachable
returns-clause-reachable c =
    let held = c.args.session.now in
    reached held.machine.rules.cave.now held.game.seed held.game.log held.state
    c.state-state.ensures.plays.state_is

pub returns-clause-lawful : goal.returns-clause-lawful
returns-clause-lawful c =
    let held = c.args.session.now in
    let same : c.cave.result.now ≡ held.machine.rules.cave.now =
    cc (c.cave.ensures, c.machine.ensures) in
    reachable_is_lawful held.machine.rules.cave.now held.state
    (subst HasPlaces same c.caves_have_places.ensures)
    (reached held.machine.rules.cave.now held.game.seed held.game.log held.state
    c.state-state.ensures.plays.state_is)

pub returns-clause-each : goal.returns-clause-each
returns-clause-each c =
    let held = c.args.session.now in
    let same : c.cave.result.now ≡ held.machine.rules.cave.now =
    cc (c.cave.ensures, c.machine.ensures) in
    each_reached held.machine.rules.cave.now held.game
    (subst HasPlaces same c.caves_have_places.ensures)
