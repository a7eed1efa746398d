use Rattle.std.proofs.Common.{sym}
use Rattle.check_doubts.proofs.flaw.CaveFlawDisplay.fmt.Goals as goal

pub returns-in-PropTextless-clause-writes : goal.returns-in-PropTextless-clause-writes
returns-in-PropTextless-clause-writes g c =
    rw c.in-PropTextless.is c.write-in-PropTextless.ensures.writes

pub returns-in-PlaceUnbound-clause-writes : goal.returns-in-PlaceUnbound-clause-writes
returns-in-PlaceUnbound-clause-writes g c =
    rw (c.in-PlaceUnbound.is, sym c.name_at-name.ensures) c.write-in-PlaceUnbound.ensures.writes

pub returns-in-GivesNothing-clause-writes : goal.returns-in-GivesNothing-clause-writes
returns-in-GivesNothing-clause-writes g c =
    rw c.in-GivesNothing.is c.write-in-GivesNothing.ensures.writes
