-- OPEN and LOCK.
use Rattle.std.specs.Prelude.{ℕ, List, [], ◌∷◌}
use Rattle.data_rows.specs.declared.place_role.PlaceRole.TheVariants as place
use Rattle.data_rows.specs.declared.role.Role.TheVariants as role
use Rattle.cave_words.specs.declared.named.Named.TheVariants as name
use Rattle.turn_scene.specs.Props.{BEAR_DEAD, BEAR_FREE, BEAR_WILD, CHAIN_LOCKED, CHAIN_UNLOCKED}
use Rattle.turn_scene.specs.Props.{DOOR_OILED, GRATE_LOCKED, GRATE_UNLOCKED}
use Rattle.turn_scene.specs.Rows.{Deed, Test, Thing, row_then, otherwise_then}
use Rattle.turn_scene.specs.Effects.{say, bring, destroy, fix, loosen, set_prop, send}
use Rattle.turn_scene.specs.SharedRules.{lay_down, panic}
use Rattle.turn_scene.specs.Tests.{no, either, there_is, carried, near, is_here, prop, other_prop}
use Rattle.turn_scene.specs.Tests.{cave_closing, away_from_home}
use Rattle.cave_verbs.specs.Choice.{candidate, objects_meant, first}
use Rattle.cave_verbs.specs.Rows.{VerbRow, row, keeps, stays, x, is}
use Rattle.cave_verbs.specs.Effects.{default, ask_what}
use Rattle.cave_verbs.specs.declared.verb.Verb.TheVariants as verb
use Rattle.cave_verbs.specs.Verbs.{is_verb}
use Rattle.cave_verbs.specs.declared.next.VerbStep.{VerbStep}
use Rattle.cave_verbs.specs.declared.next.VerbStep.TheVariants.{GoOn}
use Rattle.cave_verbs.specs.declared.task.Task.{Task}
use Rattle.cave_verbs.specs.Things.{bear, chain, clam, door, grate, keys, oyster, pearl, trident}

abbrev pub is_opening : Test Task
is_opening d = is_verb d.about.verb verb.Open

abbrev pub is_locking : Test Task
is_locking d = is_verb d.about.verb verb.Lock

-- it goes on with the same verb and an object
abbrev pub does_it_to : Thing Task → Deed Task → VerbStep
does_it_to t d = GoOn d.about.verb (t d)

-- what a command that names nothing could mean, of which the first counts: the grate or the door
-- that is here, or the oyster or the clam at hand
abbrev pub locks : Deed Task → List ℕ
locks = objects_meant
    (candidate name.Grate (is_here grate)
    ∷ candidate name.Door (is_here door)
    ∷ candidate name.Oyster (near oyster)
    ∷ candidate name.Clam (near clam)
    ∷ [])

unfoldable pub bare_open_rows : List VerbRow
bare_open_rows =
    row_then (there_is (first locks) ∷ near chain ∷ []) (ask_what ∷ []) keeps
    ∷ row_then (there_is (first locks) ∷ []) [] (does_it_to (first locks))
    ∷ row_then (near chain ∷ []) [] (does_it_to chain)
    ∷ otherwise_then (say role.NoLock ∷ []) stays

unfoldable pub open_rows : List VerbRow
open_rows =
    row (either (is name.Clam) (is name.Oyster) ∷ is_locking ∷ []) (say role.LockWhat ∷ [])
    ∷ row (is name.Clam ∷ no (carried trident) ∷ []) (say role.ClamTool ∷ [])
    ∷ row (is name.Oyster ∷ no (carried trident) ∷ []) (say role.OysterTool ∷ [])
    ∷ row (is name.Clam ∷ carried x ∷ []) (say role.ClamHeld ∷ [])
    ∷ row (is name.Oyster ∷ carried x ∷ []) (say role.OysterHeld ∷ [])
    ∷ row (is name.Clam ∷ [])
    (destroy x ∷ bring oyster ∷ send pearl place.Culdesac ∷ say role.Pearl ∷ [])
    ∷ row (is name.Oyster ∷ []) (say role.OysterOpen ∷ [])
    ∷ row (is name.Door ∷ prop x DOOR_OILED ∷ []) (say role.Ok ∷ [])
    ∷ row (is name.Door ∷ []) (say role.Rusty ∷ [])
    ∷ row (is name.Cage ∷ []) (say role.NoLatch ∷ [])
    ∷ row (is name.Keys ∷ []) (say role.KeysWhat ∷ [])
    ∷ row (either (is name.Grate) (is name.Chain) ∷ no (near keys) ∷ []) (say role.NoKeys ∷ [])
    ∷ row (is name.Grate ∷ cave_closing ∷ []) (say role.ClosingExit ∷ panic ∷ [])
    ∷ row (is name.Grate ∷ is_opening ∷ prop x GRATE_LOCKED ∷ [])
    (set_prop x GRATE_UNLOCKED ∷ say role.Unlocked ∷ [])
    ∷ row (is name.Grate ∷ is_opening ∷ []) (say role.WasUnlocked ∷ [])
    ∷ row (is name.Grate ∷ prop x GRATE_LOCKED ∷ []) (say role.WasLocked ∷ [])
    ∷ row (is name.Grate ∷ []) (set_prop x GRATE_LOCKED ∷ say role.Locked ∷ [])
    ∷ row (is name.Chain ∷ is_opening ∷ prop x CHAIN_UNLOCKED ∷ []) (say role.WasUnlocked ∷ [])
    ∷ row (is name.Chain ∷ is_opening ∷ prop bear BEAR_WILD ∷ []) (say role.BearBars ∷ [])
    ∷ row (is name.Chain ∷ is_opening ∷ prop bear BEAR_DEAD ∷ [])
    (set_prop x CHAIN_UNLOCKED ∷ loosen x ∷ fix bear ∷ say role.ChainFree ∷ [])
    ∷ row (is name.Chain ∷ is_opening ∷ [])
    (set_prop x CHAIN_UNLOCKED ∷ loosen x ∷ set_prop bear BEAR_FREE ∷ loosen bear
    ∷ say role.ChainFree ∷ [])
    ∷ row (is name.Chain ∷ away_from_home x ∷ []) (say role.NoLockHere ∷ [])
    ∷ row (is name.Chain ∷ other_prop x CHAIN_UNLOCKED ∷ []) (say role.WasLocked ∷ [])
    ∷ row (is name.Chain ∷ [])
    (lay_down x ∷ set_prop x CHAIN_LOCKED ∷ fix x ∷ say role.ChainLock ∷ [])
    ∷ otherwise_then (default ∷ []) stays
