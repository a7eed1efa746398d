-- Rules of verbs as rows: they are about a command, and say what follows it.
use Rattle.std.specs.Prelude.{ℕ, suc, ◌==◌, ◌||◌, if◌then◌else◌, ◌+◌, List, drop}
use Rattle.turn_scene.specs.Bounds.{parts_of_row, parts_of_inventory}
use Rattle.cave_verbs.specs.declared.next.Next.TheVariants.{Stay}
use Rattle.cave_verbs.specs.declared.next.VerbStep.{VerbStep}
use Rattle.cave_verbs.specs.declared.next.VerbStep.TheVariants.{Done, GoOn}
use Rattle.cave_data.specs.CaveView.{CaveView}
use Rattle.turn_scene.specs.Scene.{is_called}
use Rattle.cave_verbs.specs.declared.verb.Verb.{Verb}
use Rattle.cave_world.specs.declared.ending.Ending.{Ending}
use Rattle.cave_world.specs.declared.ending.Question.{Question}
use Rattle.turn_scene.specs.declared.scene.Scene.{Scene as OpenScene}
use Rattle.turn_scene.specs.declared.rules.Rules.{Rules}
use Rattle.turn_scene.specs.Rows.{Deed, Act, Test, Effect, Thing, Row, row_then, first_fitting_or}
use Rattle.turn_scene.specs.Rows.{nothing_but, noted_from, PlaysBy}
use Rattle.cave_world.specs.declared.tables.RuleRow.{RuleRow}
use Rattle.cave_world.specs.declared.tables.Table.{Table}
use Rattle.cave_verbs.specs.declared.next.Next.{Next}
use Rattle.cave_verbs.specs.declared.task.Task.{Task}
use Rattle.cave_words.specs.declared.named.Named.{Named}

-- a row of a verb, by what follows: nothing follows INVENTORY
abbrev pub parts_by : VerbStep → ℕ
parts_by (Done Stay) = parts_of_inventory
parts_by _ = parts_of_row

-- TAKE goes on from no object to one, and from a liquid to the bottle, or to FILL it
abbrev pub take_rank : CaveView → ℕ → ℕ
take_rank cave x =
    if x == 0 then 3 else (if is_called cave x Named.Water || is_called cave x Named.Oil then 2
    else 1)

-- DROP goes on from the first rod to the second
abbrev pub drop_rank : CaveView → ℕ → ℕ
drop_rank cave x = if is_called cave x Named.Rod then 1 else 0

-- THROW goes on from the first rod to the second, and to DROP, FEED or KILL
abbrev pub throw_rank : CaveView → ℕ → ℕ
throw_rank cave x = if is_called cave x Named.Rod then 3 else 2

-- FEED goes on to nothing, and other verbs only from no object to one
abbrev pub bare_rank : ℕ → ℕ
bare_rank x = if x == 0 then 1 else 0

abbrev pub rank : CaveView → Verb → ℕ → ℕ
rank cave Verb.Take x = take_rank cave x
rank cave Verb.Drop x = drop_rank cave x
rank cave Verb.Throw x = throw_rank cave x
rank cave Verb.Feed x = 0
rank cave _ x = bare_rank x

-- a verb that goes on has a higher rank than what it goes on with
abbrev pub rank_of : CaveView → VerbStep → ℕ
rank_of cave (Done next) = 0
rank_of cave (GoOn v x) = suc (rank cave v x)

-- what a player commands
abbrev pub task_of : Verb → ℕ → List ℕ → Task
task_of v x word = record { verb = v; object = x; commanded = v; word = word }

-- the command that a verb goes on with: what the player commands stays
abbrev pub going_on : Task → Verb → ℕ → Task
going_on task v x =
    record { verb = v; object = x; commanded = task.commanded; word = task.word }

abbrev pub VerbRow : Type 0
VerbRow = Row Task VerbStep

-- nothing follows
abbrev pub stays : Deed Task → VerbStep
stays d = Done Next.Stay

-- the verb is kept for the next line
abbrev pub keeps : Deed Task → VerbStep
keeps d = Done Next.Keep

abbrev pub describes : Deed Task → VerbStep
describes d = Done Next.Describe

-- the player arrives again where the player is
abbrev pub again : Deed Task → VerbStep
again d = Done (Next.Arrive d.scene.state.trail.here)

abbrev pub poses : Question → Deed Task → VerbStep
poses question d = Done (Next.Ask question)

abbrev pub ends : Ending → Deed Task → VerbStep
ends how d = Done (Next.End how)

-- it goes on with a verb and an object
abbrev pub does : Verb → Thing Task → Deed Task → VerbStep
does verb x d = GoOn verb (x d)

-- a row after which nothing follows
abbrev pub row : List (Test Task) → List (Effect Task) → VerbRow
row tests effects = row_then tests effects stays

-- the rows of a table after this many, by the numbers that they have in it
abbrev pub noted_after : Table → ℕ → List VerbRow → List VerbRow
noted_after table n rows = noted_from table (n + 1) (drop n rows)

-- what the first row that fits does, and nothing if none does
abbrev pub first_fitting : List VerbRow → Deed Task → Act VerbStep
first_fitting rows d = first_fitting_or rows (nothing_but stays) d

-- the code has done in the same turn what a rule says of a command, and returns what follows
abbrev pub ActsBy : {N : Type 0} → (N → List RuleRow) → (Deed Task → Act VerbStep) → Rules
    → Task → OpenScene N → OpenScene N → VerbStep → Type 0
ActsBy noted_rows f rules task old new step =
    PlaysBy noted_rows f (parts_by step) rules task old new step

abbrev pub ByRows : {N : Type 0} → (N → List RuleRow) → List VerbRow → Rules → Task
    → OpenScene N → OpenScene N → VerbStep → Type 0
ByRows noted_rows rows rules task old new step =
    ActsBy noted_rows (first_fitting rows) rules task old new step

-- nothing is gone on with
abbrev pub DoneByRows : {N : Type 0} → (N → List RuleRow) → List VerbRow → Rules → Task
    → OpenScene N → OpenScene N → Next → Type 0
DoneByRows noted_rows rows rules task old new next =
    ByRows noted_rows rows rules task old new (Done next)

-- the command's object
abbrev pub x : Thing Task
x d = d.about.object

-- there is no object in the command
abbrev pub no_object : Test Task
no_object d = d.about.object == 0

-- the command's object has a name
abbrev pub is : Named → Test Task
is n d = is_called d.cave d.about.object n
