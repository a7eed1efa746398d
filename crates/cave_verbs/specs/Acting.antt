-- What a verb does by its own rules, and by those of the verbs that it goes on with.
use Rattle.std.specs.Prelude.{ℕ, ◌==◌, if◌then◌else◌, List, suc, zero, ◌≡◌, []}
use Rattle.cave_data.specs.CaveView.{CaveView}
use Rattle.turn_scene.specs.Scene.{Scene, MAX_FORCED_MOTIONS}
use Rattle.turn_scene.specs.Rows.{Deed, Act, deed, noted}
use Rattle.cave_verbs.specs.Rows.{going_on, VerbRow, first_fitting, task_of}
use Rattle.cave_verbs.specs.declared.next.Next.{Next}
use Rattle.cave_verbs.specs.declared.next.Next.TheVariants.{Stay}
use Rattle.cave_verbs.specs.declared.next.VerbStep.{VerbStep}
use Rattle.cave_verbs.specs.declared.next.VerbStep.TheVariants.{Done, GoOn}
use Rattle.cave_verbs.specs.declared.task.Task.{Task}
use Rattle.cave_verbs.specs.declared.verb.Verb.{Verb}
use Rattle.cave_world.specs.declared.tables.Table.TheVariants as table
use Rattle.cave_verbs.specs.Small.{blast_rows, break_rows, wake_rows, on_rows, off_rows, bare_rows}
use Rattle.cave_verbs.specs.Small.{other_rows, nothing_rows, bare_quit_rows, bare_score_rows}
use Rattle.cave_verbs.specs.Small.{bare_brief_rows, wave_rows, rub_rows}
use Rattle.cave_verbs.specs.Dropping.{drop_rows}
use Rattle.cave_verbs.specs.Feeding.{feed_rows, bare_eat_rows, eat_rows}
use Rattle.cave_verbs.specs.Finding.{find_rows, bare_inventory_rows}
use Rattle.cave_verbs.specs.Killing.{bare_kill_rows, kill_rows}
use Rattle.cave_verbs.specs.Magic.{bare_foo_rows}
use Rattle.cave_verbs.specs.Opening.{bare_open_rows, open_rows}
use Rattle.cave_verbs.specs.Pouring.{pour_rows, drink_rows, bare_fill_rows, fill_rows}
use Rattle.cave_verbs.specs.Reading.{bare_read_rows, read_rows}
use Rattle.cave_verbs.specs.Taking.{bare_take_rows, take_rows}
use Rattle.cave_verbs.specs.Throwing.{throw_rows}
use Rattle.cave_world.specs.declared.part.Part.{Part}
use Rattle.cave_world.specs.declared.state.State.{State}
use Rattle.cave_verbs.specs.declared.command.Command.{Command}

-- the rows of a verb without an object, and those of the verb with one
abbrev pub rows_of : Verb → List VerbRow × List VerbRow
rows_of Verb.Take = (noted table.BareTake bare_take_rows, noted table.Take take_rows)
rows_of Verb.Drop = (bare_rows, noted table.Drop drop_rows)
rows_of Verb.Say = (bare_rows, other_rows)
rows_of Verb.Open = (noted table.BareOpen bare_open_rows, noted table.Open open_rows)
rows_of Verb.Nothing = (nothing_rows, nothing_rows)
rows_of Verb.Lock = (noted table.BareOpen bare_open_rows, noted table.Open open_rows)
rows_of Verb.On = (noted table.On on_rows, noted table.On on_rows)
rows_of Verb.Off = (noted table.Off off_rows, noted table.Off off_rows)
rows_of Verb.Wave = (bare_rows, noted table.Wave wave_rows)
rows_of Verb.Calm = (bare_rows, other_rows)
rows_of Verb.Kill = (noted table.BareKill bare_kill_rows, noted table.Kill kill_rows)
rows_of Verb.Pour = (noted table.Pour pour_rows, noted table.Pour pour_rows)
rows_of Verb.Eat = (noted table.BareEat bare_eat_rows, noted table.Eat eat_rows)
rows_of Verb.Drink = (noted table.Drink drink_rows, noted table.Drink drink_rows)
rows_of Verb.Rub = (bare_rows, noted table.Rub rub_rows)
rows_of Verb.Throw = (bare_rows, noted table.Throw throw_rows)
rows_of Verb.Quit = (bare_quit_rows, other_rows)
rows_of Verb.Find = (bare_rows, noted table.Find find_rows)
rows_of Verb.Inventory = (noted table.BareInventory bare_inventory_rows, noted table.Find find_rows)
rows_of Verb.Feed = (bare_rows, noted table.Feed feed_rows)
rows_of Verb.Fill = (noted table.BareFill bare_fill_rows, noted table.Fill fill_rows)
rows_of Verb.Blast = (noted table.Blast blast_rows, noted table.Blast blast_rows)
rows_of Verb.Score = (bare_score_rows, other_rows)
rows_of Verb.Foo = (noted table.BareFoo bare_foo_rows, other_rows)
rows_of Verb.Brief = (bare_brief_rows, other_rows)
rows_of Verb.Read = (noted table.BareRead bare_read_rows, noted table.Read read_rows)
rows_of Verb.Break = (bare_rows, noted table.Break break_rows)
rows_of Verb.Wake = (bare_rows, noted table.Wake wake_rows)

unfoldable pub act_bare : Deed Task → Act VerbStep
act_bare d = first_fitting (rows_of d.about.verb).0 d

unfoldable pub act_on : Deed Task → Act VerbStep
act_on d = first_fitting (rows_of d.about.verb).1 d

-- what a verb does by its own rules
abbrev pub act_once : Deed Task → Act VerbStep
act_once d = if d.about.object == 0 then act_bare d else act_on d

-- what a verb does with those that it goes on with, at most this many
unfoldable pub act_within : ℕ → Deed Task → Act VerbStep
act_within zero d = act_once d
act_within (suc left) d =
    let a = act_once d in
    elim a.step as (λ _. Act VerbStep) [
      | Done next ↦ a
      | GoOn v x ↦ act_within left (deed d.cave (going_on d.about v x) a.scene)
    ]

-- what follows in the end
abbrev pub next_of_step : VerbStep → Next
next_of_step (Done next) = next
next_of_step (GoOn v x) = Stay

-- what a command says is done; no verb goes on more than three times
unfoldable pub act : CaveView → Task → Scene → Act VerbStep
act cave task p = act_within 3 (deed cave task p)

-- a command is done in a state, after these parts
abbrev pub act_on_command : CaveView → Command → State → List Part → Act VerbStep
act_on_command cave command s parts =
    act cave (task_of command.verb command.object command.word)
    (record {
      state = s;
      parts = parts;
      rows = [];
      was_dark = command.was_dark;
      left = MAX_FORCED_MOTIONS;
    })

-- what was done leaves this state and these parts, and this follows
abbrev pub IsDone : Act VerbStep → State → List Part → Next → Type 0
IsDone acted s parts next =
    (acted.scene.state ≡ s) × (acted.scene.parts ≡ parts) × (acted.step ≡ Done next)
