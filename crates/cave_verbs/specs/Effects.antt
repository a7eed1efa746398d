-- What rows of verbs say of a command.
use Rattle.std.specs.Prelude.{ℕ, ◌==◌, if◌then◌else◌}
use Rattle.cave_data.specs.CaveView.{CaveView, default_message}
use Rattle.cave_world.specs.declared.part.Part.TheVariants as part
use Rattle.cave_world.specs.declared.part.WordLine.TheVariants as line
use Rattle.turn_scene.specs.Scene.{Scene, after_telling}
use Rattle.turn_scene.specs.Rows.{Effect}
use Rattle.turn_scene.specs.Effects.{in_scene, tell}
use Rattle.cave_verbs.specs.Verbs.{verb_number}
use Rattle.cave_verbs.specs.declared.task.Task.{Task}

-- the message that the cave gives an action is said, if there is one
abbrev pub after_default : CaveView → ℕ → Scene → Scene
after_default cave number p =
    if default_message cave number == 0 then p
    else after_telling (part.Message (default_message cave number)) p

-- the message that the cave gives the verb
abbrev pub default : Effect Task
default d = in_scene (after_default d.cave (verb_number d.about.verb) d.scene) d

-- the word that was just read is asked back
abbrev pub ask_what : Effect Task
ask_what d = tell (part.Word line.What d.about.word) d
