use Rattle.std.proofs.Common.{◌≡◌, drop, false, fold, map}
use Rattle.clap.specs.Words.{app_of, with_rule}
use Rattle.clap.specs.declared.builder.command.Command.TheViews.{out-Command}
use Rattle.play_command.specs.Commands.{argument_rule}
use Rattle.play_command.proofs.app.with_arguments.Given as goal

-- the command with the arguments that are left is the one with all
abbrev pub invariant-loop-argument : goal.invariant-loop-argument
invariant-loop-argument l =
    (fold with_rule (app_of l.made) (map argument_rule (drop l.argument-index l.arguments))
    ≡ fold with_rule (app_of l.fn.command) (map argument_rule l.arguments))
    × ((out-Command l.made).has_globals ≡ false)
