use Rattle.std.proofs.Common.{take}
use Rattle.std.specs.List.{flat_map}
use Rattle.std.specs.Prelude.{option_map}
use Rattle.base_text.specs.Text.{Tells}
use Rattle.play_walk.specs.Json.{next_value}
use Rattle.play_walk.specs.Objects.{listed_object}
use Rattle.play_walk.proofs.objects.put_more_objects.Given as goal

abbrev pub invariant-loop-object : goal.invariant-loop-object
invariant-loop-object l =
    Tells (flat_map (next_value (listed_object l.cave (option_map (λ it. it.now) l.among))) (take
    l.object-index l.objects)) l.initial.text l.text
